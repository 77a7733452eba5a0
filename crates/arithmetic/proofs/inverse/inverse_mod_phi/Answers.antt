use Rattle.std.proofs.Common.{◌≡◌, ℕ, List, length, Some, None, Option, sym, refl, ap, ◌∙◌, subst₂, arith, MatchOption}
use Rattle.euclid.specs.Series.{poly}
use Rattle.euclid.specs.Inverses.{Inverted, NoInverse, Suited, phi}
use Rattle.euclid.proofs.Lists.{poly_past}
use Rattle.euclid.proofs.Transfer.{inverse_over_integers, none_over_integers}
use Rattle.arithmetic.proofs.inverse.inverse_mod_phi.Goals as goal
use Rattle.arithmetic.proofs.inverse.inverse_mod_phi.Goals.{then-suited, else-suited}

both : {T : Type 0} {P P' : Type 0} {Q Q' : T → Type 0} (x : Option T) → (P → P') → ((t : T) → Q t → Q' t) → MatchOption x P Q → MatchOption x P' Q'
both None f h e = f e
both (Some t) f h e = h t e

pub euclid-answer-requires : goal.euclid-answer-requires
euclid-answer-requires g c =
    let fit = c.suited.ensures.fit c.if-suited.true in
    let same : length c.args.r.now ≡ length c.fill_ones.new.p = omega arith in
    record {
      lengths = (omega arith, (omega arith, (omega arith, (omega arith, omega arith))));
      modulus = c.fill_ones.ensures.all_ones ∙ ap (phi g.F.Ring.ring) same;
      factors = (c.clear.ensures.all_zeros, c.set_one.ensures.is_one);
    }

pub returns : goal.returns
returns g c =
    let F = g.F.Ring in
    let o = F.ring in
    let p = poly o F.value in
    let n = length c.args.a.now in
    let a = p c.args.a.now in
    let ha = poly_past F.laws F.value c.args.a.now in
    let Fit : Type 0 = Suited n (length c.args.inverse.now) (length c.args.r.now) (length c.args.s.now) (length c.args.t.now) (length c.args.v.now) in
    let Found : Option ℕ → List g.row.F.Denot → Type 0 = λ x xs. MatchOption x ((Fit → NoInverse o n a) × (xs ≡ c.args.inverse.now)) (λ degree. Fit × Inverted o n a (p xs) degree) in
    let found : Found c.if-suited.answer c.if-suited.inverse =
    elim c.if-suited.branch [
      | then-suited w ↦
          let fit : Fit = c.suited.ensures.fit w.if-suited.true in
          let n_is : length w.fill_ones.new.p ≡ n = omega arith in
          let answer = subst₂ (λ i f. MatchOption w.euclid-answer.result (NoInverse o i f × (w.euclid-answer.new.inverse ≡ c.args.inverse.now)) (λ degree. Inverted o i f (p w.euclid-answer.new.inverse) degree)) n_is (ap p w.copy_from_slice.ensures.after) w.euclid-answer.ensures.inverse_or_none in
          subst₂ Found (sym w.answer-is) (sym w.inverse-is) (both w.euclid-answer.result (λ e. ((λ _. e.0), e.1)) (λ degree e. (fit, e)) answer)
      | else-suited w ↦ subst₂ Found (sym w.answer-is) (sym w.inverse-is) ((λ fit u i. c.suited.ensures.unfit w.if-suited.false fit), refl)
    ] in
    record {
      none_exactly_when_none_serves = both c.if-suited.answer (λ e. e.0) (λ degree e. e) found;
      over_the_integers = λ k number S. both c.if-suited.answer
          (λ e fit. none_over_integers F.laws k number S n fit.0 a ha (e.0 fit))
          (λ degree e. inverse_over_integers F.laws k number S n e.0.0 a ha (p c.if-suited.inverse) (λ i l. e.1.reduced i (omega arith)) e.1.inverse)
          found;
      none_leaves_result = both c.if-suited.answer (λ e. e.1) (λ degree e. tt) found;
      r_ends_as_zeros = c.clear-2.ensures.all_zeros;
      s_ends_as_zeros = c.clear-3.ensures.all_zeros;
      t_ends_as_zeros = c.clear-4.ensures.all_zeros;
      v_ends_as_zeros = c.clear-5.ensures.all_zeros;
    }
