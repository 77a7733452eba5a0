use Rattle.std.proofs.Common.{◌≡◌, sym, ℕ, ◌+◌, ◌-◌, ◌<◌, length, get_or, take, drop, ap, ◌∙◌, ap₂, arith, add-one, length-drop, length-set}
use Rattle.std.proofs.lemmas.List.{length-take-le, get_or-take}
use Rattle.std.proofs.lemmas.Grind.{get_or_after_one}
use Rattle.euclid.specs.Series.{before, poly, phi1}
use Rattle.euclid.proofs.Lists.{poly_past, poly_read}
use Rattle.euclid.proofs.Cycles.{phi1_cyclic}
use Rattle.euclid.proofs.Steps.{written_more}
use Rattle.arithmetic.proofs.Standing.{phi1_stands}
use Rattle.arithmetic.proofs.cyclic.times_phi1.Goals as goal

pub loop-i-init : goal.loop-i-init
loop-i-init g c =
    let m = g.R.Ring in
    let v = c.args.v.now in
    let n = length v in
    let some : 0 < n = omega arith in
    let there = poly_read m.laws m.value v (n - 1) c.last-item.result (omega arith) c.last-item.is in
    let here = c.negation.ensures.negates ∙ ap m.ring.minus (poly_read m.laws m.value v 0 c.index-v-0.result some c.index-v-0.is) in
    written_more m.laws m.value (phi1 m.ring n (poly m.ring m.value v)) c.args.out.now 0 c.sum.result (omega arith) (c.sum.ensures.adds ∙ ap₂ m.ring.plus there here) (λ k h. absurd (omega arith))

pub loop-i-preserved : goal.loop-i-preserved
loop-i-preserved g c =
    let m = g.R.Ring in
    let v = c.args.v.now in
    let n = length v in
    let i = c.loop-i.i in
    let d = c.c-item.result in
    let long : length (take (n - 1) (drop 1 v)) ≡ n - 1 = length-take-le (n - 1) (drop 1 v) (omega (arith, length-drop 1 v)) in
    let in_v : i + 1 < n = omega (arith, long) in
    let kept = length-set c.args.out.now 0 c.sum.result in
    let in_o : i + 1 < length c.loop-i.out = omega (arith, long, kept) in
    let is : d ≡ get_or v (i + 1) d = c.c-item.is ∙ get_or-take (n - 1) (drop 1 v) i d (omega arith) ∙ get_or_after_one v i d ∙ ap (λ k. get_or v k d) (omega arith) in
    let there = poly_read m.laws m.value v i c.index-v-i.result (omega arith) c.index-v-i.is ∙ ap (λ k. poly m.ring m.value v (before n k)) (sym (add-one i)) in
    let here = c.negation-in-loop-i.ensures.negates ∙ ap m.ring.minus (poly_read m.laws m.value v (i + 1) d in_v is) in
    written_more m.laws m.value (phi1 m.ring n (poly m.ring m.value v)) c.loop-i.out (i + 1) c.sum-in-loop-i.result in_o (c.sum-in-loop-i.ensures.adds ∙ ap₂ m.ring.plus there here) c.loop-i.invariant

pub returns : goal.returns
returns g c =
    let m = g.R.Ring in
    let p = poly m.ring m.value in
    let v = c.args.v.now in
    let n = length v in
    let out = c.loop-i.out in
    let long : length (take (n - 1) (drop 1 v)) ≡ n - 1 = length-take-le (n - 1) (drop 1 v) (omega (arith, length-drop 1 v)) in
    let kept = length-set c.args.out.now 0 c.sum.result in
    let each : (k : ℕ) → k < n → p out k ≡ phi1 m.ring n (p v) k = λ k l. c.loop-i.invariant k (omega (arith, long)) in
    record {
      served_where_lengths_agree = λ _. omega arith;
      refused_where_lengths_differ = λ e _. let z : ◌≡◌ {A = ℕ} 0 1 = cc in omega arith;
      cyclic_product_by_x_less_one = λ _. phi1_cyclic m.laws n (p v) (p out) (poly_past m.laws m.value v) (λ k h. poly_past m.laws m.value out k (omega arith)) each;
      each_coefficient = λ _. each;
      over_the_integers = λ _ two k number S. phi1_stands S n (p v) (p out) two each;
      refusal_leaves_out = λ e. let z : ◌≡◌ {A = ℕ} 0 1 = cc in let w : ⊥ = omega arith in absurd w;
    }
