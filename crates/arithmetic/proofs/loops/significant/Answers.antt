use Rattle.std.proofs.Common.{◌≡◌, ◌-◌, ◌<◌, ◌≤◌, length, take, sym, refl, ap, ◌∙◌, ⊎_elim, arith}
use Rattle.std.proofs.lemmas.Bool.{cases_eq}
use Rattle.std.proofs.lemmas.List.{length-take-le}
use Rattle.euclid.specs.Series.{poly}
use Rattle.euclid.proofs.Lists.{poly_past, poly_read}
use Rattle.arithmetic.proofs.Fronts.{poly_front}
use Rattle.arithmetic.proofs.loops.significant.Goals as goal

pub loop-rest-init : goal.loop-rest-init
loop-rest-init g c = let m = g.R.Ring in record { within = omega arith; front = λ k h. refl; above = poly_past m.laws m.value c.args.p.now }

pub returns-then-not-same-clause-size : goal.returns-then-not-same-clause-size
returns-then-not-same-clause-size g c =
    let m = g.R.Ring in
    let p = poly m.ring m.value in
    let rest = c.loop-rest.rest.now in
    let last : length rest - 1 < length rest = omega arith in
    let read = poly_read m.laws m.value rest (length rest - 1) c.last-item.result last c.last-item.is in
    record {
      above = c.loop-rest.invariant.above;
      top = λ k e z.
          let top_is : length rest - 1 ≡ k = omega arith in
          c.same.ensures.differs c.if-not-same.true (read ∙ c.loop-rest.invariant.front (length rest - 1) last ∙ ap (p c.args.p.now) top_is ∙ z ∙ sym c.zero.ensures.is_nought);
    }

pub loop-rest-preserved : goal.loop-rest-preserved
loop-rest-preserved g c =
    let m = g.R.Ring in
    let p = poly m.ring m.value in
    let rest = c.loop-rest.rest.now in
    let n = length rest in
    let last : n - 1 < n = omega arith in
    let read = poly_read m.laws m.value rest (n - 1) c.last-item.result last c.last-item.is in
    let gone : p c.args.p.now (n - 1) ≡ m.ring.nought = sym (c.loop-rest.invariant.front (n - 1) last) ∙ sym read ∙ c.same.ensures.equal c.if-not-same.false ∙ c.zero.ensures.is_nought in
    let shorter : length (take (n - 1) rest) ≡ n - 1 = length-take-le (n - 1) rest (omega arith) in
    record {
      within = omega (arith, shorter);
      front = λ k h. let l : k < n - 1 = omega (arith, shorter) in poly_front m.ring m.value rest (n - 1) k l ∙ c.loop-rest.invariant.front k (omega arith);
      above = λ k h.
          let from : n - 1 ≤ k = omega (arith, shorter) in
          ⊎_elim
          (λ (s : k ≡ n - 1). ap (p c.args.p.now) s ∙ gone)
          (λ (s : k ≡ n - 1 → ⊥). c.loop-rest.invariant.above k (omega arith))
          (cases_eq k (n - 1));
    }
