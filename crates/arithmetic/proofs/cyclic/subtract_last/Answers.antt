use Rattle.std.proofs.Common.{◌≡◌, ℕ, ◌-◌, ◌<◌, ◌≢◌, length, sym, ap, ◌∙◌, ap₂, arith}
use Rattle.euclid.specs.Series.{poly, less_last}
use Rattle.euclid.proofs.Lists.{poly_at, poly_read, poly_set_other}
use Rattle.euclid.proofs.Steps.{written_more}
use Rattle.arithmetic.proofs.Standing.{less_last_stands}
use Rattle.arithmetic.proofs.cyclic.subtract_last.Goals as goal

pub loop-c-preserved : goal.loop-c-preserved
loop-c-preserved g c =
    let m = g.R.Ring in
    let n = length c.args.v.now in
    let i = c.loop-c.c-index in
    let in_i : i < length c.loop-c.v = omega arith in
    let in_n : n - 1 < n = omega arith in
    let old = sym (poly_at m.laws m.value c.loop-c.v i c.c-item.result in_i) ∙ c.loop-c.invariant.1 i (omega arith) in
    let last = c.negation-less.ensures.negates ∙ ap m.ring.minus (poly_read m.laws m.value c.args.v.now (n - 1) c.last-item.result in_n c.last-item.is) in (
      written_more m.laws m.value (less_last m.ring n (poly m.ring m.value c.args.v.now)) c.loop-c.v i c.sum.result in_i (c.sum.ensures.adds ∙ ap₂ m.ring.plus old last) c.loop-c.invariant.0,
      λ k h. let ne : k ≢ i = omega arith in poly_set_other m.laws m.value c.loop-c.v i k c.sum.result ne ∙ c.loop-c.invariant.1 k (omega arith),
    )

pub returns : goal.returns
returns g c =
    let m = g.R.Ring in
    let p = poly m.ring m.value in
    let v = c.args.v.now in
    let n = length v in
    let out = c.loop-c.v in
    let each : (k : ℕ) → k < n → p out k ≡ less_last m.ring n (p v) k = λ k l. c.loop-c.invariant.0 k (omega arith) in
    record { last_subtracted_from_all = each; over_the_integers = λ k number S. less_last_stands S n (p v) (p out) each }
