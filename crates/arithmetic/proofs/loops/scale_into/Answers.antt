use Rattle.std.proofs.Common.{◌<◌, ◌≤◌, sym, ap, ◌∙◌, ⊎_elim, arith}
use mathlib.Core.Path.{fun_ext}
use Rattle.std.proofs.lemmas.Bool.{cases_lt}
use Rattle.euclid.specs.Series.{poly}
use Rattle.euclid.proofs.Algebra.{times_nought}
use Rattle.euclid.proofs.Monomials.{shifted_at}
use Rattle.euclid.proofs.Lists.{poly_past, poly_read}
use Rattle.euclid.proofs.Steps.{written_more}
use Rattle.arithmetic.proofs.loops.scale_into.Goals as goal

pub loop-i-preserved : goal.loop-i-preserved
loop-i-preserved g c =
    let m = g.R.Ring in
    let t = poly m.ring m.value c.args.t.now in
    written_more m.laws m.value (λ k. m.ring.times (m.value c.args.factor) (t k)) c.loop-i.out c.loop-i.i c.product.result (omega arith)
    (c.product.ensures.multiplies ∙ ap (m.ring.times (m.value c.args.factor)) (poly_read m.laws m.value c.args.t.now c.loop-i.i c.index-t-i.result (omega arith) c.index-t-i.is))
    c.loop-i.invariant

pub returns : goal.returns
returns g c = record {
  scaled =
      let m = g.R.Ring in
      let t = poly m.ring m.value c.args.t.now in
      fun_ext (λ k. ⊎_elim
      (λ (l : k < c.loop-i.i). c.loop-i.invariant k l)
      (λ (l : c.loop-i.i ≤ k). poly_past m.laws m.value c.loop-i.out k (omega arith) ∙ sym (ap (m.ring.times (m.value c.args.factor)) (poly_past m.laws m.value c.args.t.now k (omega arith)) ∙ times_nought m.laws (m.value c.args.factor)))
      (cases_lt k c.loop-i.i)
      ∙ sym (shifted_at m.laws (m.value c.args.factor) 0 t k k (omega arith)));
}
