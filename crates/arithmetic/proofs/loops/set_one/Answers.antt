use Rattle.std.proofs.Common.{sym, ap, ◌∙◌, arith}
use Rattle.euclid.specs.Series.{polynomials}
use Rattle.euclid.proofs.Algebra.{nought_plus}
use Rattle.euclid.proofs.Product.{polynomial_laws}
use Rattle.euclid.proofs.Lists.{poly_set}
use Rattle.arithmetic.proofs.loops.set_one.Goals as goal

pub returns : goal.returns
returns g c = record {
  is_one =
      let m = g.R.Ring in
      let blank = c.clear.ensures.all_zeros in
      poly_set m.laws m.value c.clear.new.p 0 c.one.result m.ring.unit (omega arith) (c.one.ensures.is_unit ∙ sym (nought_plus m.laws m.ring.unit) ∙ ap (λ f. m.ring.plus (f 0) m.ring.unit) (sym blank))
      ∙ ap (λ f. (polynomials m.ring).plus f (polynomials m.ring).unit) blank ∙ nought_plus (polynomial_laws m.laws) _;
}
