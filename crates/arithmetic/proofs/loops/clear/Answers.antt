use Rattle.std.proofs.Common.{◌∙◌, length, arith}
use Rattle.euclid.proofs.Lists.{poly_zeros}
use Rattle.arithmetic.proofs.loops.clear.Goals as goal

pub returns : goal.returns
returns g c = record {
  all_zeros = let m = g.R.Ring in poly_zeros m.laws m.value c.fill.new.p (length c.args.p.now) (omega arith) (λ k l. c.fill.ensures.each k l ∙ c.zero.ensures.is_nought);
}
