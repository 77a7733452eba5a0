use Rattle.std.proofs.Common.{◌≡◌, ℕ, length, subst, arith}
use Rattle.algebra.specs.Polynomials.{SameMod, refine, times}
use Rattle.algebra.proofs.WordInverses.{step_is}
use Rattle.arithmetic.specs.Newton.{two_less}
use Rattle.arithmetic.specs.Products.{integers_of}
use Rattle.arithmetic.proofs.Lifting.{words_are}
use Rattle.arithmetic.proofs.Products.{product_meaning}
use Rattle.arithmetic.proofs.newton.refine.Goals as goal

pub returns : goal.returns
returns g c =
    let f = c.args.f.now in
    let u = c.args.u.now in
    let n = length f in
    let p = c.multiply_doubled.new.out in
    let q = c.take_from_two.new.p in
    let v = c.multiply_doubled-2.new.out in
    let lp : length p ≡ n = omega arith in
    let lq : length q ≡ n = omega arith in
    let first = product_meaning f u p (c.multiply_doubled.ensures.words u c.write_twice.ensures.twice) in
    let less : SameMod 65536 n (integers_of q) (two_less n (integers_of p)) =
    subst (λ (i : ℕ). SameMod 65536 i (integers_of q) (two_less i (integers_of p))) lp c.take_from_two.ensures.difference in
    let second : SameMod 65536 n (integers_of v) (times n (integers_of q) (integers_of u)) =
    subst (λ (i : ℕ). SameMod 65536 i (integers_of v) (times i (integers_of q) (integers_of u))) lq (product_meaning q u v (c.multiply_doubled-2.ensures.words u c.write_twice.ensures.twice)) in
    let step = step_is 65536 n (integers_of f) (integers_of u) (integers_of p) (integers_of q) (integers_of v) first less second in
    record {
      step = step;
      words = words_are n v (refine n (integers_of f) (integers_of u)) (omega arith) (λ k. omega (arith, c.type_inv.u k)) step;
      count = omega (arith, c.multiply_doubled.ensures.count, c.multiply_doubled-2.ensures.count);
    }
