use Rattle.std.proofs.Common.{◌≡◌, ℕ, length, subst, arith}
use Rattle.algebra.specs.Polynomials.{SameMod}
use Rattle.algebra.specs.Ring.{integers, reduce}
use Rattle.arithmetic.specs.Products.{integers_of}
use Rattle.arithmetic.proofs.Lifting.{lifted}
use Rattle.arithmetic.proofs.newton.lift_inverse.Goals as goal

pub returns : goal.returns
returns g c =
    let f = c.args.f.now in
    let u₁ = c.refine.new.u in
    let u₂ = c.refine-2.new.u in
    let u₃ = c.refine-3.new.u in
    let u₄ = c.refine-4.new.u in
    let v = c.reduce_words.new.u in
    let same : length u₄ ≡ length f = omega arith in
    let less = subst (λ (i : ℕ). SameMod 65536 i (integers_of v) (reduce integers i (integers_of u₄))) same c.reduce_words.ensures.difference in
    record {
      lifted =
          lifted f c.args.u.now u₁ u₂ u₃ u₄ v c.requires.sizes.0 (omega arith) (λ k. omega (arith, c.type_inv.u k))
          c.refine.ensures.step c.refine-2.ensures.step c.refine-3.ensures.step c.refine-4.ensures.step less;
      count = omega (arith, c.refine.ensures.count, c.refine-2.ensures.count, c.refine-3.ensures.count, c.refine-4.ensures.count);
    }
