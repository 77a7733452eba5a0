use Rattle.std.proofs.Common.{◌≡◌, ◌<◌, ℕ, length, take, subst, sym, ◌∙◌, arith}
use Rattle.std.proofs.lemmas.List.{length-take-le}
use Rattle.arithmetic.specs.Digits.{digit}
use Rattle.scheme.proofs.Working.{product_3_is}
use Rattle.scheme.proofs.product.product_modulo_3.Goals as goal

pub returns-clause-product : goal.returns-clause-product
returns-clause-product g c =
    let set = c.args.set in
    let n = set.n in
    let ab : length (take n c.split_at_mut-ab_room.result.0.now) ≡ n = length-take-le n _ (omega (arith, set.length)) in
    let a : length (take n c.split_at_mut-a_room.result.0.now) ≡ n = length-take-le n _ (omega (arith, set.length)) in
    let b : length (take n c.split_at_mut-b_room.result.0.now) ≡ n = length-take-le n _ (omega (arith, set.length)) in
    product_3_is n c.args.a.now c.args.b.now c.reduce_modulo_3.new.out c.convert.new.into c.convert-2.new.into c.product.new.out (omega (arith, set.length)) set.length.1 c.requires.factors.0 c.requires.factors.1
    (c.convert.auto.into ∙ a) (c.convert-2.auto.into ∙ b) (c.product.auto.out ∙ ab)
    c.requires.last (λ k l. c.convert.ensures.converted k (digit 0) 0 l (subst (λ (m : ℕ). k < m) (sym a) (omega arith))) (λ k l. c.convert-2.ensures.converted k (digit 0) 0 l (subst (λ (m : ℕ). k < m) (sym b) (omega arith))) c.product.ensures.words c.reduce_modulo_3.ensures
