use Rattle.std.proofs.Common.{◌≡◌, length, take, sym, ◌∙◌, arith}
use Rattle.std.proofs.lemmas.List.{length-take-le}
use Rattle.scheme.proofs.SetFacts.{wide}
use Rattle.scheme.proofs.Working.{q_refused, q_told}
use Rattle.scheme.proofs.key_test.is_inverse_modulo_q.Goals as goal

pub returns-then-is_some-clause-answer : goal.returns-then-is_some-clause-answer
returns-then-is_some-clause-answer g c =
    let set = c.args.set in
    let front : length (take set.n c.split_at_mut-product_room.result.0.now) ≡ set.n = length-take-le set.n _ (omega (arith, set.length)) in
    q_told set.n set.width c.args.h.now c.args.hq.now c.product.new.out c.read_reduced.new.out set.length.0 (wide set) set.narrow (c.product.auto.out ∙ front)
    c.product.ensures.product c.read_reduced.result c.is_one.result (sym c.is_some.ensures ∙ c.if-is_some.true) c.read_reduced.ensures (c.read_reduced.auto.out ∙ c.requires.room.0) c.is_one.ensures

pub returns-else-is_some-clause-answer : goal.returns-else-is_some-clause-answer
returns-else-is_some-clause-answer g c =
    let set = c.args.set in
    let front : length (take set.n c.split_at_mut-product_room.result.0.now) ≡ set.n = length-take-le set.n _ (omega (arith, set.length)) in
    q_refused set.n set.width c.args.h.now c.args.hq.now c.product.new.out c.read_reduced.new.out set.length.0 (wide set) set.narrow (c.product.auto.out ∙ front)
    c.product.ensures.product c.read_reduced.result c.is_some.result c.is_some.ensures c.if-is_some.false c.read_reduced.ensures
