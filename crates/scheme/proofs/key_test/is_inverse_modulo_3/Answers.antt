use Rattle.std.proofs.Common.{◌∙◌}
use Rattle.scheme.proofs.Working.{three_told}
use Rattle.scheme.proofs.key_test.is_inverse_modulo_3.Goals as goal

pub returns-clause-answer : goal.returns-clause-answer
returns-clause-answer g c =
    let set = c.args.set in
    three_told set.n c.args.f.now c.args.fp.now c.product_modulo_3.new.out c.is_one.result set.length.0 (c.product_modulo_3.auto.out ∙ c.requires.room.0) c.product_modulo_3.ensures.product c.is_one.ensures
