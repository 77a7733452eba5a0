use Rattle.std.proofs.Common.{◌≡◌, length, take, ◌∙◌, arith}
use Rattle.std.proofs.lemmas.List.{length-take-le}
use Rattle.scheme.proofs.Working.{message_is}
use Rattle.scheme.proofs.opening.find_m.Goals as goal

pub returns-clause-message : goal.returns-clause-message
returns-clause-message g c =
    let set = c.args.set in
    let front : length (take set.n c.split_at_mut-cf_room.result.0.now) ≡ set.n = length-take-le set.n _ (omega (arith, set.length)) in
    message_is set.n set.width c.args.f.now c.args.fp.now c.centre_digits.new.out c.product_modulo_3.new.out c.args.c.now c.times_digits.new.out set.length.0 set.narrow
    (c.times_digits.auto.out ∙ front) c.times_digits.ensures.product c.centre_digits.ensures c.product_modulo_3.ensures.product
