use Rattle.std.proofs.Common.{◌≡◌, length, take, ◌∙◌, arith}
use Rattle.std.proofs.lemmas.List.{length-take-le}
use Rattle.scheme.proofs.Records.{sealed_bytes}
use Rattle.arithmetic.proofs.Rooms.{in_room}
use Rattle.scheme.proofs.sealing.seal_pair.Goals as goal

pub encrypt-requires-clause-digits : goal.encrypt-requires-clause-digits
encrypt-requires-clause-digits g c = let few = c.args.coins.set.length.1 in (c.draw_both.auto.first ∙ in_room _ few, c.draw_both.auto.second ∙ in_room _ few)

pub returns-clause-output : goal.returns-clause-output
returns-clause-output g c =
    let set = c.args.coins.set in
    let front : length (take set.n c.split_at_mut-c_room.result.0.now) ≡ set.n = length-take-le set.n _ (omega (arith, set.length)) in
    sealed_bytes set.n set.width c.args.coins.bytes.now c.args.h.now c.read_balanced.new.out c.encrypt.new.c c.write_all_but_last.new.out c.draw_both.new.first c.draw_both.new.second
    set.narrow (c.encrypt.auto.c ∙ front) (in_room _ set.length.1)
    c.draw_both.ensures.first c.draw_both.ensures.second (rw c.bits-width.ensures at c.read_balanced.ensures.words) c.encrypt.ensures.ciphertext (rw c.bits-width.ensures at c.write_all_but_last.ensures.output)
