use Rattle.std.proofs.Common.{◌∙◌}
use Rattle.scheme.proofs.Working.{encrypt_is}
use Rattle.scheme.proofs.sealing.encrypt.Goals as goal

pub returns-clause-ciphertext : goal.returns-clause-ciphertext
returns-clause-ciphertext g c =
    encrypt_is c.args.set.n c.args.r.now c.args.m.now c.args.h.now c.digits_times.new.out c.lift.new.out c.add_words.new.u (c.digits_times.auto.out ∙ c.requires.words.1)
    c.digits_times.ensures.product c.lift.ensures c.add_words.ensures
