use Rattle.std.proofs.Common.{◌∙◌}
use Rattle.scheme.proofs.Working.{lift_is}
use Rattle.scheme.proofs.lifting.lift.Goals as goal

pub returns : goal.returns
returns c =
    let set = c.args.set in
    lift_is set.n c.args.m.now c.lifting_digits.new.s c.signed_words.new.out c.phi1_times.new.out c.requires.polynomials.0 (c.lifting_digits.auto.s ∙ c.requires.room.0) c.lifting_digits.ensures c.signed_words.ensures c.phi1_times.ensures
