use Rattle.std.proofs.Common.{length, arith}
use Rattle.arithmetic.proofs.Lifting.{two_more}
use Rattle.arithmetic.proofs.newton.take_from_two.Goals as goal

pub returns : goal.returns
returns c = record { difference = two_more (length c.args.p.now) c.args.p.now c.negate.new.p (omega arith) c.negate.ensures.negated }
