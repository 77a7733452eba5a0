use Rattle.std.proofs.lemmas.Nat.{and_mask}
use Rattle.scheme.proofs.width.Width.low.Goals as goal

pub returns : goal.returns
returns c = rw c.mask.ensures (and_mask c.args.word c.args.self.bits)
