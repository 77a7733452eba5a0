use Rattle.algebra.proofs.Opening.{gives_back}
use Rattle.algebra.proofs.opening_gives_back.Goals as goal

pub returns : goal.returns
returns c = gives_back
