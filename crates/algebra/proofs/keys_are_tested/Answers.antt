use Rattle.algebra.proofs.Keys.{key_tested}
use Rattle.algebra.proofs.keys_are_tested.Goals as goal

pub returns : goal.returns
returns c = key_tested
