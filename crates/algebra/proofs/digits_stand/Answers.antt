use Rattle.algebra.proofs.Stands.{digits_stand}
use Rattle.algebra.proofs.digits_stand.Goals as goal

pub returns : goal.returns
returns c = digits_stand
