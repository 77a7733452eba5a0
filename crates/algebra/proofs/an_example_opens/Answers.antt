use Rattle.algebra.proofs.Example.{example}
use Rattle.algebra.proofs.an_example_opens.Goals as goal

pub returns : goal.returns
returns c = example
