use Rattle.algebra.proofs.Newton.{inverses_are}
use Rattle.algebra.proofs.inverses_modulo_words.Goals as goal

pub returns : goal.returns
returns c = inverses_are
