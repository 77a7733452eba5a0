use Rattle.algebra.proofs.Naturals.{naturals_laws}
use Rattle.algebra.proofs.naturals_modulo_are_a_ring.Goals as goal

pub returns : goal.returns
returns c = naturals_laws
