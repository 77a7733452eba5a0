use Rattle.algebra.specs.Residues.{residue_laws}
use Rattle.algebra.proofs.residues_are_a_ring.Goals as goal

pub returns : goal.returns
returns c = residue_laws
