use Rattle.algebra.specs.Residues.{residue_laws}
use Rattle.algebra.proofs.Stands.{residues_stand, numbers_times}
use Rattle.algebra.proofs.residue_products.Goals as goal

pub returns : goal.returns
returns c m h n u v = numbers_times (residues_stand m h) (residue_laws m h) n u v
