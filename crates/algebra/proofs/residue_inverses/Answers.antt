use Rattle.algebra.specs.Residues.{residue_laws}
use Rattle.algebra.proofs.Stands.{residues_stand, numbers_inverse, inverse_numbers}
use Rattle.algebra.proofs.residue_inverses.Goals as goal

pub returns : goal.returns
returns c m h n a u = record { stands = numbers_inverse (residues_stand m h) (residue_laws m h) n a u; back = inverse_numbers (residues_stand m h) (residue_laws m h) n a u }
