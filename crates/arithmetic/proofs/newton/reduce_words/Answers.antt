use Rattle.std.proofs.Common.{arith, lit<}
use Rattle.algebra.specs.Stands.{residue_number}
use Rattle.algebra.proofs.Stands.{residues_stand}
use Rattle.arithmetic.proofs.Standing.{reduced_words}
use Rattle.arithmetic.proofs.newton.reduce_words.Goals as goal

pub returns : goal.returns
returns c = record { difference = reduced_words c.args.u.now c.subtract_last.new.v (omega arith) c.requires.some (c.subtract_last.ensures.over_the_integers 65536 (residue_number 65536) (residues_stand 65536 (lit< tt))) }
