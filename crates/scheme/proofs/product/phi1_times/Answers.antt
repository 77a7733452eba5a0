use Rattle.std.proofs.Common.{◌≡◌, Ok, arith, lit<}
use Rattle.algebra.specs.Stands.{residue_number}
use Rattle.algebra.proofs.Cyclic.{cyclic_laws}
use Rattle.algebra.proofs.Integers.{mod_laws}
use Rattle.algebra.proofs.Stands.{residues_stand}
use Rattle.arithmetic.specs.Products.{integers_of}
use Rattle.arithmetic.proofs.Standing.{phi1_words, served}
use Rattle.scheme.proofs.product.phi1_times.Goals as goal

pub returns : goal.returns
returns c =
    let n = c.args.set.n in
    let v = c.args.v.now in
    let fits : c.times_phi1.result ≡ Ok tt = served c.times_phi1.result (λ e. c.times_phi1.ensures.refused_where_lengths_differ e (omega arith)) in
    phi1_words n v c.times_phi1.new.out (integers_of v) c.requires.0 (omega arith) ((cyclic_laws (mod_laws 65536) n).rfl (integers_of v))
    (c.times_phi1.ensures.over_the_integers fits (omega (arith, c.args.set.length)) 65536 (residue_number 65536) (residues_stand 65536 (lit< tt)))
