use Rattle.std.proofs.Common.{◌≡◌, ◌^◌, length, arith, lit<}
use Rattle.algebra.specs.Polynomials.{centre}
use Rattle.algebra.specs.Ring.{Agree, integers, reduce}
use Rattle.algebra.specs.Stands.{residue_number}
use Rattle.algebra.proofs.Stands.{residues_stand}
use Rattle.algebra.proofs.WordLoops.{centre_words}
use Rattle.arithmetic.specs.Products.{integers_of}
use Rattle.arithmetic.proofs.Standing.{reduced_words}
use Rattle.scheme.proofs.Working.{reads_same}
use Rattle.scheme.proofs.coefficients.read_reduced.Goals as goal

pub returns : goal.returns
returns c =
    let w = c.args.set.width in
    let xs = c.args.words.now in
    let ys = c.subtract_last.new.v in
    let n = length xs in
    let same : length ys ≡ n = omega arith in
    let agree : Agree integers n (λ k. centre (2 ^ w) (integers_of ys k)) (λ k. centre (2 ^ w) (reduce integers n (integers_of xs) k)) =
    centre_words w n (integers_of ys) (reduce integers n (integers_of xs)) (omega arith)
    (reduced_words xs ys (omega arith) c.requires.some (c.subtract_last.ensures.over_the_integers 65536 (residue_number 65536) (residues_stand 65536 (lit< tt)))) in
    reads_same n (length ys) w (integers_of ys) (reduce integers n (integers_of xs)) same agree c.read_signs.result c.read_signs.new.out c.read_signs.ensures
