use Rattle.std.proofs.Common.{◌-◌, ◌^◌, length, sym, subst, arith}
use Rattle.algebra.specs.Radix.{Under}
use Rattle.scheme.proofs.WordPolynomials.{last_written, padded_small}
use Rattle.scheme.proofs.polynomial.read_padded.Goals as goal

pub returns-clause-small : goal.returns-clause-small
returns-clause-small c =
    let w = c.args.width.bits in
    let out = c.args.out.now in
    let bytes = c.args.bytes.now in
    let words = last_written w bytes out c.unpack_words.new.out c.requires.some c.unpack_words.ensures 0 in
    subst (Under (2 ^ w)) (sym words) (padded_small w (length out - 1) bytes (omega arith))
