use Rattle.std.proofs.Common.{arith, length, sym, subst}
use Rattle.scheme.specs.WordParts.{TakesBits}
use Rattle.scheme.proofs.WordBytes.{takes_bits}
use Rattle.scheme.proofs.words.read_word_part.Goals as goal

pub returns-clause-bit_by_bit : goal.returns-clause-bit_by_bit
returns-clause-bit_by_bit c _ =
    let w = c.args.width in
    let bytes = c.args.bytes.now in
    subst (TakesBits w bytes) (sym c.unpack_words.ensures) (takes_bits w (length c.args.out.now) bytes (omega arith))
