use Rattle.std.proofs.Common.{arith, length, sym, ap, ◌∙◌, subst}
use Rattle.scheme.specs.WordParts.{HoldsBits, part_words}
use Rattle.scheme.proofs.WordBytes.{holds_bits, words_back}
use Rattle.scheme.proofs.words.write_word_part.Goals as goal

pub returns-clause-bit_by_bit : goal.returns-clause-bit_by_bit
returns-clause-bit_by_bit c _ =
    let w = c.args.width in
    let cs = c.args.coefficients.now in
    subst (HoldsBits w cs) (sym c.pack_words.ensures) (holds_bits w cs (omega arith))

pub returns-clause-reads_back : goal.returns-clause-reads_back
returns-clause-reads_back c _ u =
    let w = c.args.width in
    let cs = c.args.coefficients.now in
    ap (part_words w (length cs)) c.pack_words.ensures ∙ words_back w cs (omega arith) u
