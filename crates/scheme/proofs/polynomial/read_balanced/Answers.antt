use Rattle.std.proofs.Common.{◌≡◌, ◌-◌, ◌^◌, [], ◌∷◌, ◌++◌, length, pos, neg_ℤ, sum, sym, ap, ◌∙◌, subst, arith}
use Rattle.algebra.specs.Polynomials.{Balanced, as_word}
use Rattle.algebra.specs.Radix.{Under}
use Rattle.algebra.proofs.LastCoefficient.{minus_bits}
use Rattle.arithmetic.specs.Products.{integers_of}
use Rattle.scheme.specs.WordParts.{part_words}
use Rattle.scheme.specs.WordPolynomials.{balanced}
use Rattle.scheme.proofs.WordPolynomials.{front_is, last_written, balanced_sum, balanced_small}
use Rattle.scheme.proofs.polynomial.read_balanced.Goals as goal

pub returns : goal.returns
returns c =
    let w = c.args.width.bits in
    let out = c.args.out.now in
    let n = length out in
    let bytes = c.args.bytes.now in
    let cs = part_words w (n - 1) bytes in
    let front = c.unpack_words.new.out in
    let v : _ ≡ as_word (2 ^ w) (neg_ℤ (pos (sum cs))) =
    c.low.ensures ∙ minus_bits w c.wrapping_neg.result c.sum_words-total.result (sum front) (omega arith) c.wrapping_neg.ensures c.sum_words-total.ensures
    ∙ ap (λ xs. as_word (2 ^ w) (neg_ℤ (pos (sum xs)))) (front_is w bytes out front c.requires.some c.unpack_words.ensures) in
    let words : _ ≡ balanced w cs = last_written w bytes out front c.requires.some c.unpack_words.ensures _ ∙ ap (λ t. cs ++ t ∷ []) v in
    record {
      words = words;
      sum_zero = subst (λ xs. Balanced (2 ^ w) n (integers_of xs)) (sym words) (balanced_sum w n bytes c.requires.some);
      small = subst (Under (2 ^ w)) (sym words) (balanced_small w (n - 1) bytes (omega arith));
    }
