-- The laws of word parts.
use Rattle.std.proofs.Common.{◌≡◌, ℕ, ◌*◌, ◌^◌, ◌<◌, ◌≤◌, List, length, sym, ap, ◌∙◌, subst, arith}
use Rattle.std.proofs.lemmas.Nat.{pow_pos}
use Rattle.algebra.specs.Radix.{numeral, digit_at, Under}
use Rattle.algebra.proofs.Radix.{length_digits}
use Rattle.algebra.proofs.Regrouping.{written_in_order, read_in_order, read_alike, back, digit_past, under_map, digits_under}
use Rattle.scheme.specs.WordParts.{word_bytes, word_part, part_words, HoldsBits, TakesBits}

pub holds_bits : (w : ℕ) (cs : List ℕ) → 1 ≤ w → HoldsBits w cs (word_part w cs)
holds_bits w cs h = record {
  each = λ k _. order k;
  spare = λ k l. order k ∙ digit_past 2 w cs k h (omega arith) l;
  long = length_digits 256 (word_bytes w (length cs)) (numeral (2 ^ w) cs);
}
  where
    order : (k : ℕ) → digit_at 2 8 (word_part w cs) k ≡ digit_at 2 w cs k
    order k = written_in_order 2 w 8 (omega arith) h (omega arith) (word_bytes w (length cs)) cs (omega arith) k

pub words_back : (w : ℕ) (cs : List ℕ) → 1 ≤ w → Under (2 ^ w) cs → part_words w (length cs) (word_part w cs) ≡ cs
words_back w cs h u = back 2 w 8 (omega arith) h (omega arith) (word_bytes w (length cs)) cs (omega arith) ∙ under_map (2 ^ w) cs u

pub length_words : (w n : ℕ) (bytes : List ℕ) → length (part_words w n bytes) ≡ n
length_words w n bytes = length_digits (2 ^ w) n (numeral 256 bytes)

pub takes_bits : (w n : ℕ) (bytes : List ℕ) → 1 ≤ w → TakesBits w bytes (part_words w n bytes)
takes_bits w n bytes h = record {
  each = λ k l. read_in_order 2 8 w (omega arith) (omega arith) h n bytes k (subst (λ m. k < w * m) (length_words w n bytes) l);
  small = digits_under (2 ^ w) (pow_pos w) n (numeral 256 bytes);
  spare = λ others same. ap (λ m. part_words w m others) (length_words w n bytes) ∙ read_alike 2 8 w (omega arith) (omega arith) h n others bytes (λ k l. same k (subst (λ m. k < w * m) (sym (length_words w n bytes)) l));
}
