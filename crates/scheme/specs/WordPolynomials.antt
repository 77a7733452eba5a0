-- Polynomials of words, of which a word part holds all coefficients but the last.
use Rattle.std.specs.Prelude.{◌≡◌, ℕ, ◌-◌, ◌^◌, List, [], ◌∷◌, ◌++◌, map, length, pos, neg_ℤ, sum, slice_index_or}
use Rattle.std.specs.List.{range_with_len}
use Rattle.algebra.specs.Polynomials.{Poly, Balanced, as_word}
use Rattle.arithmetic.specs.Products.{integers_of}
use Rattle.scheme.specs.WordParts.{part_words, word_part}

-- the coefficients, and minus their sum modulo 2 ^ w as the last
abbrev pub balanced : ℕ → List ℕ → List ℕ
balanced w cs = cs ++ as_word (2 ^ w) (neg_ℤ (pos (sum cs))) ∷ []

-- the coefficients, and 0 as the last
abbrev pub padded : List ℕ → List ℕ
padded cs = cs ++ 0 ∷ []

-- read from the bytes the polynomial is the same: by its sum where that is zero, and by a 0 where it ends in 0
pub record ReadsBack (w : ℕ) (polynomial bytes : List ℕ) : Type 0 where
  pub by_sum : Balanced (2 ^ w) (length polynomial) (integers_of polynomial) → balanced w (part_words w (length polynomial - 1) bytes) ≡ polynomial
  pub by_zero : slice_index_or polynomial (length polynomial - 1) 0 ≡ 0 → padded (part_words w (length polynomial - 1) bytes) ≡ polynomial

-- the polynomial of a word part, as h and a sealed one: its coefficients add up to 0 modulo 2 ^ w
abbrev pub balanced_polynomial : ℕ → ℕ → List ℕ → Poly
balanced_polynomial n w bytes = integers_of (balanced w (part_words w (n - 1) bytes))

-- the polynomial of a word part, as hq: its last coefficient is 0
abbrev pub padded_polynomial : ℕ → ℕ → List ℕ → Poly
padded_polynomial n w bytes = integers_of (padded (part_words w (n - 1) bytes))

-- the word part of a polynomial: coefficients 0 to n - 2, modulo 2 ^ w
abbrev pub word_record : ℕ → ℕ → Poly → List ℕ
word_record n w u = word_part w (map (λ k. as_word (2 ^ w) (u k)) (range_with_len 0 (n - 1)))
