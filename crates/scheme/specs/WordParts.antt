-- Word parts: so many bits a coefficient, lowest bit first.
use Rattle.std.specs.Prelude.{◌≡◌, ℕ, ◌+◌, ◌*◌, ◌/◌, ◌^◌, ◌<◌, ◌≤◌, Bool, not, ◌&&◌, List, [], ◌∷◌, length, ◌==◌, nat_le}
use Rattle.algebra.specs.Radix.{numeral, digits, digit_at, Under}
use Rattle.scheme.specs.declared.refusal.Refusal.TheVariants.{InputLength, OutputLength}
use Rattle.scheme.specs.Refusals.{Line, refuse}

-- the widths that coefficients have: 1 to 16 bits
abbrev pub width_fits : ℕ → Bool
width_fits w = nat_le 1 w && nat_le w 16

-- the shapes that word parts have: widths of 1 to 16 bits, and 1 to 1407 coefficients
abbrev pub shaped : ℕ → ℕ → Bool
shaped w count = width_fits w && (nat_le 1 count && nat_le count 1407)

-- bytes of a word part of so many coefficients of w bits
abbrev pub word_bytes : ℕ → ℕ → ℕ
word_bytes w count = (w * count + 7) / 8

-- the bytes of a word part, which write the number that the low w bits of the coefficients write
abbrev pub word_part : ℕ → List ℕ → List ℕ
word_part w cs = digits 256 (word_bytes w (length cs)) (numeral (2 ^ w) cs)

-- the first so many words of w bits that a word part holds
abbrev pub part_words : ℕ → ℕ → List ℕ → List ℕ
part_words w count bytes = digits (2 ^ w) count (numeral 256 bytes)

-- bit k of the bytes, eight to a byte, is bit k of the coefficients, w to each, and bits beyond these are zero
pub record HoldsBits (w : ℕ) (cs bytes : List ℕ) : Type 0 where
  pub each : (k : ℕ) → k < w * length cs → digit_at 2 8 bytes k ≡ digit_at 2 w cs k
  pub spare : (k : ℕ) → w * length cs ≤ k → digit_at 2 8 bytes k ≡ 0
  pub long : length bytes ≡ word_bytes w (length cs)

-- bit k of the words, w to each, is bit k of the bytes, and each word is below 2 ^ w; bytes that differ in spare bits alone read as the same words
pub record TakesBits (w : ℕ) (bytes words : List ℕ) : Type 0 where
  pub each : (k : ℕ) → k < w * length words → digit_at 2 w words k ≡ digit_at 2 8 bytes k
  pub small : Under (2 ^ w) words
  pub spare : (others : List ℕ) → ((k : ℕ) → k < w * length words → digit_at 2 8 others k ≡ digit_at 2 8 bytes k) → part_words w (length words) others ≡ words

-- why so many coefficients of w bits are not written into a buffer
abbrev pub word_writes : ℕ → ℕ → List ℕ → List Line
word_writes w count out =
    refuse InputLength (not (shaped w count))
    ∷ refuse OutputLength (not (length out == word_bytes w count))
    ∷ []

-- why so many coefficients of w bits are not read from a part
abbrev pub word_reads : ℕ → ℕ → List ℕ → List Line
word_reads w count bytes = refuse InputLength (not (shaped w count && length bytes == word_bytes w count)) ∷ []
