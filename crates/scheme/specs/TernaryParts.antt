-- Ternary parts: five digits a byte in base 3, first digit lowest, -1 written 2.
use Rattle.std.specs.Prelude.{◌≡◌, ℕ, ◌+◌, ◌/◌, ◌<◌, ◌≤◌, Bool, not, List, [], ◌∷◌, map, length, ◌==◌, nat_le, slice_index_or}
use Rattle.std.specs.List.{list_all}
use Rattle.algebra.specs.Radix.{numeral, digits, digit_at, Under}
use Rattle.arithmetic.specs.Digits.{digit}
use Rattle.arithmetic.specs.declared.digit.Digit.{Digit}
use Rattle.scheme.specs.declared.refusal.Refusal.TheVariants.{InputLength, OutputLength, TernaryByte}
use Rattle.scheme.specs.Refusals.{Line, refuse}

-- how digits are written: 0, 1, and 2 for -1
abbrev pub codes : List Digit → List ℕ
codes ds = map (λ d. d.code) ds

-- bytes of a ternary part of so many digits
abbrev pub part_bytes : ℕ → ℕ
part_bytes count = (count + 4) / 5

-- the bytes of a ternary part, which write the number that the digits write
abbrev pub ternary_part : List Digit → List ℕ
ternary_part ds = digits 243 (part_bytes (length ds)) (numeral 3 (codes ds))

-- the first so many digits that a ternary part holds
abbrev pub ternary_digits : ℕ → List ℕ → List Digit
ternary_digits count bs = map digit (digits 3 count (numeral 243 bs))

-- digit k of the bytes, five to a byte, is digit k of the list, digits beyond the list are zero, and no byte is above F2
pub record HoldsDigits (ds : List Digit) (bytes : List ℕ) : Type 0 where
  pub each : (k : ℕ) → k < length ds → digit_at 3 5 bytes k ≡ (slice_index_or ds k (digit 0)).code
  pub spare : (k : ℕ) → length ds ≤ k → digit_at 3 5 bytes k ≡ 0
  pub long : length bytes ≡ part_bytes (length ds)
  pub five : Under 243 bytes

-- digit k of the list is digit k of the bytes, five to a byte, and no other digit of the bytes is looked at
pub record TakesDigits (bytes : List ℕ) (ds : List Digit) : Type 0 where
  pub each : (k : ℕ) → k < length ds → (slice_index_or ds k (digit 0)).code ≡ digit_at 3 5 bytes k
  pub spare : (other : List ℕ) → ((k : ℕ) → k < length ds → digit_at 3 5 other k ≡ digit_at 3 5 bytes k) → ternary_digits (length ds) other ≡ ds

-- each byte holds five digits: none is above F2
abbrev pub holds_digits : List ℕ → Bool
holds_digits bs = list_all (λ b. nat_le b 0xF2) bs

-- why so many digits are not written into a buffer
abbrev pub writes : ℕ → List ℕ → List Line
writes count out = refuse OutputLength (not (length out == part_bytes count)) ∷ []

-- why so many digits are not read from a part
abbrev pub reads : ℕ → List ℕ → List Line
reads count bytes =
    refuse InputLength (not (length bytes == part_bytes count))
    ∷ refuse TernaryByte (not (holds_digits bytes))
    ∷ []
