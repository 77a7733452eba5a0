-- The signs of f and g.
use Rattle.std.specs.Prelude.{ℕ, ◌%◌, Bool, true, false, cond, List, map, length, ℤ, pos, negsuc, ◌==◌, slice_index_or}
use Rattle.std.specs.List.{range_with_len}
use Rattle.algebra.specs.Ternary.{correlation}
use Rattle.arithmetic.specs.Digits.{digit, negated, coefficients}
use Rattle.arithmetic.specs.declared.digit.Digit.{Digit}

-- digit k of a list, negated where k is even
abbrev pub flipped_at : List Digit → ℕ → Digit
flipped_at ds k = cond (k % 2 == 0) (negated (slice_index_or ds k (digit 0))) (slice_index_or ds k (digit 0))

-- the list with its even-numbered digits negated
abbrev pub flipped : List Digit → List Digit
flipped ds = map (flipped_at ds) (range_with_len 0 (length ds))

-- a number is below zero
abbrev pub negative : ℤ → Bool
negative (pos n) = false
negative (negsuc n) = true

-- the digits, the even-numbered ones negated where the correlation is negative
abbrev pub settled : List Digit → List Digit
settled ds = cond (negative (correlation (length ds) (coefficients ds))) (flipped ds) ds
