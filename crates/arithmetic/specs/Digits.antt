-- Digits modulo 3: the values -1, 0 and 1, held by the codes 2, 0 and 1.
use Rattle.std.specs.Prelude.{ℕ, zero, suc, ◌-◌, ◌%◌, List, ℤ, pos, negsuc, slice_index_or}
use Rattle.std.proofs.Common.{mod-lt, lit<}
use Rattle.algebra.specs.Stands.{signed}
use Rattle.arithmetic.specs.declared.digit.Digit.{Digit}

-- the digit of a number: its remainder modulo 3
abbrev pub digit : ℕ → Digit
digit n = record { code = n % 3; small = mod-lt n (lit< tt) }

-- a digit as a number
abbrev pub number : Digit → ℤ
number d = signed d.code

-- the sign of a number, as a digit
abbrev pub sign : ℤ → Digit
sign (pos zero) = digit 0
sign (pos (suc n)) = digit 1
sign (negsuc n) = digit 2

-- minus a digit
abbrev pub negated : Digit → Digit
negated d = digit (3 - d.code)

-- the polynomial over the integers whose coefficients a list of digits holds, lowest first
abbrev pub coefficients : List Digit → ℕ → ℤ
coefficients ds k = number (slice_index_or ds k (digit 0))
