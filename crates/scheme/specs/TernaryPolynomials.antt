-- Ternary polynomials, of which a ternary part holds all coefficients but the last.
use Rattle.std.specs.Prelude.{ℕ, ◌-◌, List, [], ◌∷◌, ◌++◌, map}
use Rattle.std.specs.List.{range_with_len}
use Rattle.algebra.specs.Polynomials.{Poly}
use Rattle.arithmetic.specs.Digits.{digit, coefficients, sign}
use Rattle.arithmetic.specs.declared.digit.Digit.{Digit}
use Rattle.scheme.specs.TernaryParts.{ternary_part, ternary_digits}

-- the first n - 1 digits that a ternary part holds, and 0 as the last
abbrev pub ended_digits : ℕ → List ℕ → List Digit
ended_digits n bytes = ternary_digits (n - 1) bytes ++ digit 0 ∷ []

-- the polynomial of a ternary part
abbrev pub ternary_polynomial : ℕ → List ℕ → Poly
ternary_polynomial n bytes = coefficients (ended_digits n bytes)

-- the ternary part of a polynomial with coefficients -1, 0 and 1: coefficients 0 to n - 2
abbrev pub ternary_record : ℕ → Poly → List ℕ
ternary_record n u = ternary_part (map (λ k. sign (u k)) (range_with_len 0 (n - 1)))

-- the ternary parts of two polynomials, one after the other
abbrev pub pair_of : ℕ → (r m : Poly) → List ℕ
pair_of n r m = ternary_record n r ++ ternary_record n m
