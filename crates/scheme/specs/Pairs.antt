-- Pair records: r and then m, a ternary part each.
use Rattle.std.specs.Prelude.{ℕ, ◌-◌, ◌/◌, not, List, [], ◌∷◌, ◌++◌, length, take, drop, ◌==◌}
use Rattle.arithmetic.specs.declared.digit.Digit.{Digit}
use Rattle.scheme.specs.declared.refusal.Refusal.TheVariants.{NoSuchSet, InputLength, OutputLength}
use Rattle.scheme.specs.Coins.{coin_list}
use Rattle.scheme.specs.Refusals.{Line, refuse}
use Rattle.scheme.specs.Sets.{known, length_of, ternary_bytes, pair_bytes, coin_bytes}
use Rattle.scheme.specs.TernaryParts.{ternary_part, HoldsDigits}

-- coefficients 0 to n - 2 of r, which the first half of the coins draws
abbrev pub r_digits : ℕ → List ℕ → List Digit
r_digits n coins = coin_list (take ((n - 1) / 2) coins)

-- coefficients 0 to n - 2 of m, which the second half of the coins draws
abbrev pub m_digits : ℕ → List ℕ → List Digit
m_digits n coins = coin_list (drop ((n - 1) / 2) coins)

-- the pair record of coins, for polynomials of n coefficients
abbrev pub pair_record : ℕ → List ℕ → List ℕ
pair_record n coins = ternary_part (r_digits n coins) ++ ternary_part (m_digits n coins)

-- the first part of the record holds the digits of r one by one, and the rest those of m
pub record HoldsPair (n : ℕ) (coins out : List ℕ) : Type 0 where
  pub first : HoldsDigits (r_digits n coins) (take (ternary_bytes n) out)
  pub second : HoldsDigits (m_digits n coins) (drop (ternary_bytes n) out)

-- why the pair record of coins is not written
abbrev pub pairs : ℕ → List ℕ → List ℕ → List Line
pairs set coins out =
    refuse NoSuchSet (not (known set))
    ∷ refuse InputLength (not (length coins == coin_bytes (length_of set)))
    ∷ refuse OutputLength (not (length out == pair_bytes (length_of set)))
    ∷ []
