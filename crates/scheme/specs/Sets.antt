-- The parameter sets by their numbers, and the sizes of their records in bytes.
use Rattle.std.specs.Prelude.{◌≡◌, ℕ, zero, suc, ◌+◌, ◌-◌, ◌*◌, ◌/◌, Bool, true, false, ◌&&◌, nat_le, Result, MatchResult}
use Rattle.scheme.specs.declared.refusal.Refusal.{Refusal}
use Rattle.scheme.specs.declared.refusal.Refusal.TheVariants.{NoSuchSet}
use Rattle.scheme.specs.declared.set.ParameterSet.{ParameterSet}

-- there is a set of this number
abbrev pub known : ℕ → Bool
known set = nat_le 1 set && nat_le set 3

-- n, the number of coefficients of a polynomial of a set; 0 where there is no such set
abbrev pub length_of : ℕ → ℕ
length_of zero = 0
length_of (suc zero) = 5
length_of (suc (suc zero)) = 7
length_of (suc (suc (suc zero))) = 701
length_of (suc (suc (suc (suc k)))) = 0

-- w, the number of bits of a coefficient modulo q; 0 where there is no such set
abbrev pub width_of : ℕ → ℕ
width_of zero = 0
width_of (suc zero) = 6
width_of (suc (suc zero)) = 7
width_of (suc (suc (suc zero))) = 13
width_of (suc (suc (suc (suc k)))) = 0

-- what a lookup by number gives: the set with the n and w of a known number, or that there is no such set
abbrev pub SetOrRefusal : ℕ → Result ParameterSet Refusal → Type 0
SetOrRefusal number r = MatchResult r
    (λ s. (known number ≡ true) × (s.n ≡ length_of number) × (s.width ≡ width_of number))
    (λ e. (known number ≡ false) × (e ≡ NoSuchSet))

-- bytes of a ternary part of n - 1 digits
abbrev pub ternary_bytes : ℕ → ℕ
ternary_bytes n = (n - 1 + 4) / 5

-- bytes of a pair record, which is two ternary parts
abbrev pub pair_bytes : ℕ → ℕ
pair_bytes n = 2 * ternary_bytes n

-- bytes of coins: four bits for each of 2 (n - 1) coefficients
abbrev pub coin_bytes : ℕ → ℕ
coin_bytes n = n - 1

-- bytes of a word part of n - 1 coefficients of w bits, as h, hq and a sealed record are
abbrev pub record_bytes : ℕ → ℕ → ℕ
record_bytes n w = (w * (n - 1) + 7) / 8

-- bytes of a card: two ternary parts and two word parts
abbrev pub card_bytes : ℕ → ℕ → ℕ
card_bytes n w = 2 * ternary_bytes n + 2 * record_bytes n w
