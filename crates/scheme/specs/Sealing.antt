-- Seal: what is written, and why it may be refused.
use Rattle.std.specs.Prelude.{ℕ, not, ◌&&◌, List, [], ◌∷◌, length, ◌==◌}
use Rattle.algebra.specs.Polynomials.{Poly, plus, times, Φ1}
use Rattle.algebra.specs.Scheme.{lifting}
use Rattle.arithmetic.specs.Digits.{coefficients}
use Rattle.scheme.specs.declared.refusal.Refusal.TheVariants.{NoSuchSet, InputLength, OutputLength}
use Rattle.scheme.specs.Coins.{drawn, first_half, second_half}
use Rattle.scheme.specs.Steps.{Step, stop, make_rows}
use Rattle.scheme.specs.Sets.{known, length_of, width_of, card_bytes, coin_bytes, record_bytes}
use Rattle.scheme.specs.WordPolynomials.{word_record}

-- the pair of coins
abbrev pub drawn_r : ℕ → List ℕ → Poly
drawn_r n coins = coefficients (drawn (first_half n coins))

abbrev pub drawn_m : ℕ → List ℕ → Poly
drawn_m n coins = coefficients (drawn (second_half n coins))

-- Lift(m): (x - 1) s over the integers, where s lifts m
abbrev pub lift_of : ℕ → Poly → Poly
lift_of n m = times n (Φ1 n) (lifting n m)

-- what the pair r, m encrypts to under h: r h + Lift(m)
abbrev pub encrypted : ℕ → (h r m : Poly) → Poly
encrypted n h r m = plus (times n r h) (lift_of n m)

-- the sealed record of the pair of coins under h
abbrev pub sealed_record : ℕ → ℕ → Poly → List ℕ → List ℕ
sealed_record n w h coins = word_record n w (encrypted n h (drawn_r n coins) (drawn_m n coins))

-- why a call does not seal, and the rows of its one product
abbrev pub seals : ℕ → List ℕ → List ℕ → List ℕ → List Step
seals set card coins out =
    stop NoSuchSet (not (known set))
    ∷ stop InputLength (not (length card == card_bytes (length_of set) (width_of set) && length coins == coin_bytes (length_of set)))
    ∷ stop OutputLength (not (length out == record_bytes (length_of set) (width_of set)))
    ∷ make_rows (length_of set)
    ∷ []
