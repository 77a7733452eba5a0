-- Coins: a coefficient takes four bits, the low half of a byte first.
use Rattle.std.specs.Prelude.{ℕ, ◌-◌, ◌/◌, ◌%◌, List, [], ◌∷◌, ◌++◌, map, take, drop, ℤ, pos, ◌+ℤ◌, ◌-ℤ◌, unsigned_abs}
use Rattle.std.specs.Int.{int_rem_euclid}
use Rattle.algebra.specs.Ring.{Differ, integers}
use Rattle.arithmetic.specs.Digits.{digit, number}
use Rattle.arithmetic.specs.declared.digit.Digit.{Digit}

-- b0 + b1 - b2 - b3, of the four bits of a half byte, b0 the lowest
abbrev pub balance : ℕ → ℤ
balance h = (pos (h % 2) +ℤ pos (h / 2 % 2)) -ℤ pos (h / 4 % 2) -ℤ pos (h / 8 % 2)

-- the digit of a half byte: its balance modulo 3
abbrev pub coin : ℕ → Digit
coin h = digit (unsigned_abs (int_rem_euclid (balance h) (pos 3)))

-- the digit, which is -1, 0 or 1, is the balance of the half byte up to a multiple of 3
pub record ByTheRule (h : ℕ) (d : Digit) : Type 0 where
  pub same_class : Differ integers (pos 3) (number d) (balance h)

-- the halves of the bytes, the low half of each first
abbrev pub halves : List ℕ → List ℕ
halves [] = []
halves (b ∷ bs) = b % 16 ∷ (b / 16 ∷ halves bs)

-- the digits of coins
abbrev pub coin_list : List ℕ → List Digit
coin_list bs = map coin (halves bs)

-- the polynomial that is drawn from coins: a coefficient for each half, and 0 as the last
abbrev pub drawn : List ℕ → List Digit
drawn bs = coin_list bs ++ digit 0 ∷ []

-- the coins of the first of two polynomials of n coefficients, and those of the second
abbrev pub first_half : ℕ → List ℕ → List ℕ
first_half n coins = take ((n - 1) / 2) coins

abbrev pub second_half : ℕ → List ℕ → List ℕ
second_half n coins = drop ((n - 1) / 2) coins
