-- Numerals of lists that are put together or cut.
use Rattle.std.proofs.Common.{◌≡◌, ℕ, ◌+◌, ◌*◌, ◌%◌, ◌^◌, ◌<◌, List, [], ◌∷◌, ◌++◌, length, refl, ap, ◌∙◌, mod-eq_of_lt, mul_comm, arith}
use native.Mathlib.Nat.{mul-add, mul_assoc, pow-zero, pow-succ'}
use Rattle.algebra.specs.Radix.{numeral}

pub numeral_none : (b : ℕ) → 0 ≡ numeral b []
unfolding numeral
numeral_none b = refl

pub numeral_append : (b : ℕ) (xs ys : List ℕ) → numeral b (xs ++ ys) ≡ numeral b xs + b ^ length xs * numeral b ys
unfolding numeral
numeral_append b [] ys = rw pow-zero (omega arith)
numeral_append b (x ∷ xs) ys = rw (numeral_append b xs ys, pow-succ') (omega (arith, mul-add b (numeral b xs) (b ^ length xs * numeral b ys), mul_assoc b (b ^ length xs) (numeral b ys)))

pub numeral_push : (b : ℕ) (xs : List ℕ) (y : ℕ) → y < b → numeral b (xs ++ y ∷ []) ≡ numeral b xs + y * b ^ length xs
unfolding numeral
numeral_push b xs y h =
    let one : y % b + b * 0 ≡ y = ap (λ k. k + b * 0) (mod-eq_of_lt h) ∙ (omega arith) in
    numeral_append b xs (y ∷ []) ∙ ap (λ k. numeral b xs + b ^ length xs * k) one ∙ ap (λ k. numeral b xs + k) (mul_comm (b ^ length xs) y)
