-- Polynomials with coefficients -1, 0 and 1, and those among them that do not correlate negatively.
use Rattle.std.specs.Prelude.{◌≡◌, ℕ, suc, ◌-◌, ◌<◌, ◌≤◌, ℤ, pos, ◌*ℤ◌, ◌≤ℤ◌, unsigned_abs}
use Rattle.algebra.specs.Ring.{integers, sum}

-- coefficients -1, 0, 1, and coefficient n - 1 is 0
pub record Ternary (n : ℕ) (u : ℕ → ℤ) : Type 0 where
  pub digit : (k : ℕ) → k < n → unsigned_abs (u k) ≤ 1
  pub last : u (n - 1) ≡ pos 0

-- the sum of v_i v_(i+1), for i from 0 to n - 3
abbrev pub correlation : ℕ → (ℕ → ℤ) → ℤ
correlation n v = sum integers (n - 2) (λ i. v i *ℤ v (suc i))

-- the ternary ones with a correlation of 0 or more
pub record Ternary+ (n : ℕ) (v : ℕ → ℤ) : Type 0 where
  pub ternary : Ternary n v
  pub correlates : pos 0 ≤ℤ correlation n v
