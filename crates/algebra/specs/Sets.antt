-- What is used of a set, and what follows.
use Rattle.std.specs.Prelude.{◌≡◌, ℕ, ◌-◌, ◌*◌, ◌%◌, ◌^◌, ◌<◌, ◌≤◌}

-- n is 2 to 1408 and has no factor 2 or 3, the modulus is 2 ^ w with w at most 16, and 128 (n - 1)² < 2 ^ w * 2 ^ w
pub record Set (n w : ℕ) : Type 0 where
  pub long : 2 ≤ n
  pub few : n ≤ 1408
  pub odd : n % 2 ≡ 1
  pub no_three : n % 3 ≡ 0 → ⊥
  pub narrow : w ≤ 16
  pub wide : 128 * ((n - 1) * (n - 1)) < 2 ^ w * 2 ^ w

-- what follows: inverses of n modulo 3 and modulo 2 ^ w, 43691 as a third, and 2 ^ w as an even divisor of 65536
pub record SetFacts (n w : ℕ) : Type 0 where
  pub big : 2 < 2 ^ w
  pub three : n * n % 3 ≡ 1
  pub inverse : ℕ
  pub inverse_is : n * inverse % 2 ^ w ≡ 1
  pub third : 3 * 43691 % 2 ^ w ≡ 1
  pub half : 2 ^ w ≡ 2 * 2 ^ (w - 1)
  pub rest : 2 ^ w * 2 ^ (16 - w) ≡ 65536
