-- Places counted round n.
use Rattle.std.proofs.Common.{◌≡◌, ℕ, suc, ◌+◌, ◌-◌, ◌%◌, ◌<◌, ◌≤◌, ◌⊎◌, ap, ◌∙◌, inl, inr, mod-lt, mod-eq_of_lt, arith}
use native.Mathlib.Nat.{mod-eq-sub-mod}
use native.Mathlib.Decide.{dec_lt}
use Rattle.algebra.specs.Ring.{back}

-- below 2n, the remainder is the number or n less
pub mod_two : (n a : ℕ) → a < n + n → ((a % n ≡ a) × (a < n)) ⊎ ((a % n + n ≡ a) × (n ≤ a))
mod_two n a h = by (dec_lt a n)
  where
    by : Dec (a < n) → ((a % n ≡ a) × (a < n)) ⊎ ((a % n + n ≡ a) × (n ≤ a))
    by (yes l) = inl (mod-eq_of_lt l, l)
    by (no l) =
        let le : n ≤ a = omega arith in
        let lt : a - n < n = omega arith in
        let e : a % n ≡ a - n = mod-eq-sub-mod le ∙ mod-eq_of_lt lt in
        inr (omega arith, le)

module _ (n : ℕ) where
  pub back_lt : (k j : ℕ) → j < n → back n k j < n
  back_lt k j l = mod-lt (k + (n - j)) (omega arith)

  pub back_same : (k : ℕ) → k < n → back n k k ≡ 0
  back_same k l = omega (arith, mod_two n (k + (n - k)) (omega arith))

  pub back_zero : (k j : ℕ) → k < n → j < n → back n k j ≡ 0 → j ≡ k
  back_zero k j l m z = omega (arith, mod_two n (k + (n - j)) (omega arith))

  pub back_none : (k : ℕ) → k < n → back n k 0 ≡ k
  back_none k l = omega (arith, mod_two n (k + (n - 0)) (omega arith))

  pub back_back : (k j : ℕ) → k < n → j < n → back n k (back n k j) ≡ j
  back_back k j l m = omega (arith, mod_two n (k + (n - j)) (omega arith), mod_two n (k + (n - back n k j)) (omega (arith, back_lt k j m)), back_lt k j m)

  pub round_back : (i j : ℕ) → i < n → j < n → back n ((i + j) % n) j ≡ i
  round_back i j l m =
      let r : (i + j) % n < n = mod-lt (i + j) (omega arith) in
      omega (arith, mod_two n (i + j) (omega arith), mod_two n ((i + j) % n + (n - j)) (omega arith))

  pub back_round : (k i j : ℕ) → k < n → i < n → j < n → back n k ((i + j) % n) ≡ back n (back n k j) i
  back_round k i j l m p =
      let r : (i + j) % n < n = mod-lt (i + j) (omega arith) in
      let s : back n k j < n = back_lt k j p in
      omega (
        arith,
        mod_two n (i + j) (omega arith),
        mod_two n (k + (n - (i + j) % n)) (omega arith),
        mod_two n (k + (n - j)) (omega arith),
        mod_two n (back n k j + (n - i)) (omega arith),
      )

  pub back_early : (k j : ℕ) → k < n → j ≤ k → back n k j ≡ k - j
  back_early k j l m = omega (arith, mod_two n (k + (n - j)) (omega arith))

  pub back_late : (k j : ℕ) → k < j → j < n → back n k j ≡ n - (j - k)
  back_late k j l m = omega (arith, mod_two n (k + (n - j)) (omega arith))

  -- one place back
  pub back_first : 2 ≤ n → back n 0 (1 % n) ≡ n - 1
  back_first two = ap (back n 0) (mod-eq_of_lt two) ∙ omega (arith, mod_two n (0 + (n - 1)) (omega arith))

  pub back_next : 2 ≤ n → (k : ℕ) → suc k < n → back n (suc k) (1 % n) ≡ k
  back_next two k l = ap (back n (suc k)) (mod-eq_of_lt two) ∙ omega (arith, mod_two n (suc k + (n - 1)) (omega arith))
