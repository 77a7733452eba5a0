-- Sums of small numbers.
use Rattle.std.proofs.Common.{◌≡◌, ℕ, zero, suc, ◌+◌, ◌-◌, ◌*◌, ◌<◌, ◌≤◌, ◌⊎◌, sym, ap, ◌∙◌, subst, inl, inr, mul-zero, zero-mul, arith}
use native.Mathlib.Decide.{ℕ_discrete}
use Rattle.algebra.specs.Ring.{sum_by, conv_by, back}
use Rattle.algebra.proofs.Indices.{back_lt, back_back}

-- each at most 4
sum_at_most : (n : ℕ) (f : ℕ → ℕ) → ((j : ℕ) → j < n → f j ≤ 4) → sum_by 0 ◌+◌ n f ≤ 4 * n
unfolding sum_by
sum_at_most zero f h = omega arith
sum_at_most (suc n) f h = omega (arith, sum_at_most n f (λ j l. h j (omega arith)), h n (omega arith))

-- and one of them 0
sum_but_one : (n i : ℕ) (f : ℕ → ℕ) → i < n → f i ≡ 0 → ((j : ℕ) → j < n → f j ≤ 4) → sum_by 0 ◌+◌ n f + 4 ≤ 4 * n
unfolding sum_by
sum_but_one zero i f l z h = absurd (omega arith)
sum_but_one (suc n) i f l z h = by (ℕ_discrete n i) (λ m. sum_but_one n i f m z (λ j m. h j (omega arith)))
  where
    by : Dec (n ≡ i) → (i < n → sum_by 0 ◌+◌ n f + 4 ≤ 4 * n) → (sum_by 0 ◌+◌ n f + f n) + 4 ≤ 4 * suc n
    by (yes p) rest = let z' : f n ≡ 0 = subst (λ (y : ℕ). f y ≡ 0) (sym p) z in omega (arith, sum_at_most n f (λ j m. h j (omega arith)))
    by (no p) rest = omega (arith, rest (omega arith), h n (omega arith))

small_times : (a b : ℕ) → a < 3 → b < 3 → a * b ≤ 4
small_times zero b h k = omega arith
small_times (suc zero) b h k = omega arith
small_times (suc (suc zero)) b h k = omega arith
small_times (suc (suc (suc a))) b h k = absurd (omega arith)

-- the coefficients of a product of polynomials with coefficients 0, 1, 2, one of them without coefficient n - 1
pub ternary_sums : (n : ℕ) (u v : ℕ → ℕ) (k : ℕ) → k < n → ((j : ℕ) → j < n → u j < 3) → ((j : ℕ) → j < n → v j < 3) →
    (u (n - 1) ≡ 0) ⊎ (v (n - 1) ≡ 0) → conv_by 0 ◌+◌ ◌*◌ n u v k ≤ 4 * (n - 1)
unfolding conv_by
ternary_sums n u v k l p q last = by last
  where
    terms : (j : ℕ) → j < n → u j * v (back n k j) ≤ 4
    terms j m = small_times (u j) (v (back n k j)) (p j m) (q (back n k j) (back_lt n k j m))

    bound : (i : ℕ) → i < n → u i * v (back n k i) ≡ 0 → sum_by 0 ◌+◌ n (λ j. u j * v (back n k j)) ≤ 4 * (n - 1)
    bound i m z = omega (arith, sum_but_one n i (λ j. u j * v (back n k j)) m z terms)

    by : (u (n - 1) ≡ 0) ⊎ (v (n - 1) ≡ 0) → sum_by 0 ◌+◌ n (λ j. u j * v (back n k j)) ≤ 4 * (n - 1)
    by (inl z) = bound (n - 1) (omega arith) (ap (λ y. y * v (back n k (n - 1))) z ∙ zero-mul (v (back n k (n - 1))))
    by (inr z) =
        let i = back n k (n - 1) in
        let e : v (back n k i) ≡ 0 = subst (λ (y : ℕ). v y ≡ 0) (sym (back_back n k (n - 1) l (omega arith))) z in
        bound i (back_lt n k (n - 1) (omega arith)) (ap (λ y. u i * y) e ∙ mul-zero (u i))
