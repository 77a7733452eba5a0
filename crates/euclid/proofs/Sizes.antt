-- Sizes of polynomials.
use Rattle.std.proofs.Common.{◌≡◌, ℕ, suc, ◌-◌, ◌<◌, ◌≤◌, ap, ⊎_elim, arith}
use mathlib.Core.Path.{fun_ext}
use Rattle.std.proofs.lemmas.Bool.{cases_lt}
use Rattle.algebra.specs.Exact.{Ops}
use Rattle.euclid.specs.Series.{polynomials, Below, Size}

module _ {A : Type 0} (o : Ops A) where
  pub below_zero : (a : ℕ → A) → Below o 0 a → a ≡ (polynomials o).nought
  below_zero a b = fun_ext (λ k. b k (omega arith))

  pub size_some : (n : ℕ) (a : ℕ → A) → Size o n a → 0 < n → a ≡ (polynomials o).nought → ⊥
  size_some n a s h e = let f : n ≡ suc (n - 1) = omega arith in s.top (n - 1) f (ap (λ w. w (n - 1)) e)

  pub size_le : (n m : ℕ) (a : ℕ → A) → Size o n a → Below o m a → n ≤ m
  size_le n m a s b =
      ⊎_elim
      (λ (l : m < n). let f : n ≡ suc (n - 1) = omega arith in absurd (s.top (n - 1) f (b (n - 1) (omega arith))))
      (λ (l : n ≤ m). l)
      (cases_lt m n)

  pub size_unique : (m n : ℕ) (a : ℕ → A) → Size o m a → Size o n a → m ≡ n
  size_unique m n a s t = let f = size_le m n a s t.above in let h = size_le n m a t s.above in omega arith
