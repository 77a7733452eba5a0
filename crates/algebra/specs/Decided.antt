-- Tests that a program can make of polynomials, and what a test tells.
use Rattle.std.specs.Prelude.{◌≡◌, ℕ, zero, suc, ◌-◌, Bool, true, false, ◌&&◌, pos, ◌==◌, int_le, nat_eq, nat_le, unsigned_abs}
use Rattle.algebra.specs.Ring.{integers, power, reduce}
use Rattle.algebra.specs.Ternary.{correlation}
use Rattle.algebra.specs.Polynomials.{Poly, as_word}

-- b tells whether P holds
pub record Tells (b : Bool) (P : Type 0) : Type 0 where
  pub holds : b ≡ true → P
  pub fails : b ≡ false → P → ⊥

-- a test holds at 0 to n - 1
abbrev pub every : ℕ → (ℕ → Bool) → Bool
every zero p = true
every (suc n) p = every n p && p n

-- u is in T
abbrev pub in_T : ℕ → Poly → Bool
in_T n u = every n (λ k. nat_le (unsigned_abs (u k)) 1) && unsigned_abs (u (n - 1)) == 0

-- u is in T and does not correlate negatively
abbrev pub in_T+ : ℕ → Poly → Bool
in_T+ n u = in_T n u && int_le (pos 0) (correlation n u)

-- u reduces modulo (k, 1 + x + .. + x^(n-1)) to 1
abbrev pub reduces_to_one : (k n : ℕ) → Poly → Bool
reduces_to_one k n u = every n (λ i. nat_eq (as_word k (reduce integers n u i)) (as_word k (power integers 0 i)))
