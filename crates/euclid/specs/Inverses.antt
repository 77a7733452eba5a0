-- Inverses modulo 1 + x + .. + x^(n - 1).
use Rattle.std.specs.Prelude.{◌≡◌, ℕ, zero, suc, ◌+◌, ◌-◌, ◌≤◌}
use Rattle.algebra.specs.Exact.{Ops}
use Rattle.euclid.specs.Series.{polynomials, Below, Size}

module _ {A : Type 0} (o : Ops A) where
  -- 1 + x + .. + x^(n - 1)
  abbrev pub phi : ℕ → ℕ → A
  phi zero k = o.nought
  phi (suc n) zero = o.unit
  phi (suc n) (suc k) = phi n k

  -- finitely many coefficients that are not zero
  abbrev pub Finite : (ℕ → A) → Type 0
  Finite a = (n : ℕ) × Below o n a

  -- a is b up to a multiple of m
  abbrev pub Congruent : (ℕ → A) → (ℕ → A) → (ℕ → A) → Type 0
  Congruent m a b = (w : ℕ → A) × Finite w × (a ≡ (polynomials o).plus b ((polynomials o).times w m))

  -- u is an inverse of a modulo phi n
  abbrev pub Inverse : ℕ → (ℕ → A) → (ℕ → A) → Type 0
  Inverse n a u = Finite u × Congruent (phi n) ((polynomials o).times a u) (polynomials o).unit

  -- u, of this degree, is the inverse of a modulo phi n, and the only one of fewer than n coefficients
  pub record Inverted (n : ℕ) (a u : ℕ → A) (degree : ℕ) : Type 0 where
    pub inverse : Inverse n a u
    pub reduced : Below o (n - 1) u
    pub size : Size o (degree + 1) u
    pub only : (w : ℕ → A) → Inverse n a w → Below o (n - 1) w → w ≡ u

  -- no polynomial is an inverse of a modulo phi n
  abbrev pub NoInverse : ℕ → (ℕ → A) → Type 0
  NoInverse n a = (u : ℕ → A) → Inverse n a u → ⊥

-- five lists of n elements, and n at least 2
abbrev pub Suited : ℕ → ℕ → ℕ → ℕ → ℕ → ℕ → Type 0
Suited n a b c d e = (2 ≤ n) × (a ≡ n) × (b ≡ n) × (c ≡ n) × (d ≡ n) × (e ≡ n)
