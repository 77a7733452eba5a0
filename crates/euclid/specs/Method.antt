-- Where Euclid's method stands from step to step, modulo 1 + x + .. + x^(n - 1).
use Rattle.std.specs.Prelude.{◌≡◌, ℕ, ◌+◌, ◌-◌, ◌<◌, ◌≤◌}
use Rattle.algebra.specs.Exact.{Ops}
use Rattle.euclid.specs.Series.{polynomials, Below, Size}
use Rattle.euclid.specs.Inverses.{Finite, phi}

module _ {A : Type 0} (o : Ops A) where
  -- a is a combination of b and c, with these factors
  pub record Combines (a b c t u : ℕ → A) : Type 0 where
    pub is : a ≡ (polynomials o).plus ((polynomials o).times t b) ((polynomials o).times u c)
    pub first : Finite o t
    pub second : Finite o u

  -- Some multiple of s is taken from r, and the same multiple of v from t, which leaves r' and t'.
  pub record Taken (places : ℕ) (r s t v r' t' : ℕ → A) : Type 0 where
    pub quotient : ℕ → A
    pub bound : Below o places quotient
    pub whole : r ≡ (polynomials o).plus ((polynomials o).times quotient s) r'
    pub factor : t' ≡ (polynomials o).plus t ((polynomials o).times ((polynomials o).minus quotient) v)

  -- Where Euclid's method stands that began at phi n and a: at r and s, of m and k coefficients, with the factors t and v of a.
  pub record Reached (n : ℕ) (a r s t v : ℕ → A) (m k : ℕ) : Type 0 where
    pub w₀ : ℕ → A
    pub w₁ : ℕ → A
    pub first : Combines r a (phi o n) t w₀
    pub second : Combines s a (phi o n) v w₁
    pub α : ℕ → A
    pub β : ℕ → A
    pub γ : ℕ → A
    pub δ : ℕ → A
    pub modulus : Combines (phi o n) r s α β
    pub given : Combines a r s γ δ
    pub size : Size o m r
    pub rest : Size o k s
    pub some : 0 < m
    pub most : m ≤ n
    pub falls : k ≤ m
    pub falls_more : k < n → k < m
    pub bound : Below o (n + 1 - m) t
    pub bound_next : Below o (n + 1 - m) v
    pub bound_less : m < n → Below o (n - m) t

  -- Euclid's method has ended at r, of m coefficients, which divides phi n and a, with the factor t of a
  abbrev pub Ended : ℕ → (ℕ → A) → (ℕ → A) → (ℕ → A) → ℕ → Type 0
  Ended n a r t m = (s : ℕ → A) × (v : ℕ → A) × Reached n a r s t v m 0
