-- Polynomials by their coefficients: k ↦ the coefficient of x^k.
use Rattle.std.specs.Prelude.{◌≡◌, ℕ, zero, suc, ◌-◌, ◌≤◌, List, [], ◌∷◌, ◌≢◌}
use Rattle.algebra.specs.Exact.{Ops}

-- the place before k in a cycle of n
abbrev pub before : ℕ → ℕ → ℕ
before n zero = n - 1
before n (suc k) = k

module _ {A : Type 0} (o : Ops A) where
  -- the coefficient of x^k in a product: a 0 · b k + a 1 · b (k - 1) + .. + a k · b 0
  abbrev pub product_at : (ℕ → A) → (ℕ → A) → ℕ → A
  product_at a b zero = o.times (a 0) (b 0)
  product_at a b (suc k) = o.plus (o.times (a 0) (b (suc k))) (product_at (λ i. a (suc i)) b k)

  -- c · x^j
  abbrev pub monomial : A → ℕ → ℕ → A
  monomial c zero zero = c
  monomial c zero (suc k) = o.nought
  monomial c (suc j) zero = o.nought
  monomial c (suc j) (suc k) = monomial c j k

  abbrev pub polynomials : Ops (ℕ → A)
  polynomials = record {
    nought = λ k. o.nought;
    unit = monomial o.unit 0;
    plus = λ a b k. o.plus (a k) (b k);
    times = λ a b. product_at a b;
    minus = λ a k. o.minus (a k);
  }

  -- all coefficients from n on are zero
  abbrev pub Below : ℕ → (ℕ → A) → Type 0
  Below n a = (k : ℕ) → n ≤ k → a k ≡ o.nought

  -- n is one more than the degree, or 0 for the zero polynomial
  pub record Size (n : ℕ) (a : ℕ → A) : Type 0 where
    pub above : Below n a
    pub top : (k : ℕ) → n ≡ suc k → a k ≢ o.nought

  -- the coefficients of (x - 1) · a, where x^n counts as 1
  abbrev pub phi1 : ℕ → (ℕ → A) → ℕ → A
  phi1 n a k = o.plus (a (before n k)) (o.minus (a k))

  -- the coefficients of a, less that of x^(n - 1)
  abbrev pub less_last : ℕ → (ℕ → A) → ℕ → A
  less_last n a k = o.plus (a k) (o.minus (a (n - 1)))

-- the polynomial whose coefficients a list of values holds, lowest first
abbrev pub poly : {X A : Type 0} → Ops A → (X → A) → List X → ℕ → A
poly o value [] k = o.nought
poly o value (x ∷ xs) zero = value x
poly o value (x ∷ xs) (suc k) = poly o value xs k
