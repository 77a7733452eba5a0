-- The cyclic product, where x^n counts as 1, and reduction modulo 1 + x + .. + x^(n - 1).
use Rattle.std.specs.Prelude.{ℕ, zero, suc, ◌+◌}
use Rattle.algebra.specs.Exact.{Ops}
use Rattle.euclid.specs.Series.{monomial, polynomials, less_last}

module _ {A : Type 0} (o : Ops A) where
  -- the first n coefficients
  abbrev pub cut : ℕ → (ℕ → A) → ℕ → A
  cut zero f k = o.nought
  cut (suc n) f zero = f 0
  cut (suc n) f (suc k) = cut n (λ i. f (suc i)) k

  -- x^n counts as 1, in a polynomial of at most 2 · n coefficients
  abbrev pub wrapped : ℕ → (ℕ → A) → ℕ → A
  wrapped n p = cut n (λ k. o.plus (p k) (p (k + n)))

  -- the product where x^n counts as 1
  abbrev pub cyclic : ℕ → (ℕ → A) → (ℕ → A) → ℕ → A
  cyclic n a b = wrapped n ((polynomials o).times a b)

  -- x - 1
  abbrev pub x_less_one : ℕ → A
  x_less_one = (polynomials o).plus (monomial o o.unit 1) ((polynomials o).minus (polynomials o).unit)

  -- coefficient n - 1 subtracted from all
  abbrev pub reduced : ℕ → (ℕ → A) → ℕ → A
  reduced n c = cut n (less_last o n c)
