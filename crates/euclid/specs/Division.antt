-- Division with remainder.
use Rattle.std.specs.Prelude.{◌≡◌, ℕ, ◌<◌, ◌⊎◌}
use Rattle.algebra.specs.Exact.{Ops}
use Rattle.euclid.specs.Series.{polynomials, Size}

module _ {A : Type 0} (o : Ops A) where
  -- q of size m and r of size n are quotient and remainder of a by b
  pub record Divides (a b q r : ℕ → A) (m n : ℕ) : Type 0 where
    pub whole : a ≡ (polynomials o).plus ((polynomials o).times q b) r
    pub quotient : Size o m q
    pub remainder : Size o n r
    pub shorter : (s : ℕ) → Size o s b → n < s

  -- division by the zero polynomial, or a quotient or remainder of fewer places than the dividend
  abbrev pub NoDivision : (ℕ → A) → ℕ → ℕ → ℕ → Type 0
  NoDivision b places quotient remainder = (b ≡ (polynomials o).nought) ⊎ ((quotient < places) ⊎ (remainder < places))
