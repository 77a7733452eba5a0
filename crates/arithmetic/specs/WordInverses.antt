-- Inverses of polynomials of words modulo 2 ^ w and 1 + x + .. + x^(n-1).
use Rattle.std.specs.Prelude.{◌≡◌, ℕ, ◌-◌, ◌*◌, ◌^◌, ◌<◌, ◌≤◌, List, length, Some, None, Option, slice_index, slice_index_or}
use Rattle.algebra.specs.Polynomials.{InverseMod, NoInverseMod}
use Rattle.algebra.specs.Radix.{Under}
use Rattle.arithmetic.specs.Products.{integers_of}
use Rattle.arithmetic.specs.Rows.{raised}

-- what is taken: a width of 1 to 16 bits, 2 to 1408 coefficients, and as many places for the result
pub record Taken (w : ℕ) (f result : List ℕ) : Type 0 where
  pub some : 1 ≤ w
  pub narrow : w ≤ 16
  pub long : 2 ≤ length f
  pub few : length f ≤ 1408
  pub room : length result ≡ length f

-- u is reduced: its words are below 2 ^ w, and coefficient n - 1 is 0
pub record Reduced (w n : ℕ) (u : List ℕ) : Type 0 where
  pub places : length u ≡ n
  pub words : Under (2 ^ w) u
  pub last : slice_index_or u (n - 1) 0 ≡ 0

-- u is the inverse of f, of this degree, and the only reduced one
pub record Inverted (w : ℕ) (f u : List ℕ) (degree : ℕ) : Type 0 where
  pub inverse : InverseMod (2 ^ w) (length f) (integers_of f) (integers_of u)
  pub reduced : Reduced w (length f) u
  pub only : (v : List ℕ) → Reduced w (length f) v → InverseMod (2 ^ w) (length f) (integers_of f) (integers_of v) → v ≡ u
  pub top : slice_index_or u degree 0 ≡ 0 → ⊥
  pub above : (k : ℕ) → degree < k → slice_index u k ≡ 0

-- The answer, the result and the count of rows: none exactly where nothing is taken or no polynomial serves. The inverse takes 8 n rows.
abbrev pub Answered : ℕ → List ℕ → List ℕ → ℕ → Option ℕ → List ℕ → ℕ → Type 0
Answered w f result rows None result' rows' =
    (Taken w f result → NoInverseMod (2 ^ w) (length f) (integers_of f)) × (result' ≡ result) × (rows' ≡ rows)
Answered w f result rows (Some degree) result' rows' = Taken w f result × Inverted w f result' degree × (rows' ≡ raised (8 * length f) rows)
