-- Fronts of lists of coefficients.
use Rattle.std.proofs.Common.{◌≡◌, ℕ, zero, suc, ◌<◌, List, [], ◌∷◌, ◌++◌, take, refl, ap, arith}
use mathlib.Core.Path.{fun_ext}
use Rattle.algebra.specs.Exact.{Ops}
use Rattle.euclid.specs.Series.{poly, polynomials}

module _ {X A : Type 0} (o : Ops A) (value : X → A) where
  -- a front has the coefficients of the whole
  pub poly_front : (xs : List X) (n k : ℕ) → k < n → poly o value (take n xs) k ≡ poly o value xs k
  poly_front xs zero k h = absurd (omega arith)
  poly_front [] (suc n) k h = refl
  poly_front (x ∷ xs) (suc n) zero h = refl
  poly_front (x ∷ xs) (suc n) (suc k) h = poly_front xs n k (omega arith)

  -- zeros at the end of a list
  poly_ended_at : (xs ys : List X) → poly o value ys ≡ (polynomials o).nought → (k : ℕ) → poly o value (xs ++ ys) k ≡ poly o value xs k
  poly_ended_at [] ys z k = ap (λ f. f k) z
  poly_ended_at (x ∷ xs) ys z zero = refl
  poly_ended_at (x ∷ xs) ys z (suc k) = poly_ended_at xs ys z k

  pub poly_ended : (xs ys : List X) → poly o value ys ≡ (polynomials o).nought → poly o value (xs ++ ys) ≡ poly o value xs
  poly_ended xs ys z = fun_ext (λ k. poly_ended_at xs ys z k)
