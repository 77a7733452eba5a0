-- Products with one power of x, and bounds of degrees.
use Rattle.std.proofs.Common.{◌≡◌, ℕ, zero, suc, ◌+◌, ◌<◌, refl, ap, ◌∙◌, arith}
use mathlib.Core.Path.{fun_ext}
use Rattle.algebra.specs.Exact.{Ops, Laws}
use Rattle.euclid.specs.Series.{product_at, monomial, polynomials, Below}
use Rattle.euclid.proofs.Algebra as algebra
use Rattle.euclid.proofs.Product.{polynomial_laws}

module _ {A : Type 0} {o : Ops A} (L : Laws o) where
  -- a product with the zero polynomial
  pub nought_at : (b : ℕ → A) (n : ℕ) → product_at o (λ k. o.nought) b n ≡ o.nought
  nought_at b n = ap (λ f. f n) (algebra.nought_times (polynomial_laws L) b)

  -- the coefficient of x^m in c · x^j · b, where j + k ≡ m
  pub shifted_at : (c : A) (j : ℕ) (b : ℕ → A) (k m : ℕ) → j + k ≡ m → product_at o (monomial o c j) b m ≡ o.times c (b k)
  shifted_at c zero b k zero e = let z : 0 ≡ k = omega arith in ap (λ i. o.times c (b i)) z
  shifted_at c zero b k (suc m) e =
      let z : suc m ≡ k = omega arith in
      ap (o.plus (o.times c (b (suc m)))) (nought_at b m) ∙ L.plus_nought _ ∙ ap (λ i. o.times c (b i)) z
  shifted_at c (suc j) b k zero e = let z : ⊥ = omega arith in absurd z
  shifted_at c (suc j) b k (suc m) e =
      ap (λ w. o.plus w (product_at o (monomial o c j) b m)) (algebra.nought_times L (b (suc m))) ∙ algebra.nought_plus L _ ∙ shifted_at c j b k m (omega arith)

  pub shifted_below : (c : A) (j : ℕ) (b : ℕ → A) (m : ℕ) → m < j → product_at o (monomial o c j) b m ≡ o.nought
  shifted_below c zero b m h = let z : ⊥ = omega arith in absurd z
  shifted_below c (suc j) b zero h = algebra.nought_times L (b 0)
  shifted_below c (suc j) b (suc m) h =
      ap (λ w. o.plus w (product_at o (monomial o c j) b m)) (algebra.nought_times L (b (suc m))) ∙ algebra.nought_plus L _ ∙ shifted_below c j b m (omega arith)

  times_monomial_at : (c d : A) (j k : ℕ) → o.times c (monomial o d j k) ≡ monomial o (o.times c d) j k
  times_monomial_at c d zero zero = refl
  times_monomial_at c d zero (suc k) = algebra.times_nought L c
  times_monomial_at c d (suc j) zero = algebra.times_nought L c
  times_monomial_at c d (suc j) (suc k) = times_monomial_at c d j k

  monomials_at : (c d : A) (i j m k : ℕ) → i + j ≡ m → product_at o (monomial o c i) (monomial o d j) k ≡ monomial o (o.times c d) m k
  monomials_at c d zero j m k e =
      let z : j ≡ m = omega arith in
      shifted_at c zero (monomial o d j) k k (omega arith) ∙ times_monomial_at c d j k ∙ ap (λ n. monomial o (o.times c d) n k) z
  monomials_at c d (suc i) j zero k e = let z : ⊥ = omega arith in absurd z
  monomials_at c d (suc i) j (suc m) zero e = algebra.nought_times L (monomial o d j 0)
  monomials_at c d (suc i) j (suc m) (suc k) e =
      ap (λ w. o.plus w (product_at o (monomial o c i) (monomial o d j) k)) (algebra.nought_times L _) ∙ algebra.nought_plus L _ ∙ monomials_at c d i j m k (omega arith)

  pub monomials : (c d : A) (i j : ℕ) → (polynomials o).times (monomial o c i) (monomial o d j) ≡ monomial o (o.times c d) (i + j)
  monomials c d i j = fun_ext (λ k. monomials_at c d i j (i + j) k refl)

  monomial_plus_at : (c d : A) (j k : ℕ) → o.plus (monomial o c j k) (monomial o d j k) ≡ monomial o (o.plus c d) j k
  monomial_plus_at c d zero zero = refl
  monomial_plus_at c d zero (suc k) = L.plus_nought o.nought
  monomial_plus_at c d (suc j) zero = L.plus_nought o.nought
  monomial_plus_at c d (suc j) (suc k) = monomial_plus_at c d j k

  pub monomial_nought_at : (j k : ℕ) → monomial o o.nought j k ≡ o.nought
  monomial_nought_at zero zero = refl
  monomial_nought_at zero (suc k) = refl
  monomial_nought_at (suc j) zero = refl
  monomial_nought_at (suc j) (suc k) = monomial_nought_at j k

  pub monomial_minus : (c : A) (j : ℕ) → (polynomials o).plus (monomial o c j) (monomial o (o.minus c) j) ≡ (polynomials o).nought
  monomial_minus c j = fun_ext (λ k. monomial_plus_at c (o.minus c) j k ∙ ap (λ w. monomial o w j k) (L.plus_minus c) ∙ monomial_nought_at j k)

  pub monomial_below : (c : A) (j : ℕ) → Below o (suc j) (monomial o c j)
  monomial_below c j zero h = let z : ⊥ = omega arith in absurd z
  monomial_below c zero (suc k) h = refl
  monomial_below c (suc j) (suc k) h = monomial_below c j k (omega arith)
