-- Steps of the loops over coefficients.
use Rattle.std.proofs.Common.{◌≡◌, ℕ, ◌+◌, ◌<◌, List, length, take, set, sym, ap, ◌∙◌, ⊎_elim, arith}
use Rattle.std.proofs.lemmas.Bool.{cases_eq}
use Rattle.algebra.specs.Exact.{Ops, Laws}
use Rattle.euclid.specs.Series.{monomial, polynomials, poly}
use Rattle.euclid.proofs.Algebra as algebra
use Rattle.euclid.proofs.Product.{polynomial_laws}
use Rattle.euclid.proofs.Monomials.{monomials}
use Rattle.euclid.proofs.Lists.{poly_set, poly_set_same, poly_set_other, poly_take_more}

module _ {X A : Type 0} {o : Ops A} (L : Laws o) (value : X → A) where
  -- one more coefficient written
  pub written_more : (F : ℕ → A) (xs : List X) (i : ℕ) (y : X) → i < length xs → value y ≡ F i → ((k : ℕ) → k < i → poly o value xs k ≡ F k) → (k : ℕ) → k < i + 1 → poly o value (set xs i y) k ≡ F k
  written_more F xs i y h e below k l =
      ⊎_elim
      (λ (s : k ≡ i). ap (poly o value (set xs i y)) s ∙ poly_set_same L value xs i y h ∙ e ∙ ap F (sym s))
      (λ (s : k ≡ i → ⊥). poly_set_other L value xs i k y s ∙ below k (less s))
      (cases_eq k i)
    where
      less : (k ≡ i → ⊥) → k < i
      less s = omega arith

  -- one more coefficient of d, times c · x^shift, added
  pub shifted_more : (r₀ r d : List X) (c : A) (y : X) (shift i : ℕ) → shift + i < length r → value y ≡ o.plus (poly o value r (shift + i)) (o.times c (poly o value d i)) → poly o value r ≡ (polynomials o).plus (poly o value r₀) ((polynomials o).times (monomial o c shift) (poly o value (take i d))) → poly o value (set r (shift + i) y) ≡ (polynomials o).plus (poly o value r₀) ((polynomials o).times (monomial o c shift) (poly o value (take (i + 1) d)))
  shifted_more r₀ r d c y shift i h e inv =
      let P = polynomial_laws L in
      let x : A = poly o value d i in
      poly_set L value r (shift + i) y (o.times c x) h e
      ∙ ap (λ f. (polynomials o).plus f (monomial o (o.times c x) (shift + i))) inv
      ∙ P.plus_assoc _ _ _
      ∙ ap ((polynomials o).plus (poly o value r₀)) (ap ((polynomials o).plus _) (sym (monomials L c x shift i)) ∙ sym (P.times_plus (monomial o c shift) (poly o value (take i d)) (monomial o x i)) ∙ ap ((polynomials o).times (monomial o c shift)) (sym (poly_take_more L value d i)))

  pub shifted_none : (r₀ d : List X) (c : A) (shift : ℕ) → poly o value r₀ ≡ (polynomials o).plus (poly o value r₀) ((polynomials o).times (monomial o c shift) (poly o value (take 0 d)))
  shifted_none r₀ d c shift =
      let P = polynomial_laws L in
      sym (ap ((polynomials o).plus (poly o value r₀)) (algebra.times_nought P (monomial o c shift)) ∙ P.plus_nought _)
