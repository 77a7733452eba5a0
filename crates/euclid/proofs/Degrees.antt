-- Bounds of degrees under the operations.
use Rattle.std.proofs.Common.{◌≡◌, ℕ, zero, suc, ◌+◌, ◌≤◌, sym, ap, ◌∙◌, ap₂, ⊎_elim, arith}
use Rattle.std.proofs.lemmas.Bool.{cases_eq}
use Rattle.algebra.specs.Exact.{Ops, Laws}
use Rattle.euclid.specs.Series.{product_at, polynomials, Below}
use Rattle.euclid.proofs.Algebra as algebra
use Rattle.euclid.proofs.Product.{polynomial_laws}
use Rattle.euclid.proofs.Monomials.{nought_at}
use Rattle.euclid.proofs.Sizes.{below_zero}

module _ {A : Type 0} {o : Ops A} (L : Laws o) where
  pub below_plus : (n : ℕ) (a b : ℕ → A) → Below o n a → Below o n b → Below o n ((polynomials o).plus a b)
  below_plus n a b ha hb k h = ap₂ o.plus (ha k h) (hb k h) ∙ L.plus_nought o.nought

  pub below_minus : (n : ℕ) (a : ℕ → A) → Below o n a → Below o n ((polynomials o).minus a)
  below_minus n a ha k h = ap o.minus (ha k h) ∙ algebra.minus_nought L

  pub below_times_at : (m n : ℕ) (a b : ℕ → A) (k : ℕ) → Below o m a → Below o n b → m + n ≤ k + 1 → product_at o a b k ≡ o.nought
  below_times_at zero n a b k ha hb h = ap (λ f. product_at o f b k) (below_zero o a ha) ∙ nought_at L b k
  below_times_at (suc m) n a b zero ha hb h = ap (o.times (a 0)) (hb 0 (omega arith)) ∙ algebra.times_nought L (a 0)
  below_times_at (suc m) n a b (suc k) ha hb h =
      ap₂ o.plus (ap (o.times (a 0)) (hb (suc k) (omega arith)) ∙ algebra.times_nought L (a 0)) (below_times_at m n (λ i. a (suc i)) b k (λ i l. ha (suc i) (omega arith)) hb (omega arith))
      ∙ L.plus_nought o.nought

  pub below_times : (m n : ℕ) (a b : ℕ → A) → Below o m a → Below o n b → Below o (m + n) ((polynomials o).times a b)
  below_times m n a b ha hb k h = below_times_at m n a b k ha hb (omega arith)

  -- the highest coefficient of a product
  pub top_times : (m n : ℕ) (a b : ℕ → A) (k : ℕ) → m + n ≡ k → Below o (suc m) a → Below o (suc n) b → product_at o a b k ≡ o.times (a m) (b n)
  top_times zero n a b zero e ha hb = let z : 0 ≡ n = omega arith in ap (λ i. o.times (a 0) (b i)) z
  top_times zero n a b (suc k) e ha hb =
      let z : suc k ≡ n = omega arith in
      let none : product_at o (λ i. a (suc i)) b k ≡ o.nought = ap (λ f. product_at o f b k) (below_zero o (λ i. a (suc i)) (λ i l. ha (suc i) (omega arith))) ∙ nought_at L b k in
      ap (o.plus (o.times (a 0) (b (suc k)))) none ∙ L.plus_nought _ ∙ ap (λ i. o.times (a 0) (b i)) z
  top_times (suc m) n a b zero e ha hb = let z : ⊥ = omega arith in absurd z
  top_times (suc m) n a b (suc k) e ha hb =
      ap₂ o.plus (ap (o.times (a 0)) (hb (suc k) (omega arith)) ∙ algebra.times_nought L (a 0)) (top_times m n (λ i. a (suc i)) b k (omega arith) (λ i l. ha (suc i) (omega arith)) hb)
      ∙ algebra.nought_plus L _

  -- what has a degree above 0, and a highest coefficient with an inverse y, divides no unit
  pub no_unit : (s : ℕ) (g : ℕ → A) (y : A) → Below o (suc (suc s)) g → o.times y (g (suc s)) ≡ o.unit → (m : ℕ) (v : ℕ → A) → Below o m v → (polynomials o).times g v ≡ (polynomials o).unit → ⊥
  no_unit s g y hg hy zero v hv e =
      let P = polynomial_laws L in
      P.apart (sym e ∙ ap ((polynomials o).times g) (below_zero o v hv) ∙ algebra.times_nought P g)
  no_unit s g y hg hy (suc m) v hv e =
      let top : o.times (g (suc s)) (v m) ≡ o.nought = sym (top_times (suc s) m g v (suc (s + m)) (omega arith) hg hv) ∙ ap (λ f. f (suc (s + m))) e in
      let none : v m ≡ o.nought = sym (algebra.unit_times L (v m)) ∙ ap (λ w. o.times w (v m)) (sym hy) ∙ L.times_assoc y (g (suc s)) (v m) ∙ ap (o.times y) top ∙ algebra.times_nought L y in
      no_unit s g y hg hy m v
      (λ k l. ⊎_elim (λ (q : k ≡ m). ap v q ∙ none) (λ (q : k ≡ m → ⊥). let l' : suc m ≤ k = omega arith in hv k l') (cases_eq k m))
      e
