-- What Euclid's method keeps, and what it shows in the end.
use Rattle.std.proofs.Common.{◌≡◌, ℕ, suc, ◌+◌, sym, ap, ◌∙◌, arith}
use Rattle.algebra.specs.Exact.{Ops, Laws}
use Rattle.euclid.specs.Series.{polynomials, Below}
use Rattle.euclid.specs.Inverses.{Finite, Inverse, phi}
use Rattle.euclid.specs.Method.{Combines}
use Rattle.euclid.proofs.Algebra as algebra
use Rattle.euclid.proofs.Product.{polynomial_laws}
use Rattle.euclid.proofs.Degrees.{below_plus, below_minus, below_times, no_unit}

module _ {A : Type 0} {o : Ops A} (L : Laws o) where
  pub finite_plus : (a b : ℕ → A) → Finite o a → Finite o b → Finite o ((polynomials o).plus a b)
  finite_plus a b (m, ha) (n, hb) = (m + n, below_plus L (m + n) a b (λ k h. ha k (omega arith)) (λ k h. hb k (omega arith)))

  pub finite_minus : (a : ℕ → A) → Finite o a → Finite o ((polynomials o).minus a)
  finite_minus a (m, ha) = (m, below_minus L m a ha)

  pub finite_times : (a b : ℕ → A) → Finite o a → Finite o b → Finite o ((polynomials o).times a b)
  finite_times a b (m, ha) (n, hb) = (m + n, below_times L m n a b ha hb)

  -- r + x · s
  pub combine : (b c r s t u v w x : ℕ → A) → Combines o r b c t u → Combines o s b c v w → Finite o x → Combines o ((polynomials o).plus r ((polynomials o).times x s)) b c ((polynomials o).plus t ((polynomials o).times x v)) ((polynomials o).plus u ((polynomials o).times x w))
  combine b c r s t u v w x e f h = record {
    is = algebra.combined (polynomial_laws L) b c r s t u v w x e.is f.is;
    first = finite_plus t _ e.first (finite_times x v h f.first);
    second = finite_plus u _ e.second (finite_times x w h f.second);
  }

  -- r is q · s + z
  pub regroup : (a r s z q t u : ℕ → A) → Combines o a r s t u → r ≡ (polynomials o).plus ((polynomials o).times q s) z → Finite o q → Combines o a s z ((polynomials o).plus ((polynomials o).times t q) u) t
  regroup a r s z q t u e f h = record {
    is = algebra.regrouped (polynomial_laws L) a r s z q t u e.is f;
    first = finite_plus _ u (finite_times t q e.first h) e.second;
    second = e.first;
  }

  -- the remainder, as r + (- q) · s
  pub remainder_is : (r s z q : ℕ → A) → r ≡ (polynomials o).plus ((polynomials o).times q s) z → z ≡ (polynomials o).plus r ((polynomials o).times ((polynomials o).minus q) s)
  remainder_is r s z q e =
      let P = polynomial_laws L in
      algebra.moves P r ((polynomials o).times q s) z e ∙ ap ((polynomials o).plus r) (sym (algebra.minus_times P q s))

  pub found : (n : ℕ) (a r t w y : ℕ → A) → Combines o r a (phi o n) t w → Finite o y → (polynomials o).times y r ≡ (polynomials o).unit → Inverse o n a ((polynomials o).times y t)
  found n a r t w y e hy u =
      (finite_times y t hy e.first, ((polynomials o).minus ((polynomials o).times y w), finite_minus _ (finite_times y w hy e.second), algebra.scaled (polynomial_laws L) a (phi o n) r t w y e.is u))

  pub absent : (n s : ℕ) (a r t v : ℕ → A) (y : A) → a ≡ (polynomials o).times t r → phi o n ≡ (polynomials o).times v r → Finite o t → Finite o v → Below o (suc (suc s)) r → o.times y (r (suc s)) ≡ o.unit → (u : ℕ → A) → Inverse o n a u → ⊥
  absent n s a r t v y ea eb ht hv hr hy u (hu, (w, hw, e)) =
      let f = finite_plus _ _ (finite_times t u ht hu) (finite_minus _ (finite_times w v hw hv)) in
      no_unit L s r y hr hy f.0 _ f.1 (algebra.divides_unit (polynomial_laws L) a (phi o n) r t v u w ea eb e)
