-- Euclid's method from step to step.
use Rattle.std.proofs.Common.{◌≡◌, ℕ, zero, suc, ◌+◌, ◌-◌, ◌<◌, ◌≤◌, sym, refl, ap, ◌∙◌, subst, subst₂, arith}
use mathlib.Core.Path.{fun_ext}
use Rattle.algebra.specs.Exact.{Ops, Laws}
use Rattle.euclid.specs.Series.{monomial, polynomials, Below, Size}
use Rattle.euclid.specs.Inverses.{Finite, Inverse, NoInverse, phi}
use Rattle.euclid.specs.Method.{Combines, Taken, Reached}
use Rattle.euclid.proofs.Algebra as algebra
use Rattle.euclid.proofs.Product.{polynomial_laws}
use Rattle.euclid.proofs.Degrees.{below_plus, below_minus, below_times_at}
use Rattle.euclid.proofs.Sizes.{below_zero}
use Rattle.euclid.proofs.Monomials.{monomial_below, monomials, shifted_at}
use Rattle.euclid.proofs.Bezout.{absent, combine, found, regroup, remainder_is}

module _ {A : Type 0} {o : Ops A} (L : Laws o) where
  pub phi_below : (n : ℕ) → Below o n (phi o n)
  phi_below zero k h = refl
  phi_below (suc n) zero h = let z : ⊥ = omega arith in absurd z
  phi_below (suc n) (suc k) h = phi_below n k (omega arith)

  pub phi_in : (n k : ℕ) → k < n → phi o n k ≡ o.unit
  phi_in zero k h = let z : ⊥ = omega arith in absurd z
  phi_in (suc n) zero h = refl
  phi_in (suc n) (suc k) h = phi_in n k (omega arith)

  pub phi_size : (n : ℕ) → Size o n (phi o n)
  phi_size n = record {
    above = phi_below n;
    top = λ k e z. L.apart (sym (phi_in n k (omega arith)) ∙ z);
  }

  pub unit_below : Below o 1 (polynomials o).unit
  unit_below zero h = let z : ⊥ = omega arith in absurd z
  unit_below (suc k) h = refl

  nought_below : Below o 0 (polynomials o).nought
  nought_below k h = refl

  pub reached_start : (n : ℕ) (a r t v : ℕ → A) (k : ℕ) → 0 < n → r ≡ phi o n → t ≡ (polynomials o).nought → v ≡ (polynomials o).unit → Size o k a → k ≤ n → Reached o n a r a t v n k
  reached_start n a r t v k pos er et ev s kn =
      let P = polynomial_laws L in
      let F : (ℕ → A) → (ℕ → A) → (ℕ → A) → Type 0 = λ x y z. Reached o n a x a y z n k in
      subst (λ x. F x t v) (sym er) (subst₂ (F (phi o n)) (sym et) (sym ev) (record {
        w₀ = (polynomials o).unit;
        w₁ = (polynomials o).nought;
        first = record { is = algebra.none_all P a (phi o n); first = (0, nought_below); second = (1, unit_below) };
        second = record { is = algebra.all_none P a (phi o n); first = (1, unit_below); second = (0, nought_below) };
        α = (polynomials o).unit;
        β = (polynomials o).nought;
        γ = (polynomials o).nought;
        δ = (polynomials o).unit;
        modulus = record { is = algebra.all_none P (phi o n) a; first = (1, unit_below); second = (0, nought_below) };
        given = record { is = algebra.none_all P (phi o n) a; first = (0, nought_below); second = (1, unit_below) };
        size = phi_size n;
        rest = s;
        some = pos;
        most = omega arith;
        falls = kn;
        falls_more = λ h. h;
        bound = λ i h. refl;
        bound_next = λ i h. unit_below i (omega arith);
        bound_less = λ h. let z : ⊥ = omega arith in absurd z;
      }))

  -- a multiple of s taken from r, and r then the shorter
  pub reached_more : (n : ℕ) (a r s t v r' t' : ℕ → A) (m k k' : ℕ) → 0 < k → Reached o n a r s t v m k → Taken o (m + 1 - k) r s t v r' t' → Size o k' r' → k' < k → Reached o n a s r' v t' k k'
  reached_more n a r s t v r' t' m k k' pos R S z less =
      let q = S.quotient in
      let O = polynomials o in
      let q' = O.minus q in
      let hq : Finite o q = (m + 1 - k, S.bound) in
      let hq' : Finite o q' = (m + 1 - k, below_minus L (m + 1 - k) q S.bound) in
      let falls = R.falls in
      let most = R.most in
      let both : Combines o (O.plus r (O.times q' s)) a (phi o n) (O.plus t (O.times q' v)) (O.plus R.w₀ (O.times q' R.w₁)) =
      combine L a (phi o n) r s t R.w₀ v R.w₁ q' R.first R.second hq' in
      let bounded : Below o (n + 1 - k) (O.plus t (O.times q' v)) =
      below_plus L (n + 1 - k) t (O.times q' v) (λ i h. R.bound i (omega arith)) (λ i h. below_times_at L (m + 1 - k) (n + 1 - m) q' v i hq'.1 R.bound_next (omega arith)) in
      record {
        w₀ = R.w₁;
        w₁ = O.plus R.w₀ (O.times q' R.w₁);
        first = R.second;
        second = subst₂ (λ x y. Combines o x a (phi o n) y (O.plus R.w₀ (O.times q' R.w₁))) (sym (remainder_is L r s r' q S.whole)) (sym S.factor) both;
        α = O.plus (O.times R.α q) R.β;
        β = R.α;
        γ = O.plus (O.times R.γ q) R.δ;
        δ = R.γ;
        modulus = regroup L (phi o n) r s r' q R.α R.β R.modulus S.whole hq;
        given = regroup L a r s r' q R.γ R.δ R.given S.whole hq;
        size = R.rest;
        rest = z;
        some = pos;
        most = omega arith;
        falls = omega arith;
        falls_more = λ h. less;
        bound = λ i h. R.bound_next i (omega arith);
        bound_next = subst (Below o (n + 1 - k)) (sym S.factor) bounded;
        bound_less = λ h i l. let d : k < m = R.falls_more h in R.bound_next i (omega arith);
      }

  -- what is left is a combination with nothing
  alone : (c r s t u : ℕ → A) → Combines o c r s t u → Below o 0 s → c ≡ (polynomials o).times t r
  alone c r s t u e h =
      let P = polynomial_laws L in
      let O = polynomials o in
      e.is ∙ ap (λ w. O.plus (O.times t r) (O.times u w)) (below_zero o s h) ∙ ap (O.plus (O.times t r)) (algebra.times_nought P u) ∙ P.plus_nought (O.times t r)

  -- a common divisor of a degree above 0
  pub reached_none : (n : ℕ) (a r s t v : ℕ → A) (m : ℕ) (y : A) → 1 < m → o.times (r (m - 1)) y ≡ o.unit → Reached o n a r s t v m 0 → NoInverse o n a
  reached_none n a r s t v m y h e R =
      let more : suc (suc (m - 2)) ≡ m = omega arith in
      let less : m - 1 ≡ suc (m - 2) = omega arith in
      absent L n (m - 2) a r R.γ R.α y (alone a r s R.γ R.δ R.given R.rest.above) (alone (phi o n) r s R.α R.β R.modulus R.rest.above) R.given.first R.modulus.first
      (λ k l. R.size.above k (omega arith))
      (L.times_comm y (r (suc (m - 2))) ∙ ap (λ i. o.times (r i) y) (sym less) ∙ e)

  constant : (r : ℕ → A) → Below o 1 r → r ≡ monomial o (r 0) 0
  constant r h = fun_ext go
    where
      go : (k : ℕ) → r k ≡ monomial o (r 0) 0 k
      go zero = refl
      go (suc k) = h (suc k) (omega arith)

  -- a common divisor that is a constant, with the inverse y
  pub reached_one : (n : ℕ) (a r s t v : ℕ → A) (y : A) → o.times (r 0) y ≡ o.unit → Reached o n a r s t v 1 0 → Inverse o n a ((polynomials o).times (monomial o y 0) t)
  reached_one n a r s t v y e R =
      let O = polynomials o in
      let Y = monomial o y 0 in
      let one : O.times Y r ≡ O.unit = ap (O.times Y) (constant r R.size.above) ∙ monomials L y (r 0) 0 0 ∙ ap (λ c. monomial o c 0) (L.times_comm y (r 0) ∙ e) in
      found L n a r t R.w₀ Y R.first (1, monomial_below L y 0) one

  pub scaled_below : (n : ℕ) (t : ℕ → A) (y : A) → Below o n t → Below o n ((polynomials o).times (monomial o y 0) t)
  scaled_below n t y h k l = shifted_at L y 0 t k k (omega arith) ∙ ap (o.times y) (h k l) ∙ algebra.times_nought L y
