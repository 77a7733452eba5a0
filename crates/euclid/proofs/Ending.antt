-- What Euclid's method has found where it ends.
use Rattle.std.proofs.Common.{◌≡◌, ℕ, suc, ◌+◌, ◌-◌, ◌<◌, ◌≤◌, sym, refl, ap, ◌∙◌, subst, ⊎_elim, arith}
use Rattle.std.proofs.lemmas.Bool.{cases_lt}
use Rattle.algebra.specs.Exact.{Ops, Laws}
use Rattle.euclid.specs.Series.{monomial, polynomials, Below, Size}
use Rattle.euclid.specs.Inverses.{Congruent, Inverse, Inverted, NoInverse, phi}
use Rattle.euclid.specs.Method.{Ended, Reached}
use Rattle.euclid.proofs.Algebra as algebra
use Rattle.euclid.proofs.Product.{polynomial_laws}
use Rattle.euclid.proofs.Sizes.{below_zero}
use Rattle.euclid.proofs.Method.{reached_none, reached_one, scaled_below, unit_below}
use Rattle.euclid.proofs.Cycles.{inverse_only, reduced_unique}

module _ {A : Type 0} {o : Ops A} (L : Laws o) where
  -- the zero polynomial is no inverse
  pub inverse_some : (n : ℕ) (a u : ℕ → A) → 2 ≤ n → Inverse o n a u → u ≡ (polynomials o).nought → ⊥
  inverse_some n a u h (f, (w, hw, e)) none =
      let P = polynomial_laws L in
      let O = polynomials o in
      let more : n ≡ suc (n - 1) = omega arith in
      let still : O.nought ≡ O.plus O.unit (O.times w (phi o n)) = sym (algebra.times_nought P a) ∙ ap (O.times a) (sym none) ∙ e in
      let congruent : Congruent o (phi o n) O.nought O.unit = (w, hw, still) in
      P.apart (sym (reduced_unique L (n - 1) O.nought O.unit (λ k l. refl) (λ k l. unit_below L k (omega arith)) (subst (λ m. Congruent o (phi o m) O.nought O.unit) more congruent)))

  -- a common divisor that is no constant
  pub ended_none : (n : ℕ) (a r t : ℕ → A) (m : ℕ) (y : A) → 1 < m → o.times (r (m - 1)) y ≡ o.unit → Ended o n a r t m → NoInverse o n a
  ended_none n a r t m y h e (s, v, R) = reached_none L n a r s t v m y h e R

  -- a constant, of the inverse y
  pub ended_one : (n : ℕ) (a r t u : ℕ → A) (m size : ℕ) (y : A) → 2 ≤ n → m ≤ 1 → o.times (r (m - 1)) y ≡ o.unit → Ended o n a r t m → u ≡ (polynomials o).times (monomial o y 0) t → Size o size u → (0 < size) × Inverted o n a u (size - 1)
  ended_one n a r t u m size y h l e (s, v, R) eu z =
      let some = R.some in
      let one : m ≡ 1 = omega arith in
      let first : m - 1 ≡ 0 = omega arith in
      let few : m < n = omega arith in
      let inverse : Inverse o n a u = subst (Inverse o n a) (sym eu) (reached_one L n a r s t v y (ap (λ i. o.times (r i) y) (sym first) ∙ e) (subst (λ k. Reached o n a r s t v k 0) one R)) in
      let reduced : Below o (n - 1) u = subst (Below o (n - 1)) (sym eu) (scaled_below L (n - 1) t y (λ i b. R.bound_less few i (omega arith))) in
      let size_some : 0 < size = ⊎_elim (λ (p : 0 < size). p) (λ (p : size ≤ 0). absurd (inverse_some n a u h inverse (below_zero o u (λ k b. z.above k (omega arith))))) (cases_lt 0 size) in
      let size_is : size ≡ (size - 1) + 1 = omega arith in (
        size_some,
        record {
          inverse = inverse;
          reduced = reduced;
          size = subst (λ k. Size o k u) size_is z;
          only = λ w i b. inverse_only L n a u w (omega arith) inverse i reduced b;
        },
      )
