-- To flip the signs of the even-numbered coefficients negates the correlation.
use Rattle.std.proofs.Common.{◌≡◌, ℕ, suc, ◌-◌, ◌%◌, ◌≤◌, Bool, true, false, cond, eqb, [], ◌∷◌, ℤ, pos, negsuc, ◌*ℤ◌, neg_ℤ, nat_abs, ◌≤ℤ◌, sym, refl, ap, ◌∙◌, subst, ap₂, arith}
use native.Mathlib.Decide.{ℕ_discrete}
use borrow.Author.Differences.{ints}
use Rattle.algebra.specs.Ternary.{Ternary, correlation}
use Rattle.algebra.specs.Polynomials.{Poly}
use Rattle.algebra.specs.Scheme.{flip}
use Rattle.algebra.specs.SchemeTheorems.{Flipped}
use Rattle.algebra.proofs.Solver.{x, ◌⊠◌, minus, ring}
use Rattle.algebra.proofs.Integers.{integer_laws}
use Rattle.algebra.proofs.Sums.{sum_cong, sum_neg}

flip_even : (v : Poly) (k : ℕ) → k % 2 ≡ 0 → flip v k ≡ neg_ℤ (v k)
flip_even v k p = ap (λ (r : ℕ). cond (eqb r 0) (neg_ℤ (v k)) (v k)) p

flip_odd : (v : Poly) (k : ℕ) → k % 2 ≡ 1 → flip v k ≡ v k
flip_odd v k p = ap (λ (r : ℕ). cond (eqb r 0) (neg_ℤ (v k)) (v k)) p

abs_neg : (z : ℤ) → nat_abs (neg_ℤ z) ≡ nat_abs z
abs_neg z = omega (arith, ints)

flip_size : (v : Poly) (k : ℕ) → nat_abs (flip v k) ≡ nat_abs (v k)
flip_size v k = by (eqb (k % 2) 0)
  where
    by : (t : Bool) → nat_abs (cond t (neg_ℤ (v k)) (v k)) ≡ nat_abs (v k)
    by true = abs_neg (v k)
    by false = refl

neighbours : (v : Poly) (k : ℕ) → flip v k *ℤ flip v (suc k) ≡ neg_ℤ (v k *ℤ v (suc k))
neighbours v k = by (ℕ_discrete (k % 2) 0)
  where
    by : Dec (k % 2 ≡ 0) → flip v k *ℤ flip v (suc k) ≡ neg_ℤ (v k *ℤ v (suc k))
    by (yes p) =
        let r : suc k % 2 ≡ 1 = omega arith in
        ap₂ ◌*ℤ◌ (flip_even v k p) (flip_odd v (suc k) r) ∙ ring integer_laws (v k ∷ v (suc k) ∷ []) (minus (x 0) ⊠ x 1) (minus (x 0 ⊠ x 1)) tt
    by (no p) =
        let s : k % 2 ≡ 1 = omega arith in
        let r : suc k % 2 ≡ 0 = omega arith in
        ap₂ ◌*ℤ◌ (flip_odd v k s) (flip_even v (suc k) r) ∙ ring integer_laws (v k ∷ v (suc k) ∷ []) (x 0 ⊠ minus (x 1)) (minus (x 0 ⊠ x 1)) tt

pub flipped_is : (n : ℕ) (v : Poly) → Flipped n v
flipped_is n v = record { negates = negates; ternary = ternary; correlates = λ t less. record { ternary = ternary t; correlates = subst (λ z. pos 0 ≤ℤ z) (sym negates) (turned (correlation n v) less) } }
  where
    negates : correlation n (flip v) ≡ neg_ℤ (correlation n v)
    negates = sum_cong integer_laws (n - 2) (λ i l. neighbours v i) ∙ sum_neg integer_laws (n - 2) (λ i. v i *ℤ v (suc i))

    ternary : Ternary n v → Ternary n (flip v)
    ternary t = record { digit = λ k l. subst (λ (a : ℕ). a ≤ 1) (sym (flip_size v k)) (t.digit k l); last = zero_size (flip v (n - 1)) (flip_size v (n - 1) ∙ ap nat_abs t.last) }
      where
        zero_size : (z : ℤ) → nat_abs z ≡ 0 → z ≡ pos 0
        zero_size z e = omega (arith, ints)

    turned : (z : ℤ) → (pos 0 ≤ℤ z → ⊥) → pos 0 ≤ℤ neg_ℤ z
    turned (pos a) less = absurd (less (omega (arith, ints)))
    turned (negsuc a) less = omega (arith, ints)
