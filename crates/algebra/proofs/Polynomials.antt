-- Integer polynomials up to multiples of k and of 1 + x + .. + x^(n-1).
use Rattle.std.proofs.Common.{◌≡◌, ℕ, suc, ◌-◌, ◌*◌, ◌<◌, ◌≤◌, [], ◌∷◌, ℤ, pos, ◌+ℤ◌, ◌*ℤ◌, neg_ℤ, nat_abs, ◌≤ℤ◌, sym, ◌∙◌, subst, ap₂, arith}
use Rattle.algebra.specs.Ring.{Agree, Differ, integers, sum, ones}
use Rattle.algebra.specs.Ternary.{Ternary, Ternary+}
use Rattle.algebra.specs.Polynomials.{Poly, times, Φ1, scale, plus, less, SameMod, SamePhi, Balanced, InverseMod}
use Rattle.algebra.proofs.Derived.{mul_left, mul_right, mul_o, o_mul}
use Rattle.algebra.proofs.Solver.{x, one, nat, ◌⊞◌, ◌⊠◌, minus, follows}
use Rattle.algebra.proofs.Quotients.{up_to}
use Rattle.algebra.proofs.Integers.{integer_laws, mod_laws, equal_mod, divides_mod, close}
use Rattle.algebra.proofs.Sums.{sum_cong, sum_more, sum_add, sum_neg, sum_mul}
use Rattle.algebra.proofs.Cyclic.{cyclic_laws}
use Rattle.algebra.proofs.Phi.{by_constant, reduced_laws, total_mul, total_phi1_mul}

-- polynomials without coefficient n - 1 that are the same up to multiples of all ones are the same
pub canonical : (k n : ℕ) (u v : Poly) → SamePhi k n u v → u (n - 1) ≡ pos 0 → v (n - 1) ≡ pos 0 → SameMod k n u v
canonical k n u v d p q =
    let c = by_constant (mod_laws k) n d in
    record {
      at = λ i l.
          let z : Differ integers (pos k) (pos 0) (pos 0 +ℤ c.0) = subst (λ y. Differ integers (pos k) (pos 0) (y +ℤ c.0)) q (subst (λ y. Differ integers (pos k) y (v (n - 1) +ℤ c.0)) p (c.1 (n - 1) (omega arith))) in
          follows (mod_laws k) (u i ∷ v i ∷ c.0 ∷ []) (x 0) (x 1) ((one, x 0, x 1 ⊞ x 2) ∷ (minus one, nat 0, nat 0 ⊞ x 2) ∷ []) tt (c.1 i l, (z, tt));
    }

-- equal ones
pub agree_mod : (k n : ℕ) {u v : Poly} → Agree integers n u v → SameMod k n u v
agree_mod k n h = record { at = λ i l. equal_mod k (h.at i l) }

pub mod_phi : (k n : ℕ) {u v : Poly} → SameMod k n u v → SamePhi k n u v
mod_phi k n h = up_to (cyclic_laws (mod_laws k) n) (ones integers) h

-- ternary ones that are the same modulo 3 are equal
pub ternary_equal : (n : ℕ) (u v : Poly) → Ternary n u → Ternary n v → SameMod 3 n u v → Agree integers n u v
ternary_equal n u v s t h = record { at = λ k l. close 3 (u k) (v k) (h.at k l) (omega (arith, s.digit k l, t.digit k l)) }

-- what is equal to a ternary one is ternary
pub ternary_same : (n : ℕ) → 0 < n → {u v : Poly} → Agree integers n u v → Ternary n v → Ternary n u
ternary_same n some a t = record { digit = λ k l. subst (λ z. nat_abs z ≤ 1) (sym (a.at k l)) (t.digit k l); last = a.at (n - 1) (omega arith) ∙ t.last }

pub ternary+_same : (n : ℕ) → 2 ≤ n → {u v : Poly} → Agree integers n u v → Ternary+ n v → Ternary+ n u
ternary+_same n two a t = record {
  ternary = ternary_same n (omega arith) a t.ternary;
  correlates = subst (λ z. pos 0 ≤ℤ z) (sym (sum_cong integer_laws (n - 2) (λ i l. ap₂ ◌*ℤ◌ (a.at i (omega arith)) (a.at (suc i) (omega arith))))) t.correlates;
}

-- modulo what divides m
pub divides_same : (k c m n : ℕ) → k * c ≡ m → {u v : Poly} → SameMod m n u v → SameMod k n u v
divides_same k c m n e d = record { at = λ i l. divides_mod k c m e (d.at i l) }

pub divides_phi : (k c m n : ℕ) → k * c ≡ m → {u v : Poly} → SamePhi m n u v → SamePhi k n u v
divides_phi k c m n e d = record { by = d.by; is = divides_same k c m n e d.is }

-- ---- sums of coefficients
sum_last : (k n : ℕ) → 0 < n → (u : Poly) → Differ integers (pos k) (sum integers n u) (sum integers (n - 1) u +ℤ u (n - 1))
sum_last k n some u =
    let e : suc (n - 1) ≡ n = omega arith in
    subst (λ (m : ℕ). Differ integers (pos k) (sum integers m u) (sum integers (n - 1) u +ℤ u (n - 1))) e (sum_more (mod_laws k) (n - 1) u)

-- the last coefficient is minus the sum of the others
pub balanced_last : (k n : ℕ) → 0 < n → (u : Poly) → Balanced k n u → Differ integers (pos k) (u (n - 1)) (neg_ℤ (sum integers (n - 1) u))
balanced_last k n some u b =
    follows (mod_laws k) (u (n - 1) ∷ sum integers (n - 1) u ∷ sum integers n u ∷ []) (x 0) (minus (x 1))
    ((one, x 2, nat 0) ∷ (minus one, x 2, x 1 ⊞ x 0) ∷ []) tt (b, (sum_last k n some u, tt))

pub last_balanced : (k n : ℕ) → 0 < n → (u : Poly) → Differ integers (pos k) (u (n - 1)) (neg_ℤ (sum integers (n - 1) u)) → Balanced k n u
last_balanced k n some u h =
    follows (mod_laws k) (u (n - 1) ∷ sum integers (n - 1) u ∷ sum integers n u ∷ []) (x 2) (nat 0)
    ((one, x 0, minus (x 1)) ∷ (one, x 2, x 1 ⊞ x 0) ∷ []) tt (h, (sum_last k n some u, tt))

pub balanced_same : (k n : ℕ) {u v : Poly} → SameMod k n u v → Balanced k n v → Balanced k n u
balanced_same k n h b = (mod_laws k).tr (sum_cong (mod_laws k) n h.at) b

pub balanced_times : (k n : ℕ) (u v : Poly) → Balanced k n u → Balanced k n (times n u v)
balanced_times k n u v b = let M = mod_laws k in M.tr (total_mul M n u v) (M.tr (mul_right M (sum integers n v) b) (o_mul M (sum integers n v)))

pub balanced_phi1 : (k n : ℕ) → 0 < n → (u : Poly) → Balanced k n (times n (Φ1 n) u)
balanced_phi1 k n some u = total_phi1_mul (mod_laws k) n some u

pub balanced_scale : (k n : ℕ) (a : ℤ) (u : Poly) → Balanced k n u → Balanced k n (scale a u)
balanced_scale k n a u b = let M = mod_laws k in M.tr (sum_mul M n a u) (M.tr (mul_left M a b) (mul_o M a))

pub balanced_plus : (k n : ℕ) (u v : Poly) → Balanced k n u → Balanced k n v → Balanced k n (plus u v)
balanced_plus k n u v b c = let M = mod_laws k in M.tr (sum_add M n u v) (M.tr (M.add_cong b c) (M.add_o (pos 0)))

pub balanced_less : (k n : ℕ) (u v : Poly) → Balanced k n u → Balanced k n v → Balanced k n (less u v)
balanced_less k n u v b c = let M = mod_laws k in balanced_plus k n u (λ i. neg_ℤ (v i)) b (M.tr (sum_neg M n v) (M.neg_cong c))

-- ---- inverses
pub inverse_same : (k n : ℕ) {f f' u u' : Poly} → SameMod k n f f' → SameMod k n u u' → InverseMod k n f u → InverseMod k n f' u'
inverse_same k n p q i = let P = reduced_laws (mod_laws k) n in P.tr (P.mul_cong (P.sy (mod_phi k n p)) (P.sy (mod_phi k n q))) i

-- the inverse without coefficient n - 1 is unique
pub inverse_only : (q n : ℕ) (f u v : Poly) → InverseMod q n f u → InverseMod q n f v → u (n - 1) ≡ pos 0 → v (n - 1) ≡ pos 0 → SameMod q n u v
inverse_only q n f u v i j p r =
    canonical q n u v (follows (reduced_laws (mod_laws q) n) (f ∷ u ∷ v ∷ []) (x 1) (x 2) ((minus (x 1), x 0 ⊠ x 2, one) ∷ (x 2, x 0 ⊠ x 1, one) ∷ []) tt (j, (i, tt))) p r
