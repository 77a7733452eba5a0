-- Tests that compute, for examples: each is true only of what it tests.
use Rattle.std.proofs.Common.{◌≡◌, ℕ, zero, suc, ◌+◌, ◌-◌, ◌*◌, ◌/◌, ◌%◌, ◌<◌, Bool, true, ◌&&◌, T, eqb, leb, [], ◌∷◌, ℤ, pos, negsuc, ◌+ℤ◌, ◌*ℤ◌, neg_ℤ, nat_abs, sym, ap, ◌∙◌, subst, arith, eqb→eq, leb→le}
use native.Mathlib.Nat.{mod-add-div}
use native.Mathlib.Decide.{ℕ_discrete}
use Rattle.algebra.specs.Ring.{Differ, integers, sum, reduce}
use Rattle.algebra.specs.Ternary.{Ternary}
use Rattle.algebra.specs.Polynomials.{Poly, SameMod, SamePhi, Balanced, Centred}
use Rattle.algebra.proofs.Solver.{x, one, ◌⊞◌, ◌⊠◌, ◌⊟◌, minus, ring, follows, and_l, and_r}
use Rattle.algebra.proofs.Integers.{integer_laws, mod_laws}
use Rattle.algebra.proofs.Phi.{same_reduce}

abbrev pub all : ℕ → (ℕ → Bool) → Bool
all zero p = true
all (suc n) p = all n p && p n

pub all_is : (n : ℕ) (p : ℕ → Bool) → T (all n p) → (k : ℕ) → k < n → T (p k)
all_is zero p t k l = absurd (omega arith)
all_is (suc n) p t k l = by (ℕ_discrete k n) (λ b. all_is n p (and_l (all n p) (p n) t) k b)
  where
    by : Dec (k ≡ n) → (k < n → T (p k)) → T (p k)
    by (yes e) rest = subst (λ (j : ℕ). T (p j)) (sym e) (and_r (all n p) (p n) t)
    by (no e) rest = rest (omega arith)

-- a multiple of q
abbrev pub multiple : ℕ → ℤ → Bool
multiple q z = eqb (nat_abs z % q) 0

multiple_is : (q : ℕ) (z : ℤ) → T (multiple q z) → (c : ℤ) × (z ≡ pos q *ℤ c)
multiple_is q (pos n) t = (pos (n / q), ap pos (omega (arith, mod-add-div n q, eqb→eq (n % q) 0 t)))
multiple_is q (negsuc n) t = (
  neg_ℤ (pos (suc n / q)),
  let e : suc n ≡ q * (suc n / q) = omega (arith, mod-add-div (suc n) q, eqb→eq (suc n % q) 0 t) in
      ap (λ (m : ℕ). neg_ℤ (pos m)) e ∙ ring integer_laws (pos q ∷ pos (suc n / q) ∷ []) (minus (x 0 ⊠ x 1)) (x 0 ⊠ minus (x 1)) tt,
)

multiple_of : (q : ℕ) (y z : ℤ) → T (multiple q (y +ℤ neg_ℤ z)) → Differ integers (pos q) y z
multiple_of q y z t =
    let c = multiple_is q (y +ℤ neg_ℤ z) t in
    record { by = c.0; is = follows integer_laws (y ∷ z ∷ pos q ∷ c.0 ∷ []) (x 0) (x 1 ⊞ x 2 ⊠ x 3) ((one, x 0 ⊟ x 1, x 2 ⊠ x 3) ∷ []) tt (c.1, tt) }

abbrev pub same_mod : (k n : ℕ) → Poly → Poly → Bool
same_mod k n u v = all n (λ i. multiple k (u i +ℤ neg_ℤ (v i)))

pub same_mod_is : (k n : ℕ) (u v : Poly) → T (same_mod k n u v) → SameMod k n u v
same_mod_is k n u v t = record { at = λ i l. multiple_of k (u i) (v i) (all_is n (λ i. multiple k (u i +ℤ neg_ℤ (v i))) t i l) }

abbrev pub balanced : (k n : ℕ) → Poly → Bool
balanced k n u = multiple k (sum integers n u +ℤ neg_ℤ (pos 0))

pub balanced_is : (k n : ℕ) (u : Poly) → T (balanced k n u) → Balanced k n u
balanced_is k n u t = multiple_of k (sum integers n u) (pos 0) t

abbrev pub same_phi : (k n : ℕ) → Poly → Poly → Bool
same_phi k n u v = same_mod k n (reduce integers n u) (reduce integers n v)

pub same_phi_is : (k n : ℕ) (u v : Poly) → T (same_phi k n u v) → SamePhi k n u v
same_phi_is k n u v t = same_reduce (mod_laws k) n (same_mod_is k n (reduce integers n u) (reduce integers n v) t)

abbrev pub ternary : ℕ → Poly → Bool
ternary n u = all n (λ k. leb (nat_abs (u k)) 1)

pub ternary_is : (n : ℕ) (u : Poly) → u (n - 1) ≡ pos 0 → T (ternary n u) → Ternary n u
ternary_is n u e t = record { digit = λ k l. leb→le (nat_abs (u k)) 1 (all_is n (λ k. leb (nat_abs (u k)) 1) t k l); last = e }

abbrev pub centred : (n q : ℕ) → Poly → Bool
centred n q u = all n (λ k. leb (nat_abs (u k) + nat_abs (u k)) q)

pub centred_is : (n q : ℕ) (u : Poly) → T (centred n q u) → Centred n q u
centred_is n q u t k l = leb→le (nat_abs (u k) + nat_abs (u k)) q (all_is n (λ k. leb (nat_abs (u k) + nat_abs (u k)) q) t k l)
