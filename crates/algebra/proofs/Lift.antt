-- Every m has one s with (x - 1) s = m, modulo 3 and 1 + x + ..
use Rattle.std.proofs.Common.{◌≡◌, ℕ, zero, suc, ◌-◌, ◌%◌, ◌<◌, ◌≤◌, [], ◌∷◌, pos, ◌+ℤ◌, ◌*ℤ◌, neg_ℤ, nat_abs, sym, ◌∙◌, arith, lit<}
use Rattle.algebra.specs.Ring.{Laws, Agree, Differ, integers, sum, times_one, divided}
use Rattle.algebra.specs.Polynomials.{mod_k, Poly, times, Φ1, SameMod}
use Rattle.algebra.specs.Scheme.{Lifts, shift, lifting}
use Rattle.algebra.specs.SchemeTheorems.{Lifting}
use Rattle.algebra.proofs.Derived.{mul_left, add_left}
use Rattle.algebra.proofs.Solver.{x, one, nat, ◌⊞◌, ◌⊠◌, ◌⊟◌, minus, follows}
use Rattle.algebra.proofs.Integers.{mod_laws, equal_mod, close, inverse_of}
use Rattle.algebra.proofs.Naturals.{square_three}
use Rattle.algebra.proofs.Sums.{sum_add, sum_const, sum_more, sum_none}
use Rattle.algebra.proofs.Cyclic.{cyclic_laws}
use Rattle.algebra.proofs.Phi.{reduced_laws, from_constant}
use Rattle.algebra.proofs.Classes.{centre_is, centre_small}
use Rattle.algebra.proofs.Divide.{divided_is, divided_last, divide_unique_phi}
use Rattle.algebra.proofs.Polynomials.{ternary_equal, mod_phi}

module _ (n : ℕ) (m : Poly) (two : 2 ≤ n) (three : n % 3 ≡ 0 → ⊥) where
  M : Laws (mod_k 3)
  M = mod_laws 3

  abbrev y : Poly
  y i = m i +ℤ shift n m

  some_three : 0 < 3
  some_three = lit< tt

  inv : Differ integers (pos 3) (times_one integers n *ℤ pos n) (pos 1)
  inv = inverse_of 3 n n (square_three n three)

  balanced : Differ integers (pos 3) (sum integers n y) (pos 0)
  balanced =
      (mod_laws 3).tr (sum_add (mod_laws 3) n m (λ k. shift n m)) ((mod_laws 3).tr (add_left (mod_laws 3) (sum integers n m) (sum_const (mod_laws 3) n (shift n m)))
      (follows (mod_laws 3) (sum integers n m ∷ times_one integers n ∷ pos n ∷ []) (x 0 ⊞ x 1 ⊠ minus (x 2 ⊠ x 0)) (nat 0) ((minus (x 0), x 1 ⊠ x 2, one) ∷ []) tt (inv, tt)))

  small : (k : ℕ) → nat_abs (lifting n m k) ≤ 1
  small k = omega (arith, centre_small 3 some_three (divided integers y k))

  product : SameMod 3 n (times n (Φ1 n) (lifting n m)) y
  product =
      let C = cyclic_laws (mod_laws 3) n in
      C.tr (mul_left C (Φ1 n) (record { at = λ k l. centre_is 3 some_three (divided integers y k) })) (divided_is (mod_laws 3) n two y balanced)

  is_lift : Lifts n m (lifting n m)
  is_lift = record {
    small = record {
      digit = λ k l. small k;
      last = close 3 (lifting n m (n - 1)) (pos 0) ((mod_laws 3).tr (centre_is 3 some_three (divided integers y (n - 1))) (divided_last (mod_laws 3) n two y balanced)) (omega (arith, small (n - 1)));
    };
    reduces = (reduced_laws (mod_laws 3) n).tr (mod_phi 3 n product) (from_constant (mod_laws 3) n y m (shift n m) (λ k l. (mod_laws 3).rfl (m k +ℤ shift n m)));
  }

  only : (s : Poly) → Lifts n m s → Agree integers n s (lifting n m)
  only s l =
      let P = reduced_laws (mod_laws 3) n in
      ternary_equal n s (lifting n m) l.small is_lift.small
      (divide_unique_phi (mod_laws 3) n two (pos n) inv s (lifting n m) (P.tr l.reduces (P.sy is_lift.reduces))
      (equal_mod 3 (l.small.last ∙ sym is_lift.small.last)))

  steps : (s : Poly) → ((k : ℕ) → k < n → nat_abs (s k) ≤ 1) → Differ integers (pos 3) (s 0) (neg_ℤ (m 0 +ℤ shift n m)) →
      ((k : ℕ) → suc k < n → Differ integers (pos 3) (s (suc k)) (s k +ℤ neg_ℤ (m (suc k) +ℤ shift n m))) → Agree integers n s (lifting n m)
  steps s tiny first more = record { at = λ k l. close 3 (s k) (lifting n m k) ((mod_laws 3).tr (go k l) ((mod_laws 3).sy (centre_is 3 some_three (divided integers y k)))) (omega (arith, tiny k l, small k)) }
    where
      go : (k : ℕ) → k < n → Differ integers (pos 3) (s k) (divided integers y k)
      go zero l = follows (mod_laws 3) (s 0 ∷ y 0 ∷ sum integers 0 y ∷ sum integers 1 y ∷ []) (x 0) (minus (x 3))
          ((one, x 0, minus (x 1)) ∷ (one, x 3, x 2 ⊞ x 1) ∷ (one, x 2, nat 0) ∷ []) tt (first, (sum_more (mod_laws 3) 0 y, (sum_none (mod_laws 3) y, tt)))
      go (suc k) l = follows (mod_laws 3) (s (suc k) ∷ s k ∷ y (suc k) ∷ sum integers (suc k) y ∷ sum integers (suc (suc k)) y ∷ []) (x 0) (minus (x 4))
          ((one, x 0, x 1 ⊟ x 2) ∷ (one, x 1, minus (x 3)) ∷ (one, x 4, x 3 ⊞ x 2) ∷ []) tt (more k l, (go k (omega arith), (sum_more (mod_laws 3) (suc k) y, tt)))

  pub lifting_is : Lifting n m
  lifting_is = record { lifts = is_lift; only = only; steps = steps }
