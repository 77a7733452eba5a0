-- The key equation: its one candidate, what making computes, and the tests of a card.
use Rattle.std.proofs.Common.{◌≡◌, ℕ, suc, ◌*◌, ◌/◌, ◌%◌, ◌<◌, ◌≤◌, [], ◌∷◌, pos, ◌*ℤ◌, ap, arith}
use native.Mathlib.Nat.{mod-add-div}
use Rattle.algebra.specs.Ring.{Agree, Differ, integers, power, ones, scalar, divided}
use Rattle.algebra.specs.Ternary.{Ternary, Ternary+}
use Rattle.algebra.specs.Polynomials.{Poly, times, Φ1, scale, SameMod, Balanced, InverseMod}
use Rattle.algebra.specs.Scheme.{Key, candidate, Equation}
use Rattle.algebra.specs.SchemeTheorems.{Candidate, Made, KeyTested}
use Rattle.algebra.proofs.Derived.{mul_left}
use Rattle.algebra.proofs.Solver.{x, one, nat, ◌⊞◌, ◌⊠◌, minus, follows}
use Rattle.algebra.proofs.Integers.{integer_laws, mod_laws, equal_mod, close}
use Rattle.algebra.proofs.Sums.{sum_cong}
use Rattle.algebra.proofs.Cyclic.{cyclic_laws, scale_is}
use Rattle.algebra.proofs.Phi.{phi1_ones}
use Rattle.algebra.proofs.Classes.{centre_is, centre_small, centre_same}
use Rattle.algebra.proofs.Divide.{divided_is, quotient_is}
use Rattle.algebra.proofs.Polynomials.{balanced_same, balanced_times, balanced_phi1, balanced_scale, ternary+_same}

-- sums of polynomials that are the same modulo q
pub sum_class : (q n : ℕ) (u v : Poly) → SameMod q n u v → (k : ℕ) → k < n → Differ integers (pos q) (divided integers u k) (divided integers v k)
sum_class q n u v h k l = (mod_laws q).neg_cong (sum_cong (mod_laws q) (suc k) (λ i b. h.at i (omega arith)))

module _ (n q t : ℕ) (h f : Poly) (two : 2 ≤ n) (big : 2 < q) (third : 3 * t % q ≡ 1) (hs : Balanced q n h) where
  abbrev d : Poly
  d = times n h f

  abbrev c : Poly
  c = candidate q t (times n h f)

  some : 0 < q
  some = omega arith

  inv : Differ integers (pos q) (pos 3 *ℤ pos t) (pos 1)
  inv = record { by = pos (3 * t / q); is = ap pos (omega (arith, mod-add-div (3 * t) q)) }

  c_is : SameMod q n c (times n (scalar integers (pos t)) (divided integers d))
  c_is = let C = cyclic_laws (mod_laws q) n in C.tr (record { at = λ k l. centre_is q some (pos t *ℤ divided integers d k) }) (C.sy (scale_is (mod_laws q) n (pos t) (divided integers d)))

  scalars : SameMod q n (times n (scalar integers (pos 3)) (scalar integers (pos t))) (power integers 0)
  scalars =
      let M = mod_laws q in
      record {
        at = λ k l. M.tr ((scale_is M n (pos 3) (scalar integers (pos t))).at k l)
            (follows M (pos 3 ∷ pos t ∷ power integers 0 k ∷ []) (x 0 ⊠ (x 1 ⊠ x 2)) (x 2) ((x 2, x 0 ⊠ x 1, one) ∷ []) tt (inv, tt));
      }

  solves : Equation n q h f c
  solves =
      let C = cyclic_laws (mod_laws q) n in
      C.tr
      (follows C (Φ1 n ∷ scalar integers (pos 3) ∷ scalar integers (pos t) ∷ divided integers d ∷ d ∷ c ∷ []) (x 4) (x 1 ⊠ (x 0 ⊠ x 5))
      ((minus (x 1 ⊠ x 0), x 5, x 2 ⊠ x 3) ∷ (minus one, x 0 ⊠ x 3, x 4) ∷ (minus (x 0 ⊠ x 3), x 1 ⊠ x 2, one) ∷ []) tt
      (c_is, (divided_is (mod_laws q) n two d (balanced_times q n h f hs), (scalars, tt))))
      (scale_is (mod_laws q) n (pos 3) (times n (Φ1 n) c))

  only : (g : Poly) → Ternary n g → Equation n q h f g → Agree integers n g c
  only g tg e =
      let M = mod_laws q in
      let a = quotient_is M n two (pos 3) (pos t) inv g d (equal_mod q tg.last) e in
      record {
        at = λ k l. close q (g k) (c k) (M.tr (a.at k l) (M.sy (centre_is q some (pos t *ℤ divided integers d k))))
            (omega (arith, tg.digit k l, centre_small q some (pos t *ℤ divided integers d k)));
      }

  of_class : (u : Poly) → SameMod q n u d → Agree integers n (candidate q t u) c
  of_class u s = record { at = λ k l. centre_same q some (pos t *ℤ divided integers u k) (pos t *ℤ divided integers d k) (mul_left (mod_laws q) (pos t) (sum_class q n u d s k l)) }

  serves : (g : Poly) → Ternary+ n g → Equation n q h f g → Ternary+ n c
  serves g tg e = ternary+_same n two ((cyclic_laws integer_laws n).sy (only g tg.ternary e)) tg

  pub candidate_is : Candidate n q t h f
  candidate_is = record { only = only; serves = serves; solves = solves; of_class = of_class }

-- ---- what making computes
pub made_is : (n q : ℕ) (f fq g h : Poly) → 0 < n → InverseMod q n f fq → SameMod q n h (scale (pos 3) (times n (Φ1 n) (times n g fq))) → Made n q f g h
made_is n q f fq g h some inverse is = record { equation = equation; balanced = balanced }
  where
    whole : SameMod q n h (times n (scalar integers (pos 3)) (times n (Φ1 n) (times n g fq)))
    whole = let C = cyclic_laws (mod_laws q) n in C.tr is (C.sy (scale_is (mod_laws q) n (pos 3) (times n (Φ1 n) (times n g fq))))

    equation : Equation n q h f g
    equation =
        let C = cyclic_laws (mod_laws q) n in
        C.tr
        (follows C (h ∷ f ∷ scalar integers (pos 3) ∷ Φ1 n ∷ g ∷ fq ∷ ones integers ∷ inverse.by ∷ []) (x 0 ⊠ x 1) (x 2 ⊠ (x 3 ⊠ x 4))
        ((x 1, x 0, x 2 ⊠ (x 3 ⊠ (x 4 ⊠ x 5))) ∷ (x 2 ⊠ x 3 ⊠ x 4, x 1 ⊠ x 5, one ⊞ x 6 ⊠ x 7) ∷ (x 2 ⊠ x 4 ⊠ x 7, x 3 ⊠ x 6, nat 0) ∷ []) tt
        (whole, (inverse.is, (phi1_ones (mod_laws q) n some, tt))))
        (scale_is (mod_laws q) n (pos 3) (times n (Φ1 n) g))

    balanced : Balanced q n h
    balanced = balanced_same q n is (balanced_scale q n (pos 3) (times n (Φ1 n) (times n g fq)) (balanced_phi1 q n some (times n g fq)))

pub key_tested : (n q t : ℕ) (f fp h hq : Poly) → 2 ≤ n → 2 < q → 3 * t % q ≡ 1 → Balanced q n h → KeyTested n q t f fp h hq
key_tested n q t f fp h hq two big third hs =
    let c = candidate_is n q t h f two big third hs in
    record {
      sound = λ p. record { f_small = p.f_small; g_small = p.g_small; fp_inverse = p.fp_inverse; equation = c.solves; hq_inverse = p.hq_inverse };
      complete = λ g k. record { f_small = k.f_small; fp_inverse = k.fp_inverse; g_small = c.serves g k.g_small k.equation; hq_inverse = k.hq_inverse };
    }

pub making_is : (n q : ℕ) (f fp fq g h hq : Poly) → 0 < n → Ternary+ n f → Ternary+ n g → InverseMod q n f fq → InverseMod 3 n f fp →
    SameMod q n h (scale (pos 3) (times n (Φ1 n) (times n g fq))) → InverseMod q n h hq → Key n q f fp g h hq
making_is n q f fp fq g h hq some tf tg iq ip is ih =
    record { f_small = tf; g_small = tg; fp_inverse = ip; equation = (made_is n q f fq g h some iq is).equation; hq_inverse = ih }
