-- What the tests of polynomials tell.
use Rattle.std.proofs.Common.{◌≡◌, ℕ, zero, suc, ◌-◌, ◌*◌, ◌%◌, ◌<◌, ◌≤◌, Bool, true, false, ◌&&◌, T, eqb, leb, ℤ, pos, ◌+ℤ◌, neg_ℤ, nat_abs, ◌≤ℤ◌, sym, refl, ap, ◌∙◌, subst, arith}
use native.Mathlib.Decide.{ℕ_discrete}
use lib.IntN.{+ℤ_idr}
use lib.Signed.{le_z, le_z_yes}
use borrow.Author.Differences.{ints}
use Rattle.std.proofs.lemmas.Bool.{leb-true, le-leb, eqb-true, eq-eqb, and_parts}
use Rattle.algebra.specs.Decided.{Tells, every, in_T, in_T+, reduces_to_one}
use Rattle.algebra.specs.Ring.{Agree, integers, power, reduce}
use Rattle.algebra.specs.Ternary.{Ternary, Ternary+, correlation}
use Rattle.algebra.specs.Polynomials.{Poly, SameMod, SamePhi, Balanced, times, as_word, centre}
use Rattle.algebra.specs.Scheme.{Equation, candidate}
use Rattle.algebra.proofs.Classes.{as_word_is, word_same, centre_is, centre_small}
use Rattle.algebra.proofs.Cyclic.{cyclic_laws, power_at, power_off}
use Rattle.algebra.proofs.Integers.{integer_laws, mod_laws, equal_mod, close}
use Rattle.algebra.proofs.Keys.{candidate_is}
use Rattle.algebra.proofs.Phi.{reduce_same, same_reduce}

-- two tests that tell the same are equal
pub told_same : {P : Type 0} (a b : Bool) → Tells a P → Tells b P → a ≡ b
told_same true true s t = refl
told_same false false s t = refl
told_same true false s t = absurd (t.fails refl (s.holds refl))
told_same false true s t = absurd (s.fails refl (t.holds refl))

-- what a test tells, in other words
pub told_as : {P Q : Type 0} {a : Bool} → Tells a P → (P → Q) → (Q → P) → Tells a Q
told_as t into back = record { holds = λ e. into (t.holds e); fails = λ e q. t.fails e (back q) }

-- a test that is true where P holds and only there
pub told_by : {P : Type 0} (a : Bool) → (a ≡ true → P) → (P → a ≡ true) → Tells a P
told_by a into back = record { holds = into; fails = λ e p. let t = back p in let z : ◌≡◌ {A = ℕ} 0 1 = cc in omega arith }

-- both of two tests
pub told_both : {P Q : Type 0} (a b : Bool) → Tells a P → (a ≡ true → Tells b Q) → Tells (a && b) (P × Q)
told_both true b s t = record { holds = λ e. (s.holds refl, (t refl).holds e); fails = λ e p. (t refl).fails e p.1 }
told_both false b s t = record { holds = λ e. absurd (let z : ◌≡◌ {A = ℕ} 0 1 = cc in omega arith); fails = λ e p. s.fails refl p.0 }

-- a test at 0 to n - 1
every_is : (n : ℕ) (p : ℕ → Bool) → every n p ≡ true → (k : ℕ) → k < n → p k ≡ true
every_is zero p e k l = absurd (omega arith)
every_is (suc n) p e k l = by (ℕ_discrete k n) (λ b. every_is n p (and_parts (every n p) (p n) e).0 k b)
  where
    by : Dec (k ≡ n) → (k < n → p k ≡ true) → p k ≡ true
    by (yes s) rest = ap p s ∙ (and_parts (every n p) (p n) e).1
    by (no s) rest = rest (omega arith)

is_every : (n : ℕ) (p : ℕ → Bool) → ((k : ℕ) → k < n → p k ≡ true) → every n p ≡ true
is_every zero p h = refl
is_every (suc n) p h = ap (λ t. t && p n) (is_every n p (λ k l. h k (omega arith))) ∙ h n (omega arith)

pub every_tells : (n : ℕ) (p : ℕ → Bool) → Tells (every n p) ((k : ℕ) → k < n → p k ≡ true)
every_tells n p = told_by (every n p) (every_is n p) (is_every n p)

-- ---- T and T+
pub ternary_tells : (n : ℕ) (u : Poly) → Tells (in_T n u) (Ternary n u)
ternary_tells n u =
    told_as (told_both (every n (λ k. leb (nat_abs (u k)) 1)) (eqb (nat_abs (u (n - 1))) 0) (every_tells n (λ k. leb (nat_abs (u k)) 1)) (λ _. told_by (eqb (nat_abs (u (n - 1))) 0) (eqb-true (nat_abs (u (n - 1))) 0) (eq-eqb (nat_abs (u (n - 1))) 0)))
    (λ p. record { digit = λ k l. leb-true (nat_abs (u k)) 1 (p.0 k l); last = let e : nat_abs (u (n - 1)) ≡ 0 = p.1 in omega (arith, ints) })
    (λ t. ((λ k l. le-leb (nat_abs (u k)) 1 (t.digit k l)), ap nat_abs t.last))

is_true : (b : Bool) → T b → b ≡ true
is_true true t = refl
is_true false t = absurd t

pub correlates_tells : (z : ℤ) → Tells (le_z (pos 0) z) (pos 0 ≤ℤ z)
correlates_tells z = told_by (le_z (pos 0) z) (λ e. le_z_yes (subst T (sym e) tt)) (λ h. is_true (le_z (pos 0) z) h.le)

pub ternary+_tells : (n : ℕ) (u : Poly) → Tells (in_T+ n u) (Ternary+ n u)
ternary+_tells n u =
    told_as (told_both (in_T n u) (le_z (pos 0) (correlation n u)) (ternary_tells n u) (λ _. correlates_tells (correlation n u)))
    (λ p. record { ternary = p.0; correlates = p.1 })
    (λ t. (t.ternary, t.correlates))

-- ---- reducing to 1
module _ (k n : ℕ) (big : 1 < k) (two : 2 ≤ n) (u : Poly) where
  some : 0 < k
  some = omega arith

  -- 1 is reduced
  one_reduced : SameMod k n (reduce integers n (power integers 0)) (power integers 0)
  one_reduced = record {
    at = λ i l. equal_mod k (ap (λ z. power integers 0 i +ℤ neg_ℤ z) (power_off integers 0 (n - 1) (omega arith)) ∙ +ℤ_idr (power integers 0 i));
  }

  pub phi_from_mod : SameMod k n (reduce integers n u) (power integers 0) → SamePhi k n u (power integers 0)
  phi_from_mod h = let C = cyclic_laws (mod_laws k) n in same_reduce (mod_laws k) n (C.tr h (C.sy one_reduced))

  pub mod_from_phi : SamePhi k n u (power integers 0) → SameMod k n (reduce integers n u) (power integers 0)
  mod_from_phi h = (cyclic_laws (mod_laws k) n).tr (reduce_same (mod_laws k) n h) one_reduced

  pub one_tells : Tells (reduces_to_one k n u) (SamePhi k n u (power integers 0))
  one_tells =
      told_as (every_tells n (λ i. eqb (as_word k (reduce integers n u i)) (as_word k (power integers 0 i))))
      (λ h. phi_from_mod (record {
        at = λ i l.
            let M = mod_laws k in
            M.tr (M.sy (as_word_is k some (reduce integers n u i)))
            (M.tr (equal_mod k (ap pos (eqb-true (as_word k (reduce integers n u i)) (as_word k (power integers 0 i)) (h i l)))) (as_word_is k some (power integers 0 i)));
      }))
      (λ h i l. eq-eqb (as_word k (reduce integers n u i)) (as_word k (power integers 0 i)) (word_same k some (reduce integers n u i) (power integers 0 i) ((mod_from_phi h).at i l)))

  power_small : (i : ℕ) → nat_abs (power integers 0 i) ≤ 1
  power_small i = by (ℕ_discrete i 0)
    where
      by : Dec (i ≡ 0) → nat_abs (power integers 0 i) ≤ 1
      by (yes e) = subst (λ z. nat_abs z ≤ 1) (sym (power_at integers 0 i e)) (omega arith)
      by (no e) = subst (λ z. nat_abs z ≤ 1) (sym (power_off integers 0 i e)) (omega arith)

  -- where k is above 2, a polynomial that is 1 once reduced and centred
  pub centred_one : 2 < k → (v : Poly) → Agree integers n v (λ i. centre k (reduce integers n u i)) → Agree integers n v (power integers 0) → SamePhi k n u (power integers 0)
  centred_one three v h e = phi_from_mod (record {
    at = λ i l. let M = mod_laws k in M.tr (M.sy (centre_is k some (reduce integers n u i))) (equal_mod k (sym (h.at i l) ∙ e.at i l));
  })

  pub one_centred : 2 < k → (v : Poly) → Agree integers n v (λ i. centre k (reduce integers n u i)) → SamePhi k n u (power integers 0) → Agree integers n v (power integers 0)
  one_centred three v h e = record {
    at = λ i l.
        let z = reduce integers n u i in
        h.at i l
        ∙ close k (centre k z) (power integers 0 i) ((mod_laws k).tr (centre_is k some z) ((mod_from_phi e).at i l)) (omega (arith, centre_small k some z, power_small i));
  }

  -- and so all its coefficients are small
  pub one_small : 2 < k → SamePhi k n u (power integers 0) → (i : ℕ) → i < n → nat_abs (centre k (reduce integers n u i)) ≤ 1
  one_small three e i l =
      subst (λ z. nat_abs z ≤ 1) (sym ((one_centred three (λ j. centre k (reduce integers n u j)) ((cyclic_laws integer_laws n).rfl _) e).at i l)) (power_small i)

-- ---- the key equation
pub equation_tells : (n q t : ℕ) (h f : Poly) (a : Bool) → 2 ≤ n → 2 < q → 3 * t % q ≡ 1 → Balanced q n h → Tells a (Ternary+ n (candidate q t (times n h f))) → Tells a ((g : Poly) × Ternary+ n g × Equation n q h f g)
equation_tells n q t h f a two big third hs s =
    let c = candidate_is n q t h f two big third hs in
    told_as s (λ g. (candidate q t (times n h f), g, c.solves)) (λ g. c.serves g.0 g.1 g.2)
