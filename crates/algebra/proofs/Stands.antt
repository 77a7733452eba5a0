-- Residues stand for integers, and what holds of values that do.
use Rattle.std.proofs.Common.{◌≡◌, ℕ, zero, suc, ◌+◌, ◌-◌, ◌*◌, ◌%◌, ◌<◌, ◌≤◌, ℤ, pos, negsuc, nat_abs, sym, refl, ap, ◌∙◌, mod-eq_of_lt, arith}
use Rattle.algebra.specs.Ring.{Agree, Differ, integers, sum, conv, power, reduced, reduce}
use Rattle.algebra.specs.Exact.{Ops, Laws, exact}
use Rattle.algebra.specs.Residues.{residues, same_residue}
use Rattle.algebra.specs.Polynomials.{times, SameMod, SamePhi, InverseMod, as_word}
use Rattle.algebra.specs.Stands.{Stands, numbers, residue_number, signed, digit_number}
use Rattle.algebra.proofs.Integers.{mod_laws, equal_mod}
use Rattle.algebra.proofs.Naturals.{congruent_in, congruent_out, wrapped, neg_wrapped, naturals_hom}
use Rattle.algebra.proofs.Cyclic.{cyclic_laws}
use Rattle.algebra.proofs.Phi.{reduced_laws, reduce_same, same_reduce}
use Rattle.algebra.proofs.Homs.{hom_sum, hom_cyclic, hom_reduced}
use Rattle.algebra.proofs.Classes.{as_word_is, as_word_below}
use Rattle.algebra.proofs.Polynomials.{mod_phi}
use Rattle.algebra.proofs.Exact.{exact_laws}

pub residues_stand : (m : ℕ) (h : 1 < m) → Stands (residues m h) m (residue_number m)
residues_stand m h = record {
  of = λ z. (as_word m z, as_word_below m (omega arith) z);
  hom = record {
    cong = λ p. equal_mod m (ap (residue_number m) p);
    h_o = congruent_out m (0 % m) 0 (wrapped m 0);
    h_e = congruent_out m (1 % m) 1 (wrapped m 1);
    h_add = λ a b. congruent_out m ((a.0 + b.0) % m) (a.0 + b.0) (wrapped m (a.0 + b.0));
    h_mul = λ a b. congruent_out m ((a.0 * b.0) % m) (a.0 * b.0) (wrapped m (a.0 * b.0));
    h_neg = λ a.
        let some : 0 < m = omega arith in
        let e : a.0 % m ≡ a.0 = mod-eq_of_lt a.1 in
        (mod_laws m).tr (equal_mod m (ap (λ (w : ℕ). pos ((m - w) % m)) (sym e))) ((mod_laws m).tr (congruent_out m ((m - a.0 % m) % m) (a.0 * (m - 1)) (neg_wrapped m some a.0)) ((naturals_hom m some).h_neg a.0));
  };
  of_is = as_word_is m (omega arith);
  faithful = λ a b d. same_residue m a b (sym (mod-eq_of_lt a.1) ∙ (congruent_in m a.0 b.0 d).rem ∙ mod-eq_of_lt b.1);
}

-- values that stand for integers do so by any numbers of the same classes
pub stands_by : {A : Type 0} {o : Ops A} {k : ℕ} {number : A → ℤ} → Stands o k number →
    (other : A → ℤ) → ((a : A) → Differ integers (pos k) (other a) (number a)) → Stands o k other
stands_by {A} {o} {k} S other near =
    let M = mod_laws k in
    record {
      of = S.of;
      hom = record {
        cong = λ p. equal_mod k (ap other p);
        h_o = M.tr (near o.nought) S.hom.h_o;
        h_e = M.tr (near o.unit) S.hom.h_e;
        h_add = λ a b. M.tr (near (o.plus a b)) (M.tr (S.hom.h_add a b) (M.sy (M.add_cong (near a) (near b))));
        h_mul = λ a b. M.tr (near (o.times a b)) (M.tr (S.hom.h_mul a b) (M.sy (M.mul_cong (near a) (near b))));
        h_neg = λ a. M.tr (near (o.minus a)) (M.tr (S.hom.h_neg a) (M.sy (M.neg_cong (near a))));
      };
      of_is = λ z. M.tr (near (S.of z)) (S.of_is z);
      faithful = λ a b d. S.faithful a b (M.tr (M.sy (near a)) (M.tr d (near b)));
    }

-- the codes 0, 1 and 2 are the numbers 0, 1 and -1, modulo 3
pub signed_is : (d : ℕ) → d < 3 → Differ integers (pos 3) (signed d) (pos d)
signed_is zero h = equal_mod 3 refl
signed_is (suc zero) h = equal_mod 3 refl
signed_is (suc (suc zero)) h = record { by = negsuc 0; is = refl }
signed_is (suc (suc (suc d))) h = absurd (omega arith)

pub digits_stand : (h : 1 < 3) → Stands (residues 3 h) 3 digit_number
digits_stand h = stands_by (residues_stand 3 h) digit_number (λ x. signed_is x.0 x.1)

signed_small : (d : ℕ) → nat_abs (signed d) ≤ 1
signed_small zero = omega arith
signed_small (suc zero) = omega arith
signed_small (suc (suc d)) = omega arith

-- ---- of values that stand for integers
module _ {A : Type 0} {o : Ops A} {k : ℕ} {number : A → ℤ} (S : Stands o k number) where
  pub number_sum : (n : ℕ) (y : ℕ → A) → Differ integers (pos k) (number (sum (exact o) n y)) (sum integers n (numbers number y))
  number_sum n y = hom_sum (exact o) (mod_laws k) number S.hom.h_o S.hom.h_add n y

  pub number_less : (a b : A) → Differ integers (pos k) (number (o.plus a (o.minus b))) (integers.add (number a) (integers.neg (number b)))
  number_less a b = let M = mod_laws k in M.tr (S.hom.h_add a (o.minus b)) (M.add_cong (M.rfl (number a)) (S.hom.h_neg b))

  pub numbers_reduce : (n : ℕ) (u : ℕ → A) → SameMod k n (numbers number (reduce (exact o) n u)) (reduce integers n (numbers number u))
  numbers_reduce n u = record { at = λ i l. number_less (u i) (u (n - 1)) }

  -- the same numbers are of the same values
  pub numbers_equal : (n : ℕ) {u v : ℕ → A} → SameMod k n (numbers number u) (numbers number v) → Agree (exact o) n u v
  numbers_equal n {u} {v} d = record { at = λ i l. S.faithful (u i) (v i) (d.at i l) }

  module _ (L : Laws o) (n : ℕ) where
    pub numbers_times : (u v : ℕ → A) → SameMod k n (numbers number (conv (exact o) n u v)) (times n (numbers number u) (numbers number v))
    numbers_times u v = (hom_cyclic (exact_laws L) (mod_laws k) number S.hom n).h_mul u v

    pub numbers_power : SameMod k n (numbers number (power (exact o) 0)) (power integers 0)
    numbers_power = (hom_cyclic (exact_laws L) (mod_laws k) number S.hom n).h_e

    -- classes up to multiples of 1 + x + .. + x^(n-1)
    pub numbers_phi : {u v : ℕ → A} → (reduced (exact o) n).same u v → SamePhi k n (numbers number u) (numbers number v)
    numbers_phi d = hom_reduced (exact_laws L) (mod_laws k) number S.hom n d

    pub phi_numbers : {u v : ℕ → A} → SamePhi k n (numbers number u) (numbers number v) → (reduced (exact o) n).same u v
    phi_numbers {u} {v} d =
        let C = cyclic_laws (mod_laws k) n in
        same_reduce (exact_laws L) n (numbers_equal n (C.tr (numbers_reduce n u) (C.tr (reduce_same (mod_laws k) n d) (C.sy (numbers_reduce n v)))))

    -- inverses
    pub numbers_inverse : (a u : ℕ → A) → (reduced (exact o) n).same (conv (exact o) n a u) (power (exact o) 0) → InverseMod k n (numbers number a) (numbers number u)
    numbers_inverse a u d =
        let P = reduced_laws (mod_laws k) n in
        P.tr (P.sy (mod_phi k n (numbers_times a u))) (P.tr (numbers_phi d) (mod_phi k n numbers_power))

    pub inverse_numbers : (a u : ℕ → A) → InverseMod k n (numbers number a) (numbers number u) → (reduced (exact o) n).same (conv (exact o) n a u) (power (exact o) 0)
    inverse_numbers a u d =
        let P = reduced_laws (mod_laws k) n in
        phi_numbers (P.tr (mod_phi k n (numbers_times a u)) (P.tr d (P.sy (mod_phi k n numbers_power))))
