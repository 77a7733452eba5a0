-- What carries sums and products over carries polynomials over.
use Rattle.std.proofs.Common.{◌≡◌, ℕ, zero, suc, ◌*◌, ◌%◌, ◌<◌, pos, sym, refl, subst}
use native.Mathlib.Decide.{ℕ_discrete}
use Rattle.algebra.specs.Ring.{Ops, Laws, Agree, Differ, Hom, integers, naturals, sum, sum_by, back, conv, power, cyclic, reduced, ones}
use Rattle.algebra.proofs.Derived.{add_left}
use Rattle.algebra.proofs.Integers.{integer_laws}
use Rattle.algebra.proofs.Naturals.{congruent_out, wrapped}
use Rattle.algebra.proofs.Sums.{sum_cong}
use Rattle.algebra.proofs.Cyclic.{conv_is, power_at, power_off, cyclic_laws}

module _ (R : Ops) {S : Ops} (M : Laws S) (f : R.El → S.El)
    (zero_to : S.same (f R.o) S.o) (add_to : (a b : R.El) → S.same (f (R.add a b)) (S.add (f a) (f b))) where
  pub hom_sum : (n : ℕ) (u : ℕ → R.El) → S.same (f (sum R n u)) (sum S n (λ k. f (u k)))
  unfolding sum_by
  hom_sum zero u = zero_to
  hom_sum (suc n) u = M.tr (add_to (sum R n u) (u n)) (M.add_cong (hom_sum n u) (M.rfl (f (u n))))

module _ {R S : Ops} (L : Laws R) (M : Laws S) (f : R.El → S.El) (h : Hom R S f) (n : ℕ) where
  pub hom_conv : (u v : ℕ → R.El) (k : ℕ) → S.same (f (conv R n u v k)) (conv S n (λ j. f (u j)) (λ j. f (v j)) k)
  hom_conv u v k =
      M.tr (h.cong (conv_is L n u v k)) (M.tr (hom_sum R M f h.h_o h.h_add n (λ j. R.mul (u j) (v (back n k j))))
      (M.tr (sum_cong M n (λ j l. h.h_mul (u j) (v (back n k j)))) (M.sy (conv_is M n (λ j. f (u j)) (λ j. f (v j)) k))))

  pub hom_power : (i k : ℕ) → S.same (f (power R i k)) (power S i k)
  hom_power i k = by (ℕ_discrete k i)
    where
      by : Dec (k ≡ i) → S.same (f (power R i k)) (power S i k)
      by (yes p) = subst (λ z. S.same (f z) (power S i k)) (sym (power_at R i k p)) (subst (λ z. S.same (f R.e) z) (sym (power_at S i k p)) h.h_e)
      by (no p) = subst (λ z. S.same (f z) (power S i k)) (sym (power_off R i k p)) (subst (λ z. S.same (f R.o) z) (sym (power_off S i k p)) h.h_o)

  pub hom_cyclic : Hom (cyclic R n) (cyclic S n) (λ u k. f (u k))
  hom_cyclic = record {
    cong = λ p. record { at = λ k l. h.cong (p.at k l) };
    h_o = record { at = λ k l. h.h_o };
    h_e = record { at = λ k l. hom_power 0 k };
    h_add = λ u v. record { at = λ k l. h.h_add (u k) (v k) };
    h_mul = λ u v. record { at = λ k l. hom_conv u v k };
    h_neg = λ u. record { at = λ k l. h.h_neg (u k) };
  }

-- what carries sums and products over carries classes of polynomials over
module _ {R S : Ops} (L : Laws R) (M : Laws S) (f : R.El → S.El) (h : Hom R S f) (n : ℕ) where
  pub hom_reduced : {u v : ℕ → R.El} → (reduced R n).same u v → (reduced S n).same (λ k. f (u k)) (λ k. f (v k))
  hom_reduced {u} {v} d =
      let C = cyclic_laws M n in
      let H = hom_cyclic L M f h n in
      let one_to : Agree S n (λ k. f R.e) (ones S) = record { at = λ k l. h.h_e } in
      record {
        by = λ k. f (d.by k);
        is = C.tr (H.cong d.is) (C.tr (H.h_add v (conv R n (ones R) d.by)) (add_left C (λ k. f (v k)) (C.tr (H.h_mul (ones R) d.by) (C.mul_cong one_to (C.rfl (λ k. f (d.by k)))))));
      }

-- ---- words
-- the product of naturals is that of the integers
pub pos_conv : (m n : ℕ) (u v : ℕ → ℕ) (k : ℕ) → pos (conv (naturals m) n u v k) ≡ conv integers n (λ j. pos (u j)) (λ j. pos (v j)) k
unfolding Rattle.algebra.specs.Ring.conv_by
pos_conv m n u v k = hom_sum (naturals m) {S = integers} integer_laws pos refl (λ a b. refl) n (λ j. u j * v (back n k j))

-- and so it is up to multiples of m, where it is taken modulo m
pub word_product : (m n : ℕ) → 0 < m → (u v : ℕ → ℕ) (k : ℕ) → Differ integers (pos m) (pos (conv (naturals m) n u v k % m)) (conv integers n (λ j. pos (u j)) (λ j. pos (v j)) k)
word_product m n h u v k =
    subst (λ z. Differ integers (pos m) (pos (conv (naturals m) n u v k % m)) z) (pos_conv m n u v k)
    (congruent_out m (conv (naturals m) n u v k % m) (conv (naturals m) n u v k) (wrapped m (conv (naturals m) n u v k)))
