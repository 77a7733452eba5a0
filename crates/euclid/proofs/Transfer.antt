-- Inverses of plain polynomials over values, as inverses of cyclic polynomials and over the integers.
use Rattle.std.proofs.Common.{◌≡◌, ℕ, zero, suc, ◌+◌, ◌-◌, ◌<◌, ◌≤◌, ℤ, sym, refl, ap, ◌∙◌, subst, ap₂, ⊎_elim, arith}
use mathlib.Core.Path.{fun_ext}
use Rattle.std.proofs.lemmas.Bool.{cases_lt}
use Rattle.algebra.specs.Ring.{Agree, sum, conv, power, reduced, reduce}
use Rattle.algebra.specs.Exact.{Ops, Laws, exact}
use Rattle.algebra.specs.Series.{plain}
use Rattle.algebra.specs.Polynomials.{SameMod, InverseMod, NoInverseMod}
use Rattle.algebra.specs.Stands.{Stands, numbers}
use Rattle.algebra.proofs.Derived.{neg_o}
use Rattle.algebra.proofs.Cyclic.{cyclic_laws, power_at, power_off}
use Rattle.algebra.proofs.Phi.{reduce_same, same_reduce}
use Rattle.algebra.proofs.Sums.{sum_cong, sum_first, sum_none}
use Rattle.algebra.proofs.Series.{plain_is, fold_mul}
use Rattle.algebra.proofs.Exact.{exact_laws}
use Rattle.algebra.proofs.Polynomials.{inverse_same}
use Rattle.algebra.proofs.Integers.{mod_laws}
use Rattle.algebra.proofs.Stands as stands
use Rattle.euclid.specs.Series.{polynomials, product_at, Below, less_last}
use Rattle.euclid.specs.Inverses.{Inverse, NoInverse}
use Rattle.euclid.specs.Cyclic.{cut, cyclic as ring-product, reduced as less}
use Rattle.euclid.proofs.Cycles.{cut_in, cut_past, one_if_inverse, inverse_if_one}

module _ {A : Type 0} {o : Ops A} (L : Laws o) where
  product_is : (a b : ℕ → A) (k : ℕ) → product_at o a b k ≡ sum (exact o) (suc k) (λ j. o.times (a j) (b (k - j)))
  product_is a b zero = sym (sum_first (exact_laws L) 0 (λ j. o.times (a j) (b (0 - j))) ∙ ap (o.plus (o.times (a 0) (b 0))) (sum_none (exact_laws L) (λ j. o.times (a (suc j)) (b (0 - suc j)))) ∙ L.plus_nought (o.times (a 0) (b 0)))
  product_is a b (suc k) =
      let p : suc k - 0 ≡ suc k = omega arith in
      sym (sum_first (exact_laws L) (suc k) (λ j. o.times (a j) (b (suc k - j)))
      ∙ ap₂ o.plus (ap (λ i. o.times (a 0) (b i)) p)
      (sum_cong (exact_laws L) (suc k) (λ j l. let q : suc k - suc j ≡ k - j = omega arith in ap (λ i. o.times (a (suc j)) (b i)) q) ∙ sym (product_is (λ i. a (suc i)) b k)))

  product_plain : (a b : ℕ → A) (k : ℕ) → product_at o a b k ≡ plain (exact o) a b k
  product_plain a b k = product_is a b k ∙ sym (plain_is (exact_laws L) a b k)

  -- one cyclic product
  cyclic_is : (n : ℕ) (a b : ℕ → A) → Below o n a → Below o n b → (k : ℕ) → k < n → ring-product o n a b k ≡ conv (exact o) n a b k
  cyclic_is n a b ha hb k l =
      cut_in L n (λ i. o.plus (product_at o a b i) (product_at o a b (i + n))) k l
      ∙ ap₂ o.plus (product_plain a b k) (product_plain a b (k + n))
      ∙ sym (fold_mul (exact_laws L) n a b (record { zero_at = ha }) (record { zero_at = hb }) k l)

  unit_is : (k : ℕ) → (polynomials o).unit k ≡ power (exact o) 0 k
  unit_is zero = sym (power_at (exact o) 0 0 refl)
  unit_is (suc k) = sym (power_off (exact o) 0 (suc k) (λ e. omega arith))

  -- reducing 1 leaves 1
  one_reduced : (n : ℕ) → 2 ≤ n → (k : ℕ) → reduce (exact o) n (power (exact o) 0) k ≡ power (exact o) 0 k
  one_reduced n two k =
      let ne : n - 1 ≡ 0 → ⊥ = λ e. omega arith in
      ap (λ z. o.plus (power (exact o) 0 k) (o.minus z)) (power_off (exact o) 0 (n - 1) ne)
      ∙ ap (o.plus (power (exact o) 0 k)) (neg_o (exact_laws L)) ∙ L.plus_nought (power (exact o) 0 k)

  module _ (n : ℕ) (two : 2 ≤ n) (a u : ℕ → A) (ha : Below o n a) (hu : Below o n u) where
    less_is : (k : ℕ) → k < n → less o n (ring-product o n a u) k ≡ reduce (exact o) n (conv (exact o) n a u) k
    less_is k l =
        cut_in L n (less_last o n (ring-product o n a u)) k l
        ∙ ap₂ (λ y z. o.plus y (o.minus z)) (cyclic_is n a u ha hu k l) (cyclic_is n a u ha hu (n - 1) (omega arith))

    to_class : less o n (ring-product o n a u) ≡ (polynomials o).unit → (reduced (exact o) n).same (conv (exact o) n a u) (power (exact o) 0)
    to_class e = same_reduce (exact_laws L) n (record { at = λ k l. sym (less_is k l) ∙ ap (λ p. p k) e ∙ unit_is k ∙ sym (one_reduced n two k) })

    from_class : Agree (exact o) n (reduce (exact o) n (conv (exact o) n a u)) (reduce (exact o) n (power (exact o) 0)) → less o n (ring-product o n a u) ≡ (polynomials o).unit
    from_class h = fun_ext (λ k. ⊎_elim
        (λ (l : k < n). less_is k l ∙ h.at k l ∙ one_reduced n two k ∙ sym (unit_is k))
        (λ (l : n ≤ k). cut_past L n (less_last o n (ring-product o n a u)) k l ∙ sym (power_off (exact o) 0 k (λ e. omega arith)) ∙ sym (unit_is k))
        (cases_lt k n))

    -- an inverse, in the ring up to multiples of 1 + x + .. + x^(n-1)
    pub inverse_class : Inverse o n a u → (reduced (exact o) n).same (conv (exact o) n a u) (power (exact o) 0)
    inverse_class i =
        let e : suc (n - 1) ≡ n = omega arith in
        to_class (subst (λ m. Below o m a → Below o m u → Inverse o m a u → less o m (ring-product o m a u) ≡ (polynomials o).unit) e (one_if_inverse L (n - 1) a u (omega arith)) ha hu i)

    pub class_inverse : (reduced (exact o) n).same (conv (exact o) n a u) (power (exact o) 0) → Inverse o n a u
    class_inverse d =
        let e : suc (n - 1) ≡ n = omega arith in
        subst (λ m. Below o m a → Below o m u → less o m (ring-product o m a u) ≡ (polynomials o).unit → Inverse o m a u) e (inverse_if_one L (n - 1) a u) ha hu (from_class (reduce_same (exact_laws L) n d))

  -- ---- over the integers
  module _ (k : ℕ) (number : A → ℤ) (S : Stands o k number) (n : ℕ) (two : 2 ≤ n) (a : ℕ → A) (ha : Below o n a) where
    pub inverse_over_integers : (u : ℕ → A) → Below o n u → Inverse o n a u → InverseMod k n (numbers number a) (numbers number u)
    inverse_over_integers u hu i = stands.numbers_inverse S L n a u (inverse_class n two a u ha hu i)

    pub none_over_integers : NoInverse o n a → NoInverseMod k n (numbers number a)
    none_over_integers none u d =
        let w = cut o n (λ i. S.of (u i)) in
        let M = mod_laws k in
        let same : SameMod k n (numbers number w) u = record { at = λ i l. M.tr (S.hom.cong (cut_in L n (λ i. S.of (u i)) i l)) (S.of_is (u i)) } in
        none w (class_inverse n two a w ha (cut_past L n (λ i. S.of (u i))) (stands.inverse_numbers S L n a w (inverse_same k n ((cyclic_laws M n).rfl (numbers number a)) ((cyclic_laws M n).sy same) d)))
