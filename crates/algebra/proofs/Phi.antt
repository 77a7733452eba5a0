-- 1 + x + .. + x^(n-1) and x - 1 among the polynomials where x^n counts as 1.
use Rattle.std.proofs.Common.{ℕ, ◌-◌, ◌%◌, ◌<◌, [], ◌∷◌, refl, ap, mod-lt, arith}
use Rattle.algebra.specs.Ring.{Ops, Laws, Agree, Differ, Hom, sum, back, conv, power, cyclic, ones, phi1, scalar, reduced, reduce, times_one}
use Rattle.algebra.proofs.Derived.{eqv, mul_left, mul_right, o_mul, add_left, add-mul, neg_mul}
use Rattle.algebra.proofs.Solver.{x, one, nat, ◌⊞◌, ◌⊠◌, ◌⊟◌, minus, ring, follows}
use Rattle.algebra.proofs.Quotients.{quotient_laws, up_to}
use Rattle.algebra.proofs.Sums.{sum_cong, sum_add, sum_neg, sum_o, sum_mul, sum_mul_right, sum_swap, sum_rotate, sum_only, sum_const}
use Rattle.algebra.proofs.Indices.{back_none}
use Rattle.algebra.proofs.Cyclic.{power_at, power_off, conv_is, cyclic_laws, power_mul}

module _ {R : Ops} (L : Laws R) (n : ℕ) where
  infixr 30 ◌⨾◌
  infixl 60 ◌⊕◌
  infixl 70 ◌⊗◌
  infix 40 ◌≈◌
  open R use {El, same as ◌≈◌, o, e, add as ◌⊕◌, mul as ◌⊗◌, neg}
  open L use {sy, tr, add_cong, neg_cong, add_o, add_neg, mul_comm, mul_e}

  ◌⨾◌ : {a b c : El} → a ≈ b → b ≈ c → a ≈ c
  p ⨾ q = tr p q

  -- every coefficient of u times all ones is the sum of u's
  pub mul_ones : (u : ℕ → El) (k : ℕ) → conv R n u (ones R) k ≈ sum R n u
  mul_ones u k = conv_is L n u (ones R) k ⨾ sum_cong L n (λ j l. mul_e (u j))

  pub total_mul : (u v : ℕ → El) → sum R n (conv R n u v) ≈ sum R n u ⊗ sum R n v
  total_mul u v =
      sum_cong L n (λ k l. conv_is L n u v k)
      ⨾ sum_swap L n n (λ k j. u j ⊗ v (back n k j))
      ⨾ sum_cong L n (λ j l. sum_mul L n (u j) (λ k. v (back n k j)) ⨾ mul_left L (u j) (sum_rotate L n (n - j) v))
      ⨾ sum_mul_right L n (sum R n v) u

  pub total_power : (i : ℕ) → i < n → sum R n (power R i) ≈ e
  total_power i l = sum_only L n i (power R i) l (λ k m d. eqv L (power_off R i k d)) ⨾ eqv L (power_at R i i refl)

  pub total_hom : 0 < n → Hom (cyclic R n) R (sum R n)
  total_hom p = record {
    cong = λ q. sum_cong L n q.at;
    h_o = sum_o L n;
    h_e = total_power 0 p;
    h_add = λ u v. sum_add L n u v;
    h_mul = λ u v. total_mul u v;
    h_neg = λ u. sum_neg L n u;
  }

  pub total_phi1 : 0 < n → sum R n (phi1 R n) ≈ o
  total_phi1 p =
      sum_add L n (power R (1 % n)) (λ k. neg (power R 0 k))
      ⨾ add_cong (total_power (1 % n) (mod-lt 1 p)) (sum_neg L n (power R 0) ⨾ neg_cong (total_power 0 p)) ⨾ add_neg e

  pub total_phi1_mul : 0 < n → (w : ℕ → El) → sum R n (conv R n (phi1 R n) w) ≈ o
  total_phi1_mul p w = total_mul (phi1 R n) w ⨾ mul_right L (sum R n w) (total_phi1 p) ⨾ o_mul L (sum R n w)

  pub phi1_ones : 0 < n → Agree R n (conv R n (phi1 R n) (ones R)) (λ k. o)
  phi1_ones p = record { at = λ k l. mul_ones (phi1 R n) k ⨾ total_phi1 p }

  -- ---- up to multiples of all ones
  pub reduced_laws : Laws (reduced R n)
  reduced_laws = quotient_laws (cyclic_laws L n) (ones R)

  -- such a multiple is a constant
  pub by_constant : {u v : ℕ → El} → Differ (cyclic R n) (ones R) u v → (a : El) × ((k : ℕ) → k < n → u k ≈ v k ⊕ a)
  by_constant {u} {v} d = (
    sum R n d.by,
    λ k l. d.is.at k l ⨾ add_left L (v k) (((cyclic_laws L n).mul_comm (ones R) d.by).at k l ⨾ mul_ones d.by k),
  )

  total_scalar : 0 < n → (a : El) → sum R n (scalar R a) ≈ a
  total_scalar p a = sum_mul L n a (power R 0) ⨾ mul_left L a (total_power 0 p) ⨾ mul_e a

  pub from_constant : (u v : ℕ → El) (a : El) → ((k : ℕ) → k < n → u k ≈ v k ⊕ a) → Differ (cyclic R n) (ones R) u v
  from_constant u v a h = record {
    by = scalar R a;
    is = record { at = λ k l. h k l ⨾ add_left L (v k) (sy (((cyclic_laws L n).mul_comm (ones R) (scalar R a)).at k l ⨾ mul_ones (scalar R a) k ⨾ total_scalar (omega arith) a)) };
  }

  pub reduce_differs : (u : ℕ → El) → Differ (cyclic R n) (ones R) u (reduce R n u)
  reduce_differs u = from_constant u (reduce R n u) (u (n - 1))
      (λ k l. ring L (u k ∷ u (n - 1) ∷ []) (x 0) (x 0 ⊟ x 1 ⊞ x 1) tt)

  pub reduce_last : (u : ℕ → El) → reduce R n u (n - 1) ≈ o
  reduce_last u = add_neg (u (n - 1))

  -- canonical: congruent polynomials reduce to the same
  pub reduce_same : {u v : ℕ → El} → Differ (cyclic R n) (ones R) u v → Agree R n (reduce R n u) (reduce R n v)
  reduce_same {u} {v} d =
      let c = by_constant d in
      record {
        at = λ k l. follows L (u k ∷ u (n - 1) ∷ v k ∷ v (n - 1) ∷ c.0 ∷ []) (x 0 ⊟ x 1) (x 2 ⊟ x 3)
            ((one, x 0, x 2 ⊞ x 4) ∷ (minus one, x 1, x 3 ⊞ x 4) ∷ []) tt (c.1 k l, (c.1 (n - 1) (omega arith), tt));
      }

  pub same_reduce : {u v : ℕ → El} → Agree R n (reduce R n u) (reduce R n v) → Differ (cyclic R n) (ones R) u v
  same_reduce {u} {v} h =
      reduced_laws.tr (reduce_differs u) (reduced_laws.tr (up_to (cyclic_laws L n) (ones R) h) (reduced_laws.sy (reduce_differs v)))

  -- where n has an inverse, a polynomial is known by its sum and up to multiples of all ones
  pub by_sum : (i : El) → times_one R n ⊗ i ≈ e → {u v : ℕ → El} → Differ (cyclic R n) (ones R) u v → sum R n u ≈ sum R n v → Agree R n u v
  by_sum i inv {u} {v} d s =
      let c = by_constant d in
      let total : sum R n u ≈ sum R n v ⊕ times_one R n ⊗ c.0 = sum_cong L n c.1 ⨾ sum_add L n v (λ k. c.0) ⨾ add_left L (sum R n v) (sum_const L n c.0) in
      let zero_c : c.0 ≈ o =
      follows L (c.0 ∷ times_one R n ∷ i ∷ sum R n u ∷ sum R n v ∷ []) (x 0) (nat 0)
      ((minus (x 0), x 1 ⊠ x 2, one) ∷ (minus (x 2), x 3, x 4 ⊞ x 1 ⊠ x 0) ∷ (x 2, x 3, x 4) ∷ []) tt (inv, (total, (s, tt))) in
      record { at = λ k l. c.1 k l ⨾ add_left L (v k) zero_c ⨾ add_o (v k) }

  pub phi1_mul : (v : ℕ → El) (k : ℕ) → k < n → conv R n (phi1 R n) v k ≈ v (back n k (1 % n)) ⊕ neg (v k)
  phi1_mul v k l =
      (add-mul (cyclic_laws L n) (power R (1 % n)) (λ j. neg (power R 0 j)) v).at k l
      ⨾ add_cong (power_mul L n (1 % n) v k (mod-lt 1 (omega arith)))
      ((neg_mul (cyclic_laws L n) (power R 0) v).at k l ⨾ neg_cong (power_mul L n 0 v k (omega arith) ⨾ eqv L (ap v (back_none n k l))))
