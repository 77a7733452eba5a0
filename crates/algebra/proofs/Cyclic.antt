-- Polynomials over a commutative ring, where x^n counts as 1, are a commutative ring.
use Rattle.std.proofs.Common.{◌≡◌, ℕ, ◌<◌, Bool, true, false, cond, T, eqb, ◌≢◌, refl, ap, subst, arith, eqb→eq}
use lib.Dec.{eqb_refl}
use Rattle.algebra.specs.Ring.{Ops, Laws, Agree, sum, back, conv, conv_by, power, power_by, cyclic, scalar}
use Rattle.algebra.proofs.Derived.{eqv, mul_left, mul_right, mul_o, o_mul, e_mul}
use Rattle.algebra.proofs.Sums.{sum_cong, sum_add, sum_mul, sum_mul_right, sum_swap, sum_rotate, sum_back, sum_only}
use Rattle.algebra.proofs.Indices.{back_lt, back_same, back_zero, back_back, round_back, back_round, back_none}

by_test : {A : Type 0} (c : Bool) (a b : A) → T c → cond c a b ≡ a
by_test true a b t = refl
by_test false a b t = absurd t

by_no_test : {A : Type 0} (c : Bool) (a b : A) → ¬ (T c) → cond c a b ≡ b
by_no_test true a b t = absurd (t tt)
by_no_test false a b t = refl

pub power_at : (R : Ops) (i k : ℕ) → k ≡ i → power R i k ≡ R.e
unfolding power_by
power_at R i k p = by_test (eqb k i) R.e R.o (subst (λ (y : ℕ). T (eqb k y)) p (eqb_refl k))

pub power_off : (R : Ops) (i k : ℕ) → k ≢ i → power R i k ≡ R.o
unfolding power_by
power_off R i k p = by_no_test (eqb k i) R.e R.o (λ t. p (eqb→eq k i t))

module _ {R : Ops} (L : Laws R) (n : ℕ) where
  infixr 30 ◌⨾◌
  infixl 60 ◌⊕◌
  infixl 70 ◌⊗◌
  infix 40 ◌≈◌
  open R use {El, same as ◌≈◌, add as ◌⊕◌, mul as ◌⊗◌}
  open L use {rfl, sy, tr, add_cong, mul_cong, neg_cong, add_comm, add_assoc, add_o, add_neg, mul_comm, mul_assoc, mul_e, mul-add}

  ◌⨾◌ : {a b c : El} → a ≈ b → b ≈ c → a ≈ c
  p ⨾ q = tr p q

  pub conv_is : (u v : ℕ → El) (k : ℕ) → conv R n u v k ≈ sum R n (λ j. u j ⊗ v (back n k j))
  unfolding conv_by
  conv_is u v k = rfl (conv R n u v k)

  conv_cong : (u u' v v' : ℕ → El) (k : ℕ) → ((j : ℕ) → j < n → u j ≈ u' j) → ((j : ℕ) → j < n → v j ≈ v' j) → conv R n u v k ≈ conv R n u' v' k
  conv_cong u u' v v' k p q =
      conv_is u v k ⨾ sum_cong L n (λ j l. mul_cong (p j l) (q (back n k j) (back_lt n k j l))) ⨾ sy (conv_is u' v' k)

  conv_comm : (u v : ℕ → El) (k : ℕ) → k < n → conv R n u v k ≈ conv R n v u k
  conv_comm u v k l =
      conv_is u v k
      ⨾ sy (sum_back L n k (λ j. u j ⊗ v (back n k j)))
      ⨾ sum_cong L n (λ j m. mul_left L (u (back n k j)) (eqv L (ap v (back_back n k j l m))) ⨾ mul_comm (u (back n k j)) (v j))
      ⨾ sy (conv_is v u k)

  conv_one : (u : ℕ → El) (k : ℕ) → k < n → conv R n u (power R 0) k ≈ u k
  conv_one u k l =
      conv_is u (power R 0) k
      ⨾ sum_only L n k (λ j. u j ⊗ power R 0 (back n k j)) l
      (λ j m d. mul_left L (u j) (eqv L (power_off R 0 (back n k j) (λ z. d (back_zero n k j l m z)))) ⨾ mul_o L (u j))
      ⨾ mul_left L (u k) (eqv L (power_at R 0 (back n k k) (back_same n k l))) ⨾ mul_e (u k)

  conv_add : (u v w : ℕ → El) (k : ℕ) → conv R n u (λ j. v j ⊕ w j) k ≈ conv R n u v k ⊕ conv R n u w k
  conv_add u v w k =
      conv_is u (λ j. v j ⊕ w j) k
      ⨾ sum_cong L n (λ j l. mul-add (u j) (v (back n k j)) (w (back n k j)))
      ⨾ sum_add L n (λ j. u j ⊗ v (back n k j)) (λ j. u j ⊗ w (back n k j))
      ⨾ add_cong (sy (conv_is u v k)) (sy (conv_is u w k))

  conv_assoc : (u v w : ℕ → El) (k : ℕ) → k < n → conv R n (conv R n u v) w k ≈ conv R n u (conv R n v w) k
  conv_assoc u v w k l =
      conv_is (conv R n u v) w k
      ⨾ sum_cong L n (λ i m.
      mul_right L (w (back n k i)) (conv_is u v i)
      ⨾ sy (sum_mul_right L n (w (back n k i)) (λ j. u j ⊗ v (back n i j))))
      ⨾ sum_swap L n n (λ i j. u j ⊗ v (back n i j) ⊗ w (back n k i))
      ⨾ sum_cong L n (λ j m.
      sum_cong L n (λ i p. mul_assoc (u j) (v (back n i j)) (w (back n k i)))
      ⨾ sum_mul L n (u j) (λ i. v (back n i j) ⊗ w (back n k i))
      ⨾ mul_left L (u j)
      (sy (sum_rotate L n j (λ i. v (back n i j) ⊗ w (back n k i)))
      ⨾ sum_cong L n (λ i p. mul_cong (eqv L (ap v (round_back n i j p m))) (eqv L (ap w (back_round n k i j l p m))))
      ⨾ sy (conv_is v w (back n k j))))
      ⨾ sy (conv_is u (conv R n v w) k)

  pub cyclic_laws : Laws (cyclic R n)
  cyclic_laws = record {
    rfl = λ u. record { at = λ k l. rfl (u k) };
    sy = λ p. record { at = λ k l. sy (p.at k l) };
    tr = λ p q. record { at = λ k l. tr (p.at k l) (q.at k l) };
    add_cong = λ p q. record { at = λ k l. add_cong (p.at k l) (q.at k l) };
    mul_cong = λ {a} {b} {c} {d} p q. record { at = λ k l. conv_cong a b c d k p.at q.at };
    neg_cong = λ p. record { at = λ k l. neg_cong (p.at k l) };
    add_comm = λ u v. record { at = λ k l. add_comm (u k) (v k) };
    add_assoc = λ u v w. record { at = λ k l. add_assoc (u k) (v k) (w k) };
    add_o = λ u. record { at = λ k l. add_o (u k) };
    add_neg = λ u. record { at = λ k l. add_neg (u k) };
    mul_comm = λ u v. record { at = λ k l. conv_comm u v k l };
    mul_assoc = λ u v w. record { at = λ k l. conv_assoc u v w k l };
    mul_e = λ u. record { at = λ k l. conv_one u k l };
    mul-add = λ u v w. record { at = λ k l. conv_add u v w k };
  }

  -- x^i times v is v, i places on
  pub power_mul : (i : ℕ) (v : ℕ → El) (k : ℕ) → i < n → conv R n (power R i) v k ≈ v (back n k i)
  power_mul i v k l =
      conv_is (power R i) v k
      ⨾ sum_only L n i (λ j. power R i j ⊗ v (back n k j)) l (λ j m d. mul_right L (v (back n k j)) (eqv L (power_off R i j d)) ⨾ o_mul L (v (back n k j)))
      ⨾ mul_right L (v (back n k i)) (eqv L (power_at R i i refl)) ⨾ e_mul L (v (back n k i))

-- a constant times u
pub scale_is : {R : Ops} (L : Laws R) (n : ℕ) (a : R.El) (u : ℕ → R.El) → Agree R n (conv R n (scalar R a) u) (λ k. R.mul a (u k))
scale_is {R} L n a u = record {
  at = λ k l.
      L.tr (conv_is L n (scalar R a) u k) (L.tr (sum_cong L n (λ j m. L.mul_assoc a (power R 0 j) (u (back n k j))))
      (L.tr (sum_mul L n a (λ j. R.mul (power R 0 j) (u (back n k j))))
      (mul_left L a (L.tr (L.sy (conv_is L n (power R 0) u k)) (L.tr (power_mul L n 0 u k (omega arith)) (eqv L (ap u (back_none n k l))))))));
}
