-- Power series are a commutative ring; polynomials among them, their degrees, and how their products fold into the cyclic one.
use Rattle.std.proofs.Common.{◌≡◌, ℕ, zero, suc, ◌+◌, ◌-◌, ◌<◌, ◌≤◌, ◌≢◌, ap, ◌∙◌, arith}
use Rattle.algebra.specs.Ring.{Ops, Laws, sum, back, conv, power}
use Rattle.algebra.specs.Series.{Below, plain, plain_by, series}
use Rattle.algebra.proofs.Derived.{eqv, mul_left, mul_right, mul_o, o_mul, add_left, add_right, o_add}
use Rattle.algebra.proofs.Sums.{sum_cong, sum_add, sum_mul, sum_mul_right, sum_reverse, sum_only, sum_more, sum_none, sum_split, sum_zero}
use Rattle.algebra.proofs.Indices.{back_early, back_late}
use Rattle.algebra.proofs.Cyclic.{conv_is, power_at, power_off}

module _ {R : Ops} (L : Laws R) where
  infixr 30 ◌⨾◌
  infixl 60 ◌⊕◌
  infixl 70 ◌⊗◌
  infix 40 ◌≈◌
  open R use {El, same as ◌≈◌, o, e, add as ◌⊕◌, mul as ◌⊗◌}
  open L use {rfl, sy, tr, add_cong, mul_cong, neg_cong, add_comm, add_assoc, add_o, add_neg, mul_comm, mul_assoc, mul_e, mul-add}

  ◌⨾◌ : {a b c : El} → a ≈ b → b ≈ c → a ≈ c
  p ⨾ q = tr p q

  pub plain_is : (u v : ℕ → El) (k : ℕ) → plain R u v k ≈ sum R (suc k) (λ j. u j ⊗ v (k - j))
  unfolding plain_by
  plain_is u v k = rfl (plain R u v k)

  -- the triangle j ≤ i ≤ k, row by row and column by column
  triangle : (k : ℕ) (F : ℕ → ℕ → El) → sum R (suc k) (λ i. sum R (suc i) (F i)) ≈ sum R (suc k) (λ j. sum R (suc (k - j)) (λ i. F (i + j) j))
  triangle zero F =
      sum_more L 0 (λ i. sum R (suc i) (F i)) ⨾ add_right L (sum R 1 (F 0)) (sum_none L (λ i. sum R (suc i) (F i))) ⨾ o_add L (sum R 1 (F 0))
      ⨾ sum_cong L 1 (λ j l. let p : j ≡ 0 = omega arith in let q : 0 ≡ 0 + j = omega arith in eqv L (ap (λ t. F t j) q) ⨾ sy (one_term j (omega arith)))
    where
      one_term : (j : ℕ) → j ≡ 0 → sum R (suc (0 - j)) (λ i. F (i + j) j) ≈ F (0 + j) j
      one_term j p = let q : suc (0 - j) ≡ 1 = omega arith in eqv L (ap (λ m. sum R m (λ i. F (i + j) j)) q) ⨾ sum_more L 0 (λ i. F (i + j) j) ⨾ add_right L (F (0 + j) j) (sum_none L (λ i. F (i + j) j)) ⨾ o_add L (F (0 + j) j)
  triangle (suc k) F =
      sum_more L (suc k) (λ i. sum R (suc i) (F i))
      ⨾ add_cong (triangle k F) (sum_more L (suc k) (F (suc k)))
      ⨾ sy (add_assoc (sum R (suc k) (λ j. sum R (suc (k - j)) (λ i. F (i + j) j))) (sum R (suc k) (F (suc k))) (F (suc k) (suc k)))
      ⨾ add_cong
      (sy (sum_add L (suc k) (λ j. sum R (suc (k - j)) (λ i. F (i + j) j)) (F (suc k))) ⨾ sum_cong L (suc k) (λ j l. sy (row j (omega arith))))
      (sy (corner (omega arith)))
      ⨾ sy (sum_more L (suc k) (λ j. sum R (suc (suc k - j)) (λ i. F (i + j) j)))
    where
      row : (j : ℕ) → j ≤ k → sum R (suc (suc k - j)) (λ i. F (i + j) j) ≈ sum R (suc (k - j)) (λ i. F (i + j) j) ⊕ F (suc k) j
      row j l =
          let p : suc k - j ≡ suc (k - j) = omega arith in
          let q : suc (k - j) + j ≡ suc k = omega arith in
          eqv L (ap (λ m. sum R (suc m) (λ i. F (i + j) j)) p) ⨾ sum_more L (suc (k - j)) (λ i. F (i + j) j) ⨾ add_left L (sum R (suc (k - j)) (λ i. F (i + j) j)) (eqv L (ap (λ m. F m j) q))

      corner : suc k - suc k ≡ 0 → sum R (suc (suc k - suc k)) (λ i. F (i + suc k) (suc k)) ≈ F (suc k) (suc k)
      corner p =
          let q : 0 + suc k ≡ suc k = omega arith in
          eqv L (ap (λ m. sum R (suc m) (λ i. F (i + suc k) (suc k))) p) ⨾ sum_more L 0 (λ i. F (i + suc k) (suc k))
          ⨾ add_cong (sum_none L (λ i. F (i + suc k) (suc k))) (eqv L (ap (λ m. F m (suc k)) q)) ⨾ o_add L (F (suc k) (suc k))

  plain_comm : (u v : ℕ → El) (k : ℕ) → plain R u v k ≈ plain R v u k
  plain_comm u v k =
      plain_is u v k ⨾ sy (sum_reverse L (suc k) (λ j. u j ⊗ v (k - j)))
      ⨾ sum_cong L (suc k) (λ j l.
      let p : suc k - suc j ≡ k - j = omega arith in
      let q : k - (suc k - suc j) ≡ j = omega arith in
      mul_cong (eqv L (ap u p)) (eqv L (ap v q)) ⨾ mul_comm (u (k - j)) (v j))
      ⨾ sy (plain_is v u k)

  plain_one : (u : ℕ → El) (k : ℕ) → plain R u (power R 0) k ≈ u k
  plain_one u k =
      plain_is u (power R 0) k
      ⨾ sum_only L (suc k) k (λ j. u j ⊗ power R 0 (k - j)) (omega arith)
      (λ j l d. mul_left L (u j) (eqv L (power_off R 0 (k - j) (omega arith))) ⨾ mul_o L (u j))
      ⨾ mul_left L (u k) (eqv L (power_at R 0 (k - k) (omega arith))) ⨾ mul_e (u k)

  plain_assoc : (u v w : ℕ → El) (k : ℕ) → plain R (plain R u v) w k ≈ plain R u (plain R v w) k
  plain_assoc u v w k =
      plain_is (plain R u v) w k
      ⨾ sum_cong L (suc k) (λ i l. mul_right L (w (k - i)) (plain_is u v i) ⨾ sy (sum_mul_right L (suc i) (w (k - i)) (λ j. u j ⊗ v (i - j))))
      ⨾ triangle k (λ i j. u j ⊗ v (i - j) ⊗ w (k - i))
      ⨾ sum_cong L (suc k) (λ j l.
      sum_cong L (suc (k - j)) (λ i m.
      let p : i + j - j ≡ i = omega arith in
      let q : k - (i + j) ≡ k - j - i = omega arith in
      mul_assoc (u j) (v (i + j - j)) (w (k - (i + j))) ⨾ mul_left L (u j) (mul_cong (eqv L (ap v p)) (eqv L (ap w q))))
      ⨾ sum_mul L (suc (k - j)) (u j) (λ i. v i ⊗ w (k - j - i))
      ⨾ mul_left L (u j) (sy (plain_is v w (k - j))))
      ⨾ sy (plain_is u (plain R v w) k)

  pub series_laws : Laws (series R)
  series_laws = record {
    rfl = λ u. record { at = λ k. rfl (u k) };
    sy = λ p. record { at = λ k. sy (p.at k) };
    tr = λ p q. record { at = λ k. tr (p.at k) (q.at k) };
    add_cong = λ p q. record { at = λ k. add_cong (p.at k) (q.at k) };
    mul_cong = λ {a} {b} {c} {d} p q. record {
      at = λ k.
          plain_is a c k ⨾ sum_cong L (suc k) (λ j l. mul_cong (p.at j) (q.at (k - j))) ⨾ sy (plain_is b d k);
    };
    neg_cong = λ p. record { at = λ k. neg_cong (p.at k) };
    add_comm = λ u v. record { at = λ k. add_comm (u k) (v k) };
    add_assoc = λ u v w. record { at = λ k. add_assoc (u k) (v k) (w k) };
    add_o = λ u. record { at = λ k. add_o (u k) };
    add_neg = λ u. record { at = λ k. add_neg (u k) };
    mul_comm = λ u v. record { at = λ k. plain_comm u v k };
    mul_assoc = λ u v w. record { at = λ k. plain_assoc u v w k };
    mul_e = λ u. record { at = λ k. plain_one u k };
    mul-add = λ u v w. record {
      at = λ k.
          plain_is u (λ j. v j ⊕ w j) k
          ⨾ sum_cong L (suc k) (λ j l. mul-add (u j) (v (k - j)) (w (k - j)))
          ⨾ sum_add L (suc k) (λ j. u j ⊗ v (k - j)) (λ j. u j ⊗ w (k - j))
          ⨾ add_cong (sy (plain_is u v k)) (sy (plain_is u w k));
    };
  }

  -- ---- degrees
  pub below_mul : (a b : ℕ) (u v : ℕ → El) → Below R (suc a) u → Below R (suc b) v → Below R (suc (a + b)) (plain R u v)
  below_mul a b u v p q = record { zero_at = λ k l. plain_is u v k ⨾ sum_zero L (suc k) (λ j. u j ⊗ v (k - j)) (λ j m. term k j l (native.Mathlib.Decide.dec_lt a j)) }
    where
      term : (k j : ℕ) → suc (a + b) ≤ k → Dec (a < j) → u j ⊗ v (k - j) ≈ o
      term k j l (yes m) = mul_right L (v (k - j)) (p.zero_at j m) ⨾ o_mul L (v (k - j))
      term k j l (no m) = mul_left L (u j) (q.zero_at (k - j) (omega arith)) ⨾ mul_o L (u j)

  -- the top coefficients multiply
  pub top_mul : (a b : ℕ) (u v : ℕ → El) → Below R (suc a) u → Below R (suc b) v → plain R u v (a + b) ≈ u a ⊗ v b
  top_mul a b u v p q =
      plain_is u v (a + b)
      ⨾ sum_only L (suc (a + b)) a (λ j. u j ⊗ v (a + b - j)) (omega arith) (λ j l d. term j d (native.Mathlib.Decide.dec_lt a j))
      ⨾ (let e : a + b - a ≡ b = omega arith in mul_left L (u a) (eqv L (ap v e)))
    where
      term : (j : ℕ) → j ≢ a → Dec (a < j) → u j ⊗ v (a + b - j) ≈ o
      term j d (yes m) = mul_right L (v (a + b - j)) (p.zero_at j m) ⨾ o_mul L (v (a + b - j))
      term j d (no m) = mul_left L (u j) (q.zero_at (a + b - j) (omega arith)) ⨾ mul_o L (u j)

  -- the plain product of polynomials below n folds into the cyclic one
  pub fold_mul : (n : ℕ) (u v : ℕ → El) → Below R n u → Below R n v → (k : ℕ) → k < n → conv R n u v k ≈ plain R u v k ⊕ plain R u v (k + n)
  fold_mul n u v p q k l =
      let c = n - suc k in
      let A = sum R c (λ i. u (suc k + i) ⊗ v (k + n - (suc k + i))) in
      let e : n ≡ suc k + c = omega arith in
      let e' : suc (k + n) ≡ suc k + (c + suc k) = omega arith in
      let front : sum R (suc k) (λ j. u j ⊗ v (back n k j)) ≈ plain R u v k =
      sum_cong L (suc k) (λ j m. mul_left L (u j) (eqv L (ap v (back_early n k j l (omega arith))))) ⨾ sy (plain_is u v k) in
      let tail : sum R c (λ i. u (suc k + i) ⊗ v (back n k (suc k + i))) ≈ A =
      sum_cong L c (λ i m. mul_left L (u (suc k + i)) (eqv L (ap v (late (suc k + i) (omega arith) (omega arith))))) in
      let far : plain R u v (k + n) ≈ A =
      plain_is u v (k + n) ⨾ eqv L (ap (λ m. sum R m (λ j. u j ⊗ v (k + n - j))) e')
      ⨾ sum_split L (suc k) (c + suc k) (λ j. u j ⊗ v (k + n - j))
      ⨾ add_cong
      (sum_zero L (suc k) (λ j. u j ⊗ v (k + n - j)) (λ j m. mul_left L (u j) (q.zero_at (k + n - j) (omega arith)) ⨾ mul_o L (u j)))
      (sum_split L c (suc k) (λ i. u (suc k + i) ⊗ v (k + n - (suc k + i)))
      ⨾ add_left L A (sum_zero L (suc k) (λ i. u (suc k + (c + i)) ⊗ v (k + n - (suc k + (c + i)))) (λ i m. mul_right L (v (k + n - (suc k + (c + i)))) (p.zero_at (suc k + (c + i)) (omega arith)) ⨾ o_mul L (v (k + n - (suc k + (c + i))))))
      ⨾ add_o A)
      ⨾ o_add L A in
      conv_is L n u v k ⨾ eqv L (ap (λ m. sum R m (λ j. u j ⊗ v (back n k j))) e) ⨾ sum_split L (suc k) c (λ j. u j ⊗ v (back n k j))
      ⨾ add_cong front (tail ⨾ sy far)
    where
      late : (j : ℕ) → k < j → j < n → back n k j ≡ k + n - j
      late j m b = back_late n k j m b ∙ omega arith
