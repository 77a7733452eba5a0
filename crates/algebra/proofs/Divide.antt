-- Division by x - 1.
use Rattle.std.proofs.Common.{◌≡◌, ℕ, zero, suc, ◌-◌, ◌<◌, ◌≤◌, [], ◌∷◌, ap, arith}
use Rattle.algebra.specs.Ring.{Ops, Laws, Agree, Differ, sum, conv, cyclic, ones, phi1, divided, times_one}
use Rattle.algebra.proofs.Derived.{eqv, add_right, neg_o}
use Rattle.algebra.proofs.Solver.{x, one, nat, ◌⊞◌, ◌⊠◌, ◌⊟◌, minus, follows}
use Rattle.algebra.proofs.Sums.{sum_more, sum_none}
use Rattle.algebra.proofs.Indices.{back_first, back_next}
use Rattle.algebra.proofs.Phi.{total_phi1_mul, by_sum, phi1_mul}

module _ {R : Ops} (L : Laws R) (n : ℕ) (two : 2 ≤ n) where
  infixr 30 ◌⨾◌
  infixl 60 ◌⊕◌
  infixl 70 ◌⊗◌
  infix 40 ◌≈◌
  open R use {El, same as ◌≈◌, o, e, add as ◌⊕◌, mul as ◌⊗◌, neg}
  open L use {sy, tr, neg_cong}

  ◌⨾◌ : {a b c : El} → a ≈ b → b ≈ c → a ≈ c
  p ⨾ q = tr p q

  pub phi1_first : (v : ℕ → El) → conv R n (phi1 R n) v 0 ≈ v (n - 1) ⊕ neg (v 0)
  phi1_first v = phi1_mul L n v 0 (omega arith) ⨾ add_right L (neg (v 0)) (eqv L (ap v (back_first n two)))

  pub phi1_later : (v : ℕ → El) (k : ℕ) → suc k < n → conv R n (phi1 R n) v (suc k) ≈ v k ⊕ neg (v (suc k))
  phi1_later v k l = phi1_mul L n v (suc k) l ⨾ add_right L (neg (v (suc k))) (eqv L (ap v (back_next n two k l)))

  -- the product with x - 1 and the last coefficient determine a polynomial
  pub divide_unique : (u v : ℕ → El) → Agree R n (conv R n (phi1 R n) u) (conv R n (phi1 R n) v) → u (n - 1) ≈ v (n - 1) → Agree R n u v
  divide_unique u v h z = record { at = go }
    where
      step : (k : ℕ) → suc k < n → u k ≈ v k → u (suc k) ≈ v (suc k)
      step k l p = follows L (u k ∷ v k ∷ u (suc k) ∷ v (suc k) ∷ []) (x 2) (x 3)
          ((one, x 0, x 1) ∷ (minus one, x 0 ⊟ x 2, x 1 ⊟ x 3) ∷ []) tt
          (p, (sy (phi1_later u k l) ⨾ h.at (suc k) l ⨾ phi1_later v k l, tt))

      go : (k : ℕ) → k < n → u k ≈ v k
      go zero l = follows L (u (n - 1) ∷ v (n - 1) ∷ u 0 ∷ v 0 ∷ []) (x 2) (x 3)
          ((one, x 0, x 1) ∷ (minus one, x 0 ⊟ x 2, x 1 ⊟ x 3) ∷ []) tt
          (z, (sy (phi1_first u) ⨾ h.at 0 l ⨾ phi1_first v, tt))
      go (suc k) l = step k l (go k (omega arith))

  pub divided_last : (y : ℕ → El) → sum R n y ≈ o → divided R y (n - 1) ≈ o
  divided_last y z = let p : suc (n - 1) ≡ n = omega arith in neg_cong (eqv L (ap (λ m. sum R m y) p) ⨾ z) ⨾ neg_o L

  pub divided_is : (y : ℕ → El) → sum R n y ≈ o → Agree R n (conv R n (phi1 R n) (divided R y)) y
  divided_is y z = record { at = go }
    where
      go : (k : ℕ) → k < n → conv R n (phi1 R n) (divided R y) k ≈ y k
      go zero l = phi1_first (divided R y)
          ⨾ follows L (divided R y (n - 1) ∷ sum R 1 y ∷ sum R 0 y ∷ y 0 ∷ []) (x 0 ⊟ minus (x 1)) (x 3)
          ((one, x 0, nat 0) ∷ (one, x 1, x 2 ⊞ x 3) ∷ (one, x 2, nat 0) ∷ []) tt (divided_last y z, (sum_more L 0 y, (sum_none L y, tt)))
      go (suc k) l = phi1_later (divided R y) k l
          ⨾ follows L (sum R (suc k) y ∷ sum R (suc (suc k)) y ∷ y (suc k) ∷ []) (minus (x 0) ⊟ minus (x 1)) (x 2)
          ((one, x 1, x 0 ⊞ x 2) ∷ []) tt (sum_more L (suc k) y, tt)

  -- and so up to multiples of all ones, where n has an inverse
  pub divide_unique_phi : (i : El) → times_one R n ⊗ i ≈ e → (u v : ℕ → El) →
      Differ (cyclic R n) (ones R) (conv R n (phi1 R n) u) (conv R n (phi1 R n) v) → u (n - 1) ≈ v (n - 1) → Agree R n u v
  divide_unique_phi i inv u v d z =
      divide_unique u v (by_sum L n i inv d (total_phi1_mul L n (omega arith) u ⨾ sy (total_phi1_mul L n (omega arith) v))) z

  -- where a has the inverse t: the one g without coefficient n - 1 and with y = a (x - 1) g
  pub quotient_is : (a t : El) → a ⊗ t ≈ e → (g y : ℕ → El) → g (n - 1) ≈ o → Agree R n y (λ k. a ⊗ conv R n (phi1 R n) g k) → Agree R n g (λ k. t ⊗ divided R y k)
  quotient_is a t inv g y last h = record { at = go }
    where
      G : ℕ → El
      G = conv R n (phi1 R n) g

      use_first : (k : ℕ) → k < n → y k ≈ a ⊗ G k
      use_first k l = h.at k l

      go : (k : ℕ) → k < n → g k ≈ t ⊗ divided R y k
      go zero l = follows L (a ∷ t ∷ g 0 ∷ g (n - 1) ∷ G 0 ∷ y 0 ∷ sum R 0 y ∷ sum R 1 y ∷ []) (x 2) (x 1 ⊠ minus (x 7))
          ((minus (x 2), x 0 ⊠ x 1, one) ∷ (x 1 ⊠ x 0, x 3, nat 0) ∷ (minus (x 0 ⊠ x 1), x 3 ⊟ x 2, x 4) ∷ (x 1, x 5, x 0 ⊠ x 4) ∷ (x 1, x 6, nat 0) ∷ (x 1, x 7, x 6 ⊞ x 5) ∷ []) tt
          (inv, (last, (sy (phi1_first g), (use_first 0 l, (sum_none L y, (sum_more L 0 y, tt))))))
      go (suc k) l = follows L (a ∷ t ∷ g (suc k) ∷ g k ∷ G (suc k) ∷ y (suc k) ∷ sum R (suc k) y ∷ sum R (suc (suc k)) y ∷ []) (x 2) (x 1 ⊠ minus (x 7))
          ((minus (x 2) ⊞ x 3, x 0 ⊠ x 1, one) ∷ (one, x 3, x 1 ⊠ minus (x 6)) ∷ (minus (x 0 ⊠ x 1), x 3 ⊟ x 2, x 4) ∷ (x 1, x 5, x 0 ⊠ x 4) ∷ (x 1, x 7, x 6 ⊞ x 5) ∷ []) tt
          (inv, (go k (omega arith), (sy (phi1_later g k l), (use_first (suc k) l, (sum_more L (suc k) y, tt)))))
