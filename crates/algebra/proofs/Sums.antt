-- Finite sums in a commutative ring.
use Rattle.std.proofs.Common.{◌≡◌, ℕ, zero, suc, ◌+◌, ◌-◌, ◌%◌, ◌<◌, ◌≢◌, sym, ap, ◌∙◌, add-zero, mod-eq_of_lt, arith}
use native.Mathlib.Nat.{mod-add-mod, mod_self}
use native.Mathlib.Decide.{ℕ_discrete}
use Rattle.algebra.specs.Ring.{Ops, Laws, times_one, sum, sum_by, back}
use Rattle.algebra.proofs.Derived.{eqv, o_add, add_right, add_four, mul_o, o_mul, neg_o, neg_add, e_mul, add-mul}

module _ {R : Ops} (L : Laws R) where
  infixr 30 ◌⨾◌
  infixl 60 ◌⊕◌
  infixl 70 ◌⊗◌
  infix 40 ◌≈◌
  open R use {El, same as ◌≈◌, o, e, add as ◌⊕◌, mul as ◌⊗◌, neg}
  open L use {rfl, sy, tr, add_cong, add_comm, add_assoc, add_o, mul_comm, mul-add}

  ◌⨾◌ : {a b c : El} → a ≈ b → b ≈ c → a ≈ c
  p ⨾ q = tr p q

  pub sum_none : (f : ℕ → El) → sum R 0 f ≈ o
  unfolding sum_by
  sum_none f = rfl o

  pub sum_more : (n : ℕ) (f : ℕ → El) → sum R (suc n) f ≈ sum R n f ⊕ f n
  unfolding sum_by
  sum_more n f = rfl (sum R n f ⊕ f n)

  pub sum_cong : (n : ℕ) {f g : ℕ → El} → ((k : ℕ) → k < n → f k ≈ g k) → sum R n f ≈ sum R n g
  unfolding sum_by
  sum_cong zero h = rfl o
  sum_cong (suc n) h = add_cong (sum_cong n (λ k l. h k (omega arith))) (h n (omega arith))

  pub sum_o : (n : ℕ) → sum R n (λ k. o) ≈ o
  unfolding sum_by
  sum_o zero = rfl o
  sum_o (suc n) = add_o (sum R n (λ k. o)) ⨾ sum_o n

  pub sum_add : (n : ℕ) (f g : ℕ → El) → sum R n (λ k. f k ⊕ g k) ≈ sum R n f ⊕ sum R n g
  unfolding sum_by
  sum_add zero f g = sy (add_o o)
  sum_add (suc n) f g = add_right L (f n ⊕ g n) (sum_add n f g) ⨾ add_four L (sum R n f) (sum R n g) (f n) (g n)

  pub sum_neg : (n : ℕ) (f : ℕ → El) → sum R n (λ k. neg (f k)) ≈ neg (sum R n f)
  unfolding sum_by
  sum_neg zero f = sy (neg_o L)
  sum_neg (suc n) f = add_right L (neg (f n)) (sum_neg n f) ⨾ sy (neg_add L (sum R n f) (f n))

  pub sum_mul : (n : ℕ) (a : El) (f : ℕ → El) → sum R n (λ k. a ⊗ f k) ≈ a ⊗ sum R n f
  unfolding sum_by
  sum_mul zero a f = sy (mul_o L a)
  sum_mul (suc n) a f = add_right L (a ⊗ f n) (sum_mul n a f) ⨾ sy (mul-add a (sum R n f) (f n))

  pub sum_mul_right : (n : ℕ) (a : El) (f : ℕ → El) → sum R n (λ k. f k ⊗ a) ≈ sum R n f ⊗ a
  sum_mul_right n a f = sum_cong n (λ k l. mul_comm (f k) a) ⨾ sum_mul n a f ⨾ mul_comm a (sum R n f)

  pub sum_const : (n : ℕ) (a : El) → sum R n (λ k. a) ≈ times_one R n ⊗ a
  unfolding sum_by
  sum_const zero a = sy (o_mul L a)
  sum_const (suc n) a = add_cong (sum_const n a) (sy (e_mul L a)) ⨾ sy (add-mul L (times_one R n) e a)

  pub sum_swap : (n m : ℕ) (f : ℕ → ℕ → El) → sum R n (λ i. sum R m (f i)) ≈ sum R m (λ j. sum R n (λ i. f i j))
  unfolding sum_by
  sum_swap zero m f = sy (sum_o m)
  sum_swap (suc n) m f = add_right L (sum R m (f n)) (sum_swap n m f) ⨾ sy (sum_add m (λ j. sum R n (λ i. f i j)) (f n))

  pub sum_first : (n : ℕ) (f : ℕ → El) → sum R (suc n) f ≈ f 0 ⊕ sum R n (λ k. f (suc k))
  unfolding sum_by
  sum_first zero f = add_comm o (f 0)
  sum_first (suc n) f = add_right L (f (suc n)) (sum_first n f) ⨾ add_assoc (f 0) (sum R n (λ k. f (suc k))) (f (suc n))

  pub sum_reverse : (n : ℕ) (f : ℕ → El) → sum R n (λ k. f (n - suc k)) ≈ sum R n f
  unfolding sum_by
  sum_reverse zero f = rfl o
  sum_reverse (suc n) f =
      add_cong
      (sum_cong n (λ k l. let p : suc n - suc k ≡ suc (n - suc k) = omega arith in eqv L (ap f p)) ⨾ sum_reverse n (λ k. f (suc k)))
      (let p : suc n - suc n ≡ 0 = omega arith in eqv L (ap f p))
      ⨾ add_comm (sum R n (λ k. f (suc k))) (f 0) ⨾ sy (sum_first n f)

  -- one place round
  sum_round : (n : ℕ) (f : ℕ → El) → sum R n (λ k. f (suc k % n)) ≈ sum R n f
  unfolding sum_by
  sum_round zero f = rfl o
  sum_round (suc n) f =
      add_cong
      (sum_cong n {g = λ k. f (suc k)} (λ k l. let p : suc k < suc n = omega arith in eqv L (ap f (mod-eq_of_lt p))))
      (eqv L (ap f (mod_self (suc n))))
      ⨾ add_comm (sum R n (λ k. f (suc k))) (f 0) ⨾ sy (sum_first n f)

  -- c places round
  pub sum_rotate : (n c : ℕ) (f : ℕ → El) → sum R n (λ k. f ((k + c) % n)) ≈ sum R n f
  sum_rotate n zero f = sum_cong n (λ k l. eqv L (ap f (ap (λ y. y % n) (add-zero k) ∙ mod-eq_of_lt l)))
  sum_rotate n (suc c) f =
      sum_cong n (λ k l. eqv L (ap f (step k))) ⨾ sum_round n (λ y. f ((y + c) % n)) ⨾ sum_rotate n c f
    where
      step : (k : ℕ) → (k + suc c) % n ≡ (suc k % n + c) % n
      step k = let p : k + suc c ≡ suc k + c = omega arith in ap (λ y. y % n) p ∙ sym (mod-add-mod (suc k) n c)

  pub sum_back : (n k : ℕ) (f : ℕ → El) → sum R n (λ j. f (back n k j)) ≈ sum R n f
  sum_back n k f =
      sy (sum_reverse n (λ j. f (back n k j)))
      ⨾ sum_cong n (λ i l. let p : k + (n - (n - suc i)) ≡ i + suc k = omega arith in eqv L (ap f (ap (λ y. y % n) p)))
      ⨾ sum_rotate n (suc k) f

  -- all but one are zero
  pub sum_only : (n i : ℕ) (f : ℕ → El) → i < n → ((k : ℕ) → k < n → k ≢ i → f k ≈ o) → sum R n f ≈ f i
  unfolding sum_by
  sum_only zero i f l h = absurd (omega arith)
  sum_only (suc n) i f l h = by (ℕ_discrete n i) (λ lt. sum_only n i f lt (λ k b. h k (omega arith)))
    where
      by : Dec (n ≡ i) → (i < n → sum R n f ≈ f i) → sum R n f ⊕ f n ≈ f i
      by (yes p) rest =
          add_cong (sum_cong n {g = λ k. o} (λ k b. h k (omega arith) (omega arith)) ⨾ sum_o n) (eqv L (ap f p)) ⨾ o_add L (f i)
      by (no p) rest = add_cong (rest (omega arith)) (h n (omega arith) p) ⨾ add_o (f i)

  pub sum_split : (a b : ℕ) (f : ℕ → El) → sum R (a + b) f ≈ sum R a f ⊕ sum R b (λ i. f (a + i))
  unfolding sum_by
  sum_split a zero f = let p : a + 0 ≡ a = omega arith in eqv L (ap (λ m. sum R m f) p) ⨾ sy (add_o (sum R a f))
  sum_split a (suc b) f =
      let p : a + suc b ≡ suc (a + b) = omega arith in
      eqv L (ap (λ m. sum R m f) p) ⨾ add_right L (f (a + b)) (sum_split a b f) ⨾ add_assoc (sum R a f) (sum R b (λ i. f (a + i))) (f (a + b))

  pub sum_zero : (n : ℕ) (f : ℕ → El) → ((k : ℕ) → k < n → f k ≈ o) → sum R n f ≈ o
  sum_zero n f h = sum_cong n {g = λ k. o} h ⨾ sum_o n

  pub sum_three : (n : ℕ) (p q r : El) (f g h : ℕ → El) → sum R n (λ k. p ⊗ f k ⊕ q ⊗ g k ⊕ r ⊗ h k) ≈ p ⊗ sum R n f ⊕ q ⊗ sum R n g ⊕ r ⊗ sum R n h
  sum_three n p q r f g h =
      sum_add n (λ k. p ⊗ f k ⊕ q ⊗ g k) (λ k. r ⊗ h k)
      ⨾ add_cong (sum_add n (λ k. p ⊗ f k) (λ k. q ⊗ g k) ⨾ add_cong (sum_mul n p f) (sum_mul n q g)) (sum_mul n r h)
