-- A cyclic product reduces to 1 exactly where there is an inverse.
use Rattle.std.proofs.Common.{◌≡◌, ℕ, zero, suc, ◌+◌, ◌-◌, ◌<◌, ◌≤◌, sym, refl, ap, ◌∙◌, subst, ap₂, ⊎_elim, arith}
use mathlib.Core.Path.{fun_ext}
use Rattle.std.proofs.lemmas.Bool.{cases_lt, cases_eq}
use Rattle.algebra.specs.Exact.{Ops, Laws}
use Rattle.euclid.specs.Series.{product_at, monomial, polynomials, Below, less_last, phi1}
use Rattle.euclid.specs.Inverses.{Congruent, Inverse, phi}
use Rattle.euclid.specs.Cyclic.{cut, wrapped, cyclic, reduced, x_less_one}
use Rattle.euclid.proofs.Algebra as algebra
use Rattle.euclid.proofs.Product.{polynomial_laws}
use Rattle.euclid.proofs.Monomials.{shifted_at, shifted_below}
use Rattle.euclid.proofs.Degrees.{below_times, below_plus, below_minus, top_times}
use Rattle.euclid.proofs.Sizes.{below_zero}
use Rattle.euclid.proofs.Bezout.{finite_plus, finite_minus, finite_times}
use Rattle.euclid.proofs.Method.{phi_below, phi_in, unit_below}

module _ {A : Type 0} {o : Ops A} (L : Laws o) where
  pub cut_in : (n : ℕ) (f : ℕ → A) (k : ℕ) → k < n → cut o n f k ≡ f k
  cut_in zero f k h = let z : ⊥ = omega arith in absurd z
  cut_in (suc n) f zero h = refl
  cut_in (suc n) f (suc k) h = cut_in n (λ i. f (suc i)) k (omega arith)

  pub cut_past : (n : ℕ) (f : ℕ → A) → Below o n (cut o n f)
  cut_past zero f k h = refl
  cut_past (suc n) f zero h = let z : ⊥ = omega arith in absurd z
  cut_past (suc n) f (suc k) h = cut_past n (λ i. f (suc i)) k (omega arith)

  -- congruences
  pub congruent_sym : (m a b : ℕ → A) → Congruent o m a b → Congruent o m b a
  congruent_sym m a b (w, hw, e) =
      let P = polynomial_laws L in
      let O = polynomials o in
      (O.minus w, finite_minus L w hw, algebra.moves P a (O.times w m) b (e ∙ P.plus_comm b (O.times w m)) ∙ ap (O.plus a) (sym (algebra.minus_times P w m)))

  pub congruent_trans : (m a b c : ℕ → A) → Congruent o m a b → Congruent o m b c → Congruent o m a c
  congruent_trans m a b c (v, hv, e) (w, hw, f) =
      let P = polynomial_laws L in
      let O = polynomials o in
      (O.plus w v, finite_plus L w v hw hv, e ∙ ap (λ x. O.plus x (O.times v m)) f ∙ P.plus_assoc c (O.times w m) (O.times v m) ∙ ap (O.plus c) (sym (algebra.plus_times P w v m)))

  -- a multiple of phi n with fewer than n coefficients
  no_multiple : (n : ℕ) (m : ℕ) (w : ℕ → A) → Below o m w → Below o n ((polynomials o).times w (phi o (suc n))) → w ≡ (polynomials o).nought
  no_multiple n zero w hw h = below_zero o w hw
  no_multiple n (suc m) w hw h =
      let top : w m ≡ o.nought = sym (L.times_unit (w m)) ∙ ap (o.times (w m)) (sym (phi_in L (suc n) n (omega arith))) ∙ sym (top_times L m n w (phi o (suc n)) (m + n) refl hw (phi_below L (suc n))) ∙ h (m + n) (omega arith) in
      no_multiple n m w (λ k l. ⊎_elim (λ (q : k ≡ m). ap w q ∙ top) (λ (q : k ≡ m → ⊥). let l' : suc m ≤ k = omega arith in hw k l') (cases_eq k m)) h

  -- of what is congruent modulo phi n, one at most has fewer than n coefficients
  pub reduced_unique : (n : ℕ) (a b : ℕ → A) → Below o n a → Below o n b → Congruent o (phi o (suc n)) a b → a ≡ b
  reduced_unique n a b ha hb (w, (m, hw), e) =
      let P = polynomial_laws L in
      let O = polynomials o in
      let product_is : O.times w (phi o (suc n)) ≡ O.plus a (O.minus b) = algebra.moves P a b (O.times w (phi o (suc n))) e in
      let small : Below o n (O.times w (phi o (suc n))) = subst (Below o n) (sym product_is) (below_plus L n a (O.minus b) ha (below_minus L n b hb)) in
      let none : w ≡ O.nought = no_multiple n m w hw small in
      e ∙ ap (λ v. O.plus b (O.times v (phi o (suc n)))) none ∙ ap (O.plus b) (algebra.nought_times P (phi o (suc n))) ∙ P.plus_nought b

  -- of the inverses modulo phi n, one at most has fewer than n coefficients
  pub inverse_only : (n : ℕ) (a u w : ℕ → A) → 0 < n → Inverse o n a u → Inverse o n a w → Below o (n - 1) u → Below o (n - 1) w → w ≡ u
  inverse_only n a u w pos (fu, (x, fx, eu)) (fw, (y, fy, ew)) hu hw =
      let O = polynomials o in
      let more : n ≡ suc (n - 1) = omega arith in
      let apart : Congruent o (phi o n) w u = (
        O.plus (O.times u y) (O.minus (O.times w x)),
        finite_plus L (O.times u y) (O.minus (O.times w x)) (finite_times L u y fu fy) (finite_minus L (O.times w x) (finite_times L w x fw fx)),
        algebra.two_inverses (polynomial_laws L) a (phi o n) u w x y eu ew,
      ) in
      reduced_unique (n - 1) w u hw hu (subst (λ m. Congruent o (phi o m) w u) more apart)

  -- coefficients moved up by one
  up : (ℕ → A) → ℕ → A
  up f zero = o.nought
  up f (suc k) = f k

  telescope : (n k : ℕ) → o.plus (up (phi o n) k) (o.minus (phi o n k)) ≡ o.plus (monomial o o.unit n k) (o.minus (monomial o o.unit 0 k))
  unfolding up
  telescope zero zero = L.plus_minus o.nought ∙ sym (L.plus_minus o.unit)
  telescope zero (suc k) = refl
  telescope (suc n) zero = refl
  telescope (suc zero) (suc zero) = refl
  telescope (suc (suc n)) (suc zero) = L.plus_minus o.unit ∙ sym (L.plus_minus o.nought)
  telescope (suc n) (suc (suc k)) = telescope n (suc k)

  abbrev difference : ℕ → ℕ → A
  difference n = (polynomials o).plus (monomial o o.unit n) ((polynomials o).minus (polynomials o).unit)

  -- f · (x^n - 1)
  times_difference : (n : ℕ) (f : ℕ → A) → (polynomials o).times (difference n) f ≡ (polynomials o).plus ((polynomials o).times (monomial o o.unit n) f) ((polynomials o).minus f)
  times_difference n f =
      let P = polynomial_laws L in
      let O = polynomials o in
      algebra.plus_times P (monomial o o.unit n) (O.minus O.unit) f ∙ ap (O.plus _) (algebra.minus_times P O.unit f ∙ ap O.minus (algebra.unit_times P f))

  up_is : (f : ℕ → A) (k : ℕ) → product_at o (monomial o o.unit 1) f k ≡ up f k
  unfolding up
  up_is f zero = shifted_below L o.unit 1 f 0 (omega arith)
  up_is f (suc k) = shifted_at L o.unit 1 f k (suc k) (omega arith) ∙ algebra.unit_times L (f k)

  shift_at : (a : ℕ → A) (k : ℕ) → product_at o (x_less_one o) a k ≡ o.plus (up a k) (o.minus (a k))
  shift_at a k = ap (λ f. f k) (times_difference 1 a) ∙ ap (λ x. o.plus x (o.minus (a k))) (up_is a k)

  up_at : (a : ℕ → A) (k j : ℕ) → k ≡ suc j → up a k ≡ a j
  unfolding up
  up_at a k j e = ap (up a) e

  up_none : (a : ℕ → A) → up a 0 ≡ o.nought
  unfolding up
  up_none a = refl

  -- the coefficients of (x - 1) · a, where x^n counts as 1
  phi1_at : (n : ℕ) (a : ℕ → A) → Below o n a → (k : ℕ) → k < n → cyclic o n (x_less_one o) a k ≡ phi1 o n a k
  phi1_at n a h zero l =
      let next : 0 + n ≡ suc (n - 1) = omega arith in
      cut_in n (λ k. o.plus (product_at o (x_less_one o) a k) (product_at o (x_less_one o) a (k + n))) 0 l
      ∙ ap₂ o.plus (shift_at a 0 ∙ ap (λ x. o.plus x (o.minus (a 0))) (up_none a) ∙ algebra.nought_plus L (o.minus (a 0))) (shift_at a (0 + n) ∙ ap₂ o.plus (up_at a (0 + n) (n - 1) next) (ap o.minus (h (0 + n) (omega arith)) ∙ algebra.minus_nought L) ∙ L.plus_nought (a (n - 1)))
      ∙ L.plus_comm (o.minus (a 0)) (a (n - 1))
  phi1_at n a h (suc j) l =
      let next : suc j + n ≡ suc (j + n) = omega arith in
      cut_in n (λ k. o.plus (product_at o (x_less_one o) a k) (product_at o (x_less_one o) a (k + n))) (suc j) l
      ∙ ap₂ o.plus (shift_at a (suc j) ∙ ap (λ x. o.plus x (o.minus (a (suc j)))) (up_at a (suc j) j refl)) (shift_at a (suc j + n) ∙ ap₂ o.plus (up_at a (suc j + n) (j + n) next ∙ h (j + n) (omega arith)) (ap o.minus (h (suc j + n) (omega arith)) ∙ algebra.minus_nought L) ∙ L.plus_nought o.nought)
      ∙ L.plus_nought (o.plus (a j) (o.minus (a (suc j))))

  -- what has these coefficients is that product
  pub phi1_cyclic : (n : ℕ) (a b : ℕ → A) → Below o n a → Below o n b → ((k : ℕ) → k < n → b k ≡ phi1 o n a k) → b ≡ cyclic o n (x_less_one o) a
  phi1_cyclic n a b ha hb e =
      fun_ext (λ k. ⊎_elim (λ (l : k < n). e k l ∙ sym (phi1_at n a ha k l)) (λ (l : n ≤ k). hb k l ∙ sym (cut_past n (λ i. o.plus (product_at o (x_less_one o) a i) (product_at o (x_less_one o) a (i + n))) k l)) (cases_lt k n))

  -- (x - 1) · (1 + x + .. + x^(n - 1)) is x^n - 1
  pub factored : (n : ℕ) → (polynomials o).times (difference 1) (phi o n) ≡ difference n
  factored n = times_difference 1 (phi o n) ∙ fun_ext (λ k. ap (λ x. o.plus x (o.minus (phi o n k))) (up_is (phi o n) k) ∙ telescope n k)

  wrapped_at : (n : ℕ) (p : ℕ → A) → Below o (n + n) p → (k : ℕ) → p k ≡ o.plus (wrapped o n p k) (o.plus (product_at o (monomial o o.unit n) (λ i. p (i + n)) k) (o.minus (p (k + n))))
  wrapped_at n p hp k =
      ⊎_elim
      (λ (l : k < n).
      sym (ap₂ o.plus (cut_in n (λ i. o.plus (p i) (p (i + n))) k l) (ap (λ x. o.plus x (o.minus (p (k + n)))) (shifted_below L o.unit n (λ i. p (i + n)) k l) ∙ algebra.nought_plus L _)
      ∙ L.plus_assoc (p k) (p (k + n)) (o.minus (p (k + n))) ∙ ap (o.plus (p k)) (L.plus_minus (p (k + n))) ∙ L.plus_nought (p k)))
      (λ (l : n ≤ k).
      let back : (k - n) + n ≡ k = omega arith in
      let high : p (k + n) ≡ o.nought = hp (k + n) (omega arith) in
      sym (ap₂ o.plus (cut_past n (λ i. o.plus (p i) (p (i + n))) k l) (ap₂ o.plus (shifted_at L o.unit n (λ i. p (i + n)) (k - n) k (omega arith) ∙ algebra.unit_times L (p ((k - n) + n)) ∙ ap p back) (ap o.minus high ∙ algebra.minus_nought L) ∙ L.plus_nought (p k))
      ∙ algebra.nought_plus L (p k)))
      (cases_lt k n)

  pub wrapped_congruent : (n : ℕ) (p : ℕ → A) → Below o (n + n) p → Congruent o (phi o n) p (wrapped o n p)
  wrapped_congruent n p hp =
      let P = polynomial_laws L in
      let O = polynomials o in
      let upper : ℕ → A = λ i. p (i + n) in (
        O.times upper (difference 1),
        finite_times L upper (difference 1) (n, λ k h. hp (k + n) (omega arith)) (finite_plus L (monomial o o.unit 1) (O.minus O.unit) (2, one_up) (finite_minus L O.unit (1, unit_below L))),
        fun_ext (wrapped_at n p hp) ∙ ap (O.plus (wrapped o n p)) (sym (P.times_assoc upper (difference 1) (phi o n) ∙ ap (O.times upper) (factored n) ∙ P.times_comm upper (difference n) ∙ times_difference n upper)),
      )
    where
      one_up : Below o 2 (monomial o o.unit 1)
      one_up zero h = let z : ⊥ = omega arith in absurd z
      one_up (suc zero) h = let z : ⊥ = omega arith in absurd z
      one_up (suc (suc k)) h = refl

  pub reduced_below : (n : ℕ) (c : ℕ → A) → Below o n (reduced o (suc n) c)
  reduced_below n c k h =
      ⊎_elim
      (λ (l : k < suc n).
      let e : suc n - 1 ≡ k = omega arith in
      cut_in (suc n) (less_last o (suc n) c) k l ∙ ap (λ i. o.plus (c k) (o.minus (c i))) e ∙ L.plus_minus (c k))
      (λ (l : suc n ≤ k). cut_past (suc n) (less_last o (suc n) c) k l)
      (cases_lt k (suc n))

  pub reduced_congruent : (n : ℕ) (c : ℕ → A) → Below o (suc n) c → Congruent o (phi o (suc n)) c (reduced o (suc n) c)
  reduced_congruent n c hc = (monomial o (c n) 0, (1, constant), fun_ext go)
    where
      constant : Below o 1 (monomial o (c n) 0)
      constant zero h = let z : ⊥ = omega arith in absurd z
      constant (suc k) h = refl

      go : (k : ℕ) → c k ≡ o.plus (reduced o (suc n) c k) (product_at o (monomial o (c n) 0) (phi o (suc n)) k)
      go k =
          ⊎_elim
          (λ (l : k < suc n).
          let e : suc n - 1 ≡ n = omega arith in
          sym (ap₂ o.plus (cut_in (suc n) (less_last o (suc n) c) k l ∙ ap (λ i. o.plus (c k) (o.minus (c i))) e) (shifted_at L (c n) 0 (phi o (suc n)) k k (omega arith) ∙ ap (o.times (c n)) (phi_in L (suc n) k l) ∙ L.times_unit (c n))
          ∙ algebra.less_more L (c k) (c n)))
          (λ (l : suc n ≤ k).
          hc k l ∙ sym (ap₂ o.plus (cut_past (suc n) (less_last o (suc n) c) k l) (shifted_at L (c n) 0 (phi o (suc n)) k k (omega arith) ∙ ap (o.times (c n)) (phi_below L (suc n) k l) ∙ algebra.times_nought L (c n)) ∙ L.plus_nought o.nought))
          (cases_lt k (suc n))

  -- The cyclic product of two polynomials of n coefficients, reduced, is what their product is congruent to.
  pub cyclic_reduced : (n : ℕ) (a b : ℕ → A) → Below o (suc n) a → Below o (suc n) b → Congruent o (phi o (suc n)) ((polynomials o).times a b) (reduced o (suc n) (cyclic o (suc n) a b))
  cyclic_reduced n a b ha hb =
      congruent_trans (phi o (suc n)) ((polynomials o).times a b) (cyclic o (suc n) a b) (reduced o (suc n) (cyclic o (suc n) a b))
      (wrapped_congruent (suc n) ((polynomials o).times a b) (below_times L (suc n) (suc n) a b ha hb))
      (reduced_congruent n (cyclic o (suc n) a b) (cut_past (suc n) (λ k. o.plus ((polynomials o).times a b k) ((polynomials o).times a b (k + suc n)))))

  pub one_if_inverse : (n : ℕ) (a u : ℕ → A) → 0 < n → Below o (suc n) a → Below o (suc n) u → Inverse o (suc n) a u → reduced o (suc n) (cyclic o (suc n) a u) ≡ (polynomials o).unit
  one_if_inverse n a u h ha hu (f, e) =
      reduced_unique n (reduced o (suc n) (cyclic o (suc n) a u)) (polynomials o).unit (reduced_below n (cyclic o (suc n) a u)) (λ k l. unit_below L k (omega arith))
      (congruent_trans (phi o (suc n)) (reduced o (suc n) (cyclic o (suc n) a u)) ((polynomials o).times a u) (polynomials o).unit (congruent_sym (phi o (suc n)) ((polynomials o).times a u) (reduced o (suc n) (cyclic o (suc n) a u)) (cyclic_reduced n a u ha hu)) e)

  pub inverse_if_one : (n : ℕ) (a u : ℕ → A) → Below o (suc n) a → Below o (suc n) u → reduced o (suc n) (cyclic o (suc n) a u) ≡ (polynomials o).unit → Inverse o (suc n) a u
  inverse_if_one n a u ha hu e = ((suc n, hu), subst (Congruent o (phi o (suc n)) ((polynomials o).times a u)) e (cyclic_reduced n a u ha hu))
