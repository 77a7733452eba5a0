-- The polynomial of a list.
use Rattle.std.proofs.Common.{◌≡◌, ℕ, zero, suc, ◌+◌, ◌-◌, ◌<◌, ◌≤◌, ◌≢◌, List, [], ◌∷◌, length, get_or, take, set, sym, refl, ap, ◌∙◌, ap₂, ⊎_elim, add-one, arith}
use mathlib.Core.Path.{fun_ext}
use Rattle.algebra.specs.Exact.{Ops, Laws}
use Rattle.euclid.specs.Series.{monomial, polynomials, Below, Size, poly}
use Rattle.std.proofs.lemmas.Bool.{cases_lt}
use Rattle.euclid.proofs.Algebra as algebra
use Rattle.euclid.proofs.Monomials.{monomial_nought_at}

module _ {X A : Type 0} {o : Ops A} (L : Laws o) (value : X → A) where
  pub poly_at : (xs : List X) (i : ℕ) (d : X) → i < length xs → poly o value xs i ≡ value (get_or xs i d)
  poly_at [] i d h = let z : ⊥ = omega arith in absurd z
  poly_at (x ∷ xs) zero d h = refl
  poly_at (x ∷ xs) (suc i) d h = poly_at xs i d (omega arith)

  pub poly_read : (xs : List X) (i : ℕ) (x : X) → i < length xs → x ≡ get_or xs i x → value x ≡ poly o value xs i
  poly_read xs i x h e = ap value e ∙ sym (poly_at xs i x h)

  pub poly_past : (xs : List X) → Below o (length xs) (poly o value xs)
  poly_past [] k h = refl
  poly_past (x ∷ xs) zero h = let z : ⊥ = omega arith in absurd z
  poly_past (x ∷ xs) (suc k) h = poly_past xs k (omega arith)

  poly_set_at : (xs : List X) (j : ℕ) (y : X) (e : A) (k : ℕ) → j < length xs → value y ≡ o.plus (poly o value xs j) e → poly o value (set xs j y) k ≡ o.plus (poly o value xs k) (monomial o e j k)
  poly_set_at [] j y e k h q = let z : ⊥ = omega arith in absurd z
  poly_set_at (x ∷ xs) zero y e zero h q = q
  poly_set_at (x ∷ xs) zero y e (suc k) h q = sym (L.plus_nought _)
  poly_set_at (x ∷ xs) (suc j) y e zero h q = sym (L.plus_nought _)
  poly_set_at (x ∷ xs) (suc j) y e (suc k) h q = poly_set_at xs j y e k (omega arith) q

  -- a write of what stood there and e
  pub poly_set : (xs : List X) (j : ℕ) (y : X) (e : A) → j < length xs → value y ≡ o.plus (poly o value xs j) e → poly o value (set xs j y) ≡ (polynomials o).plus (poly o value xs) (monomial o e j)
  poly_set xs j y e h q = fun_ext (λ k. poly_set_at xs j y e k h q)

  poly_take_suc : (xs : List X) (i k : ℕ) → poly o value (take (suc i) xs) k ≡ o.plus (poly o value (take i xs) k) (monomial o (poly o value xs i) i k)
  poly_take_suc [] zero zero = sym (L.plus_nought _)
  poly_take_suc [] zero (suc k) = sym (L.plus_nought _)
  poly_take_suc [] (suc i) zero = sym (L.plus_nought _)
  poly_take_suc [] (suc i) (suc k) = sym (ap (o.plus _) (monomial_nought_at L i k) ∙ L.plus_nought _)
  poly_take_suc (x ∷ xs) zero zero = sym (algebra.nought_plus L _)
  poly_take_suc (x ∷ xs) zero (suc k) = sym (L.plus_nought _)
  poly_take_suc (x ∷ xs) (suc i) zero = sym (L.plus_nought _)
  poly_take_suc (x ∷ xs) (suc i) (suc k) = poly_take_suc xs i k

  pub poly_take_more : (xs : List X) (i : ℕ) → poly o value (take (i + 1) xs) ≡ (polynomials o).plus (poly o value (take i xs)) (monomial o (poly o value xs i) i)
  poly_take_more xs i = rw add-one (fun_ext (λ k. poly_take_suc xs i k))

  poly_take_at : (xs : List X) (n : ℕ) (k : ℕ) → Below o n (poly o value xs) → poly o value (take n xs) k ≡ poly o value xs k
  poly_take_at xs zero k b = sym (b k (omega arith))
  poly_take_at [] (suc n) k b = refl
  poly_take_at (x ∷ xs) (suc n) zero b = refl
  poly_take_at (x ∷ xs) (suc n) (suc k) b = poly_take_at xs n k (λ i h. b (suc i) (omega arith))

  -- a front that holds all but zeros
  pub poly_take : (xs : List X) (n : ℕ) → Below o n (poly o value xs) → poly o value (take n xs) ≡ poly o value xs
  poly_take xs n b = fun_ext (λ k. poly_take_at xs n k b)

  pub poly_set_same : (xs : List X) (j : ℕ) (y : X) → j < length xs → poly o value (set xs j y) j ≡ value y
  poly_set_same [] j y h = let z : ⊥ = omega arith in absurd z
  poly_set_same (x ∷ xs) zero y h = refl
  poly_set_same (x ∷ xs) (suc j) y h = poly_set_same xs j y (omega arith)

  pub poly_set_other : (xs : List X) (j k : ℕ) (y : X) → k ≢ j → poly o value (set xs j y) k ≡ poly o value xs k
  poly_set_other [] j k y h = refl
  poly_set_other (x ∷ xs) zero zero y h = absurd (h refl)
  poly_set_other (x ∷ xs) zero (suc k) y h = refl
  poly_set_other (x ∷ xs) (suc j) zero y h = refl
  poly_set_other (x ∷ xs) (suc j) (suc k) y h = poly_set_other xs j k y (λ e. h (ap suc e))

  -- a list whose coefficients are all zero
  pub poly_zeros : (xs : List X) (n : ℕ) → length xs ≤ n → ((k : ℕ) → k < n → poly o value xs k ≡ o.nought) → poly o value xs ≡ (polynomials o).nought
  poly_zeros xs n h z = fun_ext (λ k. ⊎_elim (λ l. z k l) (λ l. poly_past xs k (omega arith)) (cases_lt k n))

  -- what undoes the highest coefficient
  pub top_undone : (xs : List X) (m : ℕ) (x y : X) → 0 < m → m ≤ length xs → Size o m (poly o value xs) → x ≡ get_or xs (m - 1) x → ((value x ≡ o.nought → ⊥) → o.times (value x) (value y) ≡ o.unit) → o.times (poly o value xs (m - 1)) (value y) ≡ o.unit
  top_undone xs m x y some within size read undoes =
      let lt : m - 1 < length xs = omega arith in
      let there : value x ≡ poly o value xs (m - 1) = poly_read xs (m - 1) x lt read in
      let m_is : m ≡ suc (m - 1) = omega arith in
      ap (λ w. o.times w (value y)) (sym there) ∙ undoes (λ z. size.top (m - 1) m_is (sym there ∙ z))

  -- where equal values are of equal coefficients, a list is known by its length and its polynomial
  pub poly_same : ((x y : X) → value x ≡ value y → x ≡ y) → (xs ys : List X) → length xs ≡ length ys → poly o value xs ≡ poly o value ys → xs ≡ ys
  poly_same h [] [] l e = refl
  poly_same h [] (y ∷ ys) l e = let z : ⊥ = omega arith in absurd z
  poly_same h (x ∷ xs) [] l e = let z : ⊥ = omega arith in absurd z
  poly_same h (x ∷ xs) (y ∷ ys) l e = ap₂ (λ b bs. b ∷ bs) (h x y (ap (λ f. f 0) e)) (poly_same h xs ys (omega arith) (ap (λ f k. f (suc k)) e))
