-- Laws of `row-sum`.
use Rattle.std.proofs.Common.{◌≡◌, ℕ, zero, suc, ◌+◌, ◌-◌, ◌*◌, ◌%◌, ◌<◌, ◌≤◌, List, [], ◌∷◌, ◌++◌, length, get_or, take, drop, set, replicate, refl, ap, ◌∙◌, ap₂, add-one, arith, take_all}
use native.Mathlib.Nat.{add-mod-mod}
use borrow.Rule.Slice.PartMut.{put_mid}
use lib.Lanes.{zip2}
use Rattle.arithmetic.specs.Rows.{row_sum}

module _ (m f : ℕ) where
  pub length_row_sum : (xs ys : List ℕ) → length (row_sum m f xs ys) ≡ length ys
  unfolding row_sum
  length_row_sum [] ys = refl
  length_row_sum (x ∷ xs) [] = refl
  length_row_sum (x ∷ xs) (y ∷ ys) = ap suc (length_row_sum xs ys)

  pub get_d_row_sum : (xs ys : List ℕ) (i : ℕ) → i < length xs → i < length ys → get_or (row_sum m f xs ys) i 0 ≡ (get_or ys i 0 + f * get_or xs i 0) % m
  unfolding row_sum
  get_d_row_sum [] ys i h k = absurd (omega arith)
  get_d_row_sum (x ∷ xs) [] i h k = absurd (omega arith)
  get_d_row_sum (x ∷ xs) (y ∷ ys) zero h k = refl
  get_d_row_sum (x ∷ xs) (y ∷ ys) (suc i) h k = get_d_row_sum xs ys i (omega arith) (omega arith)

  -- the words in lanes
  pub lanes_sum : (xs ys : List ℕ) → length ys ≡ length xs → zip2 (λ a b. (a + b) % m) ys (zip2 (λ a b. (a * b) % m) (replicate (length xs) f) xs) ≡ row_sum m f xs ys
  unfolding row_sum
  lanes_sum [] [] e = refl
  lanes_sum [] (y ∷ ys) e = absurd (omega arith)
  lanes_sum (x ∷ xs) [] e = absurd (omega arith)
  lanes_sum (x ∷ xs) (y ∷ ys) e = ap₂ (λ z t. z ∷ t) (add-mod-mod y (f * x) m) (lanes_sum xs ys (omega arith))

  -- one word more
  row_sum_suc : (xs ys : List ℕ) (i : ℕ) → i < length xs → i < length ys → set (row_sum m f (take i xs) ys) i ((get_or (row_sum m f (take i xs) ys) i 0 + f * get_or xs i 0) % m) ≡ row_sum m f (take (suc i) xs) ys
  unfolding row_sum
  row_sum_suc [] ys i h k = absurd (omega arith)
  row_sum_suc (x ∷ xs) [] i h k = absurd (omega arith)
  row_sum_suc (x ∷ xs) (y ∷ ys) zero h k = refl
  row_sum_suc (x ∷ xs) (y ∷ ys) (suc i) h k = ap (λ t. ((y + f * x) % m) ∷ t) (row_sum_suc xs ys i (omega arith) (omega arith))

  pub row_sum_more : (xs ys zs : List ℕ) (i v : ℕ) → i < length xs → length ys ≡ length xs → zs ≡ row_sum m f (take i xs) ys → v ≡ (get_or zs i 0 + f * get_or xs i 0) % m → set zs i v ≡ row_sum m f (take (i + 1) xs) ys
  row_sum_more xs ys zs i v h e z w =
      let k : i < length ys = omega arith in
      rw (w, z, add-one) (row_sum_suc xs ys i h k)

  -- n words more, from word i on
  first_part : (n : ℕ) (xs ys : List ℕ) → n ≤ length xs → length ys ≡ length xs → row_sum m f (take n xs) (take n ys) ++ drop n ys ≡ row_sum m f (take n xs) ys
  unfolding row_sum
  first_part zero xs ys h e = refl
  first_part (suc n) [] ys h e = absurd (omega arith)
  first_part (suc n) (x ∷ xs) [] h e = absurd (omega arith)
  first_part (suc n) (x ∷ xs) (y ∷ ys) h e = ap (λ t. ((y + f * x) % m) ∷ t) (first_part n xs ys (omega arith) (omega arith))

  next_part : (i n : ℕ) (xs ys : List ℕ) → i + n ≤ length xs → length ys ≡ length xs →
      put_mid i n (row_sum m f (take i xs) ys) (row_sum m f (take n (drop i xs)) (take n (drop i (row_sum m f (take i xs) ys)))) ≡ row_sum m f (take (i + n) xs) ys
  unfolding row_sum
  next_part zero n xs ys h e = let p : 0 + n ≡ n = omega arith in rw p (first_part n xs ys (omega arith) e)
  next_part (suc i) n [] ys h e = absurd (omega arith)
  next_part (suc i) n (x ∷ xs) [] h e = absurd (omega arith)
  next_part (suc i) n (x ∷ xs) (y ∷ ys) h e =
      let p : suc i + n ≡ suc (i + n) = omega arith in
      rw p (ap (λ t. ((y + f * x) % m) ∷ t) (next_part i n xs ys (omega arith) (omega arith)))

  -- the part from word i to word e of a row goes into that of the output
  pub part_more : (i e e' : ℕ) (xs ys zs ws : List ℕ) → i ≤ e → e ≤ length xs → length ys ≡ length xs → e' ≡ e → zs ≡ row_sum m f (take i xs) ys →
      ws ≡ row_sum m f (take (e - i) (drop i xs)) (take (e' - i) (drop i zs)) → put_mid i (e' - i) zs ws ≡ row_sum m f (take e xs) ys
  part_more i e e' xs ys zs ws h k l p z w =
      let q : i + (e - i) ≡ e = omega arith in
      rw (w, z, p) (next_part i (e - i) xs ys (omega arith) l ∙ rw q)

  -- the rest of the row goes into the rest of the output
  pub rest_more : (i : ℕ) (xs ys zs ws : List ℕ) → i ≤ length xs → length ys ≡ length xs → length zs ≡ length xs → zs ≡ row_sum m f (take i xs) ys →
      ws ≡ row_sum m f (take (length xs - i) (drop i xs)) (take (length zs - i) (drop i zs)) → put_mid i (length zs - i) zs ws ≡ row_sum m f xs ys
  rest_more i xs ys zs ws h l k z w =
      part_more i (length xs) (length zs) xs ys zs ws h (omega arith) l k z w ∙ ap (λ (t : List ℕ). row_sum m f t ys) (take_all (length xs) xs (omega arith))
