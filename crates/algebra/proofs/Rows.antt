-- The sum of rows of a list written twice is the cyclic product.
use Rattle.std.proofs.Common.{◌≡◌, ℕ, suc, ◌+◌, ◌-◌, ◌%◌, ◌<◌, ◌≤◌, ◌⊎◌, List, [], ◌∷◌, ◌++◌, length, get_or, sym, ap, ◌∙◌, ap₂, inl, inr, arith}
use lib.ListN.{get_or-append}
use Rattle.algebra.specs.Ring.{Ops, Laws, sum, conv, back}
use Rattle.algebra.proofs.Derived.{eqv, mul_left}
use Rattle.algebra.proofs.Sums.{sum_cong}
use Rattle.algebra.proofs.Indices.{mod_two}
use Rattle.algebra.proofs.Cyclic.{conv_is}

append_right : {A : Type 0} (xs ys : List A) (k : ℕ) (d : A) → get_or (xs ++ ys) (length xs + k) d ≡ get_or ys k d
append_right [] ys k d = let e : 0 + k ≡ k = omega arith in ap (λ i. get_or ys i d) e
append_right (x ∷ xs) ys k d = let e : suc (length xs) + k ≡ suc (length xs + k) = omega arith in ap (λ i. get_or (x ∷ (xs ++ ys)) i d) e ∙ append_right xs ys k d

-- a list written twice
pub twice_at : {A : Type 0} (xs : List A) (d : A) (i : ℕ) → i < length xs + length xs → get_or (xs ++ xs) i d ≡ get_or xs (i % length xs) d
twice_at xs d i h = by (mod_two (length xs) i h)
  where
    by : ((i % length xs ≡ i) × (i < length xs)) ⊎ ((i % length xs + length xs ≡ i) × (length xs ≤ i)) → get_or (xs ++ xs) i d ≡ get_or xs (i % length xs) d
    by (inl p) = get_or-append xs xs d i p.1 ∙ ap (λ y. get_or xs y d) (sym p.0)
    by (inr p) =
        let e : i ≡ length xs + i % length xs = omega (arith, p) in
        ap (λ y. get_or (xs ++ xs) y d) e ∙ append_right xs xs (i % length xs) d

-- the rows of a product: row j is u_j times the n words from word n - j of v written twice
pub rows_are_product : {R : Ops} (L : Laws R) (n : ℕ) (us vs : List R.El) (d : R.El) → length vs ≡ n → (k : ℕ) → k < n →
    R.same (sum R n (λ j. R.mul (get_or us j d) (get_or (vs ++ vs) (n - j + k) d))) (conv R n (λ j. get_or us j d) (λ j. get_or vs j d) k)
rows_are_product {R} L n us vs d p k l =
    L.tr (sum_cong L n (λ j m. mul_left L (get_or us j d) (eqv L (row j m)))) (L.sy (conv_is L n (λ j. get_or us j d) (λ j. get_or vs j d) k))
  where
    row : (j : ℕ) → j < n → get_or (vs ++ vs) (n - j + k) d ≡ get_or vs (back n k j) d
    row j m =
        let e : n - j + k ≡ k + (n - j) = omega arith in
        twice_at vs d (n - j + k) (omega arith) ∙ ap₂ (λ a b. get_or vs (a % b) d) e p
