-- The last coefficient of a polynomial of words, where a record holds the others.
use Rattle.std.proofs.Common.{◌≡◌, ℕ, zero, suc, ◌+◌, ◌-◌, ◌%◌, ◌^◌, ◌<◌, ◌≤◌, List, [], ◌∷◌, ◌++◌, length, get_or, take, drop, set, pos, ◌+ℤ◌, neg_ℤ, sym, refl, ap, ◌∙◌, subst, inl, inr, mod-eq_of_lt, add-one, arith, length-take, pow_pos}
use native.Mathlib.Nat.{mod-mod}
use borrow.Rule.Slice.PartMut.{post_of}
use Rattle.std.specs.List as Shelf
use Rattle.std.proofs.lemmas.List.{drop_more, drop_all, set_at, length_push, get_or_push, get_or_append_left, take_at, take_more, take_all, get_or-take}
use Rattle.std.proofs.lemmas.List.Sums.{sum_by_more}
use Rattle.std.proofs.lemmas.Bool.{cases_lt}
use Rattle.algebra.specs.Ring.{Differ, integers, sum}
use Rattle.algebra.specs.Polynomials.{Balanced, as_word}
use Rattle.algebra.specs.Radix.{Under}
use Rattle.algebra.proofs.Classes.{as_word_is, word_same}
use Rattle.algebra.proofs.Integers.{integer_laws, mod_laws, divides_mod}
use Rattle.algebra.proofs.Naturals.{congruent_out}
use Rattle.algebra.proofs.Polynomials.{last_balanced, balanced_last}
use Rattle.algebra.proofs.Solver.{x, one, nat, ◌⊞◌, minus, follows}
use Rattle.algebra.proofs.Sums.{sum_none, sum_more}
use Rattle.algebra.proofs.WordInverses.{width_divides}

-- a list whose front was lent and filled, and whose last element is then written
pub write_last : {X : Type 0} (xs front : List X) (n : ℕ) (v : X) → length xs ≡ n + 1 → length front ≡ n → set (front ++ post_of 0 (n - 0) xs) n v ≡ front ++ v ∷ []
write_last xs front n v h l =
    let m : n - 0 ≡ n = omega arith in
    let end : drop n xs ≡ get_or xs n v ∷ [] = drop_more xs n v (omega arith) ∙ ap (λ t. get_or xs n v ∷ t) (drop_all (n + 1) xs (omega arith)) in
    ap (λ t. set (front ++ t) n v) (ap (λ k. drop k xs) m ∙ end) ∙ set_at front (get_or xs n v) [] v n l

pub front_and_last : (xs : List ℕ) → 1 ≤ length xs → take (length xs - 1) xs ++ get_or xs (length xs - 1) 0 ∷ [] ≡ xs
front_and_last xs h = sym (take_more xs (length xs - 1) 0 (omega arith)) ∙ take_all (length xs - 1 + 1) xs (omega arith)

pub under_push : (b v : ℕ) (xs : List ℕ) → Under b xs → v < b → Under b (xs ++ v ∷ [])
under_push b v xs u h k l =
    elim (cases_lt k (length xs)) [
      | inl inside ↦ subst (λ x. x < b) (sym (get_or_append_left xs (v ∷ []) 0 k inside)) (u k inside)
      | inr past ↦
          let end : length xs ≡ k = omega (arith, length_push xs v) in
          subst (λ x. x < b) (sym (get_or_push xs v 0 k end)) h
    ]

pub under_take : (b n : ℕ) (xs : List ℕ) → Under b xs → Under b (take n xs)
under_take b n xs u k l =
    let m : k < n = omega (arith, length-take n xs) in
    subst (λ x. x < b) (sym (get_or-take n xs k 0 m)) (u k (omega (arith, length-take n xs)))

-- minus s, by a word of 16 bits that is cut to w
pub minus_bits : (w y t s : ℕ) → w ≤ 16 → (y + t) % 65536 ≡ 0 → t ≡ s % 65536 → y % 2 ^ w ≡ as_word (2 ^ w) (neg_ℤ (pos s))
minus_bits w y t s h e f =
    let zero_sum : Differ integers (pos 65536) (pos (y + t)) (pos 0) = congruent_out 65536 (y + t) 0 (record { rem = e }) in
    let total : Differ integers (pos 65536) (pos t) (pos s) = congruent_out 65536 t s (record { rem = ap (λ n. n % 65536) f ∙ mod-mod s 65536 }) in
    let minus_s : Differ integers (pos 65536) (pos y) (neg_ℤ (pos s)) =
    follows (mod_laws 65536) (pos y ∷ pos t ∷ pos s ∷ []) (x 0) (minus (x 2)) ((one, x 0 ⊞ x 1, nat 0) ∷ (minus one, x 1, x 2) ∷ []) tt (zero_sum, (total, tt)) in
    word_same (2 ^ w) (pow_pos w) (pos y) (neg_ℤ (pos s)) (divides_mod (2 ^ w) (2 ^ (16 - w)) 65536 (width_divides w h) minus_s)

-- the first n words, summed as integers
pub sum_words : (xs : List ℕ) (n : ℕ) → n ≤ length xs → sum integers n (λ k. pos (get_or xs k 0)) ≡ pos (Shelf.sum (take n xs))
sum_words xs zero h = sum_none integer_laws (λ k. pos (get_or xs k 0))
sum_words xs (suc n) h =
    sum_more integer_laws n (λ k. pos (get_or xs k 0)) ∙ ap (λ z. z +ℤ pos (get_or xs n 0)) (sum_words xs n (omega arith))
    ∙ ap pos (sym (sum_by_more (λ x. x) xs n 0 h)) ∙ ap (λ k. pos (Shelf.sum (take k xs))) (add-one n)

-- words, and minus their sum as the last: the sum of all is zero
pub minus_sum_balances : (w : ℕ) (cs : List ℕ) → Balanced (2 ^ w) (length cs + 1) (λ k. pos (get_or (cs ++ as_word (2 ^ w) (neg_ℤ (pos (Shelf.sum cs))) ∷ []) k 0))
minus_sum_balances w cs =
    let q = 2 ^ w in
    let n = length cs in
    let v = as_word q (neg_ℤ (pos (Shelf.sum cs))) in
    let xs = cs ++ v ∷ [] in
    let one : n + 1 - 1 ≡ n = omega arith in
    let last : get_or xs (n + 1 - 1) 0 ≡ v = ap (λ k. get_or xs k 0) one ∙ get_or_push cs v 0 n refl in
    let others : sum integers (n + 1 - 1) (λ k. pos (get_or xs k 0)) ≡ pos (Shelf.sum cs) =
    ap (λ k. sum integers k (λ j. pos (get_or xs j 0))) one ∙ sum_words xs n (omega (arith, length_push cs v)) ∙ ap (λ t. pos (Shelf.sum t)) (take_at cs (v ∷ []) n refl) in
    last_balanced q (n + 1) (omega arith) (λ k. pos (get_or xs k 0))
    (subst (λ z. Differ integers (pos q) (pos (get_or xs (n + 1 - 1) 0)) (neg_ℤ z)) (sym others) (subst (λ y. Differ integers (pos q) (pos y) (neg_ℤ (pos (Shelf.sum cs)))) (sym last) (as_word_is q (pow_pos w) (neg_ℤ (pos (Shelf.sum cs))))))

-- words of which the last is not needed: minus the sum of the others gives it back
pub balanced_again : (w : ℕ) (xs : List ℕ) → 1 ≤ length xs → Under (2 ^ w) xs → Balanced (2 ^ w) (length xs) (λ k. pos (get_or xs k 0)) →
    take (length xs - 1) xs ++ as_word (2 ^ w) (neg_ℤ (pos (Shelf.sum (take (length xs - 1) xs)))) ∷ [] ≡ xs
balanced_again w xs some under b =
    let q = 2 ^ w in
    let n = length xs - 1 in
    let front = take n xs in
    let last : Differ integers (pos q) (pos (get_or xs n 0)) (neg_ℤ (pos (Shelf.sum front))) =
    subst (λ z. Differ integers (pos q) (pos (get_or xs n 0)) (neg_ℤ z)) (sum_words xs n (omega arith)) (balanced_last q (length xs) some (λ k. pos (get_or xs k 0)) b) in
    let word : as_word q (neg_ℤ (pos (Shelf.sum front))) ≡ get_or xs n 0 = sym (word_same q (pow_pos w) (pos (get_or xs n 0)) (neg_ℤ (pos (Shelf.sum front))) last) ∙ mod-eq_of_lt (under n (omega arith)) in
    ap (λ v. front ++ v ∷ []) word ∙ front_and_last xs some
