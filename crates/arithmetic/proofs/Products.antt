-- The rows of a product add up to its coefficients, and what these are as integers.
use Rattle.std.proofs.Common.{◌≡◌, ℕ, ◌+◌, ◌-◌, ◌*◌, ◌%◌, ◌^◌, ◌<◌, ◌≤◌, ◌⊎◌, List, ◌++◌, length, get_or, pos, sym, refl, ap, ◌∙◌, subst, mod-eq_of_lt, add-one, arith, lit<, length-append, pow_pos, pow-add}
use native.Mathlib.Nat.{mod-add-mod}
use lib.Bits.{bit_and}
use Rattle.std.specs.List.{between}
use Rattle.std.proofs.lemmas.Nat.{and_mask}
use Rattle.std.proofs.lemmas.List.FromFn.{fill_by_all, get_or-map-range_with_len, length-map-range_with_len}
use Rattle.std.proofs.lemmas.List.Edits.{get_or-between, length-between}
use Rattle.algebra.specs.Ring.{Differ, integers, naturals, sum, sum_by}
use Rattle.algebra.specs.Polynomials.{SameMod, as_word}
use Rattle.algebra.specs.Radix.{Under}
use Rattle.algebra.proofs.Classes.{word_same}
use Rattle.algebra.proofs.Integers.{divides_mod}
use Rattle.algebra.proofs.Homs.{pos_conv, word_product}
use Rattle.algebra.proofs.Naturals.{naturals_laws}
use Rattle.algebra.proofs.Rows.{rows_are_product}
use Rattle.algebra.proofs.WordSums.{ternary_sums}
use Rattle.arithmetic.specs.Rows.{row_sum}
use Rattle.arithmetic.specs.Products.{Whole, coefficient, cyclic_product, integer_product, integers_of}
use Rattle.arithmetic.proofs.RowSums.{get_d_row_sum}

-- what word k is after j rows, before the remainder is taken
abbrev pub partial : List ℕ → List ℕ → ℕ → ℕ → ℕ
partial u d k j = sum (naturals 65536) j (λ i. get_or u i 0 * get_or d (length u - i + k) 0)

-- one row more
pub partial_more : (u d out out' : List ℕ) (j : ℕ) → length d ≡ 2 * length u → j < length u → length out ≡ length u →
    out' ≡ row_sum 65536 (get_or u j 0) (between (length u - j) (2 * length u - j) d) out →
    ((k : ℕ) → k < length u → get_or out k 0 ≡ partial u d k j % 65536) →
    (k : ℕ) → k < length u → get_or out' k 0 ≡ partial u d k (j + 1) % 65536
unfolding sum_by
partial_more u d out out' j size h same e inv k l =
    let list = between (length u - j) (2 * length u - j) d in
    let long : length list ≡ length u = length-between d (length u - j) (2 * length u - j) (omega arith) ∙ omega arith in
    let word : get_or list k 0 ≡ get_or d (length u - j + k) 0 = get_or-between d (length u - j) (2 * length u - j) k 0 (omega arith) in
    let row : get_or out' k 0 ≡ (get_or out k 0 + get_or u j 0 * get_or list k 0) % 65536 = ap (λ t. get_or t k 0) e ∙ get_d_row_sum 65536 (get_or u j 0) list out k (omega arith) (omega arith) in
    row ∙ rw (inv k l, word, add-one) (mod-add-mod (partial u d k j) 65536 (get_or u j 0 * get_or d (length u - j + k) 0))

-- all rows
pub product_all : (u d out v : List ℕ) → length d ≡ 2 * length u → length out ≡ length u →
    ((k : ℕ) → k < length u → get_or out k 0 ≡ partial u d k (length u) % 65536) → d ≡ v ++ v → out ≡ cyclic_product u v
unfolding cyclic_product
product_all u d out v size same inv e =
    let long : length v ≡ length u = omega (arith, ap length e, length-append v v) in
    fill_by_all (λ k. coefficient u v k % 65536) out (length u) 0 same
    (λ k l. inv k l ∙ ap (λ (t : List ℕ). partial u t k (length u) % 65536) e ∙ (rows_are_product (naturals_laws 65536 (lit< tt)) (length u) u v 0 long k l).rem)

-- ---- the words of a product
pub product_at : (u v : List ℕ) (k : ℕ) → k < length u → get_or (cyclic_product u v) k 0 ≡ coefficient u v k % 65536
unfolding cyclic_product
product_at u v k l = get_or-map-range_with_len (λ j. coefficient u v j % 65536) 0 (length u) k k 0 l (omega arith)

pub product_length : (u v : List ℕ) → length (cyclic_product u v) ≡ length u
unfolding cyclic_product
product_length u v = length-map-range_with_len (λ k. coefficient u v k % 65536) 0 (length u)

-- as integers
pub product_meaning : (u v out : List ℕ) → out ≡ cyclic_product u v → SameMod 65536 (length u) (integers_of out) (integer_product u v)
product_meaning u v out e = record {
  at = λ k l.
      subst (λ (z : ℕ). Differ integers (pos 65536) (pos z) (integer_product u v k)) (sym (ap (λ (t : List ℕ). get_or t k 0) e ∙ product_at u v k l))
      (word_product 65536 (length u) (lit< tt) (λ j. get_or u j 0) (λ j. get_or v j 0) k);
}

-- modulo 2 ^ w
pub masked : (u v : List ℕ) (w k : ℕ) → w ≤ 16 → k < length u → bit_and (get_or (cyclic_product u v) k 0) (2 ^ w - 1) ≡ as_word (2 ^ w) (integer_product u v k)
masked u v w k h l =
    let whole : w + (16 - w) ≡ 16 = omega arith in
    let divides : 2 ^ w * 2 ^ (16 - w) ≡ 65536 = sym (pow-add 2 w (16 - w)) ∙ ap (λ (i : ℕ). 2 ^ i) whole in
    and_mask (get_or (cyclic_product u v) k 0) w
    ∙ word_same (2 ^ w) (pow_pos w) (pos (get_or (cyclic_product u v) k 0)) (integer_product u v k)
    (divides_mod (2 ^ w) (2 ^ (16 - w)) 65536 divides ((product_meaning u v (cyclic_product u v) refl).at k l))

-- modulo 3
pub whole : (u v : List ℕ) → length u ≤ 1408 → length v ≡ length u → Under 3 u → Under 3 v → (get_or u (length u - 1) 0 ≡ 0) ⊎ (get_or v (length u - 1) 0 ≡ 0) → (k : ℕ) → k < length u → Whole u v k
whole u v few same p q last k l =
    let least : coefficient u v k ≤ 4 * (length u - 1) = ternary_sums (length u) (λ j. get_or u j 0) (λ j. get_or v j 0) k l p (λ j m. q j (omega arith)) last in
    let fits : coefficient u v k < 65536 = omega arith in
    let is : get_or (cyclic_product u v) k 0 ≡ coefficient u v k = product_at u v k l ∙ mod-eq_of_lt fits in
    record {
      unwrapped = ap pos is ∙ pos_conv 65536 (length u) (λ j. get_or u j 0) (λ j. get_or v j 0) k;
      small = omega arith;
    }
