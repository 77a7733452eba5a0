-- Drawn polynomials are in T, and their signs are settled so that they are in T+.
use Rattle.std.proofs.Common.{◌≡◌, ℕ, suc, ◌+◌, ◌-◌, ◌*◌, ◌/◌, ◌%◌, ◌<◌, ◌≤◌, Bool, true, false, cond, eqb, ◌≢◌, List, [], ◌∷◌, length, get_or, take, drop, ℤ, pos, negsuc, ◌+ℤ◌, ◌*ℤ◌, neg_ℤ, nat_abs, ◌≤ℤ◌, sym, refl, ap, ◌∙◌, subst, inl, inr, add-one, arith, length-drop, length-take, w32, to_z, of_z, below_more}
use mathlib.Core.Path.{fun_ext}
use borrow.Author.Differences.{ints}
use Rattle.std.proofs.lemmas.List.FromFn.{get_or-map-range_with_len, length-map-range_with_len}
use Rattle.std.proofs.lemmas.List.{get_or_past, length-map, length_push, get_or_push, get_or_read}
use Rattle.std.proofs.lemmas.Bool.{cases_lt, eq-eqb, ne_eqb}
use Rattle.algebra.specs.Ring.{integers, sum, sum_by}
use Rattle.algebra.specs.Ternary.{Ternary, Ternary+, correlation}
use Rattle.algebra.specs.Scheme.{flip}
use Rattle.algebra.proofs.Flips.{flipped_is}
use Rattle.arithmetic.specs.Digits.{digit, number, negated, coefficients}
use Rattle.arithmetic.specs.declared.digit.Digit.{Digit}
use Rattle.arithmetic.proofs.Digits.{number_small, number_negated}
use Rattle.scheme.specs.Coins.{halves, coin_list, drawn}
use Rattle.scheme.specs.Signs.{flipped_at, flipped, negative, settled}

-- ---- drawn polynomials
length_halves : (bs : List ℕ) → length (halves bs) ≡ 2 * length bs
length_halves [] = refl
length_halves (b ∷ bs) = let e = length_halves bs in omega arith

pub length_coins : (bs : List ℕ) → length (coin_list bs) ≡ 2 * length bs
length_coins bs = length-map (halves bs) _ ∙ length_halves bs

pub drawn_ternary : (bs : List ℕ) (n : ℕ) → n ≡ 2 * length bs + 1 → Ternary n (coefficients (drawn bs))
drawn_ternary bs n e = record {
  digit = λ k h. number_small (get_or (drawn bs) k (digit 0));
  last = ap number (get_or_push (coin_list bs) (digit 0) (digit 0) (n - 1) (length_coins bs ∙ (omega arith)));
}

-- ---- signs
pub sum_none : (f : ℕ → ℤ) → pos 0 ≡ sum integers 0 f
unfolding sum_by
sum_none f = refl

-- one product more of the correlation, as the code has it
pub sum_more :
    (v : List Digit) (t r : ℤ) (i : ℕ) (a b : Digit)
    → t ≡ sum integers i (λ k. coefficients v k *ℤ coefficients v (suc k)) → nat_abs t ≤ i → i < 1408
    → i + 1 < length v → a ≡ get_or v i a → b ≡ get_or v (i + 1) b → r ≡ number a *ℤ number b → nat_abs r ≤ 1
    → (to_z w32 (of_z w32 (t +ℤ to_z w32 (of_z w32 r))) ≡ sum integers (i + 1) (λ k. coefficients v k *ℤ coefficients v (suc k)))
    × (nat_abs (to_z w32 (of_z w32 (t +ℤ to_z w32 (of_z w32 r)))) ≤ i + 1)
unfolding sum_by
sum_more v t r i a b et small few h ea eb er one =
    let plain : to_z w32 (of_z w32 (t +ℤ to_z w32 (of_z w32 r))) ≡ t +ℤ r = omega (arith, ints) in
    let here : number a ≡ coefficients v i = ap number (get_or_read v i a (omega arith) ea (digit 0)) in
    let next : number b ≡ coefficients v (suc i) = ap number (get_or_read v (i + 1) b h eb (digit 0)) ∙ ap (coefficients v) (add-one i) in
    let term : r ≡ coefficients v i *ℤ coefficients v (suc i) = rw (← here, ← next) er in
    rw plain (rw (add-one i, et, term) refl, omega (arith, ints))

-- ---- flips
-- an even-numbered digit is negated, and an odd-numbered one stays
pub flip_even : (v : List Digit) (k : ℕ) → k % 2 ≡ 0 → flipped_at v k ≡ negated (get_or v k (digit 0))
flip_even v k e = ap (λ t. cond t (negated (get_or v k (digit 0))) (get_or v k (digit 0))) (eq-eqb (k % 2) 0 e)

pub flip_odd : (v : List Digit) (k : ℕ) → (k % 2 ≡ 0 → ⊥) → flipped_at v k ≡ get_or v k (digit 0)
flip_odd v k e = ap (λ t. cond t (negated (get_or v k (digit 0))) (get_or v k (digit 0))) (ne_eqb (k % 2) 0 e)

-- one turn of the loop that flips: at an even place, and at an odd one
pub flip_more :
    (v w entry : List Digit) (i : ℕ) → ((k : ℕ) → k < i → get_or v k (digit 0) ≡ flipped_at entry k) × ((k : ℕ) → i ≤ k → get_or v k (digit 0) ≡ get_or entry k (digit 0))
    → ((k : ℕ) → k ≢ i → get_or w k (digit 0) ≡ get_or v k (digit 0)) → get_or w i (digit 0) ≡ flipped_at entry i
    → ((k : ℕ) → k < i + 1 → get_or w k (digit 0) ≡ flipped_at entry k) × ((k : ℕ) → i + 1 ≤ k → get_or w k (digit 0) ≡ get_or entry k (digit 0))
flip_more v w entry i inv others here =
    (below_more _ _ (λ k h. others k (omega arith) ∙ inv.0 k h) here, λ k h. others k (omega arith) ∙ inv.1 k (omega arith))

zero_flips : (t : Bool) → pos 0 ≡ cond t (neg_ℤ (pos 0)) (pos 0)
zero_flips true = refl
zero_flips false = refl

-- the coefficients of flipped digits are the flipped coefficients
pub flipped_coefficients : (ds : List Digit) → coefficients (flipped ds) ≡ flip (coefficients ds)
flipped_coefficients ds = fun_ext (λ k. elim (cases_lt k (length ds)) [
  | inl h ↦ ap number (get_or-map-range_with_len (flipped_at ds) 0 (length ds) k k (digit 0) h (omega arith)) ∙ by (eqb (k % 2) 0) (get_or ds k (digit 0))
  | inr h ↦
      let past : coefficients ds k ≡ pos 0 = ap number (get_or_past ds k (digit 0) h) in
      ap number (get_or_past (flipped ds) k (digit 0) (omega (arith, length-map-range_with_len (flipped_at ds) 0 (length ds)))) ∙ zero_flips (eqb (k % 2) 0)
      ∙ sym (ap (λ z. cond (eqb (k % 2) 0) (neg_ℤ z) z) past)
])
  where
    by : (t : Bool) (d : Digit) → number (cond t (negated d) d) ≡ cond t (neg_ℤ (number d)) (number d)
    by true d = number_negated d
    by false d = refl

pub settled_correlates : (n : ℕ) (ds : List Digit) → length ds ≡ n → Ternary n (coefficients ds) → Ternary+ n (coefficients (settled ds))
settled_correlates n ds e t = by (correlation (length ds) (coefficients ds)) refl
  where
    here : correlation n (coefficients ds) ≡ correlation (length ds) (coefficients ds)
    here = ap (λ k. correlation k (coefficients ds)) (sym e)

    by : (z : ℤ) → correlation (length ds) (coefficients ds) ≡ z → Ternary+ n (coefficients (cond (negative z) (flipped ds) ds))
    by (pos c) p = record { ternary = t; correlates = subst (λ z. pos 0 ≤ℤ z) (sym (here ∙ p)) (omega (arith, ints)) }
    by (negsuc c) p =
        let less : pos 0 ≤ℤ correlation n (coefficients ds) → ⊥ = λ h. let g : pos 0 ≤ℤ negsuc c = subst (λ z. pos 0 ≤ℤ z) (here ∙ p) h in omega (arith, ints) in
        subst (Ternary+ n) (sym (flipped_coefficients ds)) ((flipped_is n (coefficients ds)).correlates t less)

-- ---- two polynomials from one list of coins
module _ (n : ℕ) (coins : List ℕ) (some : 2 ≤ n) (odd : n % 2 ≡ 1) (long : length coins ≡ n - 1) where
  pub first_ternary : Ternary n (coefficients (drawn (take ((n - 1) / 2) coins)))
  first_ternary = drawn_ternary (take ((n - 1) / 2) coins) n (simp length-take (omega arith))

  pub second_ternary : Ternary n (coefficients (drawn (drop ((n - 1) / 2) coins)))
  second_ternary = drawn_ternary (drop ((n - 1) / 2) coins) n (simp length-drop (omega arith))

  length_drawn : (bs : List ℕ) → length (drawn bs) ≡ 2 * length bs + 1
  length_drawn bs = length_push (coin_list bs) (digit 0) ∙ ap (λ k. k + 1) (length_coins bs)

  pub first_correlates : Ternary+ n (coefficients (settled (drawn (take ((n - 1) / 2) coins))))
  first_correlates = settled_correlates n _ (length_drawn (take ((n - 1) / 2) coins) ∙ simp length-take (omega arith)) first_ternary

  pub second_correlates : Ternary+ n (coefficients (settled (drawn (drop ((n - 1) / 2) coins))))
  second_correlates = settled_correlates n _ (length_drawn (drop ((n - 1) / 2) coins) ∙ simp length-drop (omega arith)) second_ternary
