-- The coin table holds the four-bit rule, and what a draw leaves.
use Rattle.std.proofs.Common.{◌≡◌, ℕ, zero, suc, ◌+◌, ◌*◌, ◌<◌, ◌≤◌, List, [], ◌++◌, map, length, get_or, take, drop, set, ℤ, pos, negsuc, ◌+ℤ◌, ◌*ℤ◌, sym, refl, ap, ◌∙◌, arith, length-set}
use Rattle.std.specs.List.{range_with_len}
use Rattle.std.proofs.lemmas.List.FromFn.{get_or-map-range_with_len, length-map-range_with_len}
use Rattle.std.proofs.lemmas.List.{get_or-map, length-map, take_more_set, at_drop_all, append-nil, take_all}
use Rattle.arithmetic.specs.Digits.{digit, number}
use Rattle.arithmetic.specs.declared.digit.Digit.{Digit}
use Rattle.arithmetic.proofs.Digits.{same_digit}
use Rattle.scheme.specs.Coins.{balance, coin, ByTheRule, coin_list, drawn}

-- two functions that give the same list at 0, 1, .. n - 1 agree below n
agree_below : {A : Type 0} (f g : ℕ → A) (n i : ℕ) → map f (range_with_len 0 n) ≡ map g (range_with_len 0 n) → i < n → f i ≡ g i
agree_below f g n i e h =
    sym (get_or-map-range_with_len f 0 n i i (f i) h (omega arith)) ∙ ap (λ xs. get_or xs i (f i)) e ∙ get_or-map-range_with_len g 0 n i i (f i) h (omega arith)

-- how often 3 goes into what a balance is more than its digit
carry : ℤ → ℤ
carry (pos zero) = pos 0
carry (pos (suc zero)) = pos 0
carry (pos (suc (suc n))) = negsuc 0
carry (negsuc zero) = pos 0
carry (negsuc (suc n)) = pos 1

-- antt computes that the digit of each of the sixteen halves is its balance up to a multiple of 3
pub by_the_rule : (h : ℕ) → h < 16 → ByTheRule h (coin h)
unfolding carry
by_the_rule h lt = record { same_class = record { by = carry (balance h); is = agree_below (λ i. number (coin i)) (λ i. balance i +ℤ pos 3 *ℤ carry (balance i)) 16 h refl lt } }

-- what a table gives whose codes are those of the sixteen halves, as antt computes of the code's
pub table_read : (table : List Digit) (d : Digit) (h : ℕ) → map (λ x. x.code) table ≡ map (λ i. (coin i).code) (range_with_len 0 16) → h < 16 → get_or table h d ≡ coin h
table_read table d h e lt =
    let long : length table ≡ 16 = sym (length-map table (λ x. x.code)) ∙ ap length e ∙ length-map-range_with_len (λ i. (coin i).code) 0 16 in
    same_digit (get_or table h d) (coin h)
    (sym (get_or-map (λ x. x.code) table h d 0 (omega arith)) ∙ ap (λ cs. get_or cs h 0) e ∙ get_or-map-range_with_len (λ i. (coin i).code) 0 16 h h 0 lt (omega arith))

pub draw_all :
    (i : ℕ) (coins : List ℕ) (out : List Digit) (z : Digit) → length coins ≤ i → 2 * i + 1 ≡ length out → z.code ≡ 0
    → take (2 * i) out ++ coin_list (drop i coins) ≡ coin_list coins
    → set out (2 * i) z ≡ drawn coins
draw_all i coins out z h r zero_code inv =
    let none : coin_list (drop i coins) ≡ [] = at_drop_all coin_list coins i h in
    let front : take (2 * i) out ≡ coin_list coins = rw (none, append-nil) at inv in
    let last : z ≡ digit 0 = same_digit z (digit 0) zero_code in
    sym (take_all (2 * i + 1) (set out (2 * i) z) (simp length-set (omega arith))) ∙ take_more_set out (2 * i) z (omega arith) ∙ (rw (front, last) refl)
