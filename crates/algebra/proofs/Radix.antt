-- Laws of digits in any base, and the two steps of a loop that regroups digits.
use Rattle.std.proofs.Common.{◌≡◌, ℕ, zero, suc, ◌+◌, ◌-◌, ◌*◌, ◌/◌, ◌%◌, ◌^◌, ◌<◌, ◌≤◌, List, [], ◌∷◌, ◌++◌, map, length, get_or, take, drop, set, sym, refl, ap, ◌∙◌, ap₂, append_assoc, lt_of_lt_of_le, mod-lt, mod-eq_of_lt, mul_assoc, mul_comm, mul-le-mul_left, zero-add, mul-suc, mul-add, arith, length-set}
use native.Mathlib.Nat.{mod-mod, pow-zero, pow-succ', mod-one, add-mul-mod_self_left, add-mul-div_left, div-eq_of_lt, one-le-pow}
use lib.Arith.{mod-mul}
use Rattle.std.proofs.lemmas.List.{take_more_set, at_drop_more, at_drop_all, take_all, append-nil}
use Rattle.algebra.specs.Radix.{numeral, digits}

-- the residue at a product of two bases
pub mod_product : (v a b : ℕ) → 0 < a → 0 < b → v % (a * b) ≡ v % a + a * (v / a % b)
mod_product v a b ha hb = ap (λ m. v % m) (mul_comm a b) ∙ mod-mul v hb ha ∙ (omega (arith, mul_comm (v / a % b) a))

pub numeral_digits : (b : ℕ) → 0 < b → (n v : ℕ) → numeral b (digits b n v) ≡ v % b ^ n
unfolding numeral digits
numeral_digits b hb zero v = sym (ap (λ m. v % m) (pow-zero b) ∙ mod-one v)
numeral_digits b hb (suc n) v =
    rw (mod-mod, numeral_digits b hb n (v / b), pow-succ') (sym (mod_product v b (b ^ n) hb (one-le-pow n b hb)))

-- digits that are the same modulo the base write the same number
pub numeral_same : (b : ℕ) (xs ys : List ℕ) → length xs ≡ length ys → ((k : ℕ) → k < length xs → get_or xs k 0 % b ≡ get_or ys k 0 % b) → numeral b xs ≡ numeral b ys
unfolding numeral
numeral_same b [] [] e h = refl
numeral_same b [] (y ∷ ys) e h = absurd (omega arith)
numeral_same b (x ∷ xs) [] e h = absurd (omega arith)
numeral_same b (x ∷ xs) (y ∷ ys) e h = ap₂ (λ d r. d + b * r) (h 0 (omega arith)) (numeral_same b xs ys (omega arith) (λ k l. h (suc k) (omega arith)))

-- one digit off a numeral that is held as a low part and the rest at a place beyond the base
low_digit : (b p r acc : ℕ) → (acc + b * p * r) % b ≡ acc % b
low_digit b p r acc = rw mul_assoc (add-mul-mod_self_left acc b (p * r))

high_digits : (b p r acc : ℕ) → 0 < b → (acc + b * p * r) / b ≡ acc / b + p * r
high_digits b p r acc hb = rw mul_assoc (add-mul-div_left acc (p * r) hb)

pub digits_numeral : (b : ℕ) → 0 < b → (xs : List ℕ) → digits b (length xs) (numeral b xs) ≡ map (λ x. x % b) xs
unfolding numeral digits
digits_numeral b hb [] = refl
digits_numeral b hb (x ∷ xs) =
    let lt : x % b < b = mod-lt x hb in
    let low : (x % b + b * numeral b xs) % b ≡ x % b = add-mul-mod_self_left (x % b) b (numeral b xs) ∙ mod-mod x b in
    let high : (x % b + b * numeral b xs) / b ≡ numeral b xs = add-mul-div_left (x % b) (numeral b xs) hb ∙ ap (λ m. m + numeral b xs) (div-eq_of_lt lt) ∙ zero-add _ in
    rw (low, high, digits_numeral b hb xs) refl

pub numeral_lt : (b : ℕ) → 0 < b → (xs : List ℕ) → numeral b xs < b ^ length xs
unfolding numeral
numeral_lt b hb [] = rw pow-zero (omega arith)
numeral_lt b hb (x ∷ xs) =
    let lt : x % b < b = mod-lt x hb in
    let more : b * suc (numeral b xs) ≤ b * b ^ length xs = mul-le-mul_left b (numeral_lt b hb xs) in
    rw pow-succ' (omega (arith, mul-suc b (numeral b xs)))

pub length_digits : (b n v : ℕ) → length (digits b n v) ≡ n
unfolding digits
length_digits b zero v = refl
length_digits b (suc n) v = ap suc (length_digits b n (v / b))

-- What digits of base a write comes back from the digits of base b, if there are enough of these.
pub there_and_back : (a b m : ℕ) (xs : List ℕ) → 0 < a → 0 < b → a ^ length xs ≤ b ^ m → digits a (length xs) (numeral b (digits b m (numeral a xs))) ≡ map (λ x. x % a) xs
there_and_back a b m xs ha hb fits =
    let small : numeral a xs < b ^ m = lt_of_lt_of_le (numeral_lt a ha xs) fits in
    rw (numeral_digits b hb m (numeral a xs), mod-eq_of_lt small) (digits_numeral a ha xs)

-- A loop that regroups digits of base a into digits of base b. The list `out` is filled up to `at`, and `xs` is read up to `i`; the digits to follow are
-- those of acc + p * r, where acc is what is held, r is what is yet to be read, and p is its place.
abbrev pub Regroups : ℕ → ℕ → ℕ → ℕ → ℕ → ℕ → List ℕ → List ℕ → Type 0
Regroups a b acc p i at xs out = take at out ++ digits b (length out - at) (acc + p * numeral a (drop i xs)) ≡ digits b (length out) (numeral a xs)

-- one digit is read
pub regroups_read :
    (a b acc p i at : ℕ) (xs out : List ℕ) → i < length xs → Regroups a b acc p i at xs out
    → Regroups a b (acc + (get_or xs i 0 % a) * p) (p * a) (i + 1) at xs out
unfolding numeral
regroups_read a b acc p i at xs out h e =
    let r = numeral a (drop (i + 1) xs) in
    let f : numeral a (drop i xs) ≡ get_or xs i 0 % a + a * r = at_drop_more (numeral a) xs i 0 h in
    let g : (acc + (get_or xs i 0 % a) * p) + (p * a) * r ≡ acc + p * numeral a (drop i xs) = rw f (omega (arith, mul-add p (get_or xs i 0 % a) (a * r), mul_assoc p a r, mul_comm p (get_or xs i 0 % a))) in
    ap (λ v. take at out ++ digits b (length out - at) v) g ∙ e

-- one digit is written
pub regroups_write :
    (a b acc p i at : ℕ) (xs out : List ℕ) → 0 < b → at < length out → Regroups a b acc (b * p) i at xs out
    → Regroups a b (acc / b) p i (at + 1) xs (set out at (acc % b))
unfolding digits
regroups_write a b acc p i at xs out hb h e =
    let r = numeral a (drop i xs) in
    let k : length out - at ≡ suc (length out - (at + 1)) = omega arith in
    let e1 = rw (k, low_digit b p r acc, high_digits b p r acc hb) at e in
    rw (take_more_set out at (acc % b) h, length-set, append_assoc) e1

pub regroups_all : (a b acc p i at : ℕ) (xs out : List ℕ) → at ≡ length out → Regroups a b acc p i at xs out → out ≡ digits b (length out) (numeral a xs)
unfolding digits
regroups_all a b acc p i at xs out h e =
    let z : length out - at ≡ 0 = omega arith in
    let t : take at out ≡ out = take_all at out (omega arith) in
    rw (z, t, append-nil) at e

-- all is read, and what is held is the last digit
pub regroups_last :
    (a b acc p i at : ℕ) (xs out : List ℕ) → acc < b → at + 1 ≡ length out → length xs ≤ i → Regroups a b acc p i at xs out
    → set out at acc ≡ digits b (length out) (numeral a xs)
unfolding numeral
regroups_last a b acc p i at xs out ha h l e =
    let f : numeral a (drop i xs) ≡ 0 = at_drop_all (numeral a) xs i l in
    let g : acc + b * 1 * numeral a (drop i xs) ≡ acc + p * numeral a (drop i xs) = rw f (omega arith) in
    let m : acc % b ≡ acc = mod-eq_of_lt ha in
    let w = regroups_write a b acc 1 i at xs out (omega arith) (omega arith) (ap (λ v. take at out ++ digits b (length out - at) v) g ∙ e) in
    let w1 = rw m at w in
    let n : at + 1 ≡ length (set out at acc) = rw length-set h in
    rw length-set at (regroups_all a b (acc / b) 1 i (at + 1) xs (set out at acc) n w1)
