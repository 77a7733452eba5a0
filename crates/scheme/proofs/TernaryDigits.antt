-- Steps of the loops that regroup digits five to a byte, and the laws of ternary parts.
use Rattle.std.proofs.Common.{◌≡◌, ℕ, zero, suc, ◌+◌, ◌*◌, ◌/◌, ◌%◌, ◌^◌, ◌<◌, ◌≤◌, List, [], ◌∷◌, ◌++◌, map, length, get_or, take, set, sym, refl, ap, ◌∙◌, mod-eq_of_lt, subst, append_assoc, arith, length-take, length-append, length-set, min, ap₂}
use native.Mathlib.Nat.{div-eq_of_lt, add-mul-mod_self_left, add-mul-div_left, zero-add, pow-le-pow_right, pow-zero, mul_comm, pow-succ', div-div-eq-div-mul}
use Rattle.std.proofs.lemmas.List.{get_or-map, length-map, map-append, get_or_past, take_more, take_more_set, take_all, append-nil}
use Rattle.algebra.specs.Radix.{numeral, digits, digit_at, Under}
use Rattle.algebra.proofs.Radix.{numeral_lt, length_digits}
use Rattle.algebra.proofs.Regrouping.{written_in_order, read_in_order, read_alike, back, under_map, digits_under}
use Rattle.scheme.proofs.Numerals.{numeral_append, numeral_push}
use Rattle.arithmetic.specs.Digits.{digit}
use Rattle.arithmetic.specs.declared.digit.Digit.{Digit}
use Rattle.arithmetic.proofs.Digits.{digit_code}
use Rattle.scheme.specs.TernaryParts.{codes, part_bytes, ternary_part, ternary_digits, HoldsDigits, TakesDigits}

pub digits_codes : (ds : List Digit) → map digit (codes ds) ≡ ds
digits_codes [] = refl
digits_codes (d ∷ ds) = rw (digit_code d, digits_codes ds) refl

-- ---- one byte of a part
length_codes : (ds : List Digit) → length (codes ds) ≡ length ds
length_codes ds = length-map ds (λ x. x.code)

byte_small : (ds : List Digit) → length ds ≤ 5 → numeral 3 (codes ds) < 243
byte_small ds h =
    let few : length (codes ds) ≤ 5 = rw length_codes h in
    let top : 3 ^ length (codes ds) ≤ 3 ^ 5 = pow-le-pow_right {n = 3} (omega arith) few in
    omega (arith, numeral_lt 3 (omega arith) (codes ds), top)

-- what digit i of a byte counts
power : (i : ℕ) → i < 5 → get_or (1 ∷ 3 ∷ 9 ∷ 27 ∷ 81 ∷ []) i 0 ≡ 3 ^ i
power zero h = refl
power (suc zero) h = refl
power (suc (suc zero)) h = refl
power (suc (suc (suc zero))) h = refl
power (suc (suc (suc (suc zero)))) h = refl
power (suc (suc (suc (suc (suc i))))) h = absurd (omega arith)

-- one digit more in the byte, which holds five at most
pub byte_more :
    (five : List Digit) (i byte y : ℕ) (d : Digit) → length five ≤ 5 → i < length five → y ≡ (get_or five i d).code → byte ≡ numeral 3 (codes (take i five))
    → (byte + y * get_or (1 ∷ 3 ∷ 9 ∷ 27 ∷ 81 ∷ []) i 0 < 256) × (byte + y * get_or (1 ∷ 3 ∷ 9 ∷ 27 ∷ 81 ∷ []) i 0 ≡ numeral 3 (codes (take (i + 1) five)))
byte_more five i byte y d short h e inv =
    let small : y < 3 = rw e (get_or five i d).small in
    let front = take i five in
    let long : length (codes front) ≡ i = length_codes front ∙ simp length-take (omega arith) in
    let same : byte + y * get_or (1 ∷ 3 ∷ 9 ∷ 27 ∷ 81 ∷ []) i 0 ≡ numeral 3 (codes (take (i + 1) five)) =
    rw (take_more five i d h, map-append, numeral_push 3 (codes front) (get_or five i d).code (get_or five i d).small, long, power i (omega arith), ← e, ← inv) (omega (arith, mul_comm y (3 ^ i))) in
    (omega (arith, same, byte_small (take (i + 1) five) (simp length-take (omega arith))), same)

-- ---- a part, byte by byte
first_byte : (n v rest : ℕ) → v < 243 → digits 243 (suc n) (v + 243 * rest) ≡ v ∷ digits 243 n rest
unfolding digits
first_byte n v rest lt =
    let low : (v + 243 * rest) % 243 ≡ v = add-mul-mod_self_left v 243 rest ∙ mod-eq_of_lt lt in
    let high : (v + 243 * rest) / 243 ≡ rest = add-mul-div_left v rest (omega arith) ∙ ap (λ m. m + rest) (div-eq_of_lt lt) ∙ zero-add rest in
    rw (low, high) refl

-- a part begins with the byte of its first five digits, or of all where there are fewer
five_first : (five more : List Digit) → length five ≡ min 5 (length (five ++ more)) → 0 < length (five ++ more) → ternary_part (five ++ more) ≡ numeral 3 (codes five) ∷ ternary_part more
unfolding digits
five_first five [] e h =
    let v = numeral 3 (codes five) in
    let long : length (five ++ []) ≡ length five = ap length (append-nil five) in
    let one : part_bytes (length (five ++ [])) ≡ 1 = omega (arith, long, e, h) in
    let all : numeral 3 (codes (five ++ [])) ≡ v + 243 * 0 = ap (λ ds. numeral 3 (codes ds)) (append-nil five) ∙ (omega arith) in
    ap₂ (digits 243) one all ∙ first_byte 0 v 0 (byte_small five (omega (arith, e)))
five_first five (m ∷ ms) e h =
    let more = m ∷ ms in
    let v = numeral 3 (codes five) in
    let long : length (five ++ more) ≡ length five + length more = length-append five more in
    let full : length five ≡ 5 = omega (arith, long, e) in
    let next : part_bytes (length (five ++ more)) ≡ suc (part_bytes (length more)) = omega (arith, long, full) in
    let all : numeral 3 (codes (five ++ more)) ≡ v + 243 * numeral 3 (codes more) =
    ap (numeral 3) (map-append (λ d. d.code) five more) ∙ numeral_append 3 (codes five) (codes more) ∙ ap (λ k. v + 3 ^ k * numeral 3 (codes more)) (length_codes five ∙ full) in
    ap₂ (digits 243) next all ∙ first_byte (part_bytes (length more)) v (numeral 3 (codes more)) (byte_small five (omega arith))

-- one byte more of a part, where i are written and `rest` is left of the digits
pub part_more :
    (rest five more : List Digit) (out whole : List ℕ) (i b : ℕ) → rest ≡ five ++ more → length five ≡ min 5 (length rest) → 0 < length rest → b ≡ numeral 3 (codes five)
    → i + part_bytes (length rest) ≡ length out → take i out ++ ternary_part rest ≡ whole
    → (i + 1 + part_bytes (length more) ≡ length (set out i b)) × (take (i + 1) (set out i b) ++ ternary_part more ≡ whole)
part_more rest five more out whole i b e short h eb room inv =
    let long : length rest ≡ length five + length more = ap length e ∙ length-append five more in
    let next : ternary_part rest ≡ b ∷ ternary_part more = ap ternary_part e ∙ five_first five more (subst (λ ds. length five ≡ min 5 (length ds)) e short) (subst (λ ds. 0 < length ds) e h) ∙ ap (λ x. x ∷ ternary_part more) (sym eb) in
    (rw length-set (omega (arith, long, short, h, room)), rw (take_more_set out i b (omega (arith, long, short, h, room)), append_assoc) (rw next at inv))

pub part_done : (rest : List Digit) (out whole : List ℕ) (i : ℕ) → length rest ≡ 0 → i + part_bytes (length rest) ≡ length out → take i out ++ ternary_part rest ≡ whole → out ≡ whole
unfolding digits
part_done [] out whole i e room inv = rw (append-nil, take_all i out (omega arith)) at inv
part_done (d ∷ ds) out whole i e room inv = absurd (omega arith)

-- the last byte, where fewer than five digits are left
pub part_last :
    (rest : List Digit) (out whole : List ℕ) (i b : ℕ) → length rest < 5 → 0 < length rest → b ≡ numeral 3 (codes rest)
    → i + part_bytes (length rest) ≡ length out → take i out ++ ternary_part rest ≡ whole → set out i b ≡ whole
part_last rest out whole i b few h eb room inv =
    let r = part_more rest rest [] out whole i b (sym (append-nil rest)) (omega arith) h eb room inv in
    part_done [] (set out i b) whole (i + 1) refl r.0 r.1

-- ---- a byte's digits, which are divided off one by one
pub first_digit : (bytes : List ℕ) (i : ℕ) → i % 5 ≡ 0 → get_or bytes (i / 5) 0 ≡ get_or bytes (i / 5) 0 / 3 ^ (i % 5)
first_digit bytes i h = rw (h, pow-zero) (omega arith)

pub next_digit : (bytes : List ℕ) (i rest : ℕ) → rest ≡ get_or bytes (i / 5) 0 / 3 ^ (i % 5) → 0 < (i + 1) % 5 → rest / 3 ≡ get_or bytes ((i + 1) / 5) 0 / 3 ^ ((i + 1) % 5)
next_digit bytes i rest e h =
    let q : (i + 1) / 5 ≡ i / 5 = omega arith in
    let r : (i + 1) % 5 ≡ suc (i % 5) = omega arith in
    let byte = get_or bytes (i / 5) 0 in
    rw (q, r, e, pow-succ') (div-div-eq-div-mul byte (3 ^ (i % 5)) 3 ∙ ap (λ k. byte / k) (mul_comm (3 ^ (i % 5)) 3))

-- ---- laws
codes_under : (ds : List Digit) → Under 3 (codes ds)
codes_under ds k h =
    let hk : k < length ds = rw length-map at h in
    rw (get_or-map (λ x. x.code) ds k (digit 0) 0 hk) (get_or ds k (digit 0)).small

room : (ds : List Digit) → 1 * length (codes ds) ≤ 5 * part_bytes (length ds)
room ds = simp length-map (omega arith)

pub reads_back : (ds : List Digit) → ternary_digits (length ds) (ternary_part ds) ≡ ds
reads_back ds =
    let e = back 3 1 5 (omega arith) (omega arith) (omega arith) (part_bytes (length ds)) (codes ds) (room ds) in
    let whole : digits 3 (length ds) (numeral 243 (ternary_part ds)) ≡ codes ds =
    ap (λ n. digits 3 n (numeral 243 (ternary_part ds))) (sym (length-map ds (λ x. x.code))) ∙ e ∙ under_map 3 (codes ds) (codes_under ds) in
    ap (map digit) whole ∙ digits_codes ds

-- one digit to a number
single : (xs : List ℕ) (k : ℕ) → digit_at 3 1 xs k ≡ get_or xs k 0 % 3
single xs k =
    let q : k / 1 ≡ k = omega arith in
    let r : k % 1 ≡ 0 = omega arith in
    rw (q, r, pow-zero) (omega arith)

pub holds_each : (ds : List Digit) → HoldsDigits ds (ternary_part ds)
holds_each ds = record {
  each = λ k h. order k ∙ single (codes ds) k ∙ mod-eq_of_lt (codes_under ds k (rw length-map h)) ∙ get_or-map (λ x. x.code) ds k (digit 0) 0 h;
  spare = λ k h. order k ∙ single (codes ds) k ∙ ap (λ x. x % 3) (get_or_past (codes ds) k 0 (rw length-map h));
  long = length_digits 243 (part_bytes (length ds)) (numeral 3 (codes ds));
  five = digits_under 243 (omega arith) (part_bytes (length ds)) (numeral 3 (codes ds));
}
  where
    order : (k : ℕ) → digit_at 3 5 (ternary_part ds) k ≡ digit_at 3 1 (codes ds) k
    order k = written_in_order 3 1 5 (omega arith) (omega arith) (omega arith) (part_bytes (length ds)) (codes ds) (room ds) k

pub length_ternary : (n : ℕ) (bytes : List ℕ) → length (ternary_digits n bytes) ≡ n
length_ternary n bytes = length-map (digits 3 n (numeral 243 bytes)) digit ∙ length_digits 3 n (numeral 243 bytes)

pub takes_each : (n : ℕ) (bytes : List ℕ) → TakesDigits bytes (ternary_digits n bytes)
takes_each n bytes = record {
  each = λ k h.
      let l : k < n = omega (arith, long) in
      let within : k < length (digits 3 n (numeral 243 bytes)) = omega (arith, length_digits 3 n (numeral 243 bytes)) in
      ap (λ d. d.code) (get_or-map digit (digits 3 n (numeral 243 bytes)) k 0 (digit 0) within)
      ∙ sym (single (digits 3 n (numeral 243 bytes)) k) ∙ read_in_order 3 5 1 (omega arith) (omega arith) (omega arith) n bytes k (omega arith);
  spare = λ other same.
      ap (λ m. ternary_digits m other) long
      ∙ ap (map digit) (read_alike 3 5 1 (omega arith) (omega arith) (omega arith) n other bytes (λ k l. same k (omega (arith, long))));
}
  where
    long : length (ternary_digits n bytes) ≡ n
    long = length_ternary n bytes
