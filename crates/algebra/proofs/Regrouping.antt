-- Regrouping digits of one base into digits of another keeps each digit.
use Rattle.std.proofs.Common.{◌≡◌, ℕ, zero, suc, ◌+◌, ◌-◌, ◌*◌, ◌/◌, ◌%◌, ◌^◌, ◌<◌, ◌≤◌, List, [], ◌∷◌, map, length, get_or, drop, sym, refl, ap, ◌∙◌, subst, inl, inr, lt_of_lt_of_le, le_of_suc-le-suc, not-suc-le-zero, mod-lt, mod-eq_of_lt, mul_comm, pow-suc, zero-add, mul-suc, arith, pow-add}
use native.Mathlib.Nat.{mod-one, mod-mod, div-eq_of_lt, div-div-eq-div-mul, zero-div, zero-mod, add-mul-div_left, add-mul-mod_self_left, pow-zero, pow-succ', one-le-pow, pow-le-pow_right, div-add-mod}
use Rattle.std.proofs.lemmas.List.{at_drop_more, at_drop_all, get_or_past}
use Rattle.std.proofs.lemmas.Bool.{cases_lt}
use Rattle.std.proofs.lemmas.Nat.{le-div}
use Rattle.algebra.specs.Radix.{numeral, digits, digit_at, Under}
use Rattle.algebra.proofs.Radix.{mod_product, numeral_digits, digits_numeral, numeral_lt, length_digits, there_and_back}

pub pow_mul : (b q n : ℕ) → (b ^ q) ^ n ≡ b ^ (q * n)
pow_mul b q zero = pow-zero (b ^ q) ∙ sym (ap (λ e. b ^ e) (omega arith) ∙ pow-zero b)
pow_mul b q (suc n) = pow-suc (b ^ q) n ∙ ap (λ v. v * b ^ q) (pow_mul b q n) ∙ sym (pow-add b (q * n) q) ∙ ap (λ e. b ^ e) (sym (mul-suc q n))

-- what is left of the numeral above its first q digits
pub numeral_drop : (b : ℕ) → 0 < b → (q : ℕ) (xs : List ℕ) → numeral b xs / b ^ q ≡ numeral b (drop q xs)
unfolding numeral
numeral_drop b hb zero xs = ap (λ m. numeral b xs / m) (pow-zero b) ∙ omega arith
numeral_drop b hb (suc q) [] = zero-div (b ^ suc q)
numeral_drop b hb (suc q) (x ∷ xs) =
    let low : x % b < b = mod-lt x hb in
    let one : (x % b + b * numeral b xs) / b ≡ numeral b xs = add-mul-div_left (x % b) (numeral b xs) hb ∙ ap (λ m. m + numeral b xs) (div-eq_of_lt low) ∙ zero-add _ in
    ap (λ m. (x % b + b * numeral b xs) / m) (pow-succ' b q) ∙ sym (div-div-eq-div-mul (x % b + b * numeral b xs) b (b ^ q)) ∙ ap (λ m. m / b ^ q) one ∙ numeral_drop b hb q xs

pub numeral_step : (b : ℕ) → 0 < b → (q : ℕ) (xs : List ℕ) → numeral b (drop q xs) ≡ get_or xs q 0 % b + b * numeral b (drop (q + 1) xs)
unfolding numeral
numeral_step b hb q xs =
    elim (cases_lt q (length xs)) [
      | inl h ↦ at_drop_more (numeral b) xs q 0 h
      | inr h ↦
          let none : numeral b (drop q xs) ≡ 0 = at_drop_all (numeral b) xs q h in
          let next : numeral b (drop (q + 1) xs) ≡ 0 = at_drop_all (numeral b) xs (q + 1) (omega arith) in
          let past : get_or xs q 0 % b ≡ 0 = ap (λ m. m % b) (get_or_past xs q 0 h) ∙ zero-mod b in
          rw (none, next, past) (omega arith)
    ]

-- what is cut off above a product
mod_div : (v a c : ℕ) → 0 < a → 0 < c → v % (a * c) / a ≡ v / a % c
mod_div v a c ha hc =
    let low : v % a < a = mod-lt v ha in
    ap (λ m. m / a) (mod_product v a c ha hc) ∙ add-mul-div_left (v % a) (v / a % c) ha ∙ ap (λ m. m + v / a % c) (div-eq_of_lt low) ∙ zero-add _

pub mod_of_mod : (v a c : ℕ) → 0 < a → 0 < c → v % (a * c) % a ≡ v % a
mod_of_mod v a c ha hc = ap (λ m. m % a) (mod_product v a c ha hc) ∙ add-mul-mod_self_left (v % a) a (v / a % c) ∙ mod-mod v a

-- a digit below the place e is not changed by what is cut off above e
low_digit_kept : (b : ℕ) → 0 < b → (v e k : ℕ) → k < e → v % b ^ e / b ^ k % b ≡ v / b ^ k % b
low_digit_kept b hb v e k h =
    let j = e - k - 1 in
    let split : e ≡ k + suc j = omega arith in
    let p : b ^ e ≡ b ^ k * (b * b ^ j) = ap (λ m. b ^ m) split ∙ pow-add b k (suc j) ∙ ap (λ m. b ^ k * m) (pow-succ' b j) in
    let pk : 0 < b ^ k = one-le-pow k b hb in
    let pj : 0 < b ^ j = one-le-pow j b hb in
    let ps : 0 < b * b ^ j = subst (λ m. 0 < m) (pow-succ' b j) (one-le-pow (suc j) b hb) in
    ap (λ m. v % m / b ^ k % b) p ∙ ap (λ m. m % b) (mod_div v (b ^ k) (b * b ^ j) pk ps) ∙ mod_of_mod (v / b ^ k) b (b ^ j) hb pj

pub digit_of_numeral : (b q : ℕ) → 0 < b → 0 < q → (xs : List ℕ) (k : ℕ) → numeral (b ^ q) xs / b ^ k % b ≡ digit_at b q xs k
digit_of_numeral b q hb hq xs k =
    let j = k / q in
    let r = k % q in
    let hr : r < q = mod-lt k hq in
    let h_b : 0 < b ^ q = one-le-pow q b hb in
    let v = numeral (b ^ q) (drop j xs) in
    let e : b ^ k ≡ (b ^ q) ^ j * b ^ r = ap (λ m. b ^ m) (sym (div-add-mod k q)) ∙ pow-add b (q * j) r ∙ ap (λ m. m * b ^ r) (sym (pow_mul b q j)) in
    let at_j : numeral (b ^ q) xs / b ^ k ≡ v / b ^ r = ap (λ m. numeral (b ^ q) xs / m) e ∙ sym (div-div-eq-div-mul (numeral (b ^ q) xs) ((b ^ q) ^ j) (b ^ r)) ∙ ap (λ m. m / b ^ r) (numeral_drop (b ^ q) h_b j xs) in
    let low : v % b ^ q ≡ get_or xs j 0 % b ^ q = ap (λ m. m % b ^ q) (numeral_step (b ^ q) h_b j xs) ∙ add-mul-mod_self_left (get_or xs j 0 % b ^ q) (b ^ q) (numeral (b ^ q) (drop (j + 1) xs)) ∙ mod-mod (get_or xs j 0) (b ^ q) in
    ap (λ m. m % b) at_j ∙ sym (low_digit_kept b hb v q r hr) ∙ ap (λ m. m / b ^ r % b) low ∙ low_digit_kept b hb (get_or xs j 0) q r hr

-- Regrouping keeps the digits: the laws of word parts are these at bits, those of ternary parts at digits of base 3.
module _ (b q₁ q₂ : ℕ) (hb : 0 < b) (h₁ : 0 < q₁) (h₂ : 0 < q₂) where
  pub room : (n m : ℕ) → q₁ * n ≤ q₂ * m → (b ^ q₁) ^ n ≤ (b ^ q₂) ^ m
  room n m h = rw (pow_mul b q₁ n, pow_mul b q₂ m) (pow-le-pow_right hb h)

  pub regrouped_numeral : (m : ℕ) (xs : List ℕ) → q₁ * length xs ≤ q₂ * m → numeral (b ^ q₂) (digits (b ^ q₂) m (numeral (b ^ q₁) xs)) ≡ numeral (b ^ q₁) xs
  regrouped_numeral m xs h =
      let small : numeral (b ^ q₁) xs < (b ^ q₂) ^ m = lt_of_lt_of_le (numeral_lt (b ^ q₁) (one-le-pow q₁ b hb) xs) (room (length xs) m h) in
      numeral_digits (b ^ q₂) (one-le-pow q₂ b hb) m (numeral (b ^ q₁) xs) ∙ mod-eq_of_lt small

  pub written_in_order : (m : ℕ) (xs : List ℕ) → q₁ * length xs ≤ q₂ * m → (k : ℕ) → digit_at b q₂ (digits (b ^ q₂) m (numeral (b ^ q₁) xs)) k ≡ digit_at b q₁ xs k
  written_in_order m xs h k =
      sym (digit_of_numeral b q₂ hb h₂ (digits (b ^ q₂) m (numeral (b ^ q₁) xs)) k) ∙ ap (λ v. v / b ^ k % b) (regrouped_numeral m xs h) ∙ digit_of_numeral b q₁ hb h₁ xs k

  pub read_in_order : (n : ℕ) (xs : List ℕ) (k : ℕ) → k < q₂ * n → digit_at b q₂ (digits (b ^ q₂) n (numeral (b ^ q₁) xs)) k ≡ digit_at b q₁ xs k
  read_in_order n xs k h =
      sym (digit_of_numeral b q₂ hb h₂ (digits (b ^ q₂) n (numeral (b ^ q₁) xs)) k)
      ∙ ap (λ v. v / b ^ k % b) (numeral_digits (b ^ q₂) (one-le-pow q₂ b hb) n (numeral (b ^ q₁) xs) ∙ ap (λ m. numeral (b ^ q₁) xs % m) (pow_mul b q₂ n))
      ∙ low_digit_kept b hb (numeral (b ^ q₁) xs) (q₂ * n) k h ∙ digit_of_numeral b q₁ hb h₁ xs k

  pub back : (m : ℕ) (xs : List ℕ) → q₁ * length xs ≤ q₂ * m → digits (b ^ q₁) (length xs) (numeral (b ^ q₂) (digits (b ^ q₂) m (numeral (b ^ q₁) xs))) ≡ map (λ x. x % b ^ q₁) xs
  back m xs h = there_and_back (b ^ q₁) (b ^ q₂) m xs (one-le-pow q₁ b hb) (one-le-pow q₂ b hb) (room (length xs) m h)

-- digits beyond a list that is long enough are zero
pub digit_past : (b q : ℕ) → (xs : List ℕ) (k : ℕ) → 0 < q → 0 < b → q * length xs ≤ k → digit_at b q xs k ≡ 0
digit_past b q xs k hq hb h =
    let past : length xs ≤ k / q = le-div (length xs) k q hq (omega (arith, mul_comm q (length xs))) in
    ap (λ v. v / b ^ (k % q) % b) (get_or_past xs (k / q) 0 past) ∙ ap (λ v. v % b) (zero-div (b ^ (k % q))) ∙ zero-mod b

pub under_map : (b : ℕ) (xs : List ℕ) → Under b xs → map (λ x. x % b) xs ≡ xs
under_map b [] u = refl
under_map b (x ∷ xs) u =
    let here : x % b ≡ x = mod-eq_of_lt (u 0 (omega arith)) in
    rw (here, under_map b xs (λ k h. u (suc k) (omega arith))) refl

pub digits_under : (b : ℕ) → 0 < b → (n v : ℕ) → Under b (digits b n v)
unfolding digits
digits_under b hb zero v k h = absurd (not-suc-le-zero h)
digits_under b hb (suc n) v zero h = mod-lt v hb
digits_under b hb (suc n) v (suc k) h = digits_under b hb n (v / b) k (le_of_suc-le-suc h)

-- the first n digits are all that is left modulo b ^ n
digits_low : (b : ℕ) → 0 < b → (n v : ℕ) → digits b n (v % b ^ n) ≡ digits b n v
digits_low b hb n v =
    ap (digits b n) (sym (numeral_digits b hb n v)) ∙ ap (λ m. digits b m (numeral b (digits b n v))) (sym (length_digits b n v))
    ∙ digits_numeral b hb (digits b n v) ∙ under_map b (digits b n v) (digits_under b hb n v)

-- numbers with the same digits below the place e
low_alike : (b : ℕ) → 0 < b → (e u v : ℕ) → ((k : ℕ) → k < e → u / b ^ k % b ≡ v / b ^ k % b) → u % b ^ e ≡ v % b ^ e
low_alike b hb zero u v same = ap (λ m. u % m) (pow-zero b) ∙ mod-one u ∙ sym (ap (λ m. v % m) (pow-zero b) ∙ mod-one v)
low_alike b hb (suc e) u v same =
    let first : (x : ℕ) → x / b ^ 0 % b ≡ x % b = λ x. ap (λ m. x / m % b) (pow-zero b) ∙ ap (λ m. m % b) (omega arith) in
    let next : (x k : ℕ) → x / b ^ suc k % b ≡ x / b / b ^ k % b = λ x k. ap (λ m. x / m % b) (pow-succ' b k) ∙ ap (λ m. m % b) (sym (div-div-eq-div-mul x b (b ^ k))) in
    let low : u % b ≡ v % b = sym (first u) ∙ same 0 (omega arith) ∙ first v in
    let high : u / b % b ^ e ≡ v / b % b ^ e = low_alike b hb e (u / b) (v / b) (λ k l. sym (next u k) ∙ same (suc k) (omega arith) ∙ next v k) in
    let parts : (x : ℕ) → x % b ^ suc e ≡ x % b + b * (x / b % b ^ e) = λ x. ap (λ m. x % m) (pow-succ' b e) ∙ mod_product x b (b ^ e) hb (one-le-pow e b hb) in
    parts u ∙ ap (λ m. m + b * (u / b % b ^ e)) low ∙ ap (λ m. v % b + b * m) high ∙ sym (parts v)

-- lists that have the same digits up to those that are read regroup alike
pub read_alike :
    (b q₁ q₂ : ℕ) → 0 < b → 0 < q₁ → 0 < q₂ → (n : ℕ) (xs ys : List ℕ) → ((k : ℕ) → k < q₂ * n → digit_at b q₁ xs k ≡ digit_at b q₁ ys k)
    → digits (b ^ q₂) n (numeral (b ^ q₁) xs) ≡ digits (b ^ q₂) n (numeral (b ^ q₁) ys)
read_alike b q₁ q₂ hb h₁ h₂ n xs ys same =
    let u = numeral (b ^ q₁) xs in
    let v = numeral (b ^ q₁) ys in
    let h_b : 0 < b ^ q₂ = one-le-pow q₂ b hb in
    let low : u % b ^ (q₂ * n) ≡ v % b ^ (q₂ * n) = low_alike b hb (q₂ * n) u v (λ k l. digit_of_numeral b q₁ hb h₁ xs k ∙ same k l ∙ sym (digit_of_numeral b q₁ hb h₁ ys k)) in
    let rest : u % (b ^ q₂) ^ n ≡ v % (b ^ q₂) ^ n = ap (λ m. u % m) (pow_mul b q₂ n) ∙ low ∙ ap (λ m. v % m) (sym (pow_mul b q₂ n)) in
    sym (digits_low (b ^ q₂) h_b n u) ∙ ap (digits (b ^ q₂) n) rest ∙ digits_low (b ^ q₂) h_b n v
