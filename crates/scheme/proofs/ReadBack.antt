-- What is read from the record of a polynomial is that polynomial.
use Rattle.std.proofs.Common.{◌≡◌, ℕ, zero, suc, ◌+◌, ◌-◌, ◌*◌, ◌/◌, ◌%◌, ◌^◌, ◌<◌, ◌≤◌, true, ◌&&◌, leb, List, [], ◌∷◌, ◌++◌, map, length, get_or, take, drop, ℤ, pos, negsuc, nat_abs, sym, refl, ap, ◌∙◌, subst, inl, inr, mod-eq_of_lt, arith, pow_pos}
use Rattle.std.specs.List.{range_with_len}
use Rattle.std.proofs.lemmas.List.FromFn.{get_or-map-range_with_len, length-map-range_with_len, take-map-range_with_len}
use Rattle.std.proofs.lemmas.List.{get_or_append_left, get_or_push, take_at, drop_at, length-append}
use Rattle.std.proofs.lemmas.Bool.{cases_lt, le-leb}
use Rattle.algebra.specs.Polynomials.{Poly, SameMod, Balanced, as_word}
use Rattle.algebra.specs.Radix.{Under}
use Rattle.algebra.specs.Ring.{Agree, integers}
use Rattle.algebra.specs.Ternary.{Ternary}
use Rattle.algebra.proofs.Classes.{as_word_is, as_word_below}
use Rattle.algebra.proofs.Integers.{mod_laws, equal_mod}
use Rattle.algebra.proofs.Polynomials.{balanced_same}
use Rattle.arithmetic.specs.Digits.{digit, coefficients, number, sign}
use Rattle.arithmetic.specs.Products.{integers_of}
use Rattle.arithmetic.specs.declared.digit.Digit.{Digit}
use Rattle.scheme.specs.CardPolynomials.{stretch, ternary_stretch}
use Rattle.scheme.specs.Making.{card_record}
use Rattle.scheme.specs.Sets.{ternary_bytes, record_bytes, card_bytes}
use Rattle.scheme.specs.TernaryParts.{holds_digits, ternary_digits, ternary_part}
use Rattle.scheme.specs.TernaryPolynomials.{ended_digits, ternary_polynomial, ternary_record}
use Rattle.scheme.specs.WordParts.{word_part, part_words}
use Rattle.scheme.specs.WordPolynomials.{balanced, padded, balanced_polynomial, padded_polynomial, word_record}
use Rattle.scheme.proofs.TernaryDigits.{holds_each, reads_back}
use Rattle.scheme.proofs.WordBytes.{holds_bits}
use Rattle.scheme.proofs.WordPolynomials.{polynomial_back}

-- ---- ternary parts
-- a number that is -1, 0 or 1 is that of its sign
number_sign : (z : ℤ) → nat_abs z ≤ 1 → number (sign z) ≡ z
number_sign (pos zero) h = refl
number_sign (pos (suc zero)) h = refl
number_sign (pos (suc (suc n))) h = absurd (omega arith)
number_sign (negsuc zero) h = refl
number_sign (negsuc (suc n)) h = absurd (omega arith)

module _ (n : ℕ) (u : Poly) where
  abbrev signs : List Digit
  signs = map (λ k. sign (u k)) (range_with_len 0 (n - 1))

  signs_length : length signs ≡ n - 1
  signs_length = length-map-range_with_len (λ k. sign (u k)) 0 (n - 1)

  signs_back : ternary_digits (n - 1) (ternary_record n u) ≡ signs
  signs_back = ap (λ k. ternary_digits k (ternary_record n u)) (sym signs_length) ∙ reads_back signs

  pub ternary_back : Ternary n u → Agree integers n (ternary_polynomial n (ternary_record n u)) u
  ternary_back t = record {
    at = λ k l.
        let ends : ended_digits n (ternary_record n u) ≡ signs ++ digit 0 ∷ [] = ap (λ ds. ds ++ digit 0 ∷ []) signs_back in
        ap (λ ds. coefficients ds k) ends ∙ (elim (cases_lt k (n - 1)) [
          | inl h ↦
              ap number (get_or_append_left signs (digit 0 ∷ []) (digit 0) k (omega (arith, signs_length)) ∙ get_or-map-range_with_len (λ j. sign (u j)) 0 (n - 1) k k (digit 0) h (omega arith)) ∙ number_sign (u k) (t.digit k l)
          | inr h ↦
              let e : k ≡ n - 1 = omega arith in
              ap number (get_or_push signs (digit 0) (digit 0) k (signs_length ∙ sym e)) ∙ sym (ap u e ∙ t.last)
        ]);
  }

  pub ternary_long : length (ternary_record n u) ≡ ternary_bytes n
  ternary_long = (holds_each signs).long ∙ ap (λ k. (k + 4) / 5) signs_length

  pub ternary_held : holds_digits (ternary_record n u) ≡ true
  ternary_held = go (ternary_record n u) (holds_each signs).five
    where
      go : (bs : List ℕ) → Under 243 bs → holds_digits bs ≡ true
      go [] h = refl
      go (b ∷ bs) h = ap (λ t. t && holds_digits bs) (le-leb b 0xF2 (let x : b < 243 = h 0 (omega arith) in omega arith)) ∙ go bs (λ k l. h (suc k) (omega arith))

-- equal polynomials have one ternary part
pub ternary_record_same : (n : ℕ) (u v : Poly) → Agree integers n u v → ternary_record n u ≡ ternary_record n v
ternary_record_same n u v a = ap ternary_part (map_same (n - 1) (λ k. sign (u k)) (λ k. sign (v k)) (λ k l. ap sign (a.at k (omega arith))))
  where
    map_same : (m : ℕ) (f g : ℕ → Digit) → ((k : ℕ) → k < m → f k ≡ g k) → map f (range_with_len 0 m) ≡ map g (range_with_len 0 m)
    map_same m f g h = Rattle.std.proofs.lemmas.List.ext_get_or (digit 0) (map f (range_with_len 0 m)) (map g (range_with_len 0 m)) (length-map-range_with_len f 0 m ∙ sym (length-map-range_with_len g 0 m)) (λ k l.
        let b : k < m = omega (arith, length-map-range_with_len f 0 m) in
        get_or-map-range_with_len f 0 m k k (digit 0) b (omega arith) ∙ h k b ∙ sym (get_or-map-range_with_len g 0 m k k (digit 0) b (omega arith)))

-- ---- word parts
module _ (n w : ℕ) (u : Poly) (some : 1 ≤ n) (wide : 1 ≤ w) where
  abbrev words : List ℕ
  words = map (λ k. as_word (2 ^ w) (u k)) (range_with_len 0 n)

  words_length : length words ≡ n
  words_length = length-map-range_with_len (λ k. as_word (2 ^ w) (u k)) 0 n

  word_at : (k : ℕ) → k < n → get_or words k 0 ≡ as_word (2 ^ w) (u k)
  word_at k l = get_or-map-range_with_len (λ j. as_word (2 ^ w) (u j)) 0 n k k 0 l (omega arith)

  words_are : SameMod (2 ^ w) n (integers_of words) u
  words_are = record { at = λ k l. (mod_laws (2 ^ w)).tr (equal_mod (2 ^ w) (ap pos (word_at k l))) (as_word_is (2 ^ w) (pow_pos w) (u k)) }

  words_small : Under (2 ^ w) words
  words_small k l = let b : k < n = omega (arith, words_length) in subst (λ x. x < 2 ^ w) (sym (word_at k b)) (as_word_below (2 ^ w) (pow_pos w) (u k))

  bytes_are : word_part w (take (length words - 1) words) ≡ word_record n w u
  bytes_are = ap (word_part w) (ap (λ k. take (k - 1) words) words_length ∙ take-map-range_with_len (λ k. as_word (2 ^ w) (u k)) 0 n (n - 1) (omega arith))

  pub balanced_back : Balanced (2 ^ w) n u → SameMod (2 ^ w) n (balanced_polynomial n w (word_record n w u)) u
  balanced_back b =
      let sum_zero : Balanced (2 ^ w) (length words) (integers_of words) = subst (λ k. Balanced (2 ^ w) k (integers_of words)) (sym words_length) (balanced_same (2 ^ w) n words_are b) in
      let back = (polynomial_back w words wide (omega (arith, words_length)) words_small).by_sum sum_zero in
      let same : balanced w (part_words w (n - 1) (word_record n w u)) ≡ words = ap (λ bs. balanced w (part_words w (n - 1) bs)) (sym bytes_are) ∙ ap (λ k. balanced w (part_words w (k - 1) (word_part w (take (length words - 1) words)))) (sym words_length) ∙ back in
      subst (λ xs. SameMod (2 ^ w) n (integers_of xs) u) (sym same) words_are

  pub padded_back : u (n - 1) ≡ pos 0 → SameMod (2 ^ w) n (padded_polynomial n w (word_record n w u)) u
  padded_back z =
      let none : 0 % 2 ^ w ≡ 0 = mod-eq_of_lt (pow_pos w) in
      let last : get_or words (length words - 1) 0 ≡ 0 = ap (λ k. get_or words (k - 1) 0) words_length ∙ word_at (n - 1) (omega arith) ∙ ap (as_word (2 ^ w)) z ∙ none in
      let back = (polynomial_back w words wide (omega (arith, words_length)) words_small).by_zero last in
      let same : padded (part_words w (n - 1) (word_record n w u)) ≡ words = ap (λ bs. padded (part_words w (n - 1) bs)) (sym bytes_are) ∙ ap (λ k. padded (part_words w (k - 1) (word_part w (take (length words - 1) words)))) (sym words_length) ∙ back in
      subst (λ xs. SameMod (2 ^ w) n (integers_of xs) u) (sym same) words_are

  pub word_long : length (word_record n w u) ≡ record_bytes n w
  word_long = (holds_bits w (map (λ k. as_word (2 ^ w) (u k)) (range_with_len 0 (n - 1))) wide).long ∙ ap (λ k. (w * k + 7) / 8) (length-map-range_with_len (λ k. as_word (2 ^ w) (u k)) 0 (n - 1))

-- equal classes have one word part
pub word_record_same : (n w : ℕ) (u v : Poly) → SameMod (2 ^ w) n u v → word_record n w u ≡ word_record n w v
word_record_same n w u v h =
    ap (word_part w) (Rattle.std.proofs.lemmas.List.ext_get_or 0 (map (λ k. as_word (2 ^ w) (u k)) (range_with_len 0 (n - 1))) (map (λ k. as_word (2 ^ w) (v k)) (range_with_len 0 (n - 1)))
    (length-map-range_with_len (λ k. as_word (2 ^ w) (u k)) 0 (n - 1) ∙ sym (length-map-range_with_len (λ k. as_word (2 ^ w) (v k)) 0 (n - 1)))
    (λ k l.
    let b : k < n - 1 = omega (arith, length-map-range_with_len (λ k. as_word (2 ^ w) (u k)) 0 (n - 1)) in
    get_or-map-range_with_len (λ j. as_word (2 ^ w) (u j)) 0 (n - 1) k k 0 b (omega arith)
    ∙ Rattle.algebra.proofs.Classes.word_same (2 ^ w) (pow_pos w) (u k) (v k) (h.at k (omega arith))
    ∙ sym (get_or-map-range_with_len (λ j. as_word (2 ^ w) (v j)) 0 (n - 1) k k 0 b (omega arith))))

-- ---- cards
module _ (n w : ℕ) (f fp h hq : Poly) (some : 1 ≤ n) (wide : 1 ≤ w) where
  abbrev A : List ℕ
  A = ternary_record n f

  abbrev B : List ℕ
  B = ternary_record n fp

  abbrev C : List ℕ
  C = word_record n w h

  abbrev D : List ℕ
  D = word_record n w hq

  abbrev t : ℕ
  t = ternary_bytes n

  abbrev b : ℕ
  b = record_bytes n w

  pub f_part : stretch 0 t (card_record n w f fp h hq) ≡ A
  f_part = ap (take t) (Rattle.std.proofs.lemmas.List.append_assoc A B (C ++ D)) ∙ take_at A (B ++ (C ++ D)) t (ternary_long n f)

  pub fp_part : stretch t t (card_record n w f fp h hq) ≡ B
  fp_part = ap (λ xs. take t (drop t xs)) (Rattle.std.proofs.lemmas.List.append_assoc A B (C ++ D)) ∙ ap (take t) (drop_at A (B ++ (C ++ D)) t (ternary_long n f)) ∙ take_at B (C ++ D) t (ternary_long n fp)

  both_long : length (A ++ B) ≡ 2 * t
  both_long = length-append A B ∙ (omega (arith, ternary_long n f, ternary_long n fp))

  pub h_part : stretch (2 * t) b (card_record n w f fp h hq) ≡ C
  h_part = ap (take b) (drop_at (A ++ B) (C ++ D) (2 * t) both_long) ∙ take_at C D b (word_long n w h some wide)

  pub hq_part : stretch (2 * t + b) b (card_record n w f fp h hq) ≡ D
  hq_part =
      ap (take b) (ap (drop (2 * t + b)) (sym (Rattle.std.proofs.lemmas.List.append_assoc (A ++ B) C D)) ∙ drop_at ((A ++ B) ++ C) D (2 * t + b) (length-append (A ++ B) C ∙ (omega (arith, both_long, word_long n w h some wide))))
      ∙ Rattle.std.proofs.lemmas.List.take_all b D (omega (arith, word_long n w hq some wide))

  pub card_long : length (card_record n w f fp h hq) ≡ card_bytes n w
  card_long = length-append (A ++ B) (C ++ D) ∙ (omega (arith, both_long, length-append C D, word_long n w h some wide, word_long n w hq some wide))

  pub card_held : holds_digits (ternary_stretch n (card_record n w f fp h hq)) ≡ true
  card_held = ap holds_digits (take_at (A ++ B) (C ++ D) (2 * t) both_long) ∙ join A B (ternary_held n f) (ternary_held n fp)
    where
      join : (xs ys : List ℕ) → holds_digits xs ≡ true → holds_digits ys ≡ true → holds_digits (xs ++ ys) ≡ true
      join [] ys p q = q
      join (x ∷ xs) ys p q =
          let parts = Rattle.std.proofs.lemmas.Bool.and_parts (leb x 0xF2) (holds_digits xs) p in
          ap (λ s. s && holds_digits (xs ++ ys)) parts.0 ∙ join xs ys parts.1 q
