-- Polynomials in records: what is written of lists of digits and words, and what is read.
use Rattle.std.proofs.Common.{◌≡◌, ℕ, ◌-◌, ◌%◌, ◌^◌, ◌<◌, ◌≤◌, List, [], ◌∷◌, ◌++◌, map, length, get_or, take, set, pos, sym, ap, ◌∙◌, subst, mod-eq_of_lt, arith, length-take, pow_pos}
use borrow.Rule.Slice.PartMut.{post_of}
use Rattle.std.specs.List.{range_with_len}
use Rattle.std.proofs.lemmas.List.FromFn.{get_or-map-range_with_len, length-map-range_with_len}
use Rattle.std.proofs.lemmas.List.{ext_get_or, get_or-take, get_or_push}
use Rattle.algebra.specs.Radix.{numeral, digits}
use Rattle.algebra.specs.Ring.{Agree, integers}
use Rattle.algebra.specs.Polynomials.{Poly, SameMod, as_word}
use Rattle.algebra.specs.Scheme.{lifting, opened_a, opened_m, opened_r}
use Rattle.algebra.specs.Ternary.{Ternary}
use Rattle.algebra.proofs.CallSteps.{narrowed, lifting_same, opened_r_same}
use Rattle.algebra.proofs.Classes.{as_word_below, word_same}
use Rattle.algebra.proofs.Cyclic.{cyclic_laws}
use Rattle.algebra.proofs.Integers.{integer_laws}
use Rattle.algebra.proofs.LastCoefficient.{write_last}
use Rattle.algebra.proofs.Polynomials.{ternary_same}
use Rattle.algebra.proofs.Radix.{numeral_same}
use Rattle.arithmetic.specs.Digits.{digit, coefficients, number, sign}
use Rattle.arithmetic.specs.Products.{integers_of}
use Rattle.arithmetic.specs.declared.digit.Digit.{Digit}
use Rattle.arithmetic.proofs.Digits.{same_digit, sign_number, number_small}
use Rattle.scheme.specs.Coins.{drawn, first_half, second_half}
use Rattle.scheme.specs.Opening.{found_m, found_r}
use Rattle.scheme.specs.Sealing.{encrypted, sealed_record}
use Rattle.scheme.specs.TernaryParts.{ternary_part, ternary_digits}
use Rattle.scheme.specs.TernaryPolynomials.{ended_digits, ternary_polynomial, ternary_record, pair_of}
use Rattle.scheme.specs.WordParts.{word_bytes, word_part, part_words}
use Rattle.scheme.specs.WordPolynomials.{balanced, padded, balanced_polynomial, padded_polynomial, word_record}
use Rattle.scheme.proofs.TernaryDigits.{length_ternary}

-- ---- word parts
-- the word part of words that are a polynomial modulo 2 ^ w
pub word_record_is : (n w : ℕ) (c : List ℕ) (u : Poly) → length c ≡ n → SameMod (2 ^ w) n (integers_of c) u → word_part w (take (length c - 1) c) ≡ word_record n w u
word_record_is n w c u e h =
    let q = 2 ^ w in
    let front = take (length c - 1) c in
    let words = map (λ k. as_word q (u k)) (range_with_len 0 (n - 1)) in
    let long : length front ≡ n - 1 = simp length-take (omega arith) in
    let same : length front ≡ length words = long ∙ sym (length-map-range_with_len (λ k. as_word q (u k)) 0 (n - 1)) in
    let each : (k : ℕ) → k < length front → get_or front k 0 % q ≡ get_or words k 0 % q = λ k l.
    let m : k < n - 1 = omega arith in
    ap (λ x. x % q) (get_or-take (length c - 1) c k 0 (omega arith)) ∙ word_same q (pow_pos w) (pos (get_or c k 0)) (u k) (h.at k (omega arith))
    ∙ sym (mod-eq_of_lt (as_word_below q (pow_pos w) (u k))) ∙ ap (λ x. x % q) (sym (get_or-map-range_with_len (λ j. as_word q (u j)) 0 (n - 1) k k 0 m (omega arith))) in
    ap (λ k. digits 256 (word_bytes w k) (numeral q front)) same ∙ ap (digits 256 (word_bytes w (length words))) (numeral_same q front words same each)

-- ---- ternary parts
pub ternary_record_is : (ds : List Digit) (u : Poly) → Agree integers (length ds) (coefficients ds) u → ternary_part (take (length ds - 1) ds) ≡ ternary_record (length ds) u
ternary_record_is ds u h =
    let n = length ds in
    let long : length (take (n - 1) ds) ≡ n - 1 = simp length-take (omega arith) in
    ap ternary_part (ext_get_or (digit 0) (take (n - 1) ds) (map (λ k. sign (u k)) (range_with_len 0 (n - 1))) (long ∙ sym (length-map-range_with_len (λ k. sign (u k)) 0 (n - 1))) (λ k l.
    let m : k < n - 1 = omega arith in
    get_or-take (n - 1) ds k (digit 0) m ∙ sym (sign_number (get_or ds k (digit 0))) ∙ ap sign (h.at k (omega arith)) ∙ sym (get_or-map-range_with_len (λ j. sign (u j)) 0 (n - 1) k k (digit 0) m (omega arith))))

pub ended_ternary : (n : ℕ) (bytes : List ℕ) → Ternary n (ternary_polynomial n bytes)
ended_ternary n bytes = record {
  digit = λ k h. number_small (get_or (ended_digits n bytes) k (digit 0));
  last = ap number (get_or_push (ternary_digits (n - 1) bytes) (digit 0) (digit 0) (n - 1) (length_ternary (n - 1) bytes));
}

-- a list whose front was lent and filled from a part, and whose last digit is then written as 0
module _ (bytes : List ℕ) (xs front : List Digit) (z : Digit) (some : 1 ≤ length xs) (filled : front ≡ ternary_digits (length (take (length xs - 1 - 0) xs)) bytes) (zero_code : z.code ≡ 0) where
  pub ended_written : set (front ++ post_of 0 (length xs - 1 - 0) xs) (length xs - 1) z ≡ ended_digits (length xs) bytes
  ended_written =
      let n = length xs in
      let short : length (take (n - 1 - 0) xs) ≡ n - 1 = simp length-take (omega arith) in
      let front_is : front ≡ ternary_digits (n - 1) bytes = filled ∙ ap (λ k. ternary_digits k bytes) short in
      write_last xs front (n - 1) z (omega arith) (ap length front_is ∙ length_ternary (n - 1) bytes) ∙ ap (λ ds. ds ++ z ∷ []) front_is ∙ ap (λ d. ternary_digits (n - 1) bytes ++ d ∷ []) (same_digit z (digit 0) zero_code)

-- ---- seal
pub sealed_bytes : (n w : ℕ) (coins h key c out : List ℕ) (r m : List Digit) {entry : ℕ} → w ≤ 16 → length c ≡ n → entry ≡ n →
    r ≡ drawn (first_half n coins) → m ≡ drawn (second_half n coins) → key ≡ balanced w (part_words w (entry - 1) h) →
    SameMod 65536 n (integers_of c) (encrypted n (integers_of key) (coefficients r) (coefficients m)) → out ≡ word_part w (take (length c - 1) c) →
    out ≡ sealed_record n w (balanced_polynomial n w h) coins
sealed_bytes n w coins h key c out r m narrow lc le er em ek hc eo =
    eo
    ∙ word_record_is n w c (encrypted n (integers_of key) (coefficients r) (coefficients m)) lc (narrowed w n narrow hc)
    ∙ ap (λ xs. word_record n w (encrypted n (integers_of xs) (coefficients r) (coefficients m))) (ek ∙ ap (λ k. balanced w (part_words w (k - 1) h)) le)
    ∙ ap (λ ds. word_record n w (encrypted n (balanced_polynomial n w h) (coefficients ds) (coefficients m))) er
    ∙ ap (λ ds. word_record n w (encrypted n (balanced_polynomial n w h) (coefficients (drawn (first_half n coins))) (coefficients ds))) em

-- ---- open
-- what is opened, by the lists that hold the polynomials; ik, il, ic and iz are the lengths of the lists that were read into
module _ (n w : ℕ) (f fp hq sealed : List ℕ) (k l m : List Digit) (c z : List ℕ) {ik il ic iz : ℕ} (some : 0 < n) (lk : ik ≡ n) (ll : il ≡ n) (lc : ic ≡ n) (lz : iz ≡ n)
    (ek : k ≡ ended_digits ik f) (el : l ≡ ended_digits il fp) (ec : c ≡ balanced w (part_words w (ic - 1) sealed)) (ez : z ≡ padded (part_words w (iz - 1) hq))
    (hm : Agree integers n (coefficients m) (opened_m n (coefficients l) (opened_a n (2 ^ w) (coefficients k) (integers_of c)))) where
  abbrev pub F : Poly
  F = ternary_polynomial n f

  abbrev Fp : Poly
  Fp = ternary_polynomial n fp

  abbrev Hq : Poly
  Hq = padded_polynomial n w hq

  abbrev C : Poly
  C = balanced_polynomial n w sealed

  f_is : coefficients k ≡ F
  f_is = ap coefficients (ek ∙ ap (λ i. ended_digits i f) lk)

  fp_is : coefficients l ≡ Fp
  fp_is = ap coefficients (el ∙ ap (λ i. ended_digits i fp) ll)

  hq_is : integers_of z ≡ Hq
  hq_is = ap integers_of (ez ∙ ap (λ i. padded (part_words w (i - 1) hq)) lz)

  c_is : integers_of c ≡ C
  c_is = ap integers_of (ec ∙ ap (λ i. balanced w (part_words w (i - 1) sealed)) lc)

  m_found : Agree integers n (coefficients m) (found_m n w F Fp C)
  m_found =
      subst (λ u. Agree integers n (coefficients m) (opened_m n u (opened_a n (2 ^ w) F C))) fp_is
      (subst (λ u. Agree integers n (coefficients m) (opened_m n (coefficients l) (opened_a n (2 ^ w) u C))) f_is
      (subst (λ u. Agree integers n (coefficients m) (opened_m n (coefficients l) (opened_a n (2 ^ w) (coefficients k) u))) c_is hm))

  same_r : Agree integers n (opened_r n (2 ^ w) (integers_of z) (integers_of c) (lifting n (coefficients m))) (found_r n w F Fp Hq C)
  same_r =
      subst (λ u. Agree integers n (opened_r n (2 ^ w) u (integers_of c) (lifting n (coefficients m))) (found_r n w F Fp Hq C)) (sym hq_is)
      (subst (λ u. Agree integers n (opened_r n (2 ^ w) Hq u (lifting n (coefficients m))) (found_r n w F Fp Hq C)) (sym c_is)
      (opened_r_same n (2 ^ w) Hq C some (lifting_same n m_found)))

  -- there is no pair
  pub none_opened : (Ternary n (opened_r n (2 ^ w) (integers_of z) (integers_of c) (lifting n (coefficients m))) → ⊥) → Ternary n (found_r n w F Fp Hq C) → ⊥
  none_opened none t = none (ternary_same n some same_r t)

  -- the pair is written
  pub pair_opened : (r : List Digit) → Ternary n (opened_r n (2 ^ w) (integers_of z) (integers_of c) (lifting n (coefficients m))) →
      Agree integers n (coefficients r) (opened_r n (2 ^ w) (integers_of z) (integers_of c) (lifting n (coefficients m))) → (after : List ℕ) →
      ((u v : Poly) → Agree integers n (coefficients r) u → Agree integers n (coefficients m) v → after ≡ pair_of n u v) →
      Ternary n (found_r n w F Fp Hq C) × (after ≡ pair_of n (found_r n w F Fp Hq C) (found_m n w F Fp C))
  pair_opened r t hr after written = (ternary_same n some ((cyclic_laws integer_laws n).sy same_r) t, written _ _ ((cyclic_laws integer_laws n).tr hr same_r) m_found)
