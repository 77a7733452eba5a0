-- What lists of words and of digits stand for over the integers, and what reduction and the product by x - 1 do there.
use Rattle.std.proofs.Common.{◌≡◌, ℕ, zero, suc, ◌-◌, ◌%◌, ◌<◌, ◌≤◌, Result, Ok, Err, IsErr, List, length, get_or, ℤ, pos, ◌+ℤ◌, sym, refl, ap, ◌∙◌, subst, mod-eq_of_lt, arith, lit<, rules}
use Rattle.algebra.specs.Exact.{Ops}
use Rattle.algebra.specs.Ring.{Agree, Differ, integers, reduce}
use Rattle.algebra.specs.Residues.{residue, residues, residue_laws}
use Rattle.algebra.specs.Stands.{Stands, numbers, residue_number, digit_number, signed}
use Rattle.algebra.specs.Polynomials.{Poly, SameMod, times, Φ1, centre}
use Rattle.algebra.proofs.Classes.{centre_is, centre_small}
use Rattle.algebra.proofs.Cyclic.{cyclic_laws}
use Rattle.algebra.proofs.Derived.{mul_left}
use Rattle.algebra.proofs.Divide.{phi1_first, phi1_later}
use Rattle.algebra.proofs.Integers.{mod_laws, equal_mod, close}
use Rattle.algebra.proofs.Naturals.{wrapped, congruent_out}
use Rattle.algebra.proofs.Stands.{number_less, signed_is, digits_stand}
use Rattle.euclid.specs.Series.{poly, less_last, phi1}
use Rattle.euclid.proofs.Lists.{poly_at}
use Rattle.euclid.proofs.Standing.{stands_for}
use Rattle.arithmetic.specs.declared.digit.Digit.{Digit}
use Rattle.arithmetic.specs.Digits.{digit, number, coefficients}
use Rattle.arithmetic.specs.Products.{integers_of}
use Rattle.arithmetic.proofs.Digits.{number_small}

module _ {A : Type 0} {o : Ops A} {k : ℕ} {number : A → ℤ} (S : Stands o k number) (n : ℕ) (a b : ℕ → A) where
  -- the last coefficient taken from all
  pub less_last_stands : ((i : ℕ) → i < n → b i ≡ less_last o n a i) → SameMod k n (numbers number b) (reduce integers n (numbers number a))
  less_last_stands h = record { at = λ i l. (mod_laws k).tr (equal_mod k (ap number (h i l))) (number_less S (a i) (a (n - 1))) }

  -- the product by x - 1
  pub phi1_stands : 2 ≤ n → ((i : ℕ) → i < n → b i ≡ phi1 o n a i) → SameMod k n (numbers number b) (times n (Φ1 n) (numbers number a))
  phi1_stands two h = record { at = at }
    where
      at : (i : ℕ) → i < n → Differ integers (pos k) (number (b i)) (times n (Φ1 n) (numbers number a) i)
      at zero l =
          let M = mod_laws k in
          M.tr (equal_mod k (ap number (h 0 l))) (M.tr (number_less S (a (n - 1)) (a 0)) (M.sy (phi1_first M n two (numbers number a))))
      at (suc i) l =
          let M = mod_laws k in
          M.tr (equal_mod k (ap number (h (suc i) l))) (M.tr (number_less S (a i) (a (suc i))) (M.sy (phi1_later M n two (numbers number a) i l)))

-- the last coefficients of polynomials of the same classes, taken from all
pub reduce_cong : (k n : ℕ) {u v : Poly} → 1 ≤ n → SameMod k n u v → SameMod k n (reduce integers n u) (reduce integers n v)
reduce_cong k n some h = let M = mod_laws k in record { at = λ i l. M.add_cong (h.at i l) (M.neg_cong (h.at (n - 1) (omega arith))) }

-- an answer that is no refusal is a served one
pub served : {E : Type 0} (r : Result (Unit {0}) E) → (IsErr r → ⊥) → r ≡ Ok tt
served (Ok u) h = refl
served (Err e) h = absurd (h (search rules))

-- ---- words
-- the numbers that words stand for
abbrev pub words_number : List ℕ → Poly
words_number xs = numbers (residue_number 65536) (poly (residues 65536 (lit< tt)) (residue 65536 (lit< tt)) xs)

-- the polynomial over the integers that a list of words stands for
pub words_stand : (xs : List ℕ) (n : ℕ) → n ≤ length xs → SameMod 65536 n (words_number xs) (integers_of xs)
words_stand xs n h = stands_for 65536 (lit< tt) (λ x. x) 0 xs n (integers_of xs) h (λ k l. (mod_laws 65536).rfl (pos (get_or xs k 0)))

-- the last word taken from all
pub reduced_words :
    (xs ys : List ℕ) → length ys ≡ length xs → 1 ≤ length xs → SameMod 65536 (length xs) (words_number ys) (reduce integers (length xs) (words_number xs))
    → SameMod 65536 (length xs) (integers_of ys) (reduce integers (length xs) (integers_of xs))
reduced_words xs ys same some h =
    let n = length xs in
    let C = cyclic_laws (mod_laws 65536) n in
    C.tr (C.sy (words_stand ys n (omega arith))) (C.tr h (reduce_cong 65536 n some (words_stand xs n (omega arith))))

-- words of the class of u, multiplied by x - 1
pub phi1_words :
    (n : ℕ) (xs ys : List ℕ) (u : Poly) → length xs ≡ n → length ys ≡ n → SameMod 65536 n (integers_of xs) u
    → SameMod 65536 (length xs) (words_number ys) (times (length xs) (Φ1 (length xs)) (words_number xs))
    → SameMod 65536 n (integers_of ys) (times n (Φ1 n) u)
phi1_words n xs ys u same long e h =
    let C = cyclic_laws (mod_laws 65536) n in
    let h' : SameMod 65536 n (words_number ys) (times n (Φ1 n) (words_number xs)) = subst (λ (i : ℕ). SameMod 65536 i (words_number ys) (times i (Φ1 i) (words_number xs))) same h in
    C.tr (C.sy (words_stand ys n (omega arith))) (C.tr h' (mul_left C (Φ1 n) (C.tr (words_stand xs n (omega arith)) e)))

-- ---- digits
-- a digit's value is the digit as a number
pub value_number : (d : Digit) → digit_number (residue 3 (lit< tt) d.code) ≡ number d
value_number d = ap signed (mod-eq_of_lt d.small)

-- a digit as a number is its code, modulo 3
pub number_code : (d : Digit) → Differ integers (pos 3) (number d) (pos d.code)
number_code d = signed_is d.code d.small

-- the digit of a number is that number, modulo 3
pub number_digit : (x : ℕ) → Differ integers (pos 3) (number (digit x)) (pos x)
number_digit x = (mod_laws 3).tr (number_code (digit x)) (congruent_out 3 (x % 3) x (wrapped 3 x))

-- a sum of digits, as numbers modulo 3
pub number_sum : (a b r : Digit) → residue 3 (lit< tt) r.code ≡ (residues 3 (lit< tt)).plus (residue 3 (lit< tt) a.code) (residue 3 (lit< tt) b.code) → Differ integers (pos 3) (number r) (number a +ℤ number b)
number_sum a b r e =
    let M = mod_laws 3 in
    M.tr (equal_mod 3 (sym (value_number r) ∙ ap digit_number e))
    (M.tr ((digits_stand (lit< tt)).hom.h_add (residue 3 (lit< tt) a.code) (residue 3 (lit< tt) b.code)) (M.add_cong (equal_mod 3 (value_number a)) (equal_mod 3 (value_number b))))

-- the numbers that digits stand for
abbrev pub digits_number : List Digit → Poly
digits_number ds = numbers digit_number (poly (residues 3 (lit< tt)) (λ (d : Digit). residue 3 (lit< tt) d.code) ds)

-- the polynomial over the integers that a list of digits stands for
pub digits_are : (ds : List Digit) (k : ℕ) → k < length ds → digits_number ds k ≡ coefficients ds k
digits_are ds k h = ap digit_number (poly_at (residue_laws 3 (lit< tt)) (λ (d : Digit). residue 3 (lit< tt) d.code) ds k (digit 0) h) ∙ value_number (get_or ds k (digit 0))

-- digits of a class are the class's numbers nearest to 0
pub digits_centre : (ds : List Digit) (n : ℕ) (u : Poly) → SameMod 3 n (coefficients ds) u → Agree integers n (coefficients ds) (λ k. centre 3 (u k))
digits_centre ds n u h = record {
  at = λ k l.
      close 3 (coefficients ds k) (centre 3 (u k)) ((mod_laws 3).tr (h.at k l) ((mod_laws 3).sy (centre_is 3 (lit< tt) (u k))))
      (omega (arith, number_small (get_or ds k (digit 0)), centre_small 3 (lit< tt) (u k)));
}

-- the digits of words, and the last taken from all
pub reduced_digits :
    (xs : List ℕ) (ds es : List Digit) → 1 ≤ length xs → length ds ≡ length xs → length es ≡ length xs → ((k : ℕ) → k < length xs → get_or ds k (digit 0) ≡ digit (get_or xs k 0))
    → SameMod 3 (length ds) (digits_number es) (reduce integers (length ds) (digits_number ds))
    → Agree integers (length xs) (coefficients es) (λ k. centre 3 (reduce integers (length xs) (integers_of xs) k))
reduced_digits xs ds es some same long h less =
    let n = length xs in
    let M = mod_laws 3 in
    let C = cyclic_laws M n in
    let less' : SameMod 3 n (digits_number es) (reduce integers n (digits_number ds)) = subst (λ (i : ℕ). SameMod 3 i (digits_number es) (reduce integers i (digits_number ds))) same less in
    let before : SameMod 3 n (digits_number ds) (integers_of xs) =
    record { at = λ k l. M.tr (equal_mod 3 (digits_are ds k (omega arith) ∙ ap number (h k l))) (number_digit (get_or xs k 0)) } in
    let after : SameMod 3 n (digits_number es) (coefficients es) = record { at = λ k l. equal_mod 3 (digits_are es k (omega arith)) } in
    digits_centre es n (reduce integers n (integers_of xs)) (C.tr (C.sy after) (C.tr less' (reduce_cong 3 n some before)))
