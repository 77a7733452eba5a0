-- Loops over lists of digits: what one more digit makes of what holds of those before it.
use Rattle.std.proofs.Common.{◌≡◌, ℕ, zero, suc, ◌+◌, ◌<◌, List, length, get_or, set, pos, ◌+ℤ◌, neg_ℤ, sym, refl, ap, ◌∙◌, subst, add-one, arith, lit<}
use Rattle.std.specs.Int.{cast_unsigned, w16}
use Rattle.std.proofs.lemmas.List.{get_or_read}
use Rattle.algebra.specs.Ring.{Agree, Differ, integers, sum, divided}
use Rattle.algebra.specs.Residues.{residue, residues}
use Rattle.algebra.specs.Stands.{signed}
use Rattle.algebra.specs.Polynomials.{Poly}
use Rattle.algebra.specs.Scheme.{shift, lifting}
use Rattle.algebra.proofs.Integers.{mod_laws, equal_mod}
use Rattle.algebra.proofs.WordLoops.{filled_more, total_more, rest_none, rest_more}
use Rattle.arithmetic.specs.declared.digit.Digit.{Digit}
use Rattle.arithmetic.specs.Digits.{digit, number, coefficients}
use Rattle.arithmetic.proofs.Digits.{negation_is, number_negated}
use Rattle.arithmetic.proofs.Standing.{number_sum, digits_centre}

-- ---- values, as numbers

-- the number of minus a digit
pub number_minus : (d r : Digit) → residue 3 (lit< tt) r.code ≡ (residues 3 (lit< tt)).minus (residue 3 (lit< tt) d.code) → number r ≡ neg_ℤ (number d)
number_minus d r e = ap number (negation_is d r e) ∙ number_negated d

-- a digit that is read is a coefficient
pub number_read : (ds : List Digit) (i : ℕ) (d : Digit) → i < length ds → d ≡ get_or ds i d → number d ≡ coefficients ds i
number_read ds i d h e = ap number (get_or_read ds i d h e (digit 0))

-- ---- digits as words
-- a digit's word
signed_word : (d : Digit) → Differ integers (pos 65536) (pos (cast_unsigned w16 (number d))) (number d)
signed_word d = by d.code d.small
  where
    by : (x : ℕ) → x < 3 → Differ integers (pos 65536) (pos (cast_unsigned w16 (signed x))) (signed x)
    by zero h = equal_mod 65536 refl
    by (suc zero) h = equal_mod 65536 refl
    by (suc (suc zero)) h = record { by = pos 1; is = refl }
    by (suc (suc (suc x))) h = absurd (omega arith)

-- one digit more, as a word
pub signed_more :
    (ds : List Digit) (out : List ℕ) (i : ℕ) (d : Digit) (word : ℕ) → i < length ds → i < length out → d ≡ get_or ds i d → word ≡ cast_unsigned w16 (number d)
    → ((k : ℕ) → k < i → Differ integers (pos 65536) (pos (get_or out k 0)) (coefficients ds k))
    → (k : ℕ) → k < i + 1 → Differ integers (pos 65536) (pos (get_or (set out i word) k 0)) (coefficients ds k)
signed_more ds out i d word h room e p inv =
    filled_more (λ k w. Differ integers (pos 65536) (pos w) (coefficients ds k)) 0 out i word room
    (rw (p, ← number_read ds i d h e) (signed_word d)) inv

-- ---- sums
-- one digit more is added
pub sum_digits_more :
    (ds : List Digit) (i t : ℕ) (small : t < 3) (d r : Digit) → i < length ds → d ≡ get_or ds i d
    → residue 3 (lit< tt) r.code ≡ (residues 3 (lit< tt)).plus (residue 3 (lit< tt) t) (residue 3 (lit< tt) d.code)
    → Differ integers (pos 3) (signed t) (sum integers i (coefficients ds)) → Differ integers (pos 3) (number r) (sum integers (i + 1) (coefficients ds))
sum_digits_more ds i t small d r h e adds inv =
    total_more 3 i (coefficients ds) (signed t) (number r)
    (rw (← number_read ds i d h e) (number_sum (record { code = t; small = small }) d r adds)) inv

-- ---- lifts
-- m with the shift that balances it
abbrev pub shifted : List Digit → Poly
shifted m k = coefficients m k +ℤ shift (length m) (coefficients m)

-- digit k of s is -(m_0 + t) - .. - (m_k + t) at each k below i, where t is the shift, and `last` is the code of the last of these
abbrev pub LiftedBelow : (m s : List Digit) → (last i : ℕ) → Type 0
LiftedBelow m s last i =
    (last < 3) × Differ integers (pos 3) (signed last) (neg_ℤ (sum integers i (shifted m)))
    × ((k : ℕ) → k < i → Differ integers (pos 3) (coefficients s k) (divided integers (shifted m) k))

-- no digit yet
pub lifted_none : (m s : List Digit) → LiftedBelow m s 0 0
lifted_none m s = (lit< tt, rest_none 3 (shifted m), λ k l. absurd (omega arith))

-- one digit more: r is last - (d + t)
pub lifted_more :
    (m s : List Digit) (last i : ℕ) (t d u v r : Digit) → i < length m → i < length s → Differ integers (pos 3) (number t) (shift (length m) (coefficients m)) → d ≡ get_or m i d
    → residue 3 (lit< tt) u.code ≡ (residues 3 (lit< tt)).plus (residue 3 (lit< tt) d.code) (residue 3 (lit< tt) t.code)
    → residue 3 (lit< tt) v.code ≡ (residues 3 (lit< tt)).minus (residue 3 (lit< tt) u.code)
    → residue 3 (lit< tt) r.code ≡ (residues 3 (lit< tt)).plus (residue 3 (lit< tt) last) (residue 3 (lit< tt) v.code)
    → LiftedBelow m s last i → LiftedBelow m (set s i r) r.code (i + 1)
lifted_more m s last i t d u v r h room balances e plus minus adds inv =
    let M = mod_laws 3 in
    let term : Differ integers (pos 3) (number u) (shifted m i) = M.tr (number_sum d t u plus) (M.add_cong (equal_mod 3 (number_read m i d h e)) balances) in
    let step : Differ integers (pos 3) (number r) (signed last +ℤ neg_ℤ (shifted m i)) =
    M.tr (number_sum (record { code = last; small = inv.0 }) v r adds) (M.add_cong (M.rfl (signed last)) (M.tr (equal_mod 3 (number_minus u v minus)) (M.neg_cong term))) in
    let here : Differ integers (pos 3) (number r) (divided integers (shifted m) i) = rest_more 3 i (shifted m) (signed last) (number r) step inv.1 in (
      r.small,
      subst (λ (k : ℕ). Differ integers (pos 3) (number r) (neg_ℤ (sum integers k (shifted m)))) (sym (add-one i)) here,
      filled_more (λ k y. Differ integers (pos 3) (number y) (divided integers (shifted m) k)) (digit 0) s i r room here inv.2,
    )

-- all digits
pub lifted_all : (m s : List Digit) (last : ℕ) → LiftedBelow m s last (length m) → Agree integers (length m) (coefficients s) (lifting (length m) (coefficients m))
lifted_all m s last inv = digits_centre s (length m) (divided integers (shifted m)) (record { at = inv.2 })
