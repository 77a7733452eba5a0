-- Digits are equal where their codes are.
use Rattle.std.proofs.Common.{◌≡◌, ℕ, zero, suc, ◌-◌, ◌%◌, ◌<◌, ◌≤◌, neg_ℤ, nat_abs, sym, refl, ap, ◌∙◌, mod-eq_of_lt, arith, lit<}
use mathlib.Core.HLevel.{is_prop→PathP}
use native.Mathlib.Bridge.{le_prop}
use Rattle.algebra.specs.Residues.{residue, residues}
use Rattle.algebra.specs.Stands.{signed}
use Rattle.arithmetic.specs.declared.digit.Digit.{Digit}
use Rattle.arithmetic.specs.Digits.{digit, number, sign, negated}

pub same_digit : (d e : Digit) → d.code ≡ e.code → d ≡ e
same_digit d e p = λ i. record { code = p i; small = is_prop→PathP (λ k. p k < 3) (λ k. le_prop) d.small e.small i }

-- the digit of a digit's code is that digit
pub digit_code : (d : Digit) → digit d.code ≡ d
digit_code d = same_digit (digit d.code) d (mod-eq_of_lt d.small)

-- minus a code, as a number
pub minus_signed : (x : ℕ) → x < 3 → signed ((3 - x) % 3) ≡ neg_ℤ (signed x)
minus_signed zero h = refl
minus_signed (suc zero) h = refl
minus_signed (suc (suc zero)) h = refl
minus_signed (suc (suc (suc x))) h = absurd (omega arith)

-- a digit is the sign of the number that it is
pub sign_number : (d : Digit) → sign (number d) ≡ d
sign_number d = by d.code d.small ∙ digit_code d
  where
    by : (x : ℕ) → x < 3 → sign (signed x) ≡ digit x
    by zero h = refl
    by (suc zero) h = refl
    by (suc (suc zero)) h = refl
    by (suc (suc (suc x))) h = absurd (omega arith)

-- a digit is at most 1 in size
pub number_small : (d : Digit) → nat_abs (number d) ≤ 1
number_small d = by d.code
  where
    by : (x : ℕ) → nat_abs (signed x) ≤ 1
    by zero = omega arith
    by (suc zero) = omega arith
    by (suc (suc x)) = omega arith

-- minus a digit, as a number
pub number_negated : (d : Digit) → number (negated d) ≡ neg_ℤ (number d)
number_negated d = minus_signed d.code d.small

-- the ring's negation is minus the digit
pub negation_is : (d r : Digit) → residue 3 (lit< tt) r.code ≡ (residues 3 (lit< tt)).minus (residue 3 (lit< tt) d.code) → r ≡ negated d
negation_is d r e =
    let m : d.code % 3 ≡ d.code = mod-eq_of_lt d.small in
    same_digit r (negated d) (sym (mod-eq_of_lt r.small) ∙ ap (λ u. u.0) e ∙ ap (λ x. (3 - x) % 3) m)
