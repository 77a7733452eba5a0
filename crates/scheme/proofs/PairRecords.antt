-- Pair records: what is written of two drawn polynomials, and the digits that the record holds.
use Rattle.std.proofs.Common.{◌≡◌, ℕ, ◌+◌, ◌-◌, ◌/◌, ◌%◌, ◌≤◌, List, [], ◌∷◌, length, take, drop, sym, ap, ◌∙◌, subst, arith, length-take, length-drop}
use Rattle.std.proofs.lemmas.List.{take_at, drop_at, length_push}
use Rattle.algebra.proofs.Cyclic.{cyclic_laws}
use Rattle.algebra.proofs.Integers.{integer_laws}
use Rattle.arithmetic.specs.Digits.{digit, coefficients}
use Rattle.arithmetic.specs.declared.digit.Digit.{Digit}
use Rattle.scheme.specs.Coins.{coin_list, drawn, first_half, second_half}
use Rattle.scheme.specs.Pairs.{r_digits, m_digits, pair_record, HoldsPair}
use Rattle.scheme.specs.Sets.{ternary_bytes}
use Rattle.scheme.specs.TernaryParts.{ternary_part, HoldsDigits}
use Rattle.scheme.specs.TernaryPolynomials.{ternary_record}
use Rattle.scheme.proofs.DrawnSigns.{length_coins}
use Rattle.scheme.proofs.Records.{ternary_record_is}
use Rattle.scheme.proofs.TernaryDigits.{holds_each}

module _ (n : ℕ) (coins : List ℕ) (some : 2 ≤ n) (odd : n % 2 ≡ 1) (long : length coins ≡ n - 1) where
  -- each half of the coins draws n - 1 digits
  r_length : length (r_digits n coins) ≡ n - 1
  r_length = length_coins (take ((n - 1) / 2) coins) ∙ simp length-take (omega arith)

  m_length : length (m_digits n coins) ≡ n - 1
  m_length = length_coins (drop ((n - 1) / 2) coins) ∙ simp length-drop (omega arith)

  part_length : length (ternary_part (r_digits n coins)) ≡ ternary_bytes n
  part_length = (holds_each (r_digits n coins)).long ∙ ap (λ k. (k + 4) / 5) r_length

  -- a half's digits, and 0 after them, are written as a polynomial is
  half_record : (bs : List ℕ) (ds : List Digit) → ds ≡ drawn bs → length (coin_list bs) ≡ n - 1 → ternary_record n (coefficients ds) ≡ ternary_part (coin_list bs)
  half_record bs ds e l =
      let ds' = drawn bs in
      let long : length ds' ≡ n = length_push (coin_list bs) (digit 0) ∙ (omega arith) in
      let front : take (length ds' - 1) ds' ≡ coin_list bs = take_at (coin_list bs) (digit 0 ∷ []) (length ds' - 1) (omega arith) in
      ap (λ xs. ternary_record n (coefficients xs)) e ∙ ap (λ k. ternary_record k (coefficients ds')) (sym long)
      ∙ sym (ternary_record_is ds' (coefficients ds') ((cyclic_laws integer_laws (length ds')).rfl (coefficients ds'))) ∙ ap ternary_part front

  pub first_record : (r : List Digit) → r ≡ drawn (first_half n coins) → ternary_record n (coefficients r) ≡ ternary_part (r_digits n coins)
  first_record r e = half_record (first_half n coins) r e r_length

  pub second_record : (m : List Digit) → m ≡ drawn (second_half n coins) → ternary_record n (coefficients m) ≡ ternary_part (m_digits n coins)
  second_record m e = half_record (second_half n coins) m e m_length

  pub holds_pair : HoldsPair n coins (pair_record n coins)
  holds_pair = record {
    first = subst (HoldsDigits (r_digits n coins)) (sym (take_at (ternary_part (r_digits n coins)) (ternary_part (m_digits n coins)) (ternary_bytes n) part_length)) (holds_each (r_digits n coins));
    second = subst (HoldsDigits (m_digits n coins)) (sym (drop_at (ternary_part (r_digits n coins)) (ternary_part (m_digits n coins)) (ternary_bytes n) part_length)) (holds_each (m_digits n coins));
  }
