-- The answers of seal, open, the key test and make, and what is read of a card.
use Rattle.std.proofs.Common.{◌≡◌, ℕ, zero, suc, ◌+◌, ◌*◌, true, false, not, ◌&&◌, leb, List, [], ◌∷◌, length, take, drop, Ok, Err, Result, sym, refl, ap, ◌∙◌, subst, arith}
use Rattle.std.proofs.lemmas.List.{take-take, drop-take}
use Rattle.std.proofs.lemmas.Bool.{and_parts}
use Rattle.algebra.specs.Decided.{in_T}
use Rattle.algebra.specs.Polynomials.{Poly}
use Rattle.algebra.proofs.Deciding.{told_by, told_same, ternary_tells}
use Rattle.scheme.specs.declared.refusal.Refusal.{Refusal}
use Rattle.scheme.specs.declared.refusal.Refusal.TheVariants.{NoPair}
use Rattle.scheme.specs.CardPolynomials.{polynomials, stretch, ternary_stretch}
use Rattle.scheme.specs.KeyTest.{tests, polynomial_tests}
use Rattle.scheme.specs.Opening.{Opened, opened_record, opens, found_r}
use Rattle.scheme.specs.Refusals.{left}
use Rattle.scheme.specs.Sealing.{seals}
use Rattle.scheme.specs.Sets.{known, length_of, width_of, record_bytes, card_bytes, pair_bytes, coin_bytes}
use Rattle.scheme.specs.TernaryParts.{holds_digits}
use Rattle.scheme.specs.WordPolynomials.{balanced_polynomial}
use Rattle.scheme.proofs.StepAnswers.{Tabled, ends, stops, goes_on, makes_rows, equal, equal_both}

-- ---- bytes that hold digits
pub hold_take : (n : ℕ) (bs : List ℕ) → holds_digits bs ≡ true → holds_digits (take n bs) ≡ true
hold_take zero bs h = refl
hold_take (suc n) [] h = refl
hold_take (suc n) (b ∷ bs) h =
    let p = and_parts (leb b 0xF2) (holds_digits bs) h in
    ap (λ t. t && holds_digits (take n bs)) p.0 ∙ hold_take n bs p.1

pub hold_drop : (n : ℕ) (bs : List ℕ) → holds_digits bs ≡ true → holds_digits (drop n bs) ≡ true
hold_drop zero bs h = h
hold_drop (suc n) [] h = refl
hold_drop (suc n) (b ∷ bs) h = hold_drop n bs (and_parts (leb b 0xF2) (holds_digits bs) h).1

-- f and fp of a card whose first bytes hold digits
pub f_holds : (t : ℕ) (card : List ℕ) → holds_digits (take (2 * t) card) ≡ true → holds_digits (stretch 0 t card) ≡ true
f_holds t card h = subst (λ xs. holds_digits xs ≡ true) (take-take t (2 * t) card (omega arith)) (hold_take t (take (2 * t) card) h)

pub fp_holds : (t : ℕ) (card : List ℕ) → holds_digits (take (2 * t) card) ≡ true → holds_digits (stretch t t card) ≡ true
fp_holds t card h =
    let twice : 2 * t ≡ t + t = omega arith in
    subst (λ xs. holds_digits xs ≡ true) (drop-take t t card) (hold_drop t (take (t + t) card) (subst (λ k. holds_digits (take k card) ≡ true) twice h))

-- ---- seal
pub sealed_served : (set : ℕ) (card coins out : List ℕ) → known set ≡ true → length card ≡ card_bytes (length_of set) (width_of set) → length coins ≡ coin_bytes (length_of set) → length out ≡ record_bytes (length_of set) (width_of set) →
    Tabled (Ok tt) (length_of set + 0) (seals set card coins out)
sealed_served set card coins out k lc lk lo = goes_on _ _ _ (ap not k) (goes_on _ _ _ (equal_both _ _ _ _ lc lk) (goes_on _ _ _ (equal _ _ lo) (makes_rows (length_of set) _ ends)))

-- ---- open
module _ (set : ℕ) (card sealed out : List ℕ) (k : known set ≡ true) (lc : length card ≡ card_bytes (length_of set) (width_of set)) (ls : length sealed ≡ record_bytes (length_of set) (width_of set)) (lo : length out ≡ pair_bytes (length_of set))
    (hd : holds_digits (ternary_stretch (length_of set) card) ≡ true) where
  abbrev found : Poly
  found = let p = polynomials (length_of set) (width_of set) card in found_r (length_of set) (width_of set) p.f p.fp p.hq (balanced_polynomial (length_of set) (width_of set) sealed)

  pub open_none : in_T (length_of set) found ≡ false → Tabled (Err NoPair) (3 * length_of set + 0) (opens set card sealed out)
  open_none h = goes_on _ _ _ (ap not k) (goes_on _ _ _ (equal_both _ _ _ _ lc ls) (goes_on _ _ _ (equal _ _ lo) (goes_on _ _ _ (ap not hd) (makes_rows (3 * length_of set) _ (stops _ _ _ (ap not h))))))

  pub open_pair : in_T (length_of set) found ≡ true → Tabled (Ok tt) (3 * length_of set + 0) (opens set card sealed out)
  open_pair h = goes_on _ _ _ (ap not k) (goes_on _ _ _ (equal_both _ _ _ _ lc ls) (goes_on _ _ _ (equal _ _ lo) (goes_on _ _ _ (ap not hd) (makes_rows (3 * length_of set) _ (goes_on _ _ _ (ap not h) ends)))))

  -- what opening leaves is the table's answer, and what that leaves
  pub opened_answers : (answer : Result (Unit {0}) Refusal) (after : List ℕ) →
      (let p = polynomials (length_of set) (width_of set) card in Opened (length_of set) (width_of set) p.f p.fp p.hq (balanced_polynomial (length_of set) (width_of set) sealed) answer out after) →
      Tabled answer (3 * length_of set + 0) (opens set card sealed out) × (after ≡ left answer (opened_record (length_of set) (width_of set) card sealed) out)
  opened_answers (Ok u) after o = (open_pair (sym (told_same true (in_T (length_of set) found) (told_by true (λ _. o.0) (λ _. refl)) (ternary_tells (length_of set) found))), o.1)
  opened_answers (Err e) after o =
      let test = told_same false (in_T (length_of set) found) (told_by false (λ t. absurd (let z : ◌≡◌ {A = ℕ} 0 1 = cc in omega arith)) (λ t. absurd (o.0 t))) (ternary_tells (length_of set) found) in
      let table = open_none (sym test) in
      (record { answer_is = ap Err o.1 ∙ table.answer_is; rows_are = table.rows_are }, o.2)

-- ---- the key test
pub test_polynomials : (set : ℕ) (card : List ℕ) → known set ≡ true → length card ≡ card_bytes (length_of set) (width_of set) → {answer : Result (Unit {0}) Refusal} {rows : ℕ} → holds_digits (ternary_stretch (length_of set) card) ≡ true →
    Tabled answer rows (polynomial_tests (length_of set) (width_of set) (polynomials (length_of set) (width_of set) card)) → Tabled answer rows (tests set card)
test_polynomials set card k lc h t = goes_on _ _ _ (ap not k) (goes_on _ _ _ (equal _ _ lc) (goes_on _ _ _ (ap not h) t))
