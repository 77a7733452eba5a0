-- What making works out on lists: inverses that are found or absent, the public key, and the card.
use Rattle.std.proofs.Common.{◌≡◌, ℕ, ◌-◌, ◌*◌, ◌^◌, ◌≤◌, true, false, not, List, length, get_or, pos, is_some, Some, None, Ok, Err, Option, Result, MatchResult, sym, refl, ap, ◌∙◌, subst, inl, inr, arith}
use Rattle.algebra.specs.Polynomials.{SameMod, InverseMod, NoInverseMod, times, Φ1, scale, refine_four}
use Rattle.algebra.specs.Radix.{Under}
use Rattle.algebra.specs.Scheme.{Makes, Unmakable}
use Rattle.algebra.specs.Sets.{Set}
use Rattle.algebra.specs.Ternary.{Ternary}
use Rattle.algebra.proofs.CallSteps.{narrowed, public_is, makable}
use Rattle.algebra.proofs.Cyclic.{cyclic_laws}
use Rattle.algebra.proofs.Integers.{mod_laws}
use Rattle.algebra.proofs.Polynomials.{inverse_same}
use Rattle.algebra.proofs.Sets.{some_width}
use Rattle.algebra.proofs.WordInverses.{inverses_at}
use Rattle.arithmetic.specs.Digits.{coefficients}
use Rattle.arithmetic.specs.Products.{integers_of}
use Rattle.arithmetic.specs.Rows.{raised}
use Rattle.arithmetic.specs.WordInverses as Words
use Rattle.arithmetic.specs.declared.digit.Digit.{Digit}
use Rattle.scheme.specs.declared.refusal.Refusal.{Refusal}
use Rattle.scheme.specs.declared.refusal.Refusal.TheVariants.{NotInvertible}
use Rattle.scheme.specs.Coins.{drawn, first_half, second_half}
use Rattle.scheme.specs.Making.{CardOf, MakeAnswer, MakeOutput, NoCard, Published, card_record, drawn_f, drawn_g, makes}
use Rattle.scheme.specs.Sets.{known, length_of, width_of, card_bytes, coin_bytes}
use Rattle.scheme.specs.Signs.{settled}
use Rattle.scheme.proofs.StepAnswers.{Tabled, ends, stops, goes_on, equal}

-- ---- inverses modulo 2 ^ w
-- an inverse of words that was found, or that is absent
pub words_found : (w : ℕ) (f result result' : List ℕ) (rows rows' : ℕ) (x : Option ℕ) → is_some x ≡ true → Words.Answered w f result rows x result' rows' →
    (degree : ℕ) × Words.Inverted w f result' degree × (rows' ≡ raised (8 * length f) rows)
words_found w f result result' rows rows' None s i = absurd (let z : ◌≡◌ {A = ℕ} 0 1 = cc in omega arith)
words_found w f result result' rows rows' (Some d) s i = (d, i.1, i.2)

pub words_absent : (w : ℕ) (f result result' : List ℕ) (rows rows' : ℕ) (x : Option ℕ) → is_some x ≡ false → Words.Taken w f result → Words.Answered w f result rows x result' rows' →
    NoInverseMod (2 ^ w) (length f) (integers_of f) × (rows' ≡ rows)
words_absent w f result result' rows rows' (Some d) s t i = absurd (let z : ◌≡◌ {A = ℕ} 0 1 = cc in omega arith)
words_absent w f result result' rows rows' None s t i = (i.0 t, i.2)

-- what has no inverse modulo 2 ^ w has none modulo 2
pub none_modulo_2 : (w n : ℕ) (f : List Digit) (x : List ℕ) → 1 ≤ w → w ≤ 16 → length f ≡ n → length x ≡ n → SameMod 65536 (length f) (integers_of x) (coefficients f) → NoInverseMod (2 ^ w) (length x) (integers_of x) → NoInverseMod 2 n (coefficients f)
none_modulo_2 w n f x wide narrow lf lx at_f none u i =
    let C = cyclic_laws (mod_laws (2 ^ w)) n in
    let same = subst (λ k. SameMod 65536 k (integers_of x) (coefficients f)) lf at_f in
    subst (λ k. NoInverseMod (2 ^ w) k (integers_of x)) lx none (refine_four n (coefficients f) u)
    (inverse_same (2 ^ w) n (C.sy (narrowed w n narrow same)) (C.rfl (refine_four n (coefficients f) u)) ((inverses_at n w (coefficients f) wide narrow).made u i))

-- and an inverse of words that hold digits is one of the digits
pub inverse_of_digits : (w n : ℕ) (f : List Digit) (x fq : List ℕ) {degree : ℕ} → w ≤ 16 → length f ≡ n → length x ≡ n → SameMod 65536 (length f) (integers_of x) (coefficients f) → Words.Inverted w x fq degree → InverseMod (2 ^ w) n (coefficients f) (integers_of fq)
inverse_of_digits w n f x fq narrow lf lx same found =
    inverse_same (2 ^ w) n (narrowed w n narrow (subst (λ k. SameMod 65536 k (integers_of x) (coefficients f)) lf same)) ((cyclic_laws (mod_laws (2 ^ w)) n).rfl (integers_of fq))
    (subst (λ k. InverseMod (2 ^ w) k (integers_of x) (integers_of fq)) lx found.inverse)

-- ---- the public key
pub published : (w n : ℕ) (f g : List Digit) (fq p y h : List ℕ) → w ≤ 16 → length y ≡ n → InverseMod (2 ^ w) n (coefficients f) (integers_of fq) →
    SameMod 65536 n (integers_of p) (times n (coefficients g) (integers_of fq)) → SameMod 65536 n (integers_of y) (times n (Φ1 n) (integers_of p)) →
    Under (2 ^ w) h → SameMod (2 ^ w) (length y) (integers_of h) (scale (pos 3) (integers_of y)) → Published n w (coefficients f) (coefficients g) h
published w n f g fq p y h narrow ly inverse hp hy small hh =
    let C = cyclic_laws (mod_laws (2 ^ w)) n in
    record {
      fq = integers_of fq;
      fq_inverse = inverse;
      is =
          public_is (2 ^ w) n (coefficients g) (integers_of fq) (coefficients g) (integers_of p) (integers_of y) (integers_of h) (C.rfl (coefficients g))
          (narrowed w n narrow hp) (narrowed w n narrow hy)
          (subst (λ k. SameMod (2 ^ w) k (integers_of h) (scale (pos 3) (integers_of y))) ly hh);
      small = small;
    }

-- ---- the card
-- F and G are drawn of coins
module _ (n w : ℕ) (coins : List ℕ) (F G : List Digit) (e_f : F ≡ settled (drawn (first_half n coins))) (e_g : G ≡ settled (drawn (second_half n coins))) where
  no_card : Unmakable n (2 ^ w) (coefficients F) (coefficients G) → NoCard n w coins
  no_card none =
      subst (λ ds. Unmakable n (2 ^ w) (drawn_f n coins) (coefficients ds)) e_g
      (subst (λ ds. Unmakable n (2 ^ w) (coefficients ds) (coefficients G)) e_f none)

  pub none_three : length F ≡ n → NoInverseMod 3 (length F) (coefficients F) → NoCard n w coins
  none_three long none = no_card (inr (inl (subst (λ k. NoInverseMod 3 k (coefficients F)) long none)))

  module _ (h hq : List ℕ) (key : Published n w (coefficients F) (coefficients G) h) (lh : length h ≡ n) where
    pub none_key : NoInverseMod (2 ^ w) (length h) (integers_of h) → NoCard n w coins
    none_key none =
        let C = cyclic_laws (mod_laws (2 ^ w)) n in
        no_card (inr (inr (key.fq, key.fq_inverse, λ u i. subst (λ k. NoInverseMod (2 ^ w) k (integers_of h)) lh none u (inverse_same (2 ^ w) n (C.sy key.is) (C.rfl u) i))))

    pub card_made : (fp : List Digit) {degree : ℕ} → length F ≡ n → InverseMod 3 (length F) (coefficients F) (coefficients fp) → Ternary (length F) (coefficients fp) → Words.Inverted w h hq degree →
        (out : List ℕ) → out ≡ card_record n w (coefficients F) (coefficients fp) (integers_of h) (integers_of hq) → CardOf n w coins out
    card_made fp long fp_inverse fp_small found out written = record {
      fp = coefficients fp;
      h = integers_of h;
      hq = integers_of hq;
      makes =
          subst (λ ds. Makes n (2 ^ w) (drawn_f n coins) (coefficients ds) (coefficients fp) (integers_of h) (integers_of hq)) e_g
          (subst (λ ds. Makes n (2 ^ w) (coefficients ds) (coefficients G) (coefficients fp) (integers_of h) (integers_of hq)) e_f
          (record {
            fp_inverse = subst (λ k. InverseMod 3 k (coefficients F) (coefficients fp)) long fp_inverse;
            fp_small = subst (λ k. Ternary k (coefficients fp)) long fp_small;
            fq = key.fq;
            fq_inverse = key.fq_inverse;
            h_is = key.is;
            hq_inverse = subst (λ k. InverseMod (2 ^ w) k (integers_of h) (integers_of hq)) lh found.inverse;
            hq_last = ap pos (ap (λ k. get_or hq (k - 1) 0) (sym lh) ∙ found.reduced.last);
          }));
      bytes = written ∙ ap (λ ds. card_record n w (coefficients ds) (coefficients fp) (integers_of h) (integers_of hq)) e_f;
    }

-- ---- answers
module _ (set : ℕ) (coins out : List ℕ) (k : known set ≡ true) (lc : length coins ≡ coin_bytes (length_of set)) (lo : length out ≡ card_bytes (length_of set) (width_of set)) where
  make_refused : NoCard (length_of set) (width_of set) coins → MakeAnswer set coins out (Err NotInvertible)
  make_refused none = let table : Tabled (Err NotInvertible) 0 (makes set coins out true) = goes_on _ _ _ (ap not k) (goes_on _ _ _ (equal _ _ lc) (goes_on _ _ _ (equal _ _ lo) (stops _ _ _ refl))) in record {
    absent = true;
    is = table.answer_is;
    tells = λ _. record { holds = λ _. none; fails = λ e. absurd (let z : ◌≡◌ {A = ℕ} 0 1 = cc in omega arith) };
  }

  make_served : Set (length_of set) (width_of set) → (card : List ℕ) → CardOf (length_of set) (width_of set) coins card → MakeAnswer set coins out (Ok tt)
  make_served facts card made =
      let n = length_of set in
      let w = width_of set in
      let table : Tabled (Ok tt) 0 (makes set coins out false) = goes_on _ _ _ (ap not k) (goes_on _ _ _ (equal _ _ lc) (goes_on _ _ _ (equal _ _ lo) (goes_on _ _ _ refl ends))) in
      record {
        absent = false;
        is = table.answer_is;
        tells = λ _. record {
          holds = λ e. absurd (let z : ◌≡◌ {A = ℕ} 0 1 = cc in omega arith);
          fails = λ _ none. makable n w (omega (arith, facts.long)) (drawn_f n coins) (drawn_g n coins) made.fp made.h made.hq made.makes (some_width n w facts.long facts.wide) facts.narrow none;
        };
      }

never_both : {A : Type 0} (e : Refusal) → ◌≡◌ {A = Result (Unit {0}) Refusal} (Ok tt) (Err e) → A
never_both e p = absurd (let z : ◌≡◌ {A = ℕ} 0 1 = cc in omega arith)

-- what is left in the output
output_kept : (set : ℕ) (coins before after : List ℕ) (e : Refusal) → after ≡ before → MakeOutput set coins (Err e) before after
output_kept set coins before after e same = record { made = λ p. never_both e (sym p); refused = λ _ _. same }

output_made : (set : ℕ) (coins before after : List ℕ) → CardOf (length_of set) (width_of set) coins after → MakeOutput set coins (Ok tt) before after
output_made set coins before after card = record { made = λ _. card; refused = λ e p. never_both e p }

-- what making a card leaves is its answer, and what that leaves
pub card_answers : (set : ℕ) (coins out : List ℕ) → known set ≡ true → length coins ≡ coin_bytes (length_of set) → length out ≡ card_bytes (length_of set) (width_of set) → Set (length_of set) (width_of set) →
    (answer : Result (Unit {0}) Refusal) (after : List ℕ) →
    MatchResult answer (λ _. CardOf (length_of set) (width_of set) coins after) (λ e. NoCard (length_of set) (width_of set) coins × ((after ≡ out) × (e ≡ NotInvertible))) →
    MakeAnswer set coins out answer × MakeOutput set coins answer out after
card_answers set coins out k lc lo facts (Ok u) after made = (make_served set coins out k lc lo facts after made, output_made set coins out after made)
card_answers set coins out k lc lo facts (Err e) after none =
    (subst (λ d. MakeAnswer set coins out (Err d)) (sym none.1.1) (make_refused set coins out k lc lo none.0), output_kept set coins out after e none.1.0)
