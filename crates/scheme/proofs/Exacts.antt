-- Open is exact, sealed records open, and cards are taken exactly when they are keys.
use Rattle.std.proofs.Common.{◌≡◌, ℕ, zero, suc, ◌+◌, ◌-◌, ◌*◌, ◌^◌, ◌≤◌, Bool, true, false, not, eqb, leb, List, [], ◌∷◌, ◌++◌, length, take, Ok, Err, Result, sym, refl, ap, ◌∙◌, subst, ap₂, arith, lit<, lit≤, length-drop, length-take, pow_pos}
use Rattle.std.proofs.lemmas.List.{take_at, length_push}
use Rattle.std.proofs.lemmas.Bool.{and_parts, eqb-true, leb-true}
use Rattle.algebra.specs.Decided.{Tells, in_T, in_T+}
use Rattle.algebra.specs.Polynomials.{Poly, SameMod, times}
use Rattle.algebra.specs.Ring.{Agree, integers}
use Rattle.algebra.specs.Scheme.{Key, Encrypts, Opens, lifting, opened_a, candidate}
use Rattle.algebra.specs.Sets.{Set}
use Rattle.algebra.specs.Ternary.{correlation}
use Rattle.algebra.proofs.CallSteps.{encrypts_class, key_along, made_only}
use Rattle.algebra.proofs.Cyclic.{cyclic_laws}
use Rattle.algebra.proofs.Deciding.{told_as, told_same, ternary_tells, ternary+_tells, correlates_tells, one_tells, equation_tells}
use Rattle.algebra.proofs.Integers.{integer_laws, mod_laws}
use Rattle.algebra.proofs.Keys.{making_is, made_is}
use Rattle.algebra.proofs.Lift.{lifting_is}
use Rattle.algebra.proofs.Opening.{computes, gives_back, opened_encrypts, refused_no_pair, ciphertext_balanced}
use Rattle.algebra.proofs.Polynomials.{agree_mod, ternary_same}
use Rattle.algebra.proofs.Sets.{sets_suffice, some_width}
use Rattle.arithmetic.specs.Digits.{digit, coefficients}
use Rattle.scheme.specs.declared.refusal.Refusal.{Refusal}
use Rattle.scheme.specs.declared.refusal.Refusal.TheVariants.{NoPair}
use Rattle.scheme.specs.CardPolynomials.{Polynomials, polynomials, ternary_stretch}
use Rattle.scheme.specs.Coins.{coin_list, drawn, first_half, second_half}
use Rattle.scheme.specs.Exactness.{IsKeyOf, EncryptsTo, OpensExactly, SealedExactly, TestedExactly, TestsTell}
use Rattle.scheme.specs.KeyTest.{tests}
use Rattle.scheme.specs.Making.{CardOf, MakeAnswer, MakeOutput, card_record, drawn_f, drawn_g, makes}
use Rattle.scheme.specs.Opening.{found_m, found_r, opened_record, opens}
use Rattle.scheme.specs.Pairs.{pair_record}
use Rattle.scheme.specs.Refusals.{left}
use Rattle.scheme.specs.Steps.{outcome}
use Rattle.scheme.specs.Sealing.{drawn_r, drawn_m, encrypted, sealed_record, seals}
use Rattle.scheme.specs.Sets.{known, length_of, width_of, card_bytes, coin_bytes, pair_bytes, record_bytes}
use Rattle.scheme.specs.TernaryParts.{holds_digits, ternary_part}
use Rattle.scheme.specs.TernaryPolynomials.{pair_of, ternary_polynomial, ternary_record}
use Rattle.scheme.specs.WordPolynomials.{balanced_polynomial, padded_polynomial, word_record}
use Rattle.scheme.proofs.CallAnswers.{open_none, open_pair, test_polynomials}
use Rattle.scheme.proofs.DrawnSigns.{first_ternary, second_ternary, first_correlates, second_correlates, length_coins}
use Rattle.scheme.proofs.ReadBack.{ternary_back, ternary_record_same, balanced_back, padded_back, word_record_same, f_part, fp_part, h_part, hq_part, card_long, card_held, word_long}
use Rattle.scheme.proofs.Records.{ended_ternary, ternary_record_is}
use Rattle.scheme.proofs.Testing.{all_pass}
use Rattle.scheme.proofs.StepAnswers.{AllPassed, all_passed}
use Rattle.scheme.proofs.Verdicts.{same_length}
use Rattle.scheme.proofs.WordPolynomials.{balanced_sum}

-- the facts of the sets that there are
pub known_facts : (set : ℕ) → known set ≡ true → Set (length_of set) (width_of set)
known_facts zero e = absurd (let z : ◌≡◌ {A = ℕ} 0 1 = cc in omega arith)
known_facts (suc zero) e = record { long = lit≤ tt; few = lit≤ tt; odd = refl; no_three = λ p. omega arith; narrow = lit≤ tt; wide = lit< tt }
known_facts (suc (suc zero)) e = record { long = lit≤ tt; few = lit≤ tt; odd = refl; no_three = λ p. omega arith; narrow = lit≤ tt; wide = lit< tt }
known_facts (suc (suc (suc zero))) e = record { long = lit≤ tt; few = lit≤ tt; odd = refl; no_three = λ p. omega arith; narrow = lit≤ tt; wide = lit< tt }
known_facts (suc (suc (suc (suc k)))) e = absurd (let few : suc (suc (suc (suc k))) ≤ 3 = leb-true (suc (suc (suc (suc k)))) 3 (and_parts (leb 1 (suc (suc (suc (suc k))))) (leb (suc (suc (suc (suc k)))) 3) e).1 in omega arith)

-- ---- open
module _ (set : ℕ) (card sealed : List ℕ) (key_of : IsKeyOf set card) where
  abbrev n : ℕ
  n = length_of set

  abbrev w : ℕ
  w = width_of set

  abbrev F : Poly
  F = (polynomials n w card).f

  abbrev Fp : Poly
  Fp = (polynomials n w card).fp

  abbrev H : Poly
  H = (polynomials n w card).h

  abbrev Hq : Poly
  Hq = (polynomials n w card).hq

  abbrev c : Poly
  c = balanced_polynomial n w sealed

  abbrev R : Poly
  R = found_r n w F Fp Hq c

  abbrev M : Poly
  M = found_m n w F Fp c

  facts : Set n w
  facts = known_facts set key_of.exists

  some : 1 ≤ n
  some = omega (arith, facts.long)

  opening : Opens n (2 ^ w) F Fp Hq c (opened_a n (2 ^ w) F c) M (lifting n M) R
  opening = computes n (2 ^ w) F Fp Hq c facts.long facts.no_three (pow_pos w)

  the_key : Key n (2 ^ w) F Fp key_of.key.g H Hq
  the_key = key_of.key.key

  pub found_encrypts : in_T n R ≡ true → EncryptsTo set card sealed R M
  found_encrypts e =
      opened_encrypts n w F Fp key_of.key.g H Hq c (opened_a n (2 ^ w) F c) M (lifting n M) R facts the_key (balanced_sum w n _ some) (balanced_sum w n sealed some) opening ((ternary_tells n R).holds e)

  pub none_encrypts : in_T n R ≡ false → (r m : Poly) → EncryptsTo set card sealed r m → ⊥
  none_encrypts e = refused_no_pair n w F Fp key_of.key.g H Hq c (opened_a n (2 ^ w) F c) M (lifting n M) R facts the_key opening ((ternary_tells n R).fails e)

  module _ (r m : Poly) (enc : EncryptsTo set card sealed r m) where
    back : Agree integers n M m × Agree integers n R r
    back = gives_back n w F Fp key_of.key.g H Hq r m c (opened_a n (2 ^ w) F c) M (lifting n M) R facts the_key enc opening

    pub one_test : in_T n R ≡ true
    one_test = told_same (in_T n R) true (ternary_tells n R) (record { holds = λ _. ternary_same n some back.1 enc.r_small; fails = λ e. absurd (let z : ◌≡◌ {A = ℕ} 0 1 = cc in omega arith) })

    pub one_pair : pair_of n R M ≡ pair_of n r m
    one_pair = ap₂ ◌++◌ (ternary_record_same n R r back.1) (ternary_record_same n M m back.0)

  module _ (before : List ℕ) (ls : length sealed ≡ record_bytes n w) (lo : length before ≡ pair_bytes n) where
    pub pair_verdict : in_T n R ≡ true → outcome (opens set card sealed before) ≡ Ok tt
    pair_verdict e = sym (open_pair set card sealed before key_of.exists key_of.key.long ls lo key_of.key.digits e).answer_is

    none_verdict : in_T n R ≡ false → outcome (opens set card sealed before) ≡ Err NoPair
    none_verdict e = sym (open_none set card sealed before key_of.exists key_of.key.long ls lo key_of.key.digits e).answer_is

    pub opens_exactly : (answer : Result (Unit {0}) Refusal) (after : List ℕ) → answer ≡ outcome (opens set card sealed before) → after ≡ left answer (opened_record n w card sealed) before → OpensExactly set card sealed answer after
    opens_exactly answer after ea eo = by (in_T n R) refl
      where
        by : (t : Bool) → in_T n R ≡ t → OpensExactly set card sealed answer after
        by true t =
            let ok : answer ≡ Ok tt = ea ∙ pair_verdict t in
            let written : after ≡ pair_of n R M = eo ∙ ap (λ a. left a (opened_record n w card sealed) before) ok in
            record {
              none = λ e. absurd (let z : ◌≡◌ {A = ℕ} 0 1 = cc in omega arith);
              refused = λ h. absurd (h R M (found_encrypts t));
              found = λ _. (R, M, found_encrypts t, written);
              only = λ r m enc. (ok, written ∙ one_pair r m enc);
            }
        by false t =
            let no_pair : answer ≡ Err NoPair = ea ∙ none_verdict t in
            record {
              none = λ _. none_encrypts t;
              refused = λ _. no_pair;
              found = λ e. absurd (let z : ◌≡◌ {A = ℕ} 0 1 = cc in omega arith);
              only = λ r m enc. absurd (none_encrypts t r m enc);
            }

-- ---- seal
-- the ternary part of what coins draw
drawn_part : (n : ℕ) (half : List ℕ) → n ≡ 2 * length half + 1 → ternary_record n (coefficients (drawn half)) ≡ ternary_part (coin_list half)
drawn_part n half e =
    let ds = drawn half in
    let long : length ds ≡ n = length_push (coin_list half) (digit 0) ∙ ap (λ k. k + 1) (length_coins half) ∙ sym e in
    let front : take (length ds - 1) ds ≡ coin_list half = take_at (coin_list half) (digit 0 ∷ []) (length ds - 1) (length_coins half ∙ (omega (arith, long))) in
    sym (ap ternary_part (sym front) ∙ ternary_record_is ds (coefficients ds) ((cyclic_laws integer_laws (length ds)).rfl (coefficients ds)) ∙ ap (λ k. ternary_record k (coefficients ds)) long)

module _ (set : ℕ) (coins : List ℕ) (exists : known set ≡ true) (lk : length coins ≡ coin_bytes (length_of set)) where
  coin_facts : Set (length_of set) (width_of set)
  coin_facts = known_facts set exists

  half_first : length_of set ≡ 2 * length (first_half (length_of set) coins) + 1
  half_first = let f = coin_facts in simp length-take (omega (arith, f.odd, f.long))

  half_second : length_of set ≡ 2 * length (second_half (length_of set) coins) + 1
  half_second = let f = coin_facts in simp length-drop (omega (arith, f.odd, f.long))

  -- the pair record of coins is that of their pair
  pub drawn_pair : pair_of (length_of set) (drawn_r (length_of set) coins) (drawn_m (length_of set) coins) ≡ pair_record (length_of set) coins
  drawn_pair = ap₂ ◌++◌ (drawn_part (length_of set) (first_half (length_of set) coins) half_first) (drawn_part (length_of set) (second_half (length_of set) coins) half_second)

  module _ (card out : List ℕ) where
    -- the polynomial that is sealed, under the public key that is read from a card
    pub sealed_encrypts : out ≡ sealed_record (length_of set) (width_of set) (polynomials (length_of set) (width_of set) card).h coins →
        EncryptsTo set card out (drawn_r (length_of set) coins) (drawn_m (length_of set) coins)
    sealed_encrypts eo =
        let n = length_of set in
        let w = width_of set in
        let f = coin_facts in
        let h = (polynomials n w card).h in
        let r = drawn_r n coins in
        let m = drawn_m n coins in
        let whole : Encrypts n (2 ^ w) h r m (encrypted n h r m) = record {
          r_small = first_ternary n coins f.long f.odd lk;
          m_small = second_ternary n coins f.long f.odd lk;
          s = lifting n m;
          lifts = (lifting_is n m f.long f.no_three).lifts;
          is = (cyclic_laws (mod_laws (2 ^ w)) n).rfl (encrypted n h r m);
        } in
        let some : 1 ≤ n = omega (arith, f.long) in
        let balanced = ciphertext_balanced n (2 ^ w) h r m (encrypted n h r m) some (balanced_sum w n _ some) whole in
        let read : SameMod (2 ^ w) n (balanced_polynomial n w out) (encrypted n h r m) =
        subst (λ bs. SameMod (2 ^ w) n (balanced_polynomial n w bs) (encrypted n h r m)) (sym eo) (balanced_back n w (encrypted n h r m) some (some_width n w f.long f.wide) balanced) in
        encrypts_class n (2 ^ w) ((cyclic_laws (mod_laws (2 ^ w)) n).rfl h) read whole

    pub sealed_exactly : length out ≡ record_bytes (length_of set) (width_of set) → out ≡ sealed_record (length_of set) (width_of set) (polynomials (length_of set) (width_of set) card).h coins → SealedExactly set card coins out
    sealed_exactly lo eo = record {
      encrypts = sealed_encrypts eo;
      opens = λ other key same.
          let n = length_of set in
          let w = width_of set in
          let enc : EncryptsTo set other out (drawn_r n coins) (drawn_m n coins) =
          encrypts_class n (2 ^ w) ((cyclic_laws (mod_laws (2 ^ w)) n).sy (agree_mod (2 ^ w) n same)) ((cyclic_laws (mod_laws (2 ^ w)) n).rfl (balanced_polynomial n w out)) (sealed_encrypts eo) in
          record {
            served = λ buffer lb. pair_verdict set other out key buffer lo lb (one_test set other out key (drawn_r n coins) (drawn_m n coins) enc);
            written = one_pair set other out key (drawn_r n coins) (drawn_m n coins) enc ∙ drawn_pair;
          };
    }

-- ---- the key test
module _ (set : ℕ) (card : List ℕ) (exists : known set ≡ true) where
  abbrev P : Polynomials
  P = polynomials (length_of set) (width_of set) card

  pub tests_tell : TestsTell (length_of set) (width_of set) (polynomials (length_of set) (width_of set) card)
  tests_tell =
      let n = length_of set in
      let w = width_of set in
      let f = known_facts set exists in
      let p = polynomials n w card in
      let s = sets_suffice n w f in
      record {
        f_small = told_as (correlates_tells (correlation n p.f)) (λ h. record { ternary = ended_ternary n _; correlates = h }) (λ t. t.correlates);
        fp_inverse = one_tells 3 n (lit< tt) f.long (times n p.f p.fp);
        some_g = equation_tells n (2 ^ w) 43691 p.h p.f (in_T+ n (candidate (2 ^ w) 43691 (times n p.h p.f))) f.long s.big s.third (balanced_sum w n _ (omega (arith, f.long))) (ternary+_tells n (candidate (2 ^ w) 43691 (times n p.h p.f)));
        hq_inverse = one_tells (2 ^ w) n (omega (arith, s.big)) f.long (times n p.h p.hq);
      }

-- of two that tell the same, one is true where it holds
holds_true : {Q : Type 0} (b : Bool) → Tells b Q → Q → b ≡ true
holds_true true t q = refl
holds_true false t q = absurd (t.fails refl q)

is_true : (b : Bool) → not b ≡ false → b ≡ true
is_true true e = refl
is_true false e = absurd (let z : ◌≡◌ {A = ℕ} 0 1 = cc in omega arith)

pub tested_exactly : (set : ℕ) (card : List ℕ) (answer : Result (Unit {0}) Refusal) → answer ≡ outcome (tests set card) → TestedExactly set card answer
tested_exactly set card answer ea = record {
  taken = λ e.
      let n = length_of set in
      let w = width_of set in
      let p = polynomials n w card in
      let passed : AllPassed (tests set card) = all_passed (tests set card) (sym e ∙ ea) in
      let exists = is_true (known set) passed.0 in
      let tell = tests_tell set card exists in
      let g = tell.some_g.holds (is_true _ passed.1.1.1.1.1.0) in
      record {
        exists = exists;
        key = record {
          long = same_length (length card) (card_bytes n w) passed.1.0;
          digits = is_true (holds_digits (ternary_stretch n card)) passed.1.1.0;
          g = g.0;
          key = record {
            f_small = tell.f_small.holds (is_true _ passed.1.1.1.0);
            g_small = g.1;
            fp_inverse = tell.fp_inverse.holds (is_true _ passed.1.1.1.1.0);
            equation = g.2;
            hq_inverse = tell.hq_inverse.holds (is_true _ passed.1.1.1.1.1.1.0);
          };
        };
      };
  key = λ k.
      let n = length_of set in
      let w = width_of set in
      let tell = tests_tell set card k.exists in
      let key = k.key.key in
      let pass = all_pass n _ _ _ _ (holds_true _ tell.f_small key.f_small) (holds_true _ tell.fp_inverse key.fp_inverse) (holds_true _ tell.some_g (k.key.g, key.g_small, key.equation)) (holds_true _ tell.hq_inverse key.hq_inverse) in
      ea ∙ sym (test_polynomials set card k.exists k.key.long k.key.digits pass).answer_is;
}

-- ---- make
module _ (set : ℕ) (coins card : List ℕ) (exists : known set ≡ true) (lk : length coins ≡ coin_bytes (length_of set)) (made : CardOf (length_of set) (width_of set) coins card) where
  abbrev N : ℕ
  N = length_of set

  abbrev W : ℕ
  W = width_of set

  make_facts : Set N W
  make_facts = known_facts set exists

  wide_one : 1 ≤ W
  wide_one = some_width N W make_facts.long make_facts.wide

  pub made_key : IsKeyOf set card
  made_key =
      let f = make_facts in
      let two = f.long in
      let some : 1 ≤ N = omega arith in
      let F = drawn_f N coins in
      let G = drawn_g N coins in
      let m = made.makes in
      let tf = first_correlates N coins f.long f.odd lk in
      let tg = second_correlates N coins f.long f.odd lk in
      let bytes = card_record N W F made.fp made.h made.hq in
      let made_h = made_is N (2 ^ W) F m.fq G made.h some m.fq_inverse m.h_is in
      let whole = making_is N (2 ^ W) F made.fp m.fq G made.h made.hq some tf tg m.fq_inverse m.fp_inverse m.h_is m.hq_inverse in
      let key : Key N (2 ^ W) (polynomials N W bytes).f (polynomials N W bytes).fp G (polynomials N W bytes).h (polynomials N W bytes).hq =
      key_along N (2 ^ W) two
      (subst (λ bs. Agree integers N (ternary_polynomial N bs) F) (sym (f_part N W F made.fp made.h made.hq some wide_one)) (ternary_back N F tf.ternary))
      (subst (λ bs. Agree integers N (ternary_polynomial N bs) made.fp) (sym (fp_part N W F made.fp made.h made.hq some wide_one)) (ternary_back N made.fp m.fp_small))
      (subst (λ bs. SameMod (2 ^ W) N (balanced_polynomial N W bs) made.h) (sym (h_part N W F made.fp made.h made.hq some wide_one)) (balanced_back N W made.h some wide_one made_h.balanced))
      (subst (λ bs. SameMod (2 ^ W) N (padded_polynomial N W bs) made.hq) (sym (hq_part N W F made.fp made.h made.hq some wide_one)) (padded_back N W made.hq some wide_one m.hq_last))
      whole in
      subst (IsKeyOf set) (sym made.bytes) (record {
        exists = exists;
        key = record {
          long = card_long N W F made.fp made.h made.hq some wide_one;
          digits = card_held N W F made.fp made.h made.hq some wide_one;
          g = G;
          key = key;
        };
      })

  pub made_once : (other : List ℕ) → CardOf N W coins other → other ≡ card
  made_once other o =
      let f = make_facts in
      let same = made_only N W (omega (arith, f.long)) (drawn_f N coins) (drawn_g N coins) o.fp o.h o.hq o.makes made.fp made.h made.hq made.makes in
      o.bytes
      ∙ ap (λ bs. (ternary_record N (drawn_f N coins) ++ bs) ++ (word_record N W o.h ++ word_record N W o.hq)) (ternary_record_same N o.fp made.fp same.0)
      ∙ ap₂ (λ xs ys. (ternary_record N (drawn_f N coins) ++ ternary_record N made.fp) ++ (xs ++ ys)) (word_record_same N W o.h made.h same.1) (word_record_same N W o.hq made.hq same.2)
      ∙ sym made.bytes

-- ---- as the calls say it
pub sealed_records_open : (set : ℕ) (card coins before out : List ℕ) (answer : Result (Unit {0}) Refusal) → answer ≡ outcome (seals set card coins before) →
    out ≡ left answer (sealed_record (length_of set) (width_of set) (polynomials (length_of set) (width_of set) card).h coins) before → answer ≡ Ok tt → SealedExactly set card coins out
sealed_records_open set card coins before out answer ea eo e =
    let n = length_of set in
    let w = width_of set in
    let passed : AllPassed (seals set card coins before) = all_passed (seals set card coins before) (sym e ∙ ea) in
    let exists = is_true (known set) passed.0 in
    let lengths = and_parts (eqb (length card) (card_bytes n w)) (eqb (length coins) (coin_bytes n)) (is_true _ passed.1.0) in
    let lk : length coins ≡ coin_bytes n = eqb-true (length coins) (coin_bytes n) lengths.1 in
    let written : out ≡ sealed_record n w (polynomials n w card).h coins = eo ∙ ap (λ a. left a (sealed_record n w (polynomials n w card).h coins) before) e in
    let f = known_facts set exists in
    let lo : length out ≡ record_bytes n w = ap length written ∙ word_long n w _ (omega (arith, f.long)) (some_width n w f.long f.wide) in
    sealed_exactly set coins exists lk card out lo written

module _ (set : ℕ) (coins before out : List ℕ) (answer : Result (Unit {0}) Refusal) (said : MakeAnswer set coins before answer) (kept : MakeOutput set coins answer before out) where
  served_facts : answer ≡ Ok tt → (known set ≡ true) × (length coins ≡ coin_bytes (length_of set))
  served_facts e =
      let passed : AllPassed (makes set coins before said.absent) = all_passed (makes set coins before said.absent) (sym e ∙ said.is) in
      (is_true (known set) passed.0, same_length (length coins) (coin_bytes (length_of set)) passed.1.0)

  pub made_cards_are_keys : answer ≡ Ok tt → IsKeyOf set out
  made_cards_are_keys e = let f = served_facts e in made_key set coins out f.0 f.1 (kept.made e)

  pub no_other_card : answer ≡ Ok tt → (card : List ℕ) → CardOf (length_of set) (width_of set) coins card → card ≡ out
  no_other_card e = let f = served_facts e in made_once set coins out f.0 f.1 (kept.made e)
