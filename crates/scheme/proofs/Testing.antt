-- The answers of the key test.
use Rattle.std.proofs.Common.{◌≡◌, ℕ, ◌+◌, ◌-◌, ◌^◌, ◌<◌, ◌≤◌, Bool, true, false, not, List, length, pos, Ok, Err, sym, ap, ◌∙◌, subst, arith, lit<}
use native.Mathlib.Nat.{pow-le-pow_right}
use lib.Signed.{le_z}
use Rattle.algebra.specs.Decided.{Tells, in_T+, reduces_to_one}
use Rattle.algebra.specs.Polynomials.{Poly, InverseMod, times}
use Rattle.algebra.specs.Scheme.{candidate}
use Rattle.algebra.specs.Ternary.{Ternary+, correlation}
use Rattle.algebra.proofs.Deciding.{told_same, one_tells, ternary+_tells}
use Rattle.arithmetic.specs.Digits.{coefficients}
use Rattle.arithmetic.specs.Products.{integers_of}
use Rattle.arithmetic.specs.declared.digit.Digit.{Digit}
use Rattle.scheme.specs.declared.refusal.Refusal.TheVariants.{NegativeCorrelation, FpNotInverse, NoKeyEquation, HqNotInverse}
use Rattle.scheme.specs.CardPolynomials.{Polynomials, part_polynomials}
use Rattle.scheme.specs.KeyTest.{polynomial_tests, test_lines}
use Rattle.scheme.specs.TernaryPolynomials.{ended_digits}
use Rattle.scheme.specs.WordParts.{part_words}
use Rattle.scheme.specs.WordPolynomials.{balanced, padded}
use Rattle.scheme.proofs.StepAnswers.{Tabled, ends, stops, goes_on, makes_rows}

-- ---- what the table of tests answers, and the rows made by then
no_fp : (n : ℕ) (a b c d : Bool) → a ≡ true → b ≡ false → Tabled (Err FpNotInverse) (n + 0) (test_lines n a b c d)
no_fp n a b c d e f = goes_on _ _ _ (ap not e) (makes_rows n _ (stops _ _ _ (ap not f)))

no_g : (n : ℕ) (a b c d : Bool) → a ≡ true → b ≡ true → c ≡ false → Tabled (Err NoKeyEquation) (n + (n + 0)) (test_lines n a b c d)
no_g n a b c d e f g = goes_on _ _ _ (ap not e) (makes_rows n _ (goes_on _ _ _ (ap not f) (makes_rows n _ (stops _ _ _ (ap not g)))))

no_hq : (n : ℕ) (a b c d : Bool) → a ≡ true → b ≡ true → c ≡ true → d ≡ false → Tabled (Err HqNotInverse) (n + (n + (n + 0))) (test_lines n a b c d)
no_hq n a b c d e f g h = goes_on _ _ _ (ap not e) (makes_rows n _ (goes_on _ _ _ (ap not f) (makes_rows n _ (goes_on _ _ _ (ap not g) (makes_rows n _ (stops _ _ _ (ap not h)))))))

no_correlation : (n : ℕ) (a b c d : Bool) → a ≡ false → Tabled (Err NegativeCorrelation) 0 (test_lines n a b c d)
no_correlation n a b c d e = stops _ _ _ (ap not e)

pub all_pass : (n : ℕ) (a b c d : Bool) → a ≡ true → b ≡ true → c ≡ true → d ≡ true → Tabled (Ok tt) (n + (n + (n + 0))) (test_lines n a b c d)
all_pass n a b c d e f g h = goes_on _ _ _ (ap not e) (makes_rows n _ (goes_on _ _ _ (ap not f) (makes_rows n _ (goes_on _ _ _ (ap not g) (makes_rows n _ (goes_on _ _ _ (ap not h) ends))))))

-- 2 ^ w is above 1
some_bits : (w : ℕ) → 2 ≤ w → 1 < 2 ^ w
some_bits w h = let m : 2 ^ 2 ≤ 2 ^ w = pow-le-pow_right {n = 2} (lit< tt) {i = 2} {j = w} h in omega arith

-- ---- the tests of the lists that are read from a card; i, j, k and l are the lengths of the lists that were read into
module _ (n w : ℕ) (two : 2 ≤ n) (wide : 2 ≤ w) (part_f part_fp part_h part_hq : List ℕ) (f fp : List Digit) (h hq : List ℕ) {i j k l : ℕ} (li : i ≡ n) (lj : j ≡ n) (lk : k ≡ n) (ll : l ≡ n)
    (ef : f ≡ ended_digits i part_f) (efp : fp ≡ ended_digits j part_fp) (eh : h ≡ balanced w (part_words w (k - 1) part_h)) (ehq : hq ≡ padded (part_words w (l - 1) part_hq)) where
  -- the polynomials of the card
  abbrev pub P : Polynomials
  P = part_polynomials n w part_f part_fp part_h part_hq

  f_is : coefficients f ≡ P.f
  f_is = ap coefficients (ef ∙ ap (λ m. ended_digits m part_f) li)

  fp_is : coefficients fp ≡ P.fp
  fp_is = ap coefficients (efp ∙ ap (λ m. ended_digits m part_fp) lj)

  h_is : integers_of h ≡ P.h
  h_is = ap integers_of (eh ∙ ap (λ m. balanced w (part_words w (m - 1) part_h)) lk)

  hq_is : integers_of hq ≡ P.hq
  hq_is = ap integers_of (ehq ∙ ap (λ m. padded (part_words w (m - 1) part_hq)) ll)

  -- a product that is told to be 1
  test_one : (q : ℕ) (u v U V : Poly) (r : Bool) → 1 < q → u ≡ U → v ≡ V → Tells r (InverseMod q n u v) → r ≡ reduces_to_one q n (times n U V)
  test_one q u v U V r big eu ev t =
      told_same r (reduces_to_one q n (times n U V)) (subst (λ y. Tells r (InverseMod q n U y)) ev (subst (λ y. Tells r (InverseMod q n y v)) eu t)) (one_tells q n big two (times n U V))

  test_g : (r : Bool) → Tells r (Ternary+ n (candidate (2 ^ w) 43691 (times n (integers_of h) (coefficients f)))) → r ≡ in_T+ n (candidate (2 ^ w) 43691 (times n P.h P.f))
  test_g r t =
      told_same r (in_T+ n (candidate (2 ^ w) 43691 (times n P.h P.f)))
      (subst (λ y. Tells r (Ternary+ n (candidate (2 ^ w) 43691 (times n P.h y)))) f_is (subst (λ y. Tells r (Ternary+ n (candidate (2 ^ w) 43691 (times n y (coefficients f))))) h_is t))
      (ternary+_tells n (candidate (2 ^ w) 43691 (times n P.h P.f)))

  test_f : length f ≡ n → {a : Bool} → a ≡ le_z (pos 0) (correlation (length f) (coefficients f)) → le_z (pos 0) (correlation n P.f) ≡ a
  test_f lf first = ap (λ v. le_z (pos 0) (correlation n v)) (sym f_is) ∙ ap (λ m. le_z (pos 0) (correlation m (coefficients f))) (sym lf) ∙ sym first

  pub f_fails : length f ≡ n → {a : Bool} → a ≡ le_z (pos 0) (correlation (length f) (coefficients f)) → a ≡ false → Tabled (Err NegativeCorrelation) 0 (polynomial_tests n w P)
  f_fails lf first fail = no_correlation n _ _ _ _ (test_f lf first ∙ fail)

  -- f correlates
  module _ (lf : length f ≡ n) {a : Bool} (first : a ≡ le_z (pos 0) (correlation (length f) (coefficients f))) (pass : a ≡ true) where
    one : le_z (pos 0) (correlation n P.f) ≡ true
    one = test_f lf first ∙ pass

    module _ {b : Bool} (second : Tells b (InverseMod 3 n (coefficients f) (coefficients fp))) where
      test_fp : reduces_to_one 3 n (times n P.f P.fp) ≡ b
      test_fp = sym (test_one 3 (coefficients f) (coefficients fp) P.f P.fp b (lit< tt) f_is fp_is second)

      pub fp_fails : b ≡ false → Tabled (Err FpNotInverse) (n + 0) (polynomial_tests n w P)
      fp_fails fail = no_fp n _ _ _ _ one (test_fp ∙ fail)

      -- fp is an inverse
      module _ (pass_fp : b ≡ true) {c : Bool} (third : Tells c (Ternary+ n (candidate (2 ^ w) 43691 (times n (integers_of h) (coefficients f))))) where
        pub g_fails : c ≡ false → Tabled (Err NoKeyEquation) (n + (n + 0)) (polynomial_tests n w P)
        g_fails fail = no_g n _ _ _ _ one (test_fp ∙ pass_fp) (sym (test_g c third) ∙ fail)

        -- some g solves the key equation
        module _ (pass_g : c ≡ true) {d : Bool} (fourth : Tells d (InverseMod (2 ^ w) n (integers_of h) (integers_of hq))) where
          test_hq : reduces_to_one (2 ^ w) n (times n P.h P.hq) ≡ d
          test_hq = sym (test_one (2 ^ w) (integers_of h) (integers_of hq) P.h P.hq d (some_bits w wide) h_is hq_is fourth)

          pub hq_fails : d ≡ false → Tabled (Err HqNotInverse) (n + (n + (n + 0))) (polynomial_tests n w P)
          hq_fails fail = no_hq n _ _ _ _ one (test_fp ∙ pass_fp) (sym (test_g c third) ∙ pass_g) (test_hq ∙ fail)

          pub passes : d ≡ true → Tabled (Ok tt) (n + (n + (n + 0))) (polynomial_tests n w P)
          passes pass_hq = all_pass n _ _ _ _ one (test_fp ∙ pass_fp) (sym (test_g c third) ∙ pass_g) (test_hq ∙ pass_hq)
