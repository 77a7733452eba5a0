-- The parts of a card, and the polynomials that they hold.
use Rattle.std.proofs.Common.{◌≡◌, ℕ, ◌+◌, ◌-◌, ◌*◌, true, List, take, Result, sym, ap, ◌∙◌, subst, arith}
use Rattle.scheme.specs.declared.card.Parts.{Parts}
use Rattle.scheme.specs.declared.refusal.Refusal.{Refusal}
use Rattle.scheme.specs.declared.set.ParameterSet.{ParameterSet}
use Rattle.scheme.specs.Cards.{Split}
use Rattle.scheme.specs.CardPolynomials.{part_polynomials, polynomials, stretch, ternary_stretch}
use Rattle.scheme.specs.Opening.{Opened}
use Rattle.scheme.specs.Sets.{ternary_bytes, record_bytes}
use Rattle.scheme.specs.TernaryParts.{holds_digits}
use Rattle.scheme.specs.TernaryPolynomials.{ternary_polynomial}
use Rattle.scheme.specs.WordPolynomials.{balanced_polynomial, padded_polynomial}
use Rattle.scheme.proofs.CallAnswers.{f_holds, fp_holds}
use Rattle.scheme.proofs.SetFacts.{ternary_size, word_size, pair_size}

module _ (s : ParameterSet) (n w : ℕ) (en : s.n ≡ n) (ew : s.width ≡ w) (card : List ℕ) where
  -- the bytes of f and fp that are tested
  pub tested_bytes : holds_digits (take (s.pair - 0) card) ≡ holds_digits (ternary_stretch n card)
  tested_bytes = let whole : s.pair - 0 ≡ s.pair = omega arith in ap (λ k. holds_digits (take k card)) (whole ∙ pair_size s n w en ew)

  module _ (p : Parts) (split : Split card s.ternary s.word p) where
    f_is : p.f.bytes.now ≡ stretch 0 (ternary_bytes n) card
    f_is = split.f.same ∙ ap (λ t. stretch 0 t card) (ternary_size s n w en ew)

    fp_is : p.fp.bytes.now ≡ stretch (ternary_bytes n) (ternary_bytes n) card
    fp_is = split.fp.same ∙ ap (λ t. stretch t t card) (ternary_size s n w en ew)

    pub h_is : p.h.bytes.now ≡ stretch (2 * ternary_bytes n) (record_bytes n w) card
    h_is = split.h.same ∙ ap (λ t. stretch (2 * t) s.word card) (ternary_size s n w en ew) ∙ ap (λ b. stretch (2 * ternary_bytes n) b card) (word_size s n w en ew)

    hq_is : p.hq.bytes.now ≡ stretch (2 * ternary_bytes n + record_bytes n w) (record_bytes n w) card
    hq_is = split.hq.same ∙ ap (λ t. stretch (2 * t + s.word) s.word card) (ternary_size s n w en ew) ∙ ap (λ b. stretch (2 * ternary_bytes n + b) b card) (word_size s n w en ew)

    pub held : holds_digits (ternary_stretch n card) ≡ true → (holds_digits p.f.bytes.now ≡ true) × (holds_digits p.fp.bytes.now ≡ true)
    held h = (
      subst (λ bs. holds_digits bs ≡ true) (sym f_is) (f_holds (ternary_bytes n) card h),
      subst (λ bs. holds_digits bs ≡ true) (sym fp_is) (fp_holds (ternary_bytes n) card h),
    )

    -- what holds of the polynomials of the parts holds of those of the card
    pub parts_are : part_polynomials s.n s.width p.f.bytes.now p.fp.bytes.now p.h.bytes.now p.hq.bytes.now ≡ polynomials n w card
    parts_are =
        ap (λ k. part_polynomials k s.width p.f.bytes.now p.fp.bytes.now p.h.bytes.now p.hq.bytes.now) en
        ∙ ap (λ k. part_polynomials n k p.f.bytes.now p.fp.bytes.now p.h.bytes.now p.hq.bytes.now) ew
        ∙ ap (λ bs. part_polynomials n w bs p.fp.bytes.now p.h.bytes.now p.hq.bytes.now) f_is
        ∙ ap (λ bs. part_polynomials n w (stretch 0 (ternary_bytes n) card) bs p.h.bytes.now p.hq.bytes.now) fp_is
        ∙ ap (λ bs. part_polynomials n w (stretch 0 (ternary_bytes n) card) (stretch (ternary_bytes n) (ternary_bytes n) card) bs p.hq.bytes.now) h_is
        ∙ ap (λ bs. part_polynomials n w (stretch 0 (ternary_bytes n) card) (stretch (ternary_bytes n) (ternary_bytes n) card) (stretch (2 * ternary_bytes n) (record_bytes n w) card) bs) hq_is

    pub opened_at : (sealed : List ℕ) (a : Result (Unit {0}) Refusal) (before after : List ℕ) →
        Opened s.n s.width (ternary_polynomial s.n p.f.bytes.now) (ternary_polynomial s.n p.fp.bytes.now) (padded_polynomial s.n s.width p.hq.bytes.now) (balanced_polynomial s.n s.width sealed) a before after →
        Opened n w (polynomials n w card).f (polynomials n w card).fp (polynomials n w card).hq (balanced_polynomial n w sealed) a before after
    opened_at sealed a before after o =
        subst (λ k. Opened n k (polynomials n w card).f (polynomials n w card).fp (polynomials n w card).hq (balanced_polynomial n k sealed) a before after) ew
        (subst (λ k. Opened k s.width (polynomials n w card).f (polynomials n w card).fp (polynomials n w card).hq (balanced_polynomial k s.width sealed) a before after) en
        (subst (λ q. Opened s.n s.width q.f q.fp q.hq (balanced_polynomial s.n s.width sealed) a before after) parts_are o))
