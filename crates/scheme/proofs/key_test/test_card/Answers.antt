use Rattle.std.proofs.Common.{◌≡◌, sym, refl, ap, ◌∙◌}
use Rattle.arithmetic.specs.Rows.{raised}
use Rattle.scheme.specs.CardPolynomials.{polynomials}
use Rattle.scheme.specs.KeyTest.{polynomial_tests}
use Rattle.scheme.specs.Steps.{outcome, cost}
use Rattle.scheme.specs.Sets.{length_of, width_of}
use Rattle.scheme.proofs.CallAnswers.{test_polynomials}
use Rattle.scheme.proofs.CardParts.{tested_bytes, held, parts_are}
use Rattle.scheme.proofs.SetFacts.{card_size}
use Rattle.scheme.proofs.key_test.test_card.Goals as goal

pub test_parts-requires : goal.test_parts-requires
test_parts-requires g c =
    let set = c.in_ok-set.set in
    let card = c.args.card.now in
    let split = c.in_ok-parts.ensures.parts_or_refusal.1 in
    let digits = sym (tested_bytes set set.n set.width refl refl card) ∙ sym c.all_hold_digits.ensures ∙ c.if-not-all_hold_digits.false in
    record {
      ternary = (split.f.long, split.fp.long);
      held = held set set.n set.width refl refl card c.in_ok-parts.parts split digits;
      words = (split.h.long, split.hq.long);
    }

pub returns : goal.returns
returns g c =
    let set = c.in_ok-set.set in
    let found = c.in_ok-set.ensures in
    let N = length_of c.args.set in
    let W = width_of c.args.set in
    let card = c.args.card.now in
    let rows = g.U.RowUnit.rows c.args.unit.now in
    let en : set.n ≡ N = found.1 in
    let ew : set.width ≡ W = found.2 in
    let split = c.in_ok-parts.ensures.parts_or_refusal.1 in
    let same = ap (λ p. polynomial_tests set.n set.width p) (parts_are set N W en ew card c.in_ok-parts.parts split) ∙ ap (λ k. polynomial_tests k set.width (polynomials N W card)) en ∙ ap (λ k. polynomial_tests N k (polynomials N W card)) ew in
    let table = test_polynomials c.args.set card found.0 (c.if-card-set.false ∙ card_size set N W en ew) (sym (tested_bytes set N W en ew card) ∙ sym c.all_hold_digits.ensures ∙ c.if-not-all_hold_digits.false)
    (record { answer_is = c.test_parts.ensures.answer ∙ ap outcome same; rows_are = refl }) in
    record { answer = table.answer_is; count = c.test_parts.ensures.count ∙ ap (λ t. raised (cost t) rows) same ∙ ap (λ r. raised r rows) table.rows_are }
