use Rattle.std.proofs.Common.{◌≡◌, sym, refl, ap, ◌∙◌}
use Rattle.arithmetic.specs.Rows.{raised}
use Rattle.scheme.specs.Sets.{length_of, width_of}
use Rattle.scheme.proofs.CallAnswers.{opened_answers}
use Rattle.scheme.proofs.CardParts.{tested_bytes, held, opened_at}
use Rattle.scheme.proofs.RowCounts.{thrice}
use Rattle.scheme.proofs.SetFacts.{word_size, card_size, pair_size}
use Rattle.scheme.proofs.opening.open_card.Goals as goal

pub open_parts-requires : goal.open_parts-requires
open_parts-requires g c =
    let set = c.in_ok-set.set in
    let card = c.args.card.now in
    let split = c.in_ok-parts.ensures.parts_or_refusal.1 in
    let digits = sym (tested_bytes set set.n set.width refl refl card) ∙ sym c.all_hold_digits.ensures ∙ c.if-not-all_hold_digits.false in
    record {
      ternary = (split.f.long, split.fp.long);
      held = held set set.n set.width refl refl card c.in_ok-parts.parts split digits;
      words = split.hq.long;
      records = (c.if-sealed-set.false, c.if-pair-set.false);
    }

pub returns : goal.returns
returns g c =
    let set = c.in_ok-set.set in
    let found = c.in_ok-set.ensures in
    let N = length_of c.args.set in
    let W = width_of c.args.set in
    let card = c.args.card.now in
    let rows = g.U.RowUnit.rows c.args.unit.now in
    let en : set.n ≡ N = found.1 in
    let ew : set.width ≡ W = found.2 in
    let sealed = c.args.sealed.now in
    let pair = c.args.pair.now in
    let split = c.in_ok-parts.ensures.parts_or_refusal.1 in
    let digits = sym (tested_bytes set N W en ew card) ∙ sym c.all_hold_digits.ensures ∙ c.if-not-all_hold_digits.false in
    let opened = opened_at set N W en ew card c.in_ok-parts.parts split sealed c.open_parts.result pair c.open_parts.new.pair c.open_parts.ensures.opened in
    let done = opened_answers c.args.set card sealed pair found.0 (c.if-card-set.false ∙ card_size set N W en ew) (c.if-sealed-set.false ∙ word_size set N W en ew) (c.if-pair-set.false ∙ pair_size set N W en ew) digits
    c.open_parts.result c.open_parts.new.pair opened in
    record { answer = done.0.answer_is; output = done.1; count = thrice N rows en c.open_parts.ensures.count ∙ ap (λ r. raised r rows) done.0.rows_are }
