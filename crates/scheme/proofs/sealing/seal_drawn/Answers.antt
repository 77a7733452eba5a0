use Rattle.std.proofs.Common.{◌≡◌, ap, ◌∙◌}
use Rattle.arithmetic.specs.Rows.{raised}
use Rattle.scheme.specs.Sealing.{sealed_record}
use Rattle.scheme.specs.Sets.{length_of, width_of}
use Rattle.scheme.specs.WordPolynomials.{balanced_polynomial}
use Rattle.scheme.proofs.CallAnswers.{sealed_served}
use Rattle.scheme.proofs.CardParts.{h_is}
use Rattle.scheme.proofs.RowCounts.{some_rows}
use Rattle.scheme.proofs.SetFacts.{word_size, card_size, coin_size}
use Rattle.scheme.proofs.sealing.seal_drawn.Goals as goal

pub returns : goal.returns
returns g c =
    let set = c.in_ok-set.set in
    let found = c.in_ok-set.ensures in
    let N = length_of c.args.set in
    let W = width_of c.args.set in
    let card = c.args.card.now in
    let coins = c.args.coins.now in
    let split = c.in_ok-parts.ensures.parts_or_refusal in
    let all = c.in_ok-coins.ensures in
    let bytes = c.in_ok-parts.parts.h.bytes.now in
    let en : set.n ≡ N = found.1 in
    let ew : set.width ≡ W = found.2 in
    let sealed : c.seal_pair.new.out ≡ sealed_record set.n set.width (balanced_polynomial set.n set.width bytes) coins = rw (all.1, all.2) at c.seal_pair.ensures.output in
    let table = sealed_served c.args.set card coins c.args.out.now found.0 (split.0 ∙ card_size set N W en ew) (all.0 ∙ coin_size set N W en ew) (c.if-out-set.false ∙ word_size set N W en ew) in
    record {
      answer = table.answer_is;
      output =
          sealed
          ∙ ap (λ k. sealed_record k set.width (balanced_polynomial k set.width bytes) coins) en
          ∙ ap (λ k. sealed_record N k (balanced_polynomial N k bytes) coins) ew
          ∙ ap (λ bs. sealed_record N W (balanced_polynomial N W bs) coins) (h_is set N W en ew card c.in_ok-parts.parts split.1);
      count = some_rows N (g.U.RowUnit.rows c.args.unit.now) en (rw all.1 at c.seal_pair.ensures.count) ∙ ap (λ r. raised r (g.U.RowUnit.rows c.args.unit.now)) table.rows_are;
    }
