use Rattle.std.proofs.Common.{is_some, sym, refl, ap, ◌∙◌, arith}
use Rattle.scheme.specs.declared.refusal.Refusal.TheVariants.{NotInvertible}
use Rattle.scheme.proofs.Makings.{words_found, words_absent, none_three, none_key, card_made}
use Rattle.scheme.proofs.OkOr.{handed_on, ok_or_none, ok_or_some}
use Rattle.arithmetic.proofs.Rooms.{in_room}
use Rattle.scheme.proofs.SetFacts.{wide}
use Rattle.scheme.proofs.making.make_card.Goals as goal

pub returns-in_err-invert_modulo_3-clause-made : goal.returns-in_err-invert_modulo_3-clause-made
returns-in_err-invert_modulo_3-clause-made g c =
    let set = c.args.coins.set in
    let said = c.in_err-invert_modulo_3.ensures in
    handed_on _ _ c.from_residual.result c.in_err-invert_modulo_3.field-0.0 c.from_residual.ensures (
      none_three set.n set.width c.args.coins.bytes.now c.draw_settled.new.first c.draw_settled.new.second c.draw_settled.ensures.first c.draw_settled.ensures.second (c.draw_settled.auto.first ∙ in_room _ set.length.1) said.0,
      (refl, said.1),
    )

pub make_public-requires-clause-digits : goal.make_public-requires-clause-digits
make_public-requires-clause-digits g c = let few = c.args.coins.set.length.1 in (c.draw_settled.auto.first ∙ in_room _ few, c.draw_settled.auto.second ∙ in_room _ few)

pub returns-in_err-ok_or-clause-made : goal.returns-in_err-ok_or-clause-made
returns-in_err-ok_or-clause-made g c =
    let set = c.args.coins.set in
    let few = set.length.1 in
    let h = c.make_public.new.h in
    let lh = c.make_public.auto.h ∙ in_room _ few in
    let none = ok_or_none c.inverse_of_words.result NotInvertible (sym c.ok_or.ensures.value ∙ c.in_err-ok_or.was) in
    let absent = words_absent set.width h _ c.inverse_of_words.new.inverse _ _ c.inverse_of_words.result (ap is_some none.0)
    (record { some = omega (arith, wide set); narrow = set.narrow; long = omega (arith, lh, set.length); few = omega (arith, lh, set.length); room = in_room _ few ∙ sym lh }) c.inverse_of_words.ensures.none_exactly_when_none_serves in
    handed_on _ _ c.from_residual-in_err-ok_or.result c.in_err-ok_or.field-0.0 c.from_residual-in_err-ok_or.ensures (
      none_key set.n set.width c.args.coins.bytes.now c.draw_settled.new.first c.draw_settled.new.second c.draw_settled.ensures.first c.draw_settled.ensures.second h c.inverse_of_words.new.inverse c.in_ok-make_public.ensures.made lh absent.0,
      (refl, none.1),
    )

pub write_card-requires-clause-digits : goal.write_card-requires-clause-digits
write_card-requires-clause-digits g c = let few = c.args.coins.set.length.1 in (c.draw_settled.auto.first ∙ in_room _ few, c.invert_modulo_3.auto.fp ∙ in_room _ few)

pub returns-clause-made : goal.returns-clause-made
returns-clause-made g c =
    let set = c.args.coins.set in
    let few = set.length.1 in
    let h = c.make_public.new.h in
    let said = c.in_ok-invert_modulo_3.ensures in
    let some = ok_or_some c.inverse_of_words.result NotInvertible (sym c.ok_or.ensures.value ∙ c.in_ok-ok_or.was) in
    let found = words_found set.width h _ c.inverse_of_words.new.inverse _ _ c.inverse_of_words.result (ap is_some some) c.inverse_of_words.ensures.none_exactly_when_none_serves in
    card_made set.n set.width c.args.coins.bytes.now c.draw_settled.new.first c.draw_settled.new.second c.draw_settled.ensures.first c.draw_settled.ensures.second h c.inverse_of_words.new.inverse c.in_ok-make_public.ensures.made
    (c.make_public.auto.h ∙ in_room _ few) c.invert_modulo_3.new.fp (c.draw_settled.auto.first ∙ in_room _ few) said.0 said.1 found.1 c.write_card.new.out c.write_card.ensures

pub returns-clause-count : goal.returns-clause-count
returns-clause-count g c =
    let some = ok_or_some c.inverse_of_words.result NotInvertible (sym c.ok_or.ensures.value ∙ c.in_ok-ok_or.was) in
    let found = words_found c.args.coins.set.width c.make_public.new.h _ c.inverse_of_words.new.inverse _ _ c.inverse_of_words.result (ap is_some some) c.inverse_of_words.ensures.none_exactly_when_none_serves in
    omega (arith, found.2, c.make_public.ensures.count, g.met.U.RowUnit.top c.make_public.new.unit)
