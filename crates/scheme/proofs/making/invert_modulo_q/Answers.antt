use Rattle.std.proofs.Common.{◌≡◌, is_some, sym, ap, ◌∙◌, arith, rules}
use Rattle.algebra.specs.Polynomials.{NoInverseMod}
use Rattle.arithmetic.specs.Digits.{coefficients}
use Rattle.scheme.specs.declared.refusal.Refusal.TheVariants.{NotInvertible}
use Rattle.scheme.proofs.Makings.{words_found, words_absent, none_modulo_2, inverse_of_digits}
use Rattle.scheme.proofs.OkOr.{ok_or_none, ok_or_some}
use Rattle.scheme.proofs.SetFacts.{wide}
use Rattle.scheme.proofs.making.invert_modulo_q.Goals as goal

pub returns-in_err-ok_or-clause-inverse : goal.returns-in_err-ok_or-clause-inverse
returns-in_err-ok_or-clause-inverse g c =
    let set = c.args.set in
    let none = ok_or_none c.inverse_of_words.result NotInvertible (sym c.ok_or.ensures.value ∙ c.in_err-ok_or.was) in
    let absent = words_absent set.width c.signed_words.new.out c.args.fq.now c.inverse_of_words.new.inverse _ _ c.inverse_of_words.result (ap is_some none.0)
    (record { some = omega (arith, wide set); narrow = set.narrow; long = search rules; few = search rules; room = search rules }) c.inverse_of_words.ensures.none_exactly_when_none_serves in
    let no : NoInverseMod 2 set.n (coefficients c.args.f.now) × (c.in_err-ok_or.field-0.0 ≡ NotInvertible) =
    (none_modulo_2 set.width set.n c.args.f.now c.signed_words.new.out (omega (arith, wide set)) set.narrow c.requires.0 (search rules) c.signed_words.ensures absent.0, none.1) in
    search rules

pub returns-clause-inverse : goal.returns-clause-inverse
returns-clause-inverse g c =
    let set = c.args.set in
    let some = ok_or_some c.inverse_of_words.result NotInvertible (sym c.ok_or.ensures.value ∙ c.in_ok-ok_or.was) in
    let found = words_found set.width c.signed_words.new.out c.args.fq.now c.inverse_of_words.new.inverse _ _ c.inverse_of_words.result (ap is_some some) c.inverse_of_words.ensures.none_exactly_when_none_serves in
    inverse_of_digits set.width set.n c.args.f.now c.signed_words.new.out c.inverse_of_words.new.inverse set.narrow c.requires.0 (search rules) c.signed_words.ensures found.1
