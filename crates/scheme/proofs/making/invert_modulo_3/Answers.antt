use Rattle.std.proofs.Common.{◌≡◌, length, is_some, sym, refl, ap, ◌∙◌, arith, rules, lit<}
use Rattle.algebra.specs.Polynomials.{NoInverseMod}
use Rattle.algebra.specs.Stands.{digit_number}
use Rattle.algebra.proofs.Stands.{digits_stand}
use Rattle.arithmetic.specs.Digits.{coefficients}
use Rattle.arithmetic.proofs.DigitInverses.{three_found, three_absent, three_reduced}
use Rattle.scheme.specs.declared.refusal.Refusal.TheVariants.{NotInvertible}
use Rattle.scheme.proofs.OkOr.{ok_or_none, ok_or_some}
use Rattle.scheme.proofs.making.invert_modulo_3.Goals as goal

pub returns-in_err-ok_or : goal.returns-in_err-ok_or
returns-in_err-ok_or c =
    let f = c.args.f.now in
    let n = length f in
    let none = ok_or_none c.inverse_mod_phi-degree.result NotInvertible (sym c.ok_or.ensures.value ∙ c.in_err-ok_or.was) in
    let over = c.inverse_mod_phi-degree.ensures.over_the_integers 3 digit_number (digits_stand (lit< tt)) in
    let no : NoInverseMod 3 n (coefficients f) × (c.in_err-ok_or.field-0.0 ≡ NotInvertible) =
    (three_absent n _ _ _ _ _ f c.inverse_mod_phi-degree.new.inverse c.inverse_mod_phi-degree.result refl (search rules) (search rules, search rules, search rules, search rules, search rules, search rules) (ap is_some none.0) over, none.1) in
    search rules

pub returns : goal.returns
returns c =
    let f = c.args.f.now in
    let n = length f in
    let u = c.inverse_mod_phi-degree.new.inverse in
    let some = ap is_some (ok_or_some c.inverse_mod_phi-degree.result NotInvertible (sym c.ok_or.ensures.value ∙ c.in_ok-ok_or.was)) in
    let over = c.inverse_mod_phi-degree.ensures.over_the_integers 3 digit_number (digits_stand (lit< tt)) in
    (three_found n _ _ _ _ _ f u c.inverse_mod_phi-degree.result refl (search rules) some over, three_reduced n _ _ _ _ _ f u c.inverse_mod_phi-degree.result refl (search rules) (omega arith) some c.inverse_mod_phi-degree.ensures.none_exactly_when_none_serves)
