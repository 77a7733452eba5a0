use Rattle.std.proofs.Common.{◌≡◌, ◌≢◌, ℕ, refl, ◌-◌, length, take, drop, sym, ap, ◌∙◌, arith, rules, tests}
use Rattle.std.proofs.lemmas.Bool.{eqb-true, eq-eqb}
use Rattle.std.proofs.lemmas.Iterator.{cases_from_all, YieldsList-from_slice}
use Rattle.algebra.specs.Stands.{signed}
use Rattle.arithmetic.proofs.DigitLoops.{number_read}
use Rattle.scheme.proofs.Working.{one_told, not_one}
use Rattle.scheme.proofs.coefficients.is_one.Goals as goal

pub returns-then-eq : goal.returns-then-eq
returns-then-eq c =
    let ds = c.args.digits.now in
    let xs = take (length ds - 1) (drop 1 ds) in
    let first = c.index-digits-0.result in
    let by_call = cases_from_all _ _ _ (λ d. d.code ≡ 0) (λ d. d.code ≢ 0) c.all.ensures.ran (YieldsList-from_slice xs c.iter.ensures.rest) (λ x q k. search (rules, tests)) (λ x q k. search (rules, tests)) in
    one_told ds xs c.all.result c.requires refl (sym (number_read ds 0 first c.requires c.index-digits-0.is) ∙ ap signed (eqb-true first.code 1 (sym c.if-eq.ensures))) by_call

pub returns-else-eq : goal.returns-else-eq
returns-else-eq c =
    let ds = c.args.digits.now in
    let first = c.index-digits-0.result in record {
      holds = λ e. absurd (let z : ◌≡◌ {A = ℕ} 0 1 = cc in omega arith);
      fails = λ _ all. not_one ds first c.requires (number_read ds 0 first c.requires c.index-digits-0.is) (λ e. absurd (let t = eq-eqb first.code 1 e in let f = c.if-eq.ensures in let z : ◌≡◌ {A = ℕ} 0 1 = cc in omega arith)) all;
    }
