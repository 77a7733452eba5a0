use Rattle.std.proofs.Common.{◌≡◌, ◌-◌, ◌/◌, take, drop, sym, ◌∙◌, subst}
use Rattle.algebra.specs.Ternary.{Ternary+}
use Rattle.arithmetic.specs.Digits.{coefficients}
use Rattle.scheme.specs.Coins.{drawn}
use Rattle.scheme.specs.Signs.{settled}
use Rattle.scheme.proofs.DrawnSigns.{first_correlates, second_correlates}
use Rattle.scheme.proofs.draws.draw_key.Goals as goal

pub returns-clause-both_correlate : goal.returns-clause-both_correlate
returns-clause-both_correlate c _ =
    let set = c.args.set in
    let n = set.n in
    let coins = c.args.coins.now in
    let found = c.in_ok-coins.ensures in
    let long = found.0 ∙ set.records.2 in
    let first : c.draw_settled.new.first ≡ settled (drawn (take ((n - 1) / 2) coins)) = rw (found.1, found.2) at c.draw_settled.ensures.first in
    let second : c.draw_settled.new.second ≡ settled (drawn (drop ((n - 1) / 2) coins)) = rw (found.1, found.2) at c.draw_settled.ensures.second in (
      subst (λ ds. Ternary+ n (coefficients ds)) (sym first) (first_correlates n coins set.length.0 set.coprime.0 long),
      subst (λ ds. Ternary+ n (coefficients ds)) (sym second) (second_correlates n coins set.length.0 set.coprime.0 long),
    )
