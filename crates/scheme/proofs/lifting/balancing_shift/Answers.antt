use Rattle.std.proofs.Common.{◌≡◌, ℕ, ◌%◌, length, pos, sym, ap, ◌∙◌, subst, arith}
use Rattle.algebra.specs.Ring.{Differ, integers, sum}
use Rattle.algebra.specs.Scheme.{shift}
use Rattle.algebra.proofs.WordLoops.{shift_one, shift_two}
use Rattle.arithmetic.specs.Digits.{coefficients, number}
use Rattle.arithmetic.proofs.DigitLoops.{number_minus}
use Rattle.scheme.proofs.lifting.balancing_shift.Goals as goal

pub returns-then-set-eq1 : goal.returns-then-set-eq1
returns-then-set-eq1 c =
    let m = c.args.m.now in
    let n = length m in
    let t = c.sum_digits-total.result in
    let one : n % 3 ≡ 1 = ap (λ (k : ℕ). k % 3) c.requires ∙ c.if-set-eq1.true in
    subst (λ z. Differ integers (pos 3) z (shift n (coefficients m))) (sym (number_minus t c.negation.result c.negation.ensures.negates))
    (shift_one n (number t) (sum integers n (coefficients m)) one c.sum_digits-total.ensures)

pub returns-else-set-eq1 : goal.returns-else-set-eq1
returns-else-set-eq1 c =
    let m = c.args.m.now in
    let n = length m in
    let two : n % 3 ≡ 2 = ap (λ (k : ℕ). k % 3) c.requires ∙ omega (arith, c.args.set.coprime.1, c.if-set-eq1.false) in
    shift_two n (number c.sum_digits-total.result) (sum integers n (coefficients m)) two c.sum_digits-total.ensures
