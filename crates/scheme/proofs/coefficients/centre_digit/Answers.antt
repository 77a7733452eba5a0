use Rattle.std.proofs.Common.{◌≡◌, ℕ, ◌+◌, ◌-◌, ◌*◌, ◌%◌, ◌^◌, pos, ap, ◌∙◌, arith, pow_pos, pow-add}
use Rattle.std.proofs.lemmas.Nat.{one_shl}
use Rattle.algebra.specs.Polynomials.{centre}
use Rattle.algebra.specs.Ring.{Differ, integers}
use Rattle.algebra.proofs.Integers.{mod_laws, equal_mod}
use Rattle.algebra.proofs.WordLoops.{code_low, code_high}
use Rattle.arithmetic.specs.Digits.{number}
use Rattle.arithmetic.proofs.Standing.{number_digit}
use Rattle.scheme.proofs.SetFacts.{wide}
use Rattle.scheme.proofs.coefficients.centre_digit.Goals as goal
use Rattle.scheme.proofs.coefficients.centre_digit.Goals.{then-low-modulus, else-low-modulus}

pub returns : goal.returns
returns c =
    let w = c.args.set.width in
    let word = c.args.word in
    let code = c.if-low-modulus.number % 3 in
    let M = mod_laws 3 in
    let split : w ≡ 1 + (w - 1) = omega (arith, wide c.args.set) in
    let halves : 2 ^ w ≡ 2 * 2 ^ (w - 1) = ap (λ (i : ℕ). 2 ^ i) split ∙ pow-add 2 1 (w - 1) in
    let top : 1 * 2 ^ w % 2 ^ 32 ≡ 2 ^ w = one_shl w 32 (omega (arith, c.args.set.narrow)) in
    let low : c.from-low.result ≡ word % 2 ^ w = c.from-low.ensures ∙ rw c.bits.ensures at c.low.ensures in
    let read : Differ integers (pos 3) (pos code) (centre (2 ^ w) (pos word)) =
    elim c.if-low-modulus.branch [
      | then-low-modulus t ↦ rw (t.number-is, low) (code_low (2 ^ w) word (omega (arith, t.if-low-modulus.true, low, top, halves)))
      | else-low-modulus t ↦ rw (t.number-is, low, top) (code_high (2 ^ w) word (pow_pos w) (omega (arith, t.if-low-modulus.false, low, top, halves)))
    ] in
    M.tr (equal_mod 3 (ap number c.from.ensures)) (M.tr (number_digit code) read)
