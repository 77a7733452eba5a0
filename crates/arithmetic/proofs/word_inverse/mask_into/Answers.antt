use Rattle.std.proofs.Common.{◌≡◌, ◌-◌, ◌*◌, ◌%◌, ◌^◌, ◌<◌, ◌≢◌, length, ap, ◌∙◌, arith, below_more}
use lib.Bits.{bit_and}
use Rattle.std.proofs.lemmas.Nat.{one_shl, and_mask}
use Rattle.std.proofs.lemmas.List.{get_or-set_same, get_or-set_other}
use Rattle.arithmetic.proofs.word_inverse.mask_into.Goals as goal

pub loop-i-preserved : goal.loop-i-preserved
loop-i-preserved c =
    let s = c.loop-i in
    let w = c.args.width in
    let x = c.from.result in
    let masked : bit_and x ((1 * 2 ^ w) % 2 ^ 32 - 1) ≡ x % 2 ^ w = rw (one_shl w 32 (omega arith)) (and_mask x w) in
    below_more _ _
    (λ k h. let ne : k ≢ s.i = omega arith in rw get_or-set_other (s.invariant k h))
    (let lt : s.i < length s.out = omega arith in rw get_or-set_same (masked ∙ ap (λ y. y % 2 ^ w) c.from.ensures))
