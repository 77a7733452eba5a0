use Rattle.std.proofs.Common.{◌≡◌, ◌+◌, ◌*◌, ◌%◌, ◌^◌, ◌<◌, length, get_or, ap, ◌∙◌, arith}
use Rattle.std.proofs.lemmas.Nat.{and_mask, pow_below}
use Rattle.algebra.specs.Radix.{digits, numeral}
use Rattle.algebra.proofs.Radix.{regroups_all, regroups_last}
use Rattle.algebra.proofs.WordBits.{moved, bits_read, bits_write, times_more, times_below}
use Rattle.scheme.proofs.words.pack_words.Goals as goal

pub loop-held-init : goal.loop-held-init
loop-held-init c =
    let w = c.args.width.bits in
    let s = c.loop-c in
    let cs = c.args.coefficients.now in
    let y : _ ≡ (get_or cs s.c-index 0 % 2 ^ w) * 2 ^ s.held =
    ap (λ n. n * 2 ^ s.held % 2 ^ 32) (c.from.ensures ∙ c.low.ensures) ∙ moved w s.held (get_or cs s.c-index 0) (omega arith) in
    let r = bits_read 256 w s.bits s.held s.c-index s.at _ cs s.out y s.invariant.0 c.loop-c-test.true s.invariant.3 in
    (r.0, omega arith, omega (arith, times_more w s.c-index), r.1)

within : (c : goal.In-loop-held) → c.loop-held.at < length c.loop-held.out
within c = omega (arith, times_more c.args.width.bits c.loop-c.c-index, times_below c.args.width.bits c.loop-c.c-index _ c.loop-c-test.true)

pub loop-held-preserved : goal.loop-held-preserved
loop-held-preserved c =
    let s = c.loop-held in
    let r = bits_write (2 ^ c.args.width.bits) 8 s.bits s.held (c.loop-c.c-index + 1) s.at c.args.coefficients.now s.out c.loop-held-test.true s.invariant.0 (within c) s.invariant.3 in
    rw (and_mask s.bits 8) (r.0, omega arith, omega arith, r.1)

pub returns-then-held-gt0 : goal.returns-then-held-gt0
returns-then-held-gt0 c =
    let w = c.args.width.bits in
    let s = c.loop-c in
    let cs = c.args.coefficients.now in
    let n : s.c-index ≡ length cs = omega arith in
    let k : w * s.c-index ≡ w * length cs = ap (λ m. w * m) n in
    let small : 2 ^ s.held < 2 ^ 8 = pow_below s.held 8 s.invariant.1 in
    let bytes = regroups_last (2 ^ w) 256 s.bits (2 ^ s.held) s.c-index s.at cs s.out (omega arith) (omega arith) c.loop-c-test.false s.invariant.3 in
    bytes ∙ ap (λ m. digits 256 m (numeral (2 ^ w) cs)) (s.auto.out ∙ c.requires)

pub returns-else-held-gt0 : goal.returns-else-held-gt0
returns-else-held-gt0 c =
    let w = c.args.width.bits in
    let s = c.loop-c in
    let cs = c.args.coefficients.now in
    let n : s.c-index ≡ length cs = omega arith in
    let k : w * s.c-index ≡ w * length cs = ap (λ m. w * m) n in
    let bytes = regroups_all (2 ^ w) 256 s.bits (2 ^ s.held) s.c-index s.at cs s.out (omega arith) s.invariant.3 in
    bytes ∙ ap (λ m. digits 256 m (numeral (2 ^ w) cs)) (s.auto.out ∙ c.requires)
