use Rattle.std.proofs.Common.{◌≡◌, ◌+◌, ◌*◌, ◌%◌, ◌^◌, ◌<◌, length, get_or, sym, ap, ◌∙◌, mod-eq_of_lt, arith, rules}
use lib.Bits.{bit_or}
use Rattle.std.proofs.lemmas.Nat.{shl_whole, and_mask}
use Rattle.algebra.proofs.Radix.{Regroups, regroups_all}
use Rattle.algebra.proofs.WordBits.{low_of_word, bits_read, bits_write, times_more, times_below}
use Rattle.scheme.proofs.words.unpack_words.Goals as goal

within : (c : goal.After-from) → c.loop-held.at < length c.args.bytes.now
within c = omega (arith, times_below c.args.width.bits c.loop-i.i _ c.loop-i-test.true)

-- a byte, moved up to the place of the bits held
byte : (c : goal.After-from) → (c.from.result * 2 ^ c.loop-held.held) % 2 ^ 32 ≡ (get_or c.args.bytes.now c.loop-held.at 0 % 2 ^ 8) * 2 ^ c.loop-held.held
byte c =
    let h : c.from.result < 2 ^ 8 = search rules in
    let e : c.from.result % 2 ^ 8 ≡ c.from.result = mod-eq_of_lt h in
    shl_whole c.from.result 8 c.loop-held.held 32 h (omega arith) ∙ ap (λ n. n * 2 ^ c.loop-held.held) (sym e ∙ ap (λ n. n % 2 ^ 8) c.from.ensures)

read :
    (c : goal.After-from)
    → (bit_or c.loop-held.bits ((c.from.result * 2 ^ c.loop-held.held) % 2 ^ 32) < 2 ^ (c.loop-held.held + 8))
    × Regroups 256 (2 ^ c.args.width.bits) (bit_or c.loop-held.bits ((c.from.result * 2 ^ c.loop-held.held) % 2 ^ 32)) (2 ^ (c.loop-held.held + 8)) (c.loop-held.at + 1) c.loop-i.i c.args.bytes.now c.loop-i.out
read c =
    let s = c.loop-held in
    bits_read (2 ^ c.args.width.bits) 8 s.bits s.held s.at c.loop-i.i _ c.args.bytes.now c.loop-i.out (byte c) s.invariant.0 (within c) s.invariant.3

pub loop-held-preserved : goal.loop-held-preserved
loop-held-preserved c = let r = read c in (r.0, omega arith, omega arith, r.1)

pub loop-i-preserved : goal.loop-i-preserved
loop-i-preserved c =
    let s = c.loop-held in
    let r = bits_write 256 c.args.width.bits s.bits s.held s.at c.loop-i.i c.args.bytes.now c.loop-i.out c.loop-held-test.false s.invariant.0 (omega arith) s.invariant.3 in
    let low : c.low.result ≡ s.bits % 2 ^ c.args.width.bits = c.low.ensures ∙ ap (λ k. k % 2 ^ c.args.width.bits) (and_mask s.bits 16) ∙ low_of_word c.args.width.bits s.bits c.args.width.narrow in
    rw low (r.0, omega arith, omega (arith, times_more c.args.width.bits c.loop-i.i), r.1)

pub returns : goal.returns
returns c =
    let s = c.loop-i in
    rw (sym s.auto.out) (regroups_all 256 (2 ^ c.args.width.bits) s.bits (2 ^ s.held) s.at s.i c.args.bytes.now s.out (omega arith) s.invariant.3)
