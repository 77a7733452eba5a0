use Rattle.std.proofs.Common.{rules, ◌<◌, ◌≡◌, ◌+◌, ◌*◌, ◌/◌, ◌%◌, length, drop, sym, ap, ◌∙◌, arith, length-append}
use Rattle.std.proofs.lemmas.List.{drop-drop, drop_at}
use Rattle.std.specs.Slice.Iter.{chunks_exact_rest}
use Rattle.scheme.specs.TernaryParts.{codes, ternary_part}
use Rattle.algebra.specs.Radix.{numeral}
use Rattle.scheme.proofs.TernaryDigits.{part_more, part_last, part_done}
use Rattle.scheme.proofs.ternary.pack.Goals as goal

pub loop-i-preserved : goal.loop-i-preserved
loop-i-preserved c =
    let s = c.loop-i in
    let h = rw c.in-Some.is at c.next.ensures.steps in
    let ds = c.args.digits.now in
    let i = s.i-iterator.count in
    let rest = chunks_exact_rest s.i-iterator.iter in
    let five = c.in-Some.five.now in
    let more = chunks_exact_rest c.next.new.self.iter in
    let next : c.next.new.self.count ≡ i + 1 = h.2 in
    let full : length five ≡ 5 = h.0.1.1 ∙ s.invariant.five in
    let long : length rest ≡ length five + length more = ap length h.0.1.0 ∙ length-append five more in
    let r = part_more rest five more s.out (ternary_part ds) i c.packed.result h.0.1.0 (omega arith) (omega arith) c.packed.ensures s.invariant.room s.invariant.written in
    let left : drop (5 * (i + 1)) ds ≡ more =
    ap (λ k. drop k ds) (omega arith) ∙ sym (drop-drop 5 (5 * i) ds) ∙ ap (drop 5) (s.invariant.left ∙ h.0.1.0) ∙ drop_at five more 5 full in
    rw (next, h.1) record { five = h.0.0 ∙ s.invariant.five; left = left; count = omega arith; room = r.0; written = r.1 }

pub returns-then-not-is_empty : goal.returns-then-not-is_empty
returns-then-not-is_empty c =
    let s = c.loop-i in
    let h = rw c.in-None.is at c.next.ensures.steps in
    let ds = c.args.digits.now in
    let i = s.i-iterator.count in
    let rest = chunks_exact_rest s.i-iterator.iter in
    let last = c.remainder-last.result.now in
    let some : 0 < length last = search rules in
    let many : length last ≡ length ds % 5 = ap length c.remainder-last.ensures ∙ c.chunks_exact-fives.ensures.remainder_len in
    let few : length rest < 5 = omega (arith, h.0.1.0, s.invariant.five) in
    let place : i ≡ length ds / 5 = omega arith in
    let same : rest ≡ last = sym s.invariant.left ∙ ap (λ k. drop k ds) (omega arith) ∙ sym (c.remainder-last.ensures ∙ c.chunks_exact-fives.ensures.remainder) in
    rw (← place) (part_last rest s.out (ternary_part ds) i c.packed-then-not-is_empty.result few (omega arith) (c.packed-then-not-is_empty.ensures ∙ ap (λ x. numeral 3 (codes x)) (sym same)) s.invariant.room s.invariant.written)

pub returns-else-not-is_empty : goal.returns-else-not-is_empty
returns-else-not-is_empty c =
    let s = c.loop-i in
    let h = rw c.in-None.is at c.next.ensures.steps in
    let ds = c.args.digits.now in
    let rest = chunks_exact_rest s.i-iterator.iter in
    let last = c.remainder-last.result.now in
    let none : length last ≡ 0 = search rules in
    let many : length last ≡ length ds % 5 = ap length c.remainder-last.ensures ∙ c.chunks_exact-fives.ensures.remainder_len in
    let few : length rest < 5 = omega (arith, h.0.1.0, s.invariant.five) in
    part_done rest s.out (ternary_part ds) s.i-iterator.count (omega arith) s.invariant.room s.invariant.written
