use Rattle.std.proofs.Common.{◌≡◌, suc, ◌+◌, ◌-◌, ◌≤◌, length, get_or, take, drop, ◌*ℤ◌, sym, ap, ◌∙◌, arith, rules, length-take}
use Rattle.std.specs.Slice.Iter.{windows_rest}
use Rattle.std.proofs.lemmas.Iterator.{window_more}
use Rattle.std.proofs.lemmas.List.{get_or-take}
use Rattle.algebra.specs.Ring.{integers, sum}
use Rattle.arithmetic.specs.Digits.{coefficients}
use Rattle.scheme.proofs.DrawnSigns.{sum_none, sum_more}
use Rattle.scheme.proofs.signs.correlate.Goals as goal

pub loop-pair-init : goal.loop-pair-init
loop-pair-init c =
    let v = c.args.v.now in
    let front = take (length v - 1) v in
    let it = c.into_iter-pair-iterator.result in
    let long : c.saturating_sub.result - 0 ≡ length v - 1 = omega (arith, c.saturating_sub.ensures) in
    let rest : windows_rest it ≡ front = ap windows_rest c.into_iter-pair-iterator.ensures.into_iter_gives ∙ c.windows-pair-items.ensures.rest ∙ ap (λ k. take k v) long in
    let none : length front - length (windows_rest it) ≡ 0 = omega (arith, ap length rest) in
    record {
      pairs = search rules;
      shorter = omega (arith, ap length rest);
      last_stays = omega (arith, none);
      left = rest ∙ sym (ap (λ k. drop k front) none);
      summed = sum_none _ ∙ ap (λ k. sum integers k (λ j. coefficients v j *ℤ coefficients v (suc j))) (sym none);
      small = omega (arith, none);
    }

pub loop-pair-preserved : goal.loop-pair-preserved
loop-pair-preserved c =
    let v = c.args.v.now in
    let front = take (length v - 1) v in
    let s = c.loop-pair in
    let inv = s.invariant in
    let i = length front - length (windows_rest s.pair-iterator) in
    let a = c.index-pair-0.result in
    let b = c.index-pair-1.result in
    let h = window_more front s.pair-iterator c.next.new.self _ _ c.in-Some.is c.next.ensures.steps (omega (arith, inv.pairs)) inv.shorter inv.left in
    let long : length front ≡ length v - 1 = simp length-take (omega arith) in
    let more : length front - length (windows_rest c.next.new.self) ≡ i + 1 = omega (arith, h.0, h.2, inv.pairs) in
    let below : i + 2 ≤ length v - 1 = omega (arith, h.2, inv.pairs, inv.shorter, long) in
    let same : i + 0 ≡ i = omega arith in
    let first : a ≡ get_or v i a = c.index-pair-0.is ∙ h.3 0 a (omega (arith, inv.pairs)) ∙ ap (λ k. get_or front k a) same ∙ get_or-take (length v - 1) v i a (omega (arith, below)) in
    let second : b ≡ get_or v (i + 1) b = c.index-pair-1.is ∙ h.3 1 b (omega (arith, inv.pairs)) ∙ get_or-take (length v - 1) v (i + 1) b (omega (arith, below)) in
    let r = sum_more v _ c.neighbours-total.result i a b inv.summed inv.small (omega (arith, below, c.requires)) (omega (arith, below)) first second c.neighbours-total.ensures.value c.neighbours-total.ensures.small in
    record {
      pairs = search rules;
      shorter = omega (arith, h.0, inv.shorter);
      last_stays = omega (arith, more, below, long);
      left = h.1;
      summed = r.0 ∙ ap (λ k. sum integers k (λ j. coefficients v j *ℤ coefficients v (suc j))) (sym more);
      small = omega (arith, more, r.1);
    }
