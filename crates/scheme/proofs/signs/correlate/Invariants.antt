use Rattle.std.proofs.Common.{◌≡◌, suc, ◌-◌, ◌≤◌, length, take, drop, ◌*ℤ◌, nat_abs}
use Rattle.std.specs.Slice.Iter.{windows_size, windows_rest}
use Rattle.algebra.specs.Ring.{integers, sum}
use Rattle.arithmetic.specs.Digits.{coefficients}
use Rattle.scheme.proofs.signs.correlate.Given as goal

-- the windows go over all digits but the last, and `done` of them are summed
abbrev pub invariant-loop-pair : goal.invariant-loop-pair
invariant-loop-pair l =
    let front = take (length l.v - 1) l.v in
    let rest = windows_rest l.pair-iterator in
    let done = length front - length rest in
    record {
      pairs : windows_size l.pair-iterator ≡ 2;
      shorter : length rest ≤ length front;
      last_stays : done ≤ length front - 1;
      left : rest ≡ drop done front;
      summed : l.total ≡ sum integers done (λ k. coefficients l.v k *ℤ coefficients l.v (suc k));
      small : nat_abs l.total ≤ done;
    }
