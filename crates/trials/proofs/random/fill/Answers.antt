use Rattle.std.proofs.Common.{◌≡◌, ◌<◌, ◌≢◌, length, arith, get_or-set_other, get_or-set_same, below_more, sym}
use Rattle.rand_xoshiro.specs.SplitMix64.{mix_u64}
use Rattle.trials.specs.Numbers.{state_after}
use Rattle.trials.proofs.Numbers.{number_drawn, state_drawn, none_drawn}
use Rattle.trials.proofs.random.fill.Goals as goal

pub loop-x-init : goal.loop-x-init
loop-x-init g c = record { numbers = λ k h d. absurd (omega arith); state = none_drawn _ }

pub loop-x-preserved : goal.loop-x-preserved
loop-x-preserved g c =
    let s = c.args.random.now in
    let k = c.loop-x.x-index in
    let x = c.next_word.result in
    let t = c.next_word.new.self in
    let e : (x, t) ≡ mix_u64 (state_after s k) = rw c.loop-x.invariant.state at c.next_word.ensures in
    record {
      numbers = below_more _ _
          (λ k h d. let ne : k ≢ c.loop-x.x-index = omega arith in rw get_or-set_other (c.loop-x.invariant.numbers k h d))
          (λ d. let lt : c.loop-x.x-index < length c.loop-x.out = omega arith in rw (get_or-set_same, sym (number_drawn s k x t e)) c.shown.ensures);
      state = state_drawn s k x t e;
    }

pub returns : goal.returns
returns g c =
    let e : c.loop-x.x-index ≡ length c.args.out.now = omega arith in
    record { numbers = λ k h. c.loop-x.invariant.numbers k (omega arith); state = rw e at c.loop-x.invariant.state }
