use Rattle.std.proofs.Common.{◌≡◌, ℕ, List, length, sym, refl, subst₂, arith, MatchOption}
use Rattle.euclid.specs.Series.{poly}
use Rattle.euclid.specs.Inverses.{Inverted, NoInverse}
use Rattle.euclid.specs.Method.{Ended, Reached}
use Rattle.euclid.proofs.Method.{reached_start, reached_more}
use Rattle.arithmetic.proofs.inverse.euclid.Goals as goal

pub loop-low-init : goal.loop-low-init
loop-low-init g c =
    let F = g.F.Ring in
    let p = poly F.ring F.value in
    record {
      inverse_kept = refl;
      lengths = (refl, (omega (arith, c.requires.lengths), (omega (arith, c.requires.lengths), omega (arith, c.requires.lengths))));
      reached = reached_start F.laws (length c.args.r.now) (p c.args.s.now) (p c.args.r.now) (p c.args.t.now) (p c.args.v.now) c.significant-size.result
          (omega (arith, c.requires.lengths)) c.requires.modulus c.requires.factors.0 c.requires.factors.1 c.significant-size.ensures.size (omega (arith, c.significant-size.ensures.within, c.requires.lengths));
    }

pub conclude-requires : goal.conclude-requires
conclude-requires g c =
    let F = g.F.Ring in
    let o = F.ring in
    let p = poly o F.value in
    let R =
    reached_more F.laws (length c.args.r.now) (p c.args.s.now) (p c.loop-low.high.rest.now) (p c.loop-low.low.rest.now) (p c.loop-low.high.factor.now) (p c.loop-low.low.factor.now) (p c.reduce.new.self.rest.now) (p c.reduce.new.self.factor.now) c.loop-low.high.size c.loop-low.low.size c.reduce.new.self.size
    c.loop-low-test.true c.loop-low.invariant.reached c.reduce.ensures.taken c.reduce.ensures.rest c.reduce.ensures.shorter in
    let n_is : length c.args.r.now ≡ length c.loop-low.low.rest.now = omega (arith, c.requires.lengths) in
    let none : c.reduce.new.self.size ≡ 0 = omega arith in
    record {
      lengths = (omega (arith, c.requires.lengths), (omega (arith, c.requires.lengths), omega (arith, c.requires.lengths)));
      ended = (p c.args.s.now, (p c.reduce.new.self.rest.now, p c.reduce.new.self.factor.now, subst₂ (λ i k. Reached o i (p c.args.s.now) (p c.loop-low.low.rest.now) (p c.reduce.new.self.rest.now) (p c.loop-low.low.factor.now) (p c.reduce.new.self.factor.now) c.loop-low.low.size k) n_is none R));
    }

pub returns-then-high-eq0 : goal.returns-then-high-eq0
returns-then-high-eq0 g c = record {
  inverse_or_none =
      let F = g.F.Ring in
      let o = F.ring in
      let p = poly o F.value in
      let R =
      reached_more F.laws (length c.args.r.now) (p c.args.s.now) (p c.loop-low.high.rest.now) (p c.loop-low.low.rest.now) (p c.loop-low.high.factor.now) (p c.loop-low.low.factor.now) (p c.reduce.new.self.rest.now) (p c.reduce.new.self.factor.now) c.loop-low.high.size c.loop-low.low.size c.reduce.new.self.size
      c.loop-low-test.true c.loop-low.invariant.reached c.reduce.ensures.taken c.reduce.ensures.rest c.reduce.ensures.shorter in
      let n_is : length c.args.r.now ≡ length c.loop-low.low.rest.now = omega (arith, c.requires.lengths) in
      let none : c.reduce.new.self.size ≡ 0 = omega arith in
      let E : Ended o (length c.loop-low.low.rest.now) (p c.args.s.now) (p c.loop-low.low.rest.now) (p c.loop-low.low.factor.now) c.loop-low.low.size =
      (p c.reduce.new.self.rest.now, p c.reduce.new.self.factor.now, subst₂ (λ i k. Reached o i (p c.args.s.now) (p c.loop-low.low.rest.now) (p c.reduce.new.self.rest.now) (p c.loop-low.low.factor.now) (p c.reduce.new.self.factor.now) c.loop-low.low.size k) n_is none R) in
      subst₂ (λ (i : ℕ) (xs : List g.row.F.Denot). MatchOption c.conclude.result (NoInverse o i (p c.args.s.now) × (c.conclude.new.inverse ≡ xs)) (λ degree. Inverted o i (p c.args.s.now) (p c.conclude.new.inverse) degree)) (sym n_is) c.loop-low.invariant.inverse_kept (c.conclude.ensures.concluded (p c.args.s.now) E);
}

pub reduce-requires-in-loop-low : goal.reduce-requires-in-loop-low
reduce-requires-in-loop-low g c =
    let F = g.F.Ring in
    let p = poly F.ring F.value in
    let R =
    reached_more F.laws (length c.args.r.now) (p c.args.s.now) (p c.loop-low.high.rest.now) (p c.loop-low.low.rest.now) (p c.loop-low.high.factor.now) (p c.loop-low.low.factor.now) (p c.reduce.new.self.rest.now) (p c.reduce.new.self.factor.now) c.loop-low.high.size c.loop-low.low.size c.reduce.new.self.size
    c.loop-low-test.true c.loop-low.invariant.reached c.reduce.ensures.taken c.reduce.ensures.rest c.reduce.ensures.shorter in
    record {
      lengths = (omega (arith, c.requires.lengths), (omega (arith, c.requires.lengths), omega (arith, c.requires.lengths)));
      sizes = (omega arith, (R.falls, omega (arith, R.most, c.requires.lengths)));
      dividend = R.size;
      divisor = R.rest;
      bound = λ i h. R.bound_next i (omega (arith, c.requires.lengths));
    }

pub loop-low-preserved : goal.loop-low-preserved
loop-low-preserved g c =
    let F = g.F.Ring in
    let p = poly F.ring F.value in
    let R =
    reached_more F.laws (length c.args.r.now) (p c.args.s.now) (p c.loop-low.high.rest.now) (p c.loop-low.low.rest.now) (p c.loop-low.high.factor.now) (p c.loop-low.low.factor.now) (p c.reduce.new.self.rest.now) (p c.reduce.new.self.factor.now) c.loop-low.high.size c.loop-low.low.size c.reduce.new.self.size
    c.loop-low-test.true c.loop-low.invariant.reached c.reduce.ensures.taken c.reduce.ensures.rest c.reduce.ensures.shorter in
    record {
      inverse_kept = c.loop-low.invariant.inverse_kept;
      lengths = (omega arith, (omega arith, (omega arith, omega arith)));
      reached = reached_more F.laws (length c.args.r.now) (p c.args.s.now) (p c.loop-low.low.rest.now) (p c.reduce.new.self.rest.now) (p c.loop-low.low.factor.now) (p c.reduce.new.self.factor.now) (p c.reduce-in-loop-low.new.self.rest.now) (p c.reduce-in-loop-low.new.self.factor.now) c.loop-low.low.size c.reduce.new.self.size c.reduce-in-loop-low.new.self.size
          (omega arith) R c.reduce-in-loop-low.ensures.taken c.reduce-in-loop-low.ensures.rest c.reduce-in-loop-low.ensures.shorter;
    }

pub conclude-requires-2 : goal.conclude-requires-2
conclude-requires-2 g c =
    let F = g.F.Ring in
    let o = F.ring in
    let p = poly o F.value in
    let n_is : length c.args.r.now ≡ length c.loop-low.high.rest.now = omega arith in
    let none : c.loop-low.low.size ≡ 0 = omega arith in
    record {
      lengths = (omega (arith, c.requires.lengths), (omega (arith, c.requires.lengths), omega (arith, c.requires.lengths)));
      ended = (p c.args.s.now, (p c.loop-low.low.rest.now, p c.loop-low.low.factor.now, subst₂ (λ i k. Reached o i (p c.args.s.now) (p c.loop-low.high.rest.now) (p c.loop-low.low.rest.now) (p c.loop-low.high.factor.now) (p c.loop-low.low.factor.now) c.loop-low.high.size k) n_is none c.loop-low.invariant.reached));
    }

pub returns : goal.returns
returns g c = record {
  inverse_or_none =
      let F = g.F.Ring in
      let o = F.ring in
      let p = poly o F.value in
      let n_is : length c.args.r.now ≡ length c.loop-low.high.rest.now = omega arith in
      let none : c.loop-low.low.size ≡ 0 = omega arith in
      let E : Ended o (length c.loop-low.high.rest.now) (p c.args.s.now) (p c.loop-low.high.rest.now) (p c.loop-low.high.factor.now) c.loop-low.high.size =
      (p c.loop-low.low.rest.now, p c.loop-low.low.factor.now, subst₂ (λ i k. Reached o i (p c.args.s.now) (p c.loop-low.high.rest.now) (p c.loop-low.low.rest.now) (p c.loop-low.high.factor.now) (p c.loop-low.low.factor.now) c.loop-low.high.size k) n_is none c.loop-low.invariant.reached) in
      subst₂ (λ (i : ℕ) (xs : List g.row.F.Denot). MatchOption c.conclude-2.result (NoInverse o i (p c.args.s.now) × (c.conclude-2.new.inverse ≡ xs)) (λ degree. Inverted o i (p c.args.s.now) (p c.conclude-2.new.inverse) degree)) (sym n_is) c.loop-low.invariant.inverse_kept (c.conclude-2.ensures.concluded (p c.args.s.now) E);
}
