use Rattle.std.proofs.Common.{◌≡◌, arith, rules, of_calls}
use Rattle.trials.proofs.Turns.{no_runs, runs_once_more}
use Rattle.trials.proofs.time.best_of.Goals as goal

pub loop-turn-init : goal.loop-turn-init
loop-turn-init g c = record { draw = c.requires.draw; step = c.requires.step; each_turn = no_runs _ _; no_turns = λ z. search rules }

pub loop-turn-preserved : goal.loop-turn-preserved
loop-turn-preserved g c = record {
  draw = search of_calls;
  step = search of_calls;
  each_turn = runs_once_more _ _ _ _ _ c.loop-turn.invariant.each_turn (c.draw-drawn.result, c.draw-drawn.ensures, rw c.in_ok-answer.was at c.step-answer.ensures);
  no_turns = λ z. omega arith;
}

pub returns : goal.returns
returns g c =
    let e : c.loop-turn.turn ≡ c.args.turns = omega arith in
    record {
      each_turn = (c.loop-turn.draw, c.loop-turn.step, rw e at c.loop-turn.invariant.each_turn);
      no_turns = λ z. c.loop-turn.invariant.no_turns (omega arith);
    }
