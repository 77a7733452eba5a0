use Rattle.std.proofs.Common.{◌≡◌, ◌*◌, ◌++◌, take, drop}
use Rattle.scheme.specs.Coins.{coin_list}
use Rattle.scheme.proofs.coins.draw.Given as goal

abbrev pub invariant-loop-i : goal.invariant-loop-i
invariant-loop-i l = take (2 * l.i) l.out ++ coin_list (drop l.i l.coins) ≡ coin_list l.coins
