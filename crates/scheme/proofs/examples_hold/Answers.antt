use Rattle.std.proofs.Common.{refl}
use Rattle.algebra.specs.Radix.{digits, numeral}
use Rattle.algebra.specs.Ring.{sum_by}
use Rattle.scheme.specs.Examples.{SettledSigns, PairOfCoins}
use Rattle.scheme.proofs.examples_hold.Goals as goal

settled_signs : SettledSigns
unfolding sum_by
settled_signs = refl

pair_of_coins : PairOfCoins
unfolding digits numeral
pair_of_coins = refl

pub returns : goal.returns
returns c = record { coin_halves = refl; settled_signs = settled_signs; pair_of_coins = pair_of_coins }
