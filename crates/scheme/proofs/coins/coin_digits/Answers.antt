use Rattle.std.proofs.Common.{◌/◌, ◌%◌, sym, subst, arith}
use Rattle.scheme.specs.Coins.{ByTheRule}
use Rattle.scheme.proofs.CoinDigits.{by_the_rule}
use Rattle.scheme.proofs.coins.coin_digits.Goals as goal

pub returns-clause-four_bit_rule : goal.returns-clause-four_bit_rule
returns-clause-four_bit_rule c =
    let byte = c.args.byte in (
      subst (ByTheRule (byte % 16)) (sym c.coin_digit.ensures) (by_the_rule (byte % 16) (omega arith)),
      subst (ByTheRule (byte / 16)) (sym c.coin_digit-2.ensures) (by_the_rule (byte / 16) (omega arith)),
    )
