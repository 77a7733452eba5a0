use Rattle.std.proofs.Common.{rules}
use Rattle.scheme.proofs.CoinDigits.{table_read}
use Rattle.scheme.proofs.coins.coin_digit.Goals as goal

pub returns : goal.returns
returns c = search (rules, table_read)
