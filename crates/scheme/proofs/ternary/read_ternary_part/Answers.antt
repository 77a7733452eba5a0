use Rattle.std.proofs.Common.{length, sym, subst}
use Rattle.scheme.specs.TernaryParts.{TakesDigits}
use Rattle.scheme.proofs.TernaryDigits.{takes_each}
use Rattle.scheme.proofs.ternary.read_ternary_part.Goals as goal

pub returns-clause-digit_by_digit : goal.returns-clause-digit_by_digit
returns-clause-digit_by_digit c _ = subst (TakesDigits c.args.bytes.now) (sym c.unpack.ensures) (takes_each (length c.args.out.now) c.args.bytes.now)
