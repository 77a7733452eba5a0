use Rattle.std.proofs.Common.{length, sym, ap, ◌∙◌, subst}
use Rattle.scheme.specs.TernaryParts.{HoldsDigits, ternary_digits}
use Rattle.scheme.proofs.TernaryDigits.{holds_each, reads_back}
use Rattle.scheme.proofs.ternary.write_ternary_part.Goals as goal

pub returns-clause-digit_by_digit : goal.returns-clause-digit_by_digit
returns-clause-digit_by_digit c _ = subst (HoldsDigits c.args.digits.now) (sym c.pack.ensures) (holds_each c.args.digits.now)

pub returns-clause-reads_back : goal.returns-clause-reads_back
returns-clause-reads_back c _ = ap (ternary_digits (length c.args.digits.now)) c.pack.ensures ∙ reads_back c.args.digits.now
