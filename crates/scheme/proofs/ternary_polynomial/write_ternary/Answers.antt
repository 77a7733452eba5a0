use Rattle.std.proofs.Common.{◌≡◌, ◌-◌, length, take, ap, ◌∙◌, arith}
use Rattle.scheme.specs.TernaryParts.{ternary_part}
use Rattle.scheme.proofs.Records.{ternary_record_is}
use Rattle.scheme.proofs.ternary_polynomial.write_ternary.Goals as goal

pub returns : goal.returns
returns c u h =
    let ds = c.args.polynomial.now in
    let front : length ds - 1 - 0 ≡ length ds - 1 = omega arith in
    c.pack.ensures ∙ ap (λ k. ternary_part (take k ds)) front ∙ ternary_record_is ds u h
