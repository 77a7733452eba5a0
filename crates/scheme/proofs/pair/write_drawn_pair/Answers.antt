use Rattle.std.proofs.Common.{◌≡◌, sym, ◌∙◌, subst}
use Rattle.scheme.specs.Pairs.{pair_record, HoldsPair}
use Rattle.scheme.proofs.PairRecords.{holds_pair}
use Rattle.scheme.proofs.pair.write_drawn_pair.Goals as goal

pub returns-clause-digit_by_digit : goal.returns-clause-digit_by_digit
returns-clause-digit_by_digit c _ =
    let coins = c.args.coins.now in
    let set = c.in_ok-set.set in
    let all = c.in_ok-coins.ensures in
    let written : c.write_both.new.out ≡ pair_record set.n coins = rw (all.1, all.2) at c.write_both.ensures in
    let holds : HoldsPair set.n coins c.write_both.new.out =
    subst (HoldsPair set.n coins) (sym written) (holds_pair set.n coins set.length.0 set.coprime.0 (all.0 ∙ set.records.2)) in
    subst (λ k. HoldsPair k coins c.write_both.new.out) c.in_ok-set.ensures.1 holds
