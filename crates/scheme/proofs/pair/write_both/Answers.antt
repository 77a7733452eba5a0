use Rattle.std.proofs.Common.{◌≡◌, ◌-◌, ◌++◌, length, sym, ap₂, ◌∙◌, subst, arith}
use Rattle.std.proofs.lemmas.List.{take_at}
use Rattle.algebra.specs.Ring.{Agree, integers}
use Rattle.algebra.proofs.Cyclic.{cyclic_laws}
use Rattle.algebra.proofs.Integers.{integer_laws}
use Rattle.arithmetic.specs.Digits.{coefficients}
use Rattle.scheme.proofs.PairRecords.{first_record, second_record}
use Rattle.scheme.proofs.pair.write_both.Goals as goal

pub returns : goal.returns
returns c =
    let set = c.args.coins.set in
    let n = set.n in
    let coins = c.args.coins.bytes.now in
    let r = c.draw_both.new.first in
    let m = c.draw_both.new.second in
    let C = cyclic_laws integer_laws n in
    let long = c.args.coins.all ∙ set.records.2 in
    let lr : length r ≡ n - 0 = omega arith in
    let lm : length m ≡ n - 0 = omega arith in
    let first = subst (λ ds. Agree integers n (coefficients ds) (coefficients r)) (sym (take_at r _ (n - 0) lr)) (C.rfl (coefficients r)) in
    let second = subst (λ ds. Agree integers n (coefficients ds) (coefficients m)) (sym (take_at m _ (n - 0) lm)) (C.rfl (coefficients m)) in
    c.write_pair.ensures (coefficients r) (coefficients m) first second
    ∙ ap₂ ◌++◌ (first_record n coins set.length.0 set.coprime.0 long r c.draw_both.ensures.first) (second_record n coins set.length.0 set.coprime.0 long m c.draw_both.ensures.second)
