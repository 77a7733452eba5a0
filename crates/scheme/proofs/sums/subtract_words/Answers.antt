use Rattle.std.proofs.Common.{◌≡◌, ◌+◌, ◌-◌, ◌%◌, ◌≤◌, get_or, arith, rules}
use Rattle.algebra.proofs.WordInverses.{word_less}
use Rattle.scheme.proofs.sums.subtract_words.Goals as goal

pub returns : goal.returns
returns c = record {
  at = λ k l.
      let a = get_or c.args.u.now k 0 in
      let b = get_or c.args.v.now k 0 in
      let taken = c.combine.ensures k l in
      let e : get_or c.combine.new.u k 0 ≡ (a + (65536 - b)) % 65536 = search rules in
      let fits : b ≤ 65536 = omega (arith, c.type_inv.v k) in
      rw e (word_less 65536 a b fits);
}
