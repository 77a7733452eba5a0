use Rattle.std.proofs.Common.{◌≡◌, ◌+◌, ◌%◌, get_or, rules}
use Rattle.algebra.proofs.WordLoops.{word_plus}
use Rattle.scheme.proofs.sums.add_words.Goals as goal

pub returns : goal.returns
returns c = record {
  at = λ k l.
      let a = get_or c.args.u.now k 0 in
      let b = get_or c.args.v.now k 0 in
      let added = c.combine.ensures k l in
      let e : get_or c.combine.new.u k 0 ≡ (a + b) % 65536 = search rules in
      rw e (word_plus 65536 a b);
}
