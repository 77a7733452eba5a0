use Rattle.std.proofs.Common.{refl, arith}
use Rattle.arithmetic.specs.Rows.{row_sum}
use Rattle.arithmetic.proofs.RowSums.{rest_more}
use Rattle.arithmetic.proofs.rows.word_by_word.add_words.Goals as goal

pub returns : goal.returns
unfolding row_sum
returns c =
    let out = c.args.out.now in
    let last = c.add_vectors-done-3 in
    let words = last.ensures.words out (c.add_vectors-done-2.ensures.words out (c.add_vectors-done.ensures.words out refl)) in
    record {
      words =
          rest_more 65536 c.args.factor last.result c.args.list.now out last.new.out c.add_singly.new.out last.ensures.within c.requires.same_length (omega arith)
          words c.add_singly.ensures.words;
    }
