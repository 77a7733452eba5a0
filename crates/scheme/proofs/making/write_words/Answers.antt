use Rattle.std.proofs.Common.{◌^◌, ◌++◌, ◌∙◌, ap₂, arith}
use Rattle.algebra.proofs.Cyclic.{cyclic_laws}
use Rattle.algebra.proofs.Integers.{mod_laws}
use Rattle.arithmetic.specs.Products.{integers_of}
use Rattle.scheme.proofs.Records.{word_record_is}
use Rattle.scheme.proofs.making.write_words.Goals as goal

pub returns : goal.returns
returns c =
    let set = c.args.set in
    let n = set.n in
    let w = set.width in
    let C = cyclic_laws (mod_laws (2 ^ w)) n in
    let h = c.args.h.now in
    let hq = c.args.hq.now in
    let first = (rw c.bits-width.ensures at c.write_all_but_last.ensures.output) ∙ word_record_is n w h (integers_of h) (omega arith) (C.rfl (integers_of h)) in
    let second = (rw c.bits-width.ensures at c.write_all_but_last-2.ensures.output) ∙ word_record_is n w hq (integers_of hq) (omega arith) (C.rfl (integers_of hq)) in
    ap₂ ◌++◌ first second
