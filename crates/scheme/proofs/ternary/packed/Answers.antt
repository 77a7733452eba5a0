use Rattle.std.proofs.Common.{ap, ◌∙◌, arith}
use Rattle.scheme.proofs.Numerals.{numeral_none}
use Rattle.scheme.proofs.TernaryDigits.{byte_more}
use Rattle.scheme.proofs.ternary.packed.Goals as goal

pub loop-i-init : goal.loop-i-init
loop-i-init c = numeral_none 3

pub overflow_add-byte : goal.overflow_add-byte
overflow_add-byte c =
    let s = c.loop-i in
    record { fits = (byte_more c.args.five.now s.i s.byte c.code.result c.index-five-i.result c.requires (omega arith) (c.code.ensures.written_code ∙ ap (λ d. d.code) c.index-five-i.is) s.invariant).0 }

pub loop-i-preserved : goal.loop-i-preserved
loop-i-preserved c =
    let s = c.loop-i in
    (byte_more c.args.five.now s.i s.byte c.code.result c.index-five-i.result c.requires (omega arith) (c.code.ensures.written_code ∙ ap (λ d. d.code) c.index-five-i.is) s.invariant).1
