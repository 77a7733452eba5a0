use Rattle.std.proofs.Common.{◌≡◌, length, get_or, sym, ap, ◌∙◌, arith}
use Rattle.std.proofs.lemmas.List.FromFn.{fill_by_all}
use Rattle.std.proofs.lemmas.List.{get_or-set_same, get_or-set_other, get_or_read}
use Rattle.arithmetic.specs.Digits.{digit, negated}
use Rattle.arithmetic.proofs.Digits.{negation_is}
use Rattle.scheme.specs.Signs.{flipped_at}
use Rattle.scheme.proofs.DrawnSigns.{flip_even, flip_odd, flip_more}
use Rattle.scheme.proofs.signs.flip_signs.Goals as goal
use Rattle.scheme.proofs.signs.flip_signs.Goals.{then-i-eq0, else-i-eq0}

pub loop-i-preserved : goal.loop-i-preserved
loop-i-preserved c =
    let s = c.loop-i in
    let entry = c.args.v.now in
    let i = s.i in
    let r = c.index-v-i.result in
    let d = get_or s.v i r in
    let was : d ≡ get_or entry i (digit 0) = sym c.index-v-i.is ∙ get_or_read s.v i r (omega arith) c.index-v-i.is (digit 0) ∙ s.invariant.1 i (omega arith) in
    elim c.if-i-eq0.branch [
      | then-i-eq0 w ↦
          let x = w.negation.result in
          let same : x ≡ flipped_at entry i = negation_is d x w.negation.ensures.negates ∙ ap negated was ∙ sym (flip_even entry i w.if-i-eq0.true) in
          flip_more s.v _ entry i s.invariant (λ k ne. ap (λ xs. get_or xs k (digit 0)) w.v-is ∙ get_or-set_other s.v i k x (digit 0) ne)
          (ap (λ xs. get_or xs i (digit 0)) w.v-is ∙ get_or-set_same s.v i x (digit 0) (omega arith) ∙ same)
      | else-i-eq0 w ↦
          flip_more s.v _ entry i s.invariant (λ k ne. ap (λ xs. get_or xs k (digit 0)) w.v-is ∙ get_or-set_other s.v i k d (digit 0) ne)
          (ap (λ xs. get_or xs i (digit 0)) w.v-is ∙ get_or-set_same s.v i d (digit 0) (omega arith) ∙ was ∙ sym (flip_odd entry i w.if-i-eq0.false))
    ]

pub returns : goal.returns
returns c =
    let s = c.loop-i in
    fill_by_all (flipped_at c.args.v.now) s.v (length c.args.v.now) (digit 0) s.auto.v (λ k h. s.invariant.0 k (omega arith))
