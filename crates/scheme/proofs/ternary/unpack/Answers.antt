use Rattle.std.proofs.Common.{◌≡◌, ◌+◌, ◌/◌, ◌≤◌, ◌%◌, ◌^◌, ◌<◌, ◌≢◌, length, get_or, sym, refl, ◌∙◌, arith, below_more, get_or-set_other, get_or-set_same}
use Rattle.std.proofs.lemmas.List.{ext_get_or}
use Rattle.arithmetic.specs.Digits.{digit}
use Rattle.arithmetic.proofs.Digits.{same_digit}
use Rattle.scheme.specs.TernaryParts.{ternary_digits}
use Rattle.scheme.proofs.TernaryDigits.{takes_each, length_ternary, first_digit, next_digit}
use Rattle.scheme.proofs.ternary.unpack.Goals as goal
use Rattle.scheme.proofs.ternary.unpack.Goals.{then-left-eq0, else-left-eq0}

pub loop-i-preserved : goal.loop-i-preserved
loop-i-preserved c =
    let s = c.loop-i in
    let bytes = c.args.bytes.now in
    let r : (c.if-left-eq0.rest ≡ get_or bytes (s.i / 5) 0 / 3 ^ (s.i % 5)) × ((s.i + c.if-left-eq0.left) % 5 ≡ 0) × (0 < c.if-left-eq0.left) × (c.if-left-eq0.left ≤ 5) =
    elim c.if-left-eq0.branch [
      | then-left-eq0 w ↦ (w.rest-is ∙ first_digit bytes s.i (omega arith), omega arith, omega arith, omega arith)
      | else-left-eq0 w ↦ (w.rest-is ∙ s.invariant.3 (omega arith), omega arith, omega arith, omega arith)
    ] in (
      below_more _ _
          (λ k h. let ne : k ≢ s.i = omega arith in rw get_or-set_other (s.invariant.0 k h))
          (let lt : s.i < length s.out = omega arith in rw (get_or-set_same, c.from-in-loop-i.ensures, c.from.ensures, r.0) refl),
      omega arith,
      omega arith,
      λ h. next_digit bytes s.i c.if-left-eq0.rest r.0 (omega arith),
    )

pub returns : goal.returns
returns c =
    let s = c.loop-i in
    let n = length c.args.out.now in
    let bytes = c.args.bytes.now in
    ext_get_or (digit 0) s.out (ternary_digits n bytes) (s.auto.out ∙ sym (length_ternary n bytes)) (λ k h.
    same_digit _ _ (s.invariant.0 k (omega arith) ∙ sym ((takes_each n bytes).each k (omega (arith, length_ternary n bytes)))))
