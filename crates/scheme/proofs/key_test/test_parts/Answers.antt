use Rattle.std.proofs.Common.{◌≡◌, ℕ, ◌-◌, ◌^◌, length, take, refl, ap, ◌∙◌, subst, arith}
use Rattle.std.proofs.lemmas.List.{length-take-le}
use Rattle.algebra.specs.Polynomials.{Balanced}
use Rattle.algebra.specs.Ternary.{Ternary}
use Rattle.arithmetic.specs.Digits.{coefficients}
use Rattle.arithmetic.specs.Products.{integers_of}
use Rattle.arithmetic.specs.Rows.{raised}
use Rattle.arithmetic.proofs.Rooms.{in_room}
use Rattle.scheme.specs.TernaryPolynomials.{ended_digits}
use Rattle.scheme.specs.WordParts.{part_words}
use Rattle.scheme.specs.WordPolynomials.{balanced, padded}
use Rattle.scheme.proofs.RowCounts.{no_rows, some_rows, two_rows, three_rows}
use Rattle.scheme.proofs.SetFacts.{wide}
use Rattle.scheme.proofs.Testing.{f_fails, fp_fails, g_fails, hq_fails, passes}
use Rattle.scheme.proofs.key_test.test_parts.Goals as goal

pub returns-then-not-correlates : goal.returns-then-not-correlates
returns-then-not-correlates g c =
    let set = c.args.set in
    let p = c.args.parts in
    let few = set.length.1 in
    let rows = g.U.RowUnit.rows c.args.unit.now in
    let table = f_fails set.n set.width set.length.0 (wide set) p.f.bytes.now p.fp.bytes.now p.h.bytes.now p.hq.bytes.now c.read_ternary.new.out (ended_digits set.n p.fp.bytes.now) (balanced set.width (part_words set.width (set.n - 1) p.h.bytes.now)) (padded (part_words set.width (set.n - 1) p.hq.bytes.now))
    (in_room _ few) refl refl refl c.read_ternary.ensures.digits refl refl refl
    (c.read_ternary.auto.out ∙ in_room _ few) c.correlates.ensures c.if-not-correlates.true in
    record { answer = table.answer_is; count = no_rows rows (g.met.U.RowUnit.top c.args.unit.now) ∙ ap (λ r. raised r rows) table.rows_are }

pub is_inverse_modulo_3-requires-clause-digits : goal.is_inverse_modulo_3-requires-clause-digits
is_inverse_modulo_3-requires-clause-digits g c = let few = c.args.set.length.1 in (c.read_ternary.auto.out ∙ in_room _ few, c.read_ternary-2.auto.out ∙ in_room _ few)

pub is_inverse_modulo_3-requires-clause-last : goal.is_inverse_modulo_3-requires-clause-last
is_inverse_modulo_3-requires-clause-last g c = subst (λ (k : ℕ). Ternary k (coefficients c.read_ternary-2.new.out)) (in_room _ c.args.set.length.1) c.read_ternary-2.ensures.ternary

pub returns-then-not-is_inverse_modulo_3 : goal.returns-then-not-is_inverse_modulo_3
returns-then-not-is_inverse_modulo_3 g c =
    let set = c.args.set in
    let p = c.args.parts in
    let few = set.length.1 in
    let table = fp_fails set.n set.width set.length.0 (wide set) p.f.bytes.now p.fp.bytes.now p.h.bytes.now p.hq.bytes.now c.read_ternary.new.out c.read_ternary-2.new.out (balanced set.width (part_words set.width (set.n - 1) p.h.bytes.now)) (padded (part_words set.width (set.n - 1) p.hq.bytes.now))
    (in_room _ few) (in_room _ few) refl refl c.read_ternary.ensures.digits c.read_ternary-2.ensures.digits refl refl
    (c.read_ternary.auto.out ∙ in_room _ few) c.correlates.ensures c.if-not-correlates.false c.is_inverse_modulo_3.ensures.answer c.if-not-is_inverse_modulo_3.true in
    record { answer = table.answer_is; count = some_rows set.n (g.U.RowUnit.rows c.args.unit.now) refl c.is_inverse_modulo_3.ensures.count ∙ ap (λ r. raised r (g.U.RowUnit.rows c.args.unit.now)) table.rows_are }

pub has_key_equation-requires-clause-polynomials : goal.has_key_equation-requires-clause-polynomials
has_key_equation-requires-clause-polynomials g c = let few = c.args.set.length.1 in (c.read_balanced.auto.out ∙ in_room _ few, c.read_ternary.auto.out ∙ in_room _ few)

pub has_key_equation-requires-clause-balanced : goal.has_key_equation-requires-clause-balanced
has_key_equation-requires-clause-balanced g c =
    let set = c.args.set in
    subst (λ (k : ℕ). Balanced (2 ^ set.width) k (integers_of c.read_balanced.new.out)) (in_room _ set.length.1) (rw c.bits-width.ensures at c.read_balanced.ensures.sum_zero)

pub returns-then-not-has_key_equation : goal.returns-then-not-has_key_equation
returns-then-not-has_key_equation g c =
    let set = c.args.set in
    let p = c.args.parts in
    let few = set.length.1 in
    let table = g_fails set.n set.width set.length.0 (wide set) p.f.bytes.now p.fp.bytes.now p.h.bytes.now p.hq.bytes.now c.read_ternary.new.out c.read_ternary-2.new.out c.read_balanced.new.out (padded (part_words set.width (set.n - 1) p.hq.bytes.now))
    (in_room _ few) (in_room _ few) (in_room _ few) refl c.read_ternary.ensures.digits c.read_ternary-2.ensures.digits (rw c.bits-width.ensures at c.read_balanced.ensures.words) refl
    (c.read_ternary.auto.out ∙ in_room _ few) c.correlates.ensures c.if-not-correlates.false c.is_inverse_modulo_3.ensures.answer c.if-not-is_inverse_modulo_3.false c.has_key_equation.ensures.answer c.if-not-has_key_equation.true in
    record { answer = table.answer_is; count = two_rows set.n (g.U.RowUnit.rows c.args.unit.now) refl refl c.is_inverse_modulo_3.ensures.count c.has_key_equation.ensures.count ∙ ap (λ r. raised r (g.U.RowUnit.rows c.args.unit.now)) table.rows_are }

pub returns-then-not-is_inverse_modulo_q : goal.returns-then-not-is_inverse_modulo_q
returns-then-not-is_inverse_modulo_q g c =
    let set = c.args.set in
    let front : length (take set.n c.split_at_mut-hq_room.result.0.now) ≡ set.n = length-take-le set.n _ (omega (arith, set.length)) in
    let p = c.args.parts in
    let few = set.length.1 in
    let table = hq_fails set.n set.width set.length.0 (wide set) p.f.bytes.now p.fp.bytes.now p.h.bytes.now p.hq.bytes.now c.read_ternary.new.out c.read_ternary-2.new.out c.read_balanced.new.out c.read_padded.new.out
    (in_room _ few) (in_room _ few) (in_room _ few) front c.read_ternary.ensures.digits c.read_ternary-2.ensures.digits (rw c.bits-width.ensures at c.read_balanced.ensures.words) (rw c.bits-width.ensures at c.read_padded.ensures.words)
    (c.read_ternary.auto.out ∙ in_room _ few) c.correlates.ensures c.if-not-correlates.false c.is_inverse_modulo_3.ensures.answer c.if-not-is_inverse_modulo_3.false c.has_key_equation.ensures.answer c.if-not-has_key_equation.false c.is_inverse_modulo_q.ensures.answer c.if-not-is_inverse_modulo_q.true in
    record { answer = table.answer_is; count = three_rows set.n (g.U.RowUnit.rows c.args.unit.now) refl refl refl c.is_inverse_modulo_3.ensures.count c.has_key_equation.ensures.count c.is_inverse_modulo_q.ensures.count ∙ ap (λ r. raised r (g.U.RowUnit.rows c.args.unit.now)) table.rows_are }

pub returns : goal.returns
returns g c =
    let set = c.args.set in
    let front : length (take set.n c.split_at_mut-hq_room.result.0.now) ≡ set.n = length-take-le set.n _ (omega (arith, set.length)) in
    let p = c.args.parts in
    let few = set.length.1 in
    let table = passes set.n set.width set.length.0 (wide set) p.f.bytes.now p.fp.bytes.now p.h.bytes.now p.hq.bytes.now c.read_ternary.new.out c.read_ternary-2.new.out c.read_balanced.new.out c.read_padded.new.out
    (in_room _ few) (in_room _ few) (in_room _ few) front c.read_ternary.ensures.digits c.read_ternary-2.ensures.digits (rw c.bits-width.ensures at c.read_balanced.ensures.words) (rw c.bits-width.ensures at c.read_padded.ensures.words)
    (c.read_ternary.auto.out ∙ in_room _ few) c.correlates.ensures c.if-not-correlates.false c.is_inverse_modulo_3.ensures.answer c.if-not-is_inverse_modulo_3.false c.has_key_equation.ensures.answer c.if-not-has_key_equation.false c.is_inverse_modulo_q.ensures.answer c.if-not-is_inverse_modulo_q.false in
    record { answer = table.answer_is; count = three_rows set.n (g.U.RowUnit.rows c.args.unit.now) refl refl refl c.is_inverse_modulo_3.ensures.count c.has_key_equation.ensures.count c.is_inverse_modulo_q.ensures.count ∙ ap (λ r. raised r (g.U.RowUnit.rows c.args.unit.now)) table.rows_are }
