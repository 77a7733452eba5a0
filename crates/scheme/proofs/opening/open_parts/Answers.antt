use Rattle.std.proofs.Common.{◌≡◌, ℕ, length, take, refl, ◌∙◌, subst, arith}
use Rattle.std.proofs.lemmas.List.{length-take-le}
use Rattle.algebra.specs.Ternary.{Ternary}
use Rattle.arithmetic.specs.Digits.{coefficients}
use Rattle.scheme.proofs.OkOr.{handed_on}
use Rattle.scheme.proofs.Records.{none_opened, pair_opened}
use Rattle.arithmetic.proofs.Rooms.{in_room}
use Rattle.scheme.proofs.opening.open_parts.Goals as goal

pub find_m-requires-clause-polynomials : goal.find_m-requires-clause-polynomials
find_m-requires-clause-polynomials g c =
    let few = c.args.set.length.1 in
    (c.read_balanced.auto.out ∙ in_room _ few, (c.read_ternary.auto.out ∙ in_room _ few, (c.read_ternary-2.auto.out ∙ in_room _ few, in_room _ few)))

pub find_m-requires-clause-last : goal.find_m-requires-clause-last
find_m-requires-clause-last g c = subst (λ (k : ℕ). Ternary k (coefficients c.read_ternary-2.new.out)) (in_room _ c.args.set.length.1) c.read_ternary-2.ensures.ternary

pub find_r-requires-clause-digits : goal.find_r-requires-clause-digits
find_r-requires-clause-digits g c = let few = c.args.set.length.1 in (c.find_m.auto.m ∙ in_room _ few, c.find_m.auto.a ∙ in_room _ few)

pub returns-in_err-find_r-clause-opened : goal.returns-in_err-find_r-clause-opened
returns-in_err-find_r-clause-opened g c =
    let set = c.args.set in
    let front : length (take set.n c.split_at_mut-hq_room.result.0.now) ≡ set.n = length-take-le set.n _ (omega (arith, set.length)) in
    let n = set.n in
    let w = set.width in
    let p = c.args.parts in
    let few = set.length.1 in
    let said = c.in_err-find_r.ensures.factor in
    handed_on _ _ c.from_residual.result c.in_err-find_r.field-0.0 c.from_residual.ensures (
      none_opened n w p.f.bytes.now p.fp.bytes.now p.hq.bytes.now c.args.sealed.now c.read_ternary.new.out c.read_ternary-2.new.out c.find_m.new.m c.read_balanced.new.out c.read_padded.new.out
          (omega (arith, set.length)) (in_room _ few) (in_room _ few) (in_room _ few) front
          c.read_ternary.ensures.digits c.read_ternary-2.ensures.digits (rw c.bits-width.ensures at c.read_balanced.ensures.words) (rw c.bits-width.ensures at c.read_padded.ensures.words) c.find_m.ensures.message said.0,
      said.1,
      refl,
    )

pub write_pair-requires-clause-digits : goal.write_pair-requires-clause-digits
write_pair-requires-clause-digits g c = let few = c.args.set.length.1 in (c.find_r.auto.r ∙ c.find_m.auto.a ∙ in_room _ few, c.find_m.auto.m ∙ in_room _ few)

pub returns-clause-opened : goal.returns-clause-opened
returns-clause-opened g c =
    let set = c.args.set in
    let front : length (take set.n c.split_at_mut-hq_room.result.0.now) ≡ set.n = length-take-le set.n _ (omega (arith, set.length)) in
    let p = c.args.parts in
    let few = set.length.1 in
    let said = c.in_ok-find_r.ensures.factor in
    pair_opened set.n set.width p.f.bytes.now p.fp.bytes.now p.hq.bytes.now c.args.sealed.now c.read_ternary.new.out c.read_ternary-2.new.out c.find_m.new.m c.read_balanced.new.out c.read_padded.new.out
    (omega (arith, set.length)) (in_room _ few) (in_room _ few) (in_room _ few) front
    c.read_ternary.ensures.digits c.read_ternary-2.ensures.digits (rw c.bits-width.ensures at c.read_balanced.ensures.words) (rw c.bits-width.ensures at c.read_padded.ensures.words) c.find_m.ensures.message
    c.find_r.new.r said.0 said.1 c.write_pair.new.pair c.write_pair.ensures
