use Rattle.std.proofs.Common.{◌≡◌, MatchResult, ◌∙◌}
use Rattle.algebra.specs.Sets.{Set}
use Rattle.scheme.specs.declared.refusal.Refusal.TheVariants.{NotInvertible}
use Rattle.scheme.specs.Making.{CardOf, NoCard}
use Rattle.scheme.specs.Sets.{length_of, width_of}
use Rattle.scheme.proofs.Makings.{card_answers}
use Rattle.scheme.proofs.SetFacts.{at_set, facts, card_size, coin_size}
use Rattle.scheme.proofs.making.make_drawn.Goals as goal

pub returns : goal.returns
returns g c =
    let set = c.in_ok-set.set in
    let found = c.in_ok-set.ensures in
    let N = length_of c.args.set in
    let W = width_of c.args.set in
    let coins = c.args.coins.now in
    let out = c.args.out.now in
    let en : set.n ≡ N = found.1 in
    let ew : set.width ≡ W = found.2 in
    let all = c.in_ok-coins.ensures in
    let answer = c.make_card.result in
    let after = c.make_card.new.out in
    let made = at_set (λ n w. MatchResult answer (λ _. CardOf n w coins after) (λ e. NoCard n w coins × ((after ≡ out) × (e ≡ NotInvertible)))) en ew (rw (all.1, all.2) at c.make_card.ensures.made) in
    let done = card_answers c.args.set coins out found.0 (all.0 ∙ coin_size set N W en ew) (c.if-out-set.false ∙ card_size set N W en ew) (at_set Set en ew (facts set)) answer after made in
    record { answer = done.0; output = done.1; count = c.make_card.ensures.count }
