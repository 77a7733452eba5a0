use Rattle.scheme.proofs.Exacts.{made_cards_are_keys, no_other_card}
use Rattle.scheme.proofs.job.Job.make.Goals as goal

pub returns-clause-made_cards_are_keys : goal.returns-clause-made_cards_are_keys
returns-clause-made_cards_are_keys g c =
    let said = c.make_drawn.ensures in
    made_cards_are_keys c.args.set c.args.self.coins.now c.args.out.now c.make_drawn.new.out c.make_drawn.result said.answer said.output

pub returns-clause-no_other_card : goal.returns-clause-no_other_card
returns-clause-no_other_card g c =
    let said = c.make_drawn.ensures in
    no_other_card c.args.set c.args.self.coins.now c.args.out.now c.make_drawn.new.out c.make_drawn.result said.answer said.output
