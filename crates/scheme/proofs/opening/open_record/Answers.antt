use Rattle.scheme.proofs.Exacts.{opens_exactly}
use Rattle.scheme.proofs.opening.open_record.Goals as goal

pub returns : goal.returns
returns g c =
    let said = c.open_card.ensures in
    record {
      answer = said.answer;
      output = said.output;
      count = said.count;
      no_pair_exactly_when_none_encrypts = λ key ls lo. opens_exactly c.args.set c.args.card.now c.args.sealed.now key c.args.pair.now ls lo c.open_card.result c.open_card.new.pair said.answer said.output;
    }
