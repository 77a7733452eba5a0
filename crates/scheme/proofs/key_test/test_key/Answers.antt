use Rattle.scheme.proofs.Exacts.{tested_exactly, tests_tell}
use Rattle.scheme.proofs.key_test.test_key.Goals as goal

pub returns : goal.returns
returns g c =
    let said = c.test_card.ensures in
    record {
      answer = said.answer;
      count = said.count;
      taken_exactly_when_a_key = tested_exactly c.args.set c.args.card.now c.test_card.result said.answer;
      tests_tell = tests_tell c.args.set c.args.card.now;
    }
