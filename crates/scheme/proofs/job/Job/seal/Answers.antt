use Rattle.scheme.proofs.Exacts.{sealed_records_open}
use Rattle.scheme.proofs.job.Job.seal.Goals as goal

pub returns-clause-sealed_records_open : goal.returns-clause-sealed_records_open
returns-clause-sealed_records_open g c =
    let said = c.seal_drawn.ensures in
    sealed_records_open c.args.set c.args.card.now c.args.self.coins.now c.args.out.now c.seal_drawn.new.out c.seal_drawn.result said.answer said.output
