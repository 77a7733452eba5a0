use Rattle.algebra.proofs.Opening.{opened_encrypts}
use Rattle.algebra.proofs.opened_pairs_encrypt.Goals as goal

pub returns : goal.returns
returns c = opened_encrypts
