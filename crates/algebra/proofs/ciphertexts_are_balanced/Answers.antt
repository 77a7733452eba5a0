use Rattle.algebra.proofs.Opening.{ciphertext_balanced}
use Rattle.algebra.proofs.ciphertexts_are_balanced.Goals as goal

pub returns : goal.returns
returns c = ciphertext_balanced
