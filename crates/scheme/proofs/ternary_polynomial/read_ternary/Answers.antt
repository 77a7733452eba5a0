use Rattle.std.proofs.Common.{refl}
use Rattle.scheme.proofs.Records.{ended_written}
use Rattle.scheme.proofs.ternary_polynomial.read_ternary.Goals as goal

pub returns-clause-digits : goal.returns-clause-digits
returns-clause-digits c = ended_written c.args.bytes.now c.args.out.now c.unpack.new.out _ c.requires.some c.unpack.ensures refl
