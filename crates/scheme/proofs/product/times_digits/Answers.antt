use Rattle.scheme.proofs.Working.{times_digits_is}
use Rattle.scheme.proofs.product.times_digits.Goals as goal

pub returns-clause-product : goal.returns-clause-product
returns-clause-product g c = times_digits_is c.args.set.n c.args.c.now c.signed_words.new.out c.product.new.out c.args.f.now c.requires.factors.1 c.signed_words.ensures c.product.ensures.product
