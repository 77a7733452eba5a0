use Rattle.scheme.proofs.Working.{digits_times_is}
use Rattle.scheme.proofs.product.digits_times.Goals as goal

pub returns-clause-product : goal.returns-clause-product
returns-clause-product g c = digits_times_is c.args.set.n c.signed_words.new.out c.args.h.now c.product.new.out c.args.r.now c.requires.factors.0 c.signed_words.ensures c.product.ensures.product
