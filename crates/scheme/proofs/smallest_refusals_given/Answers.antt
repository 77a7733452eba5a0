use Rattle.std.proofs.Common.{arith}
use Rattle.scheme.proofs.Verdicts.{smallest}
use Rattle.scheme.proofs.smallest_refusals_given.Goals as goal

pub returns : goal.returns
returns c = record {
  smallest_number = record {
    pair = λ set coins out. smallest _ ((omega arith, (omega arith, tt)), ((omega arith, tt), (tt, tt)));
    draw = λ n coins first second. smallest _ ((omega arith, tt), (tt, tt));
    ternary_written = λ count out. smallest _ (tt, tt);
    ternary_read = λ count bytes. smallest _ ((omega arith, tt), (tt, tt));
    words_written = λ w count out. smallest _ ((omega arith, tt), (tt, tt));
    words_read = λ w count bytes. smallest _ (tt, tt);
    made = λ set coins out absent. smallest _ ((omega arith, (omega arith, (omega arith, tt))), ((omega arith, (omega arith, tt)), ((omega arith, tt), (tt, tt))));
    sealed = λ set card coins out. smallest _ ((omega arith, (omega arith, tt)), ((omega arith, tt), (tt, tt)));
    opened = λ set card bytes out. smallest _ ((omega arith, (omega arith, (omega arith, (omega arith, tt)))), ((omega arith, (omega arith, (omega arith, tt))), ((omega arith, (omega arith, tt)), ((omega arith, tt), (tt, tt)))));
    tested = λ set card. smallest _ ((omega arith, (omega arith, (omega arith, (omega arith, (omega arith, (omega arith, tt)))))), ((omega arith, (omega arith, (omega arith, (omega arith, (omega arith, tt))))), ((omega arith, (omega arith, (omega arith, (omega arith, tt)))), ((omega arith, (omega arith, (omega arith, tt))), ((omega arith, (omega arith, tt)), ((omega arith, tt), (tt, tt)))))));
  };
}
