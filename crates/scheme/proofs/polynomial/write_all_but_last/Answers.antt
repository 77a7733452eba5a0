use Rattle.std.proofs.Common.{◌≡◌, ◌-◌, length, take, sym, ap, ◌∙◌, subst, arith}
use Rattle.scheme.specs.WordParts.{word_part}
use Rattle.scheme.specs.WordPolynomials.{ReadsBack}
use Rattle.scheme.proofs.WordPolynomials.{polynomial_back}
use Rattle.scheme.proofs.polynomial.write_all_but_last.Goals as goal

pub returns-clause-reads_back : goal.returns-clause-reads_back
returns-clause-reads_back c u =
    let w = c.args.width.bits in
    let p = c.args.polynomial.now in
    let front : length p - 1 - 0 ≡ length p - 1 = omega arith in
    let output = c.pack_words.ensures ∙ ap (λ k. word_part w (take k p)) front in
    subst (ReadsBack w p) (sym output) (polynomial_back w p (omega arith) c.requires.some u)
