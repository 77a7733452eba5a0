-- The test whether a card is a key.
use Rattle.std.specs.Prelude.{ℕ, ◌^◌, Bool, not, List, [], ◌∷◌, length, pos, ◌==◌, int_le}
use Rattle.algebra.specs.Decided.{in_T+, reduces_to_one}
use Rattle.algebra.specs.Polynomials.{times}
use Rattle.algebra.specs.Scheme.{candidate}
use Rattle.algebra.specs.Ternary.{correlation}
use Rattle.scheme.specs.declared.refusal.Refusal.TheVariants.{NoSuchSet, InputLength, TernaryByte, NegativeCorrelation, FpNotInverse, NoKeyEquation, HqNotInverse}
use Rattle.scheme.specs.CardPolynomials.{Polynomials, polynomials, ternary_stretch}
use Rattle.scheme.specs.Steps.{Step, stop, make_rows}
use Rattle.scheme.specs.Sets.{known, length_of, width_of, card_bytes}
use Rattle.scheme.specs.TernaryParts.{holds_digits}

-- the tests of a card's polynomials in their order, with the rows of three products
abbrev pub test_lines : ℕ → (correlates fp_inverts solvable hq_inverts : Bool) → List Step
test_lines n correlates fp_inverts solvable hq_inverts =
    stop NegativeCorrelation (not correlates)
    ∷ make_rows n
    ∷ stop FpNotInverse (not fp_inverts)
    ∷ make_rows n
    ∷ stop NoKeyEquation (not solvable)
    ∷ make_rows n
    ∷ stop HqNotInverse (not hq_inverts)
    ∷ []

-- The only g that can solve the key equation is the candidate, where 43691 is a third.
abbrev pub polynomial_tests : ℕ → ℕ → Polynomials → List Step
polynomial_tests n w p =
    test_lines n
    (int_le (pos 0) (correlation n p.f))
    (reduces_to_one 3 n (times n p.f p.fp))
    (in_T+ n (candidate (2 ^ w) 43691 (times n p.h p.f)))
    (reduces_to_one (2 ^ w) n (times n p.h p.hq))

-- why a card is no key
abbrev pub tests : ℕ → List ℕ → List Step
tests set card =
    let n = length_of set in
    let w = width_of set in
    stop NoSuchSet (not (known set))
    ∷ stop InputLength (not (length card == card_bytes n w))
    ∷ stop TernaryByte (not (holds_digits (ternary_stretch n card)))
    ∷ polynomial_tests n w (polynomials n w card)
