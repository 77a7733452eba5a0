-- Polynomials of words that are read as digits.
use Rattle.std.specs.Prelude.{ℕ, ◌^◌, ◌<◌, ◌≤◌, List, Option, MatchOption, unsigned_abs}
use Rattle.algebra.specs.Polynomials.{Poly, centre}
use Rattle.algebra.specs.Ring.{Agree, integers}
use Rattle.arithmetic.specs.Digits.{coefficients}
use Rattle.arithmetic.specs.declared.digit.Digit.{Digit}

-- each coefficient centred modulo 2 ^ w is -1, 0 or 1
abbrev pub Small : (n w : ℕ) → Poly → Type 0
Small n w u = (k : ℕ) → k < n → unsigned_abs (centre (2 ^ w) (u k)) ≤ 1

-- the digits are the coefficients centred, where all are such; where one is not, there is no answer
abbrev pub SignsRead : (n w : ℕ) → Poly → Option (Unit {0}) → List Digit → Type 0
SignsRead n w u answer ds = MatchOption answer (Small n w u → ⊥) (λ _. Small n w u × Agree integers n (coefficients ds) (λ k. centre (2 ^ w) (u k)))
