-- A call that makes rows answers by its steps, each way out of it after the tests before it.
use Rattle.std.proofs.Common.{◌≡◌, ℕ, ◌+◌, Bool, true, false, not, ◌&&◌, eqb, List, [], ◌∷◌, Ok, Err, Result, refl, ap, ◌∙◌, arith}
use Rattle.std.proofs.lemmas.Bool.{eq-eqb}
use Rattle.scheme.specs.declared.refusal.Refusal.{Refusal}
use Rattle.scheme.specs.Steps.{Step, stop, make_rows, outcome, cost}

-- an answer, and the rows that were made by then, are those of a list of steps
pub record Tabled (answer : Result (Unit {0}) Refusal) (rows : ℕ) (steps : List Step) : Type 0 where
  pub answer_is : answer ≡ outcome steps
  pub rows_are : rows ≡ cost steps

pub ends : Tabled (Ok tt) 0 []
ends = record { answer_is = refl; rows_are = refl }

-- a reason that holds
pub stops : (e : Refusal) (b : Bool) (rest : List Step) → b ≡ true → Tabled (Err e) 0 (stop e b ∷ rest)
stops e true rest p = record { answer_is = refl; rows_are = refl }
stops e false rest p = absurd (let z : ◌≡◌ {A = ℕ} 0 1 = cc in omega arith)

-- and one that does not
pub goes_on : {answer : Result (Unit {0}) Refusal} {rows : ℕ} (e : Refusal) (b : Bool) (rest : List Step) → b ≡ false → Tabled answer rows rest → Tabled answer rows (stop e b ∷ rest)
goes_on e false rest p t = record { answer_is = t.answer_is; rows_are = t.rows_are }
goes_on e true rest p t = absurd (let z : ◌≡◌ {A = ℕ} 0 1 = cc in omega arith)

pub makes_rows : {answer : Result (Unit {0}) Refusal} {rows : ℕ} (k : ℕ) (rest : List Step) → Tabled answer rows rest → Tabled answer (k + rows) (make_rows k ∷ rest)
makes_rows k rest t = record { answer_is = t.answer_is; rows_are = ap (λ r. k + r) t.rows_are }

-- no reason for a refusal holds
abbrev pub AllPassed : List Step → Type 0
AllPassed [] = Unit {0}
AllPassed (stop e b ∷ rest) = (b ≡ false) × AllPassed rest
AllPassed (make_rows k ∷ rest) = AllPassed rest

-- a call that is served went past each test
pub all_passed : (steps : List Step) → Ok tt ≡ outcome steps → AllPassed steps
all_passed [] p = tt
all_passed (stop e true ∷ rest) p = absurd (let z : ◌≡◌ {A = ℕ} 0 1 = cc in omega arith)
all_passed (stop e false ∷ rest) p = (refl, all_passed rest p)
all_passed (make_rows k ∷ rest) p = all_passed rest p

pub equal : (a b : ℕ) → a ≡ b → not (eqb a b) ≡ false
equal a b h = ap not (eq-eqb a b h)

pub equal_both : (a b c d : ℕ) → a ≡ b → c ≡ d → not (eqb a b && eqb c d) ≡ false
equal_both a b c d h i = ap (λ t. not (t && eqb c d)) (eq-eqb a b h) ∙ ap not (eq-eqb c d i)
