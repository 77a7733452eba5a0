-- Why a call says no: the numbers, and the rule that of several refusals the first in the call's table is given.
use Rattle.std.specs.Prelude.{◌≡◌, ℕ, ◌≤◌, Bool, true, cond, ◌⊎◌, List, [], ◌∷◌, Ok, Err, Result}
use Rattle.scheme.specs.declared.refusal.Refusal.{Refusal}
use Rattle.scheme.specs.declared.refusal.Refusal.TheVariants.{NoSuchSet, InputLength, OutputLength, TernaryByte, NegativeCorrelation, FpNotInverse, NoKeyEquation, HqNotInverse, NotInvertible, NoPair}

-- the number by which a refusal is known
abbrev pub number_of : Refusal → ℕ
number_of NoSuchSet = 3
number_of InputLength = 6
number_of OutputLength = 7
number_of TernaryByte = 8
number_of NegativeCorrelation = 9
number_of FpNotInverse = 10
number_of NoKeyEquation = 11
number_of HqNotInverse = 12
number_of NotInvertible = 13
number_of NoPair = 14

-- one line of a call's table: a refusal, and whether its reason holds
pub data Line : Type 0 where
  refuse : Refusal → Bool → Line

-- what a call answers: the first refusal of its table whose reason holds
abbrev pub verdict : List Line → Result Unit Refusal
verdict [] = Ok tt
verdict (refuse e holds ∷ rest) = cond holds (Err e) (verdict rest)

-- the reason for a refusal holds
abbrev pub Holds : Refusal → List Line → Type 0
Holds e [] = ⊥
Holds e (refuse d holds ∷ rest) = ((e ≡ d) × (holds ≡ true)) ⊎ Holds e rest

-- of the refusals whose reasons hold the one with the smallest number is given, and the call is served where none holds
pub record Smallest (table : List Line) : Type 0 where
  pub served : verdict table ≡ Ok tt → (e : Refusal) → Holds e table → ⊥
  pub refused : (e : Refusal) → verdict table ≡ Err e → Holds e table × ((d : Refusal) → Holds d table → number_of e ≤ number_of d)

-- what a buffer holds after an answer: what a served call writes, and what it held before if the call is refused
abbrev pub left : {A : Type 0} → Result Unit Refusal → A → A → A
left (Ok u) written before = written
left (Err e) written before = before
