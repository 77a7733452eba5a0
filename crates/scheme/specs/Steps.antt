-- A call that makes rows, step by step: the refusals that it may give, in their order, and the rows between them.
use Rattle.std.specs.Prelude.{ℕ, ◌+◌, Bool, cond, List, [], ◌∷◌, Result}
use Rattle.scheme.specs.declared.refusal.Refusal.{Refusal}
use Rattle.scheme.specs.Refusals.{Line, refuse, verdict}

-- one step: a refusal, and whether its reason holds; or so many rows that the call makes
pub data Step : Type 0 where
  stop : Refusal → Bool → Step
  make_rows : ℕ → Step

-- the table of refusals
abbrev pub table : List Step → List Line
table [] = []
table (stop e holds ∷ rest) = refuse e holds ∷ table rest
table (make_rows k ∷ rest) = table rest

-- what the call answers
abbrev pub outcome : List Step → Result Unit Refusal
outcome steps = verdict (table steps)

-- the rows that it makes until it answers
abbrev pub cost : List Step → ℕ
cost [] = 0
cost (stop e holds ∷ rest) = cond holds 0 (cost rest)
cost (make_rows k ∷ rest) = k + cost rest
