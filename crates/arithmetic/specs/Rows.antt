-- What a row call does to the output words, to the count of rows and to the answer.
use Rattle.std.specs.Prelude.{◌≡◌, ℕ, ◌+◌, ◌-◌, ◌*◌, ◌%◌, ◌^◌, ◌≤◌, min, List, [], ◌∷◌, length, Ok, Err, Result}
use Rattle.arithmetic.specs.declared.rows.RowRefusal.{RowRefusal}
use Rattle.arithmetic.specs.declared.rows.RowRefusal.TheVariants.{Length}

-- the number by which the refusal is known
abbrev pub number_of : RowRefusal → ℕ
number_of Length = 15

-- factor times word i of the list, added to word i of the output, modulo m
unfoldable pub row_sum : ℕ → ℕ → List ℕ → List ℕ → List ℕ
row_sum m factor [] out = out
row_sum m factor (x ∷ list) [] = []
row_sum m factor (x ∷ list) (y ∷ out) = ((y + factor * x) % m) ∷ row_sum m factor list out

-- the lengths that a row unit serves: 1 to 1408 words, and as many in the output
pub record Serves (list out : List ℕ) : Type 0 where
  pub some : 1 ≤ length list
  pub few : length list ≤ 1408
  pub same : length out ≡ length list

-- k rows more, and at the top of 64 bits no more
abbrev pub raised : ℕ → ℕ → ℕ
raised k rows = min (rows + k) (2 ^ 64 - 1)

-- a row call: its answer, the output afterwards, and the count of rows served
pub record RowCall (factor : ℕ) (list out : List ℕ) (rows : ℕ) (answer : Result (Unit {0}) RowRefusal) (out' : List ℕ) (rows' : ℕ) : Type 0 where
  pub served : Serves list out → (answer ≡ Ok tt) × (out' ≡ row_sum 65536 factor list out) × (rows' ≡ raised 1 rows)
  pub refused : (Serves list out → ⊥) → (answer ≡ Err Length) × (out' ≡ out) × (rows' ≡ rows)

-- the count of the unit below a halving layer: one row for a single word and two for more
pub record Handed (list out : List ℕ) (below below' : ℕ) : Type 0 where
  pub one : Serves list out → length list ≡ 1 → below' ≡ raised 1 below
  pub two : Serves list out → 2 ≤ length list → below' ≡ raised 2 below
  pub none : (Serves list out → ⊥) → below' ≡ below

-- 3 times (1, 65535) added to (2, 3) gives (5, 0), whatever unit serves it
abbrev pub WorkedRow : Type 0
WorkedRow = (rows rows' : ℕ) (answer : Result (Unit {0}) RowRefusal) (out' : List ℕ) →
    RowCall 3 (1 ∷ 65535 ∷ []) (2 ∷ 3 ∷ []) rows answer out' rows' → (answer ≡ Ok tt) × (out' ≡ 5 ∷ 0 ∷ [])
