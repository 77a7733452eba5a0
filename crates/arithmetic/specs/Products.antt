-- The cyclic product of two lists of words, and what a product does to the buffers, to the count of rows and to the answer.
use Rattle.std.specs.Prelude.{◌≡◌, ℕ, ◌+◌, ◌-◌, ◌*◌, ◌%◌, ◌^◌, ◌<◌, ◌≤◌, ◌⊎◌, List, ◌++◌, map, length, pos, Ok, Err, Result, bit_and, slice_index, slice_index_or}
use Rattle.std.specs.List.{range_with_len}
use Rattle.algebra.specs.Ring.{conv_by}
use Rattle.algebra.specs.Polynomials.{Poly, times, SameMod, as_word}
use Rattle.algebra.specs.Radix.{Under}
use Rattle.arithmetic.specs.Rows.{raised}
use Rattle.arithmetic.specs.declared.rows.RowRefusal.{RowRefusal}
use Rattle.arithmetic.specs.declared.rows.RowRefusal.TheVariants.{Length}

-- the sum over j of u_j times v_((k - j) mod n), where n is the length of u
abbrev pub coefficient : List ℕ → List ℕ → ℕ → ℕ
coefficient u v k = conv_by 0 ◌+◌ ◌*◌ (length u) (λ j. slice_index u j) (λ j. slice_index v j) k

-- the n coefficients, modulo 65536
unfoldable pub cyclic_product : List ℕ → List ℕ → List ℕ
cyclic_product u v = map (λ k. coefficient u v k % 65536) (range_with_len 0 (length u))

-- the polynomial over the integers whose coefficients a list of words holds, lowest first
abbrev pub integers_of : List ℕ → Poly
integers_of xs k = pos (slice_index xs k)

-- the product of two lists of words over the integers, where x^n counts as 1
abbrev pub integer_product : List ℕ → List ℕ → Poly
integer_product u v = times (length u) (integers_of u) (integers_of v)

-- the lengths that a product takes: 1 to 1408 words, as many in the second factor and in the output, and room for twice as many
pub record Sized (u v doubled out : List ℕ) : Type 0 where
  pub some : 1 ≤ length u
  pub few : length u ≤ 1408
  pub factors : length v ≡ length u
  pub room : length doubled ≡ 2 * length u
  pub result : length out ≡ length u

-- what a product leaves: the words, their meaning, the second factor written twice, and a row more for each word
pub record Multiplied (u v : List ℕ) (rows : ℕ) (answer : Result (Unit {0}) RowRefusal) (doubled' out' : List ℕ) (rows' : ℕ) : Type 0 where
  pub served : answer ≡ Ok tt
  pub words : out' ≡ cyclic_product u v
  pub meaning : SameMod 65536 (length u) (integers_of out') (integer_product u v)
  pub twice : doubled' ≡ v ++ v
  pub count : rows' ≡ raised (length u) rows

-- a product: where the lengths do not suit it is refused, and nothing changes
pub record Product (u v doubled out : List ℕ) (rows : ℕ) (answer : Result (Unit {0}) RowRefusal) (doubled' out' : List ℕ) (rows' : ℕ) : Type 0 where
  pub made : Sized u v doubled out → Multiplied u v rows answer doubled' out' rows'
  pub refused : (Sized u v doubled out → ⊥) → (answer ≡ Err Length) × (doubled' ≡ doubled) × (out' ≡ out) × (rows' ≡ rows)

-- the lowest w bits of a word of the product are the integer coefficient modulo 2 ^ w
abbrev pub MaskedProducts : Type 0
MaskedProducts = (u v : List ℕ) (w k : ℕ) → w ≤ 16 → k < length u →
    bit_and (slice_index (cyclic_product u v) k) (2 ^ w - 1) ≡ as_word (2 ^ w) (integer_product u v k)

-- a word that is the integer coefficient itself, and is small
pub record Whole (u v : List ℕ) (k : ℕ) : Type 0 where
  pub unwrapped : pos (slice_index (cyclic_product u v) k) ≡ integer_product u v k
  pub small : slice_index_or (cyclic_product u v) k 0 ≤ 4 * (length u - 1)

-- where the words are 0, 1 and 2 and the last of one factor is 0, nothing wraps
abbrev pub TernaryProducts : Type 0
TernaryProducts = (u v : List ℕ) → length u ≤ 1408 → length v ≡ length u → Under 3 u → Under 3 v → (slice_index u (length u - 1) ≡ 0) ⊎ (slice_index v (length u - 1) ≡ 0) →
    (k : ℕ) → k < length u → Whole u v k
