-- Lists whose elements are changed one after the other.
use Rattle.std.proofs.Common.{◌≡◌, ℕ, ◌+◌, ◌<◌, ◌≤◌, ◌≢◌, List, length, get_or, set, arith, get_or-set_other, get_or-set_same, below_more}

-- P holds of the elements below i, and the others are as they were
abbrev pub Changed : (ℕ → ℕ → Type 0) → List ℕ → List ℕ → ℕ → Type 0
Changed P xs zs i = ((k : ℕ) → k < i → P k (get_or zs k 0)) × ((k : ℕ) → i ≤ k → get_or zs k 0 ≡ get_or xs k 0)

pub changed_more : (P : ℕ → ℕ → Type 0) (xs zs : List ℕ) (i v : ℕ) → i < length zs → P i v → Changed P xs zs i → Changed P xs (set zs i v) (i + 1)
changed_more P xs zs i v l p c = (
  below_more (λ k. P k (get_or (set zs i v) k 0)) i
      (λ k h. let ne : k ≢ i = omega arith in rw get_or-set_other (c.0 k h))
      (rw get_or-set_same p),
  λ k h. let ne : k ≢ i = omega arith in rw get_or-set_other (c.1 k (omega arith)),
)
