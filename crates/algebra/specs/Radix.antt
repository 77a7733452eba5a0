-- Numbers by their digits in a base, first digit lowest. A record holds the number that its coefficients write.
use Rattle.std.specs.Prelude.{ℕ, zero, suc, ◌+◌, ◌*◌, ◌/◌, ◌%◌, ◌^◌, ◌<◌, List, [], ◌∷◌, length, slice_index}

-- the number that a list of digits writes in base b, first digit lowest; a digit counts modulo b
unfoldable pub numeral : ℕ → List ℕ → ℕ
numeral b [] = 0
numeral b (x ∷ xs) = x % b + b * numeral b xs

-- the first n digits of a number in base b, lowest first
unfoldable pub digits : ℕ → ℕ → ℕ → List ℕ
digits b zero v = []
digits b (suc n) v = v % b ∷ digits b n (v / b)

-- digit k, in base b, of a list whose numbers have q digits each, lowest first; 0 past the end
abbrev pub digit_at : ℕ → ℕ → List ℕ → ℕ → ℕ
digit_at b q xs k = slice_index xs (k / q) / b ^ (k % q) % b

-- each number of the list is below b
abbrev pub Under : ℕ → List ℕ → Type 0
Under b xs = (k : ℕ) → k < length xs → slice_index xs k < b
