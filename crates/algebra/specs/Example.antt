-- A key of five coefficients modulo 64, a pair, what it encrypts to, and how that opens: what the theorems on opening ask can be met.
use Rattle.std.specs.Prelude.{List, [], ◌∷◌, ℤ, pos, negsuc, slice_index_or}
use Rattle.algebra.specs.Polynomials.{Poly, Balanced}
use Rattle.algebra.specs.Scheme.{Key, Encrypts, Opens}
use Rattle.algebra.specs.Sets.{Set}

-- the polynomial with these first coefficients, and zeros
abbrev pub poly : List ℤ → Poly
poly xs k = slice_index_or xs k (pos 0)

abbrev pub f : Poly
f = poly (pos 1 ∷ pos 1 ∷ [])

abbrev pub fp : Poly
fp = poly (pos 0 ∷ negsuc 0 ∷ pos 0 ∷ negsuc 0 ∷ [])

abbrev pub g : Poly
g = poly (pos 1 ∷ [])

abbrev pub h : Poly
h = poly (pos 0 ∷ pos 3 ∷ pos 61 ∷ pos 3 ∷ pos 61 ∷ [])

abbrev pub hq : Poly
hq = poly (pos 51 ∷ pos 38 ∷ pos 4 ∷ pos 34 ∷ [])

abbrev pub r : Poly
r = poly (pos 1 ∷ pos 0 ∷ negsuc 0 ∷ [])

abbrev pub m : Poly
m = poly (pos 0 ∷ pos 1 ∷ pos 1 ∷ [])

-- what lifts m
abbrev pub s : Poly
s = poly (pos 1 ∷ pos 1 ∷ pos 1 ∷ negsuc 0 ∷ [])

abbrev pub c : Poly
c = poly (pos 60 ∷ pos 6 ∷ pos 61 ∷ pos 2 ∷ pos 63 ∷ [])

-- c f, centred
abbrev pub a : Poly
a = poly (negsuc 4 ∷ pos 2 ∷ pos 3 ∷ negsuc 0 ∷ pos 1 ∷ [])

pub record Example : Type 0 where
  pub set : Set 5 6
  pub key : Key 5 64 f fp g h hq
  pub balanced_h : Balanced 64 5 h
  pub balanced_c : Balanced 64 5 c
  pub encrypts : Encrypts 5 64 h r m c
  pub opens : Opens 5 64 f fp hq c a m s r
