-- Lists of elements of which each stands for a number modulo m, as polynomials over the integers.
use Rattle.std.proofs.Common.{ℕ, ◌<◌, ◌≤◌, List, length, get_or, pos, ap, arith}
use Rattle.algebra.specs.Ring.{Differ, integers}
use Rattle.algebra.specs.Residues.{residue, residues, residue_laws}
use Rattle.algebra.specs.Polynomials.{Poly, SameMod}
use Rattle.algebra.specs.Stands.{numbers, residue_number}
use Rattle.algebra.proofs.Integers.{mod_laws, equal_mod}
use Rattle.algebra.proofs.Residues.{residue_number_is}
use Rattle.euclid.specs.Series.{poly}
use Rattle.euclid.proofs.Lists.{poly_at}

module _ {X : Type 0} (m : ℕ) (h : 1 < m) (code : X → ℕ) (d : X) where
  -- each element is a number up to a multiple of m
  pub stands_for :
      (xs : List X) (n : ℕ) (u : Poly) → n ≤ length xs → ((k : ℕ) → k < n → Differ integers (pos m) (pos (code (get_or xs k d))) (u k))
      → SameMod m n (numbers (residue_number m) (poly (residues m h) (λ x. residue m h (code x)) xs)) u
  stands_for xs n u long same = record {
    at = λ k l.
        (mod_laws m).tr (equal_mod m (ap (residue_number m) (poly_at (residue_laws m h) (λ x. residue m h (code x)) xs k d (omega arith))))
        ((mod_laws m).tr (residue_number_is m h (code (get_or xs k d))) (same k l));
  }
