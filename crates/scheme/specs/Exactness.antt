-- What the calls are worth: pairs that encrypt to records, records that open, cards that are keys.
use Rattle.std.specs.Prelude.{◌≡◌, ℕ, ◌^◌, true, List, length, pos, Ok, Err, Result, int_le}
use Rattle.algebra.specs.Decided.{Tells, in_T+, reduces_to_one}
use Rattle.algebra.specs.Polynomials.{Poly, InverseMod, times}
use Rattle.algebra.specs.Ring.{Agree, integers}
use Rattle.algebra.specs.Scheme.{Encrypts, Equation, candidate}
use Rattle.algebra.specs.Ternary.{Ternary+, correlation}
use Rattle.scheme.specs.declared.refusal.Refusal.{Refusal}
use Rattle.scheme.specs.declared.refusal.Refusal.TheVariants.{NoPair}
use Rattle.scheme.specs.CardPolynomials.{IsKey, Polynomials, polynomials}
use Rattle.scheme.specs.Opening.{opened_record, opens}
use Rattle.scheme.specs.Pairs.{pair_record}
use Rattle.scheme.specs.Steps.{outcome}
use Rattle.scheme.specs.Sealing.{drawn_r, drawn_m}
use Rattle.scheme.specs.Sets.{known, length_of, width_of, pair_bytes}
use Rattle.scheme.specs.TernaryPolynomials.{pair_of}
use Rattle.scheme.specs.WordPolynomials.{balanced_polynomial}

-- a card is a key of a set
pub record IsKeyOf (set : ℕ) (card : List ℕ) : Type 0 where
  pub exists : known set ≡ true
  pub key : IsKey (length_of set) (width_of set) card

-- r and m, both in T, encrypt to the polynomial of a sealed record under the public key of a card: c = r h + Lift(m) modulo q
abbrev pub EncryptsTo : ℕ → (card sealed : List ℕ) → (r m : Poly) → Type 0
EncryptsTo set card sealed r m =
    Encrypts (length_of set) (2 ^ width_of set) (polynomials (length_of set) (width_of set) card).h r m (balanced_polynomial (length_of set) (width_of set) sealed)

-- Open is exact: it answers that there is no pair exactly when none encrypts to the record, and otherwise writes the only pair that does.
pub record OpensExactly (set : ℕ) (card sealed : List ℕ) (answer : Result (Unit {0}) Refusal) (pair : List ℕ) : Type 0 where
  pub none : answer ≡ Err NoPair → (r m : Poly) → EncryptsTo set card sealed r m → ⊥
  pub refused : ((r m : Poly) → EncryptsTo set card sealed r m → ⊥) → answer ≡ Err NoPair
  pub found : answer ≡ Ok tt → (r : Poly) × (m : Poly) × EncryptsTo set card sealed r m × (pair ≡ pair_of (length_of set) r m)
  pub only : (r m : Poly) → EncryptsTo set card sealed r m → (answer ≡ Ok tt) × (pair ≡ pair_of (length_of set) r m)

-- a record opens to a pair record under a card, into any buffer of a pair's size
pub record OpensTo (set : ℕ) (card sealed pair : List ℕ) : Type 0 where
  pub served : (out : List ℕ) → length out ≡ pair_bytes (length_of set) → outcome (opens set card sealed out) ≡ Ok tt
  pub written : opened_record (length_of set) (width_of set) card sealed ≡ pair

-- What was sealed: the pair of the coins encrypts to it, and under every key with this public key, whatever its f, fp and hq are, it opens to that pair.
pub record SealedExactly (set : ℕ) (card coins sealed : List ℕ) : Type 0 where
  pub encrypts : EncryptsTo set card sealed (drawn_r (length_of set) coins) (drawn_m (length_of set) coins)
  pub opens : (other : List ℕ) → IsKeyOf set other →
      Agree integers (length_of set) (polynomials (length_of set) (width_of set) other).h (polynomials (length_of set) (width_of set) card).h →
      OpensTo set other sealed (pair_record (length_of set) coins)

-- The key test is exact: a card is taken exactly when it is a key.
pub record TestedExactly (set : ℕ) (card : List ℕ) (answer : Result (Unit {0}) Refusal) : Type 0 where
  pub taken : answer ≡ Ok tt → IsKeyOf set card
  pub key : IsKeyOf set card → answer ≡ Ok tt

-- what the tests of a card's polynomials tell, in the words of a key's definition
pub record TestsTell (n w : ℕ) (p : Polynomials) : Type 0 where
  pub f_small : Tells (int_le (pos 0) (correlation n p.f)) (Ternary+ n p.f)
  pub fp_inverse : Tells (reduces_to_one 3 n (times n p.f p.fp)) (InverseMod 3 n p.f p.fp)
  pub some_g : Tells (in_T+ n (candidate (2 ^ w) 43691 (times n p.h p.f))) ((g : Poly) × Ternary+ n g × Equation n (2 ^ w) p.h p.f g)
  pub hq_inverse : Tells (reduces_to_one (2 ^ w) n (times n p.h p.hq)) (InverseMod (2 ^ w) n p.h p.hq)
