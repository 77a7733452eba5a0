-- The polynomials that a card holds, and what makes a card a key.
use Rattle.std.specs.Prelude.{◌≡◌, ℕ, ◌+◌, ◌*◌, ◌^◌, true, List, length, take, drop}
use Rattle.algebra.specs.Polynomials.{Poly}
use Rattle.algebra.specs.Scheme.{Key}
use Rattle.scheme.specs.Sets.{ternary_bytes, record_bytes, card_bytes}
use Rattle.scheme.specs.TernaryParts.{holds_digits}
use Rattle.scheme.specs.TernaryPolynomials.{ternary_polynomial}
use Rattle.scheme.specs.WordPolynomials.{balanced_polynomial, padded_polynomial}

-- so many bytes of a card, from a place on
abbrev pub stretch : ℕ → ℕ → List ℕ → List ℕ
stretch from len card = take len (drop from card)

-- f and fp together
abbrev pub ternary_stretch : ℕ → List ℕ → List ℕ
ternary_stretch n card = take (2 * ternary_bytes n) card

pub record Polynomials : Type 0 where
  pub f : Poly
  pub fp : Poly
  pub h : Poly
  pub hq : Poly

-- the polynomials of four parts, of n coefficients, h and hq modulo 2 ^ w
abbrev pub part_polynomials : ℕ → ℕ → (f fp h hq : List ℕ) → Polynomials
part_polynomials n w f fp h hq = record {
  f = ternary_polynomial n f;
  fp = ternary_polynomial n fp;
  h = balanced_polynomial n w h;
  hq = padded_polynomial n w hq;
}

-- the polynomials that a card holds
abbrev pub polynomials : ℕ → ℕ → List ℕ → Polynomials
polynomials n w card =
    let t = ternary_bytes n in
    let b = record_bytes n w in
    part_polynomials n w (stretch 0 t card) (stretch t t card) (stretch (2 * t) b card) (stretch (2 * t + b) b card)

-- a card is a key: it has the right length, no ternary byte above F2, and its polynomials are a key with some g
pub record IsKey (n w : ℕ) (card : List ℕ) : Type 0 where
  pub long : length card ≡ card_bytes n w
  pub digits : holds_digits (ternary_stretch n card) ≡ true
  pub g : Poly
  pub key : Key n (2 ^ w) (polynomials n w card).f (polynomials n w card).fp g (polynomials n w card).h (polynomials n w card).hq
