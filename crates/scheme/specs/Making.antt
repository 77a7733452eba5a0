-- Make: the card of coins, and why a call may refuse.
use Rattle.std.specs.Prelude.{◌≡◌, ℕ, ◌^◌, Bool, false, not, List, [], ◌∷◌, ◌++◌, length, Ok, Err, Result, ◌==◌}
use Rattle.algebra.specs.Decided.{Tells}
use Rattle.algebra.specs.Polynomials.{Poly, SameMod, InverseMod}
use Rattle.algebra.specs.Radix.{Under}
use Rattle.algebra.specs.Scheme.{Makes, Unmakable, public_key}
use Rattle.arithmetic.specs.Digits.{coefficients}
use Rattle.arithmetic.specs.Products.{integers_of}
use Rattle.scheme.specs.declared.refusal.Refusal.{Refusal}
use Rattle.scheme.specs.declared.refusal.Refusal.TheVariants.{NoSuchSet, InputLength, OutputLength, NotInvertible}
use Rattle.scheme.specs.Coins.{drawn, first_half, second_half}
use Rattle.scheme.specs.Steps.{Step, stop, outcome}
use Rattle.scheme.specs.Sets.{known, length_of, width_of, card_bytes, coin_bytes}
use Rattle.scheme.specs.Signs.{settled}
use Rattle.scheme.specs.TernaryPolynomials.{pair_of}
use Rattle.scheme.specs.WordPolynomials.{word_record}

-- f and g of coins, their signs settled
abbrev pub drawn_f : ℕ → List ℕ → Poly
drawn_f n coins = coefficients (settled (drawn (first_half n coins)))

abbrev pub drawn_g : ℕ → List ℕ → Poly
drawn_g n coins = coefficients (settled (drawn (second_half n coins)))

-- the bytes of a card
abbrev pub card_record : ℕ → ℕ → (f fp h hq : Poly) → List ℕ
card_record n w f fp h hq = pair_of n f fp ++ (word_record n w h ++ word_record n w hq)

-- a card is made of coins: f, the inverse fp, the public key h, and its inverse hq
pub record CardOf (n w : ℕ) (coins card : List ℕ) : Type 0 where
  pub fp : Poly
  pub h : Poly
  pub hq : Poly
  pub makes : Makes n (2 ^ w) (drawn_f n coins) (drawn_g n coins) fp h hq
  pub bytes : card ≡ card_record n w (drawn_f n coins) fp h hq

-- no card comes of coins: f modulo 2 or 3, or h, has no inverse
abbrev pub NoCard : ℕ → ℕ → List ℕ → Type 0
NoCard n w coins = Unmakable n (2 ^ w) (drawn_f n coins) (drawn_g n coins)

-- why no card is made, where an inverse is absent or not
abbrev pub makes : ℕ → List ℕ → List ℕ → Bool → List Step
makes set coins out absent =
    stop NoSuchSet (not (known set))
    ∷ stop InputLength (not (length coins == coin_bytes (length_of set)))
    ∷ stop OutputLength (not (length out == card_bytes (length_of set) (width_of set)))
    ∷ stop NotInvertible absent
    ∷ []

-- the answer: where set and lengths are right, an inverse is absent exactly when no card comes of the coins
pub record MakeAnswer (set : ℕ) (coins out : List ℕ) (answer : Result (Unit {0}) Refusal) : Type 0 where
  pub absent : Bool
  pub is : answer ≡ outcome (makes set coins out absent)
  pub tells : outcome (makes set coins out false) ≡ Ok tt → Tells absent (NoCard (length_of set) (width_of set) coins)

-- what is left in the output: a card of the coins, or what it held before
pub record MakeOutput (set : ℕ) (coins : List ℕ) (answer : Result (Unit {0}) Refusal) (before after : List ℕ) : Type 0 where
  pub made : answer ≡ Ok tt → CardOf (length_of set) (width_of set) coins after
  pub refused : (e : Refusal) → answer ≡ Err e → after ≡ before

-- words that hold the public key of f and g
pub record Published (n w : ℕ) (f g : Poly) (h : List ℕ) : Type 0 where
  pub fq : Poly
  pub fq_inverse : InverseMod (2 ^ w) n f fq
  pub is : SameMod (2 ^ w) n (integers_of h) (public_key n g fq)
  pub small : Under (2 ^ w) h
