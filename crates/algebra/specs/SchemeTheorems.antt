-- Theorems of sets, lifts, keys and opening.
use Rattle.std.specs.Prelude.{◌≡◌, ℕ, suc, ◌+◌, ◌*◌, ◌%◌, ◌^◌, ◌<◌, ◌≤◌, pos, ◌+ℤ◌, neg_ℤ, ◌≤ℤ◌, ◌≢◌, unsigned_abs}
use Rattle.algebra.specs.Ring.{Agree, Differ, integers}
use Rattle.algebra.specs.Ternary.{Ternary, Ternary+, correlation}
use Rattle.algebra.specs.Polynomials.{Poly, times, Φ1, scale, SameMod, Balanced, InverseMod}
use Rattle.algebra.specs.Scheme.{Key, Equation, Lifts, shift, lifting, Encrypts, combination, Opens, opened_a, opened_m, opened_r, candidate, flip}
use Rattle.algebra.specs.Sets.{Set, SetFacts}

-- ---- sets
-- the facts of a set give what the theorems ask
abbrev pub SetsSuffice : Type 0
SetsSuffice = (n w : ℕ) → Set n w → SetFacts n w

-- ---- lifts
-- every m has exactly one s, and that is the formula's; it can be computed coefficient by coefficient
pub record Lifting (n : ℕ) (m : Poly) : Type 0 where
  pub lifts : Lifts n m (lifting n m)
  pub only : (s : Poly) → Lifts n m s → Agree integers n s (lifting n m)
  pub steps : (s : Poly) → ((k : ℕ) → k < n → unsigned_abs (s k) ≤ 1) → Differ integers (pos 3) (s 0) (neg_ℤ (m 0 +ℤ shift n m)) →
      ((k : ℕ) → suc k < n → Differ integers (pos 3) (s (suc k)) (s k +ℤ neg_ℤ (m (suc k) +ℤ shift n m))) → Agree integers n s (lifting n m)

abbrev pub LiftsAreUnique : Type 0
LiftsAreUnique = (n : ℕ) (m : Poly) → 2 ≤ n → (n % 3 ≢ 0) → Lifting n m

-- ---- keys
-- some g serves exactly where the candidate does
pub record Candidate (n q t : ℕ) (h f : Poly) : Type 0 where
  pub only : (g : Poly) → Ternary n g → Equation n q h f g → Agree integers n g (candidate q t (times n h f))
  pub serves : (g : Poly) → Ternary+ n g → Equation n q h f g → Ternary+ n (candidate q t (times n h f))
  pub solves : Equation n q h f (candidate q t (times n h f))
  pub of_class : (d : Poly) → SameMod q n d (times n h f) → Agree integers n (candidate q t d) (candidate q t (times n h f))

abbrev pub CandidatesDecide : Type 0
CandidatesDecide = (n q t : ℕ) (h f : Poly) → 2 ≤ n → 2 < q → 3 * t % q ≡ 1 → Balanced q n h → Candidate n q t h f

-- four tests of a card
pub record TestsPass (n q t : ℕ) (f fp h hq : Poly) : Type 0 where
  pub f_small : Ternary+ n f
  pub fp_inverse : InverseMod 3 n f fp
  pub g_small : Ternary+ n (candidate q t (times n h f))
  pub hq_inverse : InverseMod q n h hq

-- a card is a key exactly where they pass
pub record KeyTested (n q t : ℕ) (f fp h hq : Poly) : Type 0 where
  pub sound : TestsPass n q t f fp h hq → Key n q f fp (candidate q t (times n h f)) h hq
  pub complete : (g : Poly) → Key n q f fp g h hq → TestsPass n q t f fp h hq

abbrev pub KeysAreTested : Type 0
KeysAreTested = (n q t : ℕ) (f fp h hq : Poly) → 2 ≤ n → 2 < q → 3 * t % q ≡ 1 → Balanced q n h → KeyTested n q t f fp h hq

-- h = 3 (x - 1) g fq, where fq is an inverse of f, solves the key equation, and its coefficients sum up to zero
pub record Made (n q : ℕ) (f g h : Poly) : Type 0 where
  pub equation : Equation n q h f g
  pub balanced : Balanced q n h

abbrev pub MadeEquationsHold : Type 0
MadeEquationsHold = (n q : ℕ) (f fq g h : Poly) → 0 < n → InverseMod q n f fq → SameMod q n h (scale (pos 3) (times n (Φ1 n) (times n g fq))) → Made n q f g h

-- what making computes is a key
abbrev pub MakingMakesKeys : Type 0
MakingMakesKeys = (n q : ℕ) (f fp fq g h hq : Poly) → 0 < n → Ternary+ n f → Ternary+ n g → InverseMod q n f fq → InverseMod 3 n f fp →
    SameMod q n h (scale (pos 3) (times n (Φ1 n) (times n g fq))) → InverseMod q n h hq → Key n q f fp g h hq

-- flipped signs negate the correlation, so that v or its flip does not correlate negatively
pub record Flipped (n : ℕ) (v : Poly) : Type 0 where
  pub negates : correlation n (flip v) ≡ neg_ℤ (correlation n v)
  pub ternary : Ternary n v → Ternary n (flip v)
  pub correlates : Ternary n v → (pos 0 ≤ℤ correlation n v → ⊥) → Ternary+ n (flip v)

abbrev pub FlipsNegate : Type 0
FlipsNegate = (n : ℕ) (v : Poly) → Flipped n v

-- ---- opening
-- the sum that opening meets is smaller than 2 ^ w / 2 in size
abbrev pub CombinationsAreSmall : Type 0
CombinationsAreSmall = (n w : ℕ) (r g s f : Poly) → Set n w → Ternary n r → Ternary+ n g → Ternary n s → Ternary+ n f →
    (k : ℕ) → k < n → unsigned_abs (combination n r g s f k) + unsigned_abs (combination n r g s f k) < 2 ^ w

-- what a pair encrypts to is balanced where h is
abbrev pub CiphertextsAreBalanced : Type 0
CiphertextsAreBalanced = (n q : ℕ) (h r m c : Poly) → 0 < n → Balanced q n h → Encrypts n q h r m c → Balanced q n c

-- the formulas do what opening computes
abbrev pub OpeningComputes : Type 0
OpeningComputes = (n q : ℕ) (f fp hq c : Poly) → 2 ≤ n → (n % 3 ≢ 0) → 0 < q →
    let a = opened_a n q f c in
    let m' = opened_m n fp a in
    let s' = lifting n m' in
    Opens n q f fp hq c a m' s' (opened_r n q hq c s')

-- what a pair encrypts to opens as the pair
abbrev pub OpeningGivesBack : Type 0
OpeningGivesBack = (n w : ℕ) (f fp g h hq r m c a m' s' r' : Poly) → Set n w → Key n (2 ^ w) f fp g h hq → Encrypts n (2 ^ w) h r m c →
    Opens n (2 ^ w) f fp hq c a m' s' r' → Agree integers n m' m × Agree integers n r' r

-- what opens as a pair is what the pair encrypts to
abbrev pub OpenedPairsEncrypt : Type 0
OpenedPairsEncrypt = (n w : ℕ) (f fp g h hq c a m' s' r' : Poly) → Set n w → Key n (2 ^ w) f fp g h hq → Balanced (2 ^ w) n h → Balanced (2 ^ w) n c →
    Opens n (2 ^ w) f fp hq c a m' s' r' → Ternary n r' → Encrypts n (2 ^ w) h r' m' c

-- no pair encrypts to what does not open as one
abbrev pub RefusedHaveNoPair : Type 0
RefusedHaveNoPair = (n w : ℕ) (f fp g h hq c a m' s' r' : Poly) → Set n w → Key n (2 ^ w) f fp g h hq →
    Opens n (2 ^ w) f fp hq c a m' s' r' → (Ternary n r' → ⊥) → (r m : Poly) → Encrypts n (2 ^ w) h r m c → ⊥

-- no two pairs encrypt to the same
abbrev pub PairsAreUnique : Type 0
PairsAreUnique = (n w : ℕ) (f fp g h hq r m r₂ m₂ c : Poly) → Set n w → Key n (2 ^ w) f fp g h hq → Encrypts n (2 ^ w) h r m c → Encrypts n (2 ^ w) h r₂ m₂ c →
    Agree integers n m m₂ × Agree integers n r r₂
