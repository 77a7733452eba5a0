-- Open: the pair that is found, and why a call may refuse.
use Rattle.std.specs.Prelude.{◌≡◌, ℕ, ◌*◌, ◌^◌, not, ◌&&◌, List, [], ◌∷◌, length, Result, ◌==◌, MatchResult}
use Rattle.algebra.specs.Decided.{in_T}
use Rattle.algebra.specs.Polynomials.{Poly}
use Rattle.algebra.specs.Scheme.{lifting, opened_a, opened_m, opened_r}
use Rattle.algebra.specs.Ternary.{Ternary}
use Rattle.scheme.specs.declared.refusal.Refusal.{Refusal}
use Rattle.scheme.specs.declared.refusal.Refusal.TheVariants.{NoSuchSet, InputLength, OutputLength, TernaryByte, NoPair}
use Rattle.scheme.specs.CardPolynomials.{polynomials, ternary_stretch}
use Rattle.scheme.specs.Steps.{Step, stop, make_rows}
use Rattle.scheme.specs.Sets.{known, length_of, width_of, card_bytes, pair_bytes, record_bytes}
use Rattle.scheme.specs.TernaryParts.{holds_digits}
use Rattle.scheme.specs.TernaryPolynomials.{pair_of}
use Rattle.scheme.specs.WordPolynomials.{balanced_polynomial}

-- m': a is c f centred modulo 2 ^ w, and m' is a fp reduced modulo (3, 1 + x + .. + x^(n-1))
abbrev pub found_m : ℕ → ℕ → (f fp c : Poly) → Poly
found_m n w f fp c = opened_m n fp (opened_a n (2 ^ w) f c)

-- r': (c - Lift(m')) hq, reduced modulo (2 ^ w, 1 + x + .. + x^(n-1)) and centred
abbrev pub found_r : ℕ → ℕ → (f fp hq c : Poly) → Poly
found_r n w f fp hq c = opened_r n (2 ^ w) hq c (lifting n (found_m n w f fp c))

-- the pair record that a sealed record opens to
abbrev pub opened_record : ℕ → ℕ → List ℕ → List ℕ → List ℕ
opened_record n w card sealed =
    let p = polynomials n w card in
    let c = balanced_polynomial n w sealed in
    pair_of n (found_r n w p.f p.fp p.hq c) (found_m n w p.f p.fp c)

-- why a call does not open, and the rows of its three products; there is no pair where r' is not in T
abbrev pub opens : ℕ → List ℕ → List ℕ → List ℕ → List Step
opens set card sealed out =
    let n = length_of set in
    let w = width_of set in
    let p = polynomials n w card in
    stop NoSuchSet (not (known set))
    ∷ stop InputLength (not (length card == card_bytes n w && length sealed == record_bytes n w))
    ∷ stop OutputLength (not (length out == pair_bytes n))
    ∷ stop TernaryByte (not (holds_digits (ternary_stretch n card)))
    ∷ make_rows (3 * n)
    ∷ stop NoPair (not (in_T n (found_r n w p.f p.fp p.hq (balanced_polynomial n w sealed))))
    ∷ []

-- the polynomials of a card and a sealed record are opened: r' is in T, and the pair record is written; or it is not, and nothing is written
abbrev pub Opened : (n w : ℕ) → (f fp hq c : Poly) → Result (Unit {0}) Refusal → (before after : List ℕ) → Type 0
Opened n w f fp hq c answer before after =
    MatchResult answer
    (λ _. Ternary n (found_r n w f fp hq c) × (after ≡ pair_of n (found_r n w f fp hq c) (found_m n w f fp c)))
    (λ e. (Ternary n (found_r n w f fp hq c) → ⊥) × (e ≡ NoPair) × (after ≡ before))
