-- What a call's answer says of its table: a call that is served passed every test.
use Rattle.std.proofs.Common.{◌≡◌, ℕ, ◌≤◌, true, false, not, eqb, List, [], ◌∷◌, sym, refl, subst, inl, inr, arith}
use Rattle.std.proofs.lemmas.Bool.{eqb-true, not-false}
use Rattle.scheme.specs.declared.refusal.Refusal.{Refusal}
use Rattle.scheme.specs.Refusals.{Line, refuse, number_of, Holds, Smallest}

-- a length that was tested
pub same_length : (a b : ℕ) → not (eqb a b) ≡ false → a ≡ b
same_length a b p = eqb-true a b (not-false (eqb a b) p)

-- ---- tables whose numbers ascend
-- each number of a table is n or more
abbrev Above : ℕ → List Line → Type 0
Above n [] = Unit {0}
Above n (refuse d b ∷ rest) = (n ≤ number_of d) × Above n rest

abbrev pub Ascends : List Line → Type 0
Ascends [] = Unit {0}
Ascends (refuse e b ∷ rest) = Above (number_of e) rest × Ascends rest

above_holds : (n : ℕ) (table : List Line) (d : Refusal) → Above n table → Holds d table → n ≤ number_of d
above_holds n [] d a h = absurd h
above_holds n (refuse e b ∷ rest) d a (inl h) = subst (λ x. n ≤ number_of x) (sym h.0) a.0
above_holds n (refuse e b ∷ rest) d a (inr h) = above_holds n rest d a.1 h

pub smallest : (table : List Line) → Ascends table → Smallest table
smallest [] a = record { served = λ p e h. h; refused = λ e p. absurd (let z : ◌≡◌ {A = ℕ} 0 1 = cc in omega arith) }
smallest (refuse e true ∷ rest) a = record {
  served = λ p d h. absurd (let z : ◌≡◌ {A = ℕ} 0 1 = cc in omega arith);
  refused = λ d p.
      let same : d ≡ e = cc in
      (inl (same, refl), λ x h. subst (λ y. number_of y ≤ number_of x) (sym same) (first x h));
}
  where
    first : (x : Refusal) → Holds x (refuse e true ∷ rest) → number_of e ≤ number_of x
    first x (inl h) = subst (λ y. number_of e ≤ number_of y) (sym h.0) (omega arith)
    first x (inr h) = above_holds (number_of e) rest x a.0 h
smallest (refuse e false ∷ rest) a = record {
  served = λ p d h. (smallest rest a.1).served p d (later d h);
  refused = λ d p. let r = (smallest rest a.1).refused d p in (inr r.0, λ x h. r.1 x (later x h));
}
  where
    later : (x : Refusal) → Holds x (refuse e false ∷ rest) → Holds x rest
    later x (inl h) = absurd (let f = h.1 in let z : ◌≡◌ {A = ℕ} 0 1 = cc in omega arith)
    later x (inr h) = h
