-- What `ok_or` answers of an option, and what `?` hands on.
use Rattle.std.proofs.Common.{◌≡◌, ℕ, Some, None, Ok, Err, Option, Result, MatchOption, MatchResult, IsErr, IsErrAnd, sym, refl, subst, arith}
use Rattle.std.specs.Option.{ok_or}

pub ok_or_some : {A E : Type 0} (x : Option A) (e : E) {a : A} → ok_or x e ≡ Ok a → x ≡ Some a
ok_or_some (Some b) e p = cc
ok_or_some None e p = absurd (let z : ◌≡◌ {A = ℕ} 0 1 = cc in omega arith)

pub ok_or_none : {A E : Type 0} (x : Option A) (e : E) {d : E} → ok_or x e ≡ Err d → (x ≡ None) × (d ≡ e)
ok_or_none (Some b) e p = absurd (let z : ◌≡◌ {A = ℕ} 0 1 = cc in omega arith)
ok_or_none None e p = (refl, cc)

-- what an option's cases say is what those of the answer say
pub ok_or_cases : {A E : Type 0} (N : Type 0) (S : A → Type 0) (e : E) (x : Option A) {r : Result A E} → r ≡ ok_or x e → MatchOption x N S → MatchResult r S (λ d. N × (d ≡ e))
ok_or_cases N S e (Some a) p h = subst (λ r. MatchResult r S (λ d. N × (d ≡ e))) (sym p) h
ok_or_cases N S e None p h = subst (λ r. MatchResult r S (λ d. N × (d ≡ e))) (sym p) (h, refl)

-- an error that is handed on
pub handed_on : {A E : Type 0} (S : A → Type 0) (N : E → Type 0) (r : Result A E) (e : E) → IsErr r × IsErrAnd r (λ d. d ≡ e) → N e → MatchResult r S N
handed_on S N (Ok a) e h n = absurd (let f = h.0 in let z : ◌≡◌ {A = ℕ} 0 1 = cc in omega arith)
handed_on S N (Err d) e h n = subst N (sym h.1) n
