-- Steps that are taken again and again.
use Rattle.std.specs.Prelude.{◌≡◌, ℕ, zero, suc}

-- n steps of R lead from a to b
unfoldable pub Runs : {A : Type 0} → (A → A → Type 0) → ℕ → A → A → Type 0
Runs R zero a b = a ≡ b
Runs R (suc n) a b = (m : _) × Runs R n a m × R m b

-- something is drawn and used once: the states of what draws and of what uses, before and after
abbrev pub Turn : {D S I : Type 0} → (D → I → D → Type 0) → (S → I → S → Type 0) → D × S → D × S → Type 0
Turn draws uses p q = (x : _) × draws p.0 x q.0 × uses p.1 x q.1
