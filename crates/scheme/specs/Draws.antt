-- Draws of two polynomials from coins.
use Rattle.std.specs.Prelude.{ℕ, not, ◌&&◌, List, [], ◌∷◌, length, ◌==◌}
use Rattle.arithmetic.specs.declared.digit.Digit.{Digit}
use Rattle.scheme.specs.declared.refusal.Refusal.TheVariants.{InputLength, OutputLength}
use Rattle.scheme.specs.Refusals.{Line, refuse}
use Rattle.scheme.specs.Sets.{coin_bytes}

-- why two lists are no room for two polynomials of n coefficients
abbrev pub room : ℕ → List Digit → List Digit → List Line
room n first second = refuse OutputLength (not (length first == n && length second == n)) ∷ []

-- why two polynomials of n coefficients are not drawn from coins into two lists
abbrev pub draws : ℕ → List ℕ → List Digit → List Digit → List Line
draws n coins first second = refuse InputLength (not (length coins == coin_bytes n)) ∷ room n first second
