-- Every table of refusals gives the smallest number that fits.
use Rattle.std.specs.Prelude.{ℕ, Bool, List}
use Rattle.arithmetic.specs.declared.digit.Digit.{Digit}
use Rattle.scheme.specs.Draws.{draws}
use Rattle.scheme.specs.KeyTest.{tests}
use Rattle.scheme.specs.Making.{makes}
use Rattle.scheme.specs.Opening.{opens}
use Rattle.scheme.specs.Pairs.{pairs}
use Rattle.scheme.specs.Refusals.{Smallest}
use Rattle.scheme.specs.Sealing.{seals}
use Rattle.scheme.specs.Steps.{table}
use Rattle.scheme.specs.TernaryParts.{reads, writes}
use Rattle.scheme.specs.WordParts.{word_reads, word_writes}

pub record SmallestGiven : Type 0 where
  pub pair : (set : ℕ) (coins out : List ℕ) → Smallest (pairs set coins out)
  pub draw : (n : ℕ) (coins : List ℕ) (first second : List Digit) → Smallest (draws n coins first second)
  pub ternary_written : (count : ℕ) (out : List ℕ) → Smallest (writes count out)
  pub ternary_read : (count : ℕ) (bytes : List ℕ) → Smallest (reads count bytes)
  pub words_written : (w count : ℕ) (out : List ℕ) → Smallest (word_writes w count out)
  pub words_read : (w count : ℕ) (bytes : List ℕ) → Smallest (word_reads w count bytes)
  pub made : (set : ℕ) (coins out : List ℕ) (absent : Bool) → Smallest (table (makes set coins out absent))
  pub sealed : (set : ℕ) (card coins out : List ℕ) → Smallest (table (seals set card coins out))
  pub opened : (set : ℕ) (card sealed out : List ℕ) → Smallest (table (opens set card sealed out))
  pub tested : (set : ℕ) (card : List ℕ) → Smallest (table (tests set card))
