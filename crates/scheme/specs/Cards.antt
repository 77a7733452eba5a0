-- Cards: f, fp, h and hq, one after the other.
use Rattle.std.specs.Prelude.{◌≡◌, ℕ, ◌+◌, ◌*◌, ◌≤◌, List, length, take, drop}
use Rattle.scheme.specs.declared.card.Part.{Part}
use Rattle.scheme.specs.declared.card.Parts.{Parts}

-- a part is the stretch of `len` bytes of the card that begins at `from`, and has its place right
pub record Stretch (card : List ℕ) (from len : ℕ) (part : Part) : Type 0 where
  pub inside : from + len ≤ length card
  pub same : part.bytes.now ≡ take len (drop from card)
  pub long : length part.bytes.now ≡ len
  pub at : part.place ≡ from

-- the four parts of a card, where a ternary part has so many bytes and a word part so many
pub record Split (card : List ℕ) (ternary word : ℕ) (parts : Parts) : Type 0 where
  pub f : Stretch card 0 ternary parts.f
  pub fp : Stretch card ternary ternary parts.fp
  pub h : Stretch card (2 * ternary) word parts.h
  pub hq : Stretch card (2 * ternary + word) word parts.hq
