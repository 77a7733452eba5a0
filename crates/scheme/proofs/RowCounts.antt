-- Counts of rows after products.
use Rattle.std.proofs.Common.{◌≡◌, ℕ, ◌+◌, ◌*◌, ◌^◌, ◌<◌, arith}
use Rattle.arithmetic.specs.Rows.{raised}

pub no_rows : (rows : ℕ) → rows < 2 ^ 64 → rows ≡ raised 0 rows
no_rows rows h = omega arith

pub some_rows : (n rows : ℕ) {a rows' : ℕ} → a ≡ n → rows' ≡ raised a rows → rows' ≡ raised (n + 0) rows
some_rows n rows e h = omega arith

pub two_rows : (n rows : ℕ) {a b rows' rows'' : ℕ} → a ≡ n → b ≡ n → rows' ≡ raised a rows → rows'' ≡ raised b rows' → rows'' ≡ raised (n + (n + 0)) rows
two_rows n rows d e h i = omega arith

pub three_rows : (n rows : ℕ) {a b c rows' rows'' rows''' : ℕ} → a ≡ n → b ≡ n → c ≡ n → rows' ≡ raised a rows → rows'' ≡ raised b rows' → rows''' ≡ raised c rows'' → rows''' ≡ raised (n + (n + (n + 0))) rows
three_rows n rows d e f h i j = omega arith

-- a count of three products at once
pub thrice : (n rows : ℕ) {a rows' : ℕ} → a ≡ n → rows' ≡ raised (3 * a) rows → rows' ≡ raised (3 * n + 0) rows
thrice n rows e h = omega arith
