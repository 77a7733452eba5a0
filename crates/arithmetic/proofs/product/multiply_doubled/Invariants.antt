use Rattle.std.proofs.Common.{◌≡◌, ℕ, ◌%◌, ◌<◌, length, get_or}
use Rattle.arithmetic.specs.Rows.{raised}
use Rattle.arithmetic.proofs.Products.{partial}
use Rattle.arithmetic.proofs.product.multiply_doubled.Given as goal

abbrev pub invariant-loop-j : goal.invariant-loop-j
invariant-loop-j g l =
    let rows = g.U.RowUnit.rows in
    ((k : ℕ) → k < length l.u → get_or l.out k 0 ≡ partial l.u l.doubled k l.j % 65536)
    × (rows l.unit ≡ raised l.j (rows l.initial.unit))
