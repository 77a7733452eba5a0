use Rattle.std.proofs.Common.{◌≡◌, ◌+◌, ◌*◌, ◌++◌, length, take, drop}
use Rattle.std.specs.Slice.Iter.{chunks_exact_rest, chunks_exact_size}
use Rattle.scheme.specs.TernaryParts.{part_bytes, ternary_part}
use Rattle.scheme.proofs.ternary.pack.Given as goal

-- so many bytes hold the digits so far, and what is left of the digits gives the others
abbrev pub invariant-loop-i : goal.invariant-loop-i
invariant-loop-i l =
    let rest = chunks_exact_rest l.i-iterator.iter in
    let i = l.i-iterator.count in
    record {
      five : chunks_exact_size l.i-iterator.iter ≡ 5;
      left : drop (5 * i) l.digits ≡ rest;
      count : 5 * i + length rest ≡ length l.digits;
      room : i + part_bytes (length rest) ≡ length l.out;
      written : take i l.out ++ ternary_part rest ≡ ternary_part l.digits;
    }
