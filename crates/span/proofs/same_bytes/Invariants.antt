-- `span::same_bytes` meets its contract: the pieces so far were found, and what is left decides.
use mathlib.Core.Path.{◌≡◌}
use Prim.Native.Nat.{◌*◌}
use lib.ListN.{take}
use Rattle.span.specs.Span.{bytes_at}
use Rattle.span.specs.Pieces.{piece_size}
use Rattle.span.proofs.same_bytes.Given as goal

abbrev pub invariant-loop-i : goal.invariant-loop-i
invariant-loop-i l = bytes_at l.table l.at (piece_size * l.i) ≡ take (piece_size * l.i) l.bytes
