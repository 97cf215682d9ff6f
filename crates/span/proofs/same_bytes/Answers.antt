use Rattle.std.proofs.Common.{◌≡◌, ◌+◌, ◌-◌, ◌*◌, ◌/◌, length, arith}
use Rattle.std.proofs.lemmas.Slice.Eq.{slice_eq-Decides}
use Rattle.std.proofs.lemmas.Bool.Decides.{Decides-eqb}
use Rattle.span.specs.Span.{bytes_at}
use Rattle.span.specs.SpanLaws.{found_more, left_decides}
use Rattle.span.specs.Pieces.{piece_size, same_piece}
use Rattle.span.proofs.same_bytes.Goals as goal

pub loop-i-preserved : goal.loop-i-preserved
loop-i-preserved c =
    let given = c.args in
    let found = piece_size * c.loop-i.i in
    let next : piece_size * (c.loop-i.i + 1) ≡ found + piece_size = omega arith in
    let same =
    same_piece given.table.now given.bytes.now (given.at + found) found (omega arith) (omega arith)
    (λ k. omega (arith, c.type_inv.table k)) (λ k. omega (arith, c.type_inv.bytes k))
    c.piece.ensures c.piece-in-loop-i.ensures c.if-piece.false in
    rw next (found_more given.table.now given.at given.bytes.now found piece_size (omega arith) (omega arith) c.loop-i.invariant same)

pub returns : goal.returns
returns c =
    let given = c.args in
    let bytes = given.bytes.now in
    let found = piece_size * (length bytes / piece_size) in
    let left = length bytes - found in
    let all : c.loop-i.i ≡ length bytes / piece_size = omega arith in
    let count : given.at + length bytes - (given.at + found) ≡ left = omega arith in
    let decides = slice_eq-Decides Decides-eqb (bytes_at given.table.now (given.at + found) left) (bytes_at bytes found left) _ (rw count at c.eq.ensures) in
    left_decides given.table.now given.at bytes found left (omega arith) (omega arith) (rw all at c.loop-i.invariant) (omega arith)
    (record { only = decides.0; each = decides.1 })
