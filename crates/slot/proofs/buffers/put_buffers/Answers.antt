use Rattle.std.proofs.Common.{◌∙◌, ◌+◌, ◌*◌, ◌<◌, length, get_or, refl, ap, add-one, arith}
use Rattle.rules.specs.Limits.{buffer_size}
use Rattle.slot.specs.Bytes.{buffer_bytes, buffers_bytes}
use Rattle.slot.specs.BytesLaws.{no_buffer}
use Rattle.span.specs.Span.{laid}
use Rattle.span.specs.SpanLaws.{laid_none}
use Rattle.slot.proofs.BufferLaws.{laid_buffer}
use Rattle.slot.proofs.Sizes.{state_sized}
use Rattle.slot.proofs.buffers.put_buffers.Goals as goal

pub loop-t-init : goal.loop-t-init
unfolding buffers_bytes
loop-t-init c = record { is = laid_none c.args.table.now c.args.at; size = refl }

pub loop-t-preserved : goal.loop-t-preserved
loop-t-preserved c =
    let given = c.args in
    let t = c.loop-t.t in
    let so_far = c.loop-t.invariant in
    let put = c.put_buffer.ensures in
    let next = buffer_bytes (get_or given.x.bufs t no_buffer) in
    let sizes = state_sized given.x _ c.well_formed.1.1.0 in
    let below : t < length given.x.bufs = omega arith in
    let again = laid_buffer given.table.now given.at given.x.bufs sizes.full t below (omega arith) in
    rw add-one (record {
      is = put.is ∙ ap (λ l. laid l (given.at + buffer_size * t) next) so_far.is ∙ again;
      size = put.size ∙ so_far.size;
    })
