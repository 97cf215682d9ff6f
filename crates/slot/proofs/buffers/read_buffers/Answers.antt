use Rattle.std.proofs.Common.{refl, add-one, length-set, arith}
use Rattle.slot.specs.Bytes.{buffers_bytes}
use Rattle.slot.proofs.BufferLaws.{read_more}
use Rattle.slot.proofs.buffers.read_buffers.Goals as goal

pub loop-t-init : goal.loop-t-init
unfolding buffers_bytes
loop-t-init c = record { number = refl; read = record { bytes = refl; number = refl; full = tt } }

pub loop-t-preserved : goal.loop-t-preserved
loop-t-preserved c =
    record {
      number = simp length-set c.loop-t.invariant.number;
      read =
          rw add-one
          (read_more c.args.table.now c.args.at c.loop-t.b-items c.loop-t.t c.read_buffer.result (omega arith) c.loop-t.invariant.read c.read_buffer.ensures);
    }
