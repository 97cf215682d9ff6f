-- `slot::buffers::read_buffers` meets its contract: the buffers so far are read.
use mathlib.Core.Path.{◌≡◌}
use lib.ListN.{length, take}
use Rattle.rules.specs.Limits.{most_threads}
use Rattle.slot.specs.Table.{ReadBuffers}
use Rattle.slot.proofs.buffers.read_buffers.Given as goal

abbrev pub invariant-loop-t : goal.invariant-loop-t
invariant-loop-t l = record {
  number : length l.b-items ≡ most_threads;
  read : ReadBuffers l.table l.at l.t (take l.t l.b-items);
}
