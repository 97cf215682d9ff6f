-- `buffer::Buf::empty` meets its contract: twenty-four unused bytes are how no pending store is written.
use mathlib.Core.Path.{refl}
use mathlib.Core.Bool.{false}
use mathlib.Core.List.{[]}
use native.Mathlib.Omega.{arith}
use lib.ListN.{replicate}
use Rattle.rules.specs.Limits.{most_pending}
use Rattle.rules.specs.Slot.{entry_bytes}
use Rattle.buffer.specs.Held.{entries}
use Rattle.buffer.specs.EntryLaws.{bytes_lows}
use Rattle.buffer.specs.Places.{no_entry}
use Rattle.buffer.specs.HeldLaws.{holds}
use Rattle.buffer.proofs.Buf.empty.Goals as goal

pub returns : goal.returns
unfolding entries entry_bytes
returns c = holds _ [] false refl (omega arith) refl (bytes_lows (replicate most_pending no_entry)) refl
