-- `buffer::Buf::take` meets its contract: the oldest store goes out, and then the groups are counted.
use mathlib.Core.Path.{subst, ap}
use Rattle.rules.specs.Step.{flushed_buffer}
use Rattle.buffer.specs.Posts.{Holds, counted_buffer}
use Rattle.buffer.proofs.Buf.take.Goals as goal

pub returns : goal.returns
unfolding flushed_buffer
returns c =
    let out = c.take_out-taken.ensures in
    record {
      value = out.value;
      rest = subst (Holds c.counted-rest.result) (ap counted_buffer out.rest.held) c.counted-rest.ensures;
    }
