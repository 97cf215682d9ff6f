-- `state::State::with_buffer` meets its contract: one buffer is written, and is as it should be.
use Rattle.state.proofs.PartLaws.{buffer_written}
use Rattle.state.proofs.State.with_buffer.Goals as goal

pub returns : goal.returns
returns c = rw c.from.ensures (buffer_written _ c.requires.at.ok c.args.t c.args.b c.requires.buffer_ok)
