-- `state::State::buffer` meets its contract: the buffers that the state holds are those of the value, each held.
use Rattle.state.proofs.PartLaws.{buffer_read}
use Rattle.state.proofs.State.buffer.Goals as goal

pub returns : goal.returns
returns c = rw c.from.ensures (buffer_read _ c.requires.ok c.args.t c.requires.thread)
