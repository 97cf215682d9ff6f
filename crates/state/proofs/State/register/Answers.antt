-- `state::State::register` meets its contract: a register is two bytes of the value.
use Rattle.state.proofs.PartLaws.{register_read}
use Rattle.state.proofs.State.register.Goals as goal

pub returns : goal.returns
returns c = rw (register_read _ c.requires.at.ok _ _, ← c.register_index.ensures.0) c.word_at.ensures
