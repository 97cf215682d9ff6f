-- `state::State::variable` meets its contract: a variable is two bytes of the value.
use Rattle.state.proofs.PartLaws.{variable_read}
use Rattle.state.proofs.State.variable.Goals as goal

pub returns : goal.returns
returns c = rw (variable_read _ c.requires.state_ok _, ← c.from.ensures) c.word_at.ensures
