-- `state::State::with_variable` meets its contract: two bytes are written, and no list grows or shrinks.
use Rattle.std.proofs.Common.{arith}
use Rattle.state.proofs.PartLaws.{variable_written}
use Rattle.state.proofs.State.with_variable.Goals as goal

pub returns : goal.returns
returns c = rw (c.set_word.ensures, c.from.ensures) (variable_written _ c.requires.state_ok _ _ _ _ (omega arith) (omega arith))
