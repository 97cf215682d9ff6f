-- `state::State::with_register` meets its contract: two bytes are written, and no list grows or shrinks.
use Rattle.std.proofs.Common.{refl}
use Rattle.state.proofs.PartLaws.{register_written}
use Rattle.state.proofs.State.with_register.Goals as goal

pub returns : goal.returns
returns c = rw (c.set_word.ensures, c.register_index.ensures.0) (register_written _ c.requires.at.ok _ _ _ _ _ refl refl)
