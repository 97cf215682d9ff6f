-- `state::State::with_place` meets its contract: one place is written, and no list grows or shrinks.
use Rattle.state.proofs.PartLaws.{place_written}
use Rattle.state.proofs.State.with_place.Goals as goal

pub returns : goal.returns
returns c = rw c.from.ensures (place_written _ c.requires.ok c.args.t c.args.p)
