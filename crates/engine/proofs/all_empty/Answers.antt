-- `engine::all_empty` meets its contract: each buffer is as it should be, and is asked.
use mathlib.Core.Path.{refl, ◌∙◌}
use Rattle.std.proofs.Common.{rules}
use Rattle.std.proofs.lemmas.Iterator.{YieldsList-from_slice}
use Rattle.std.proofs.lemmas.Iterator.Adapters.{serves_from_places}
use Rattle.std.proofs.lemmas.Iterator.Search.{all_from_yields_List}
use Rattle.rules.specs.Step.{is_empty}
use Rattle.rules.specs.Goal.{nothing_pending}
use Rattle.buffer.specs.Held.{held_pending, held_buffer}
use Rattle.state.specs.Held.{held}
use Rattle.engine.proofs.EveryLaws.{every_held}
use Rattle.engine.proofs.GoalLaws.{buffer_ok}
use Rattle.engine.proofs.all_empty.Goals as goal

pub all-requires-clause-callable : goal.all-requires-clause-callable
all-requires-clause-callable c =
    serves_from_places (YieldsList-from_slice c.args.x.bufs cc) (λ x q k. refl)
    (λ x k l e _ _ _ _ _ _. buffer_ok c.args.x c.requires x.now k l e)

pub returns : goal.returns
unfolding held
returns c =
    all_from_yields_List (λ b. is_empty (held_pending b)) _ _ _ c.all.ensures.ran (YieldsList-from_slice c.args.x.bufs cc) (λ x b q k. (refl, search rules))
    ∙ every_held nothing_pending held_buffer c.args.x.bufs
