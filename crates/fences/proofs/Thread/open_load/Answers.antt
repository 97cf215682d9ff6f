-- `fences::Thread::open_load` meets its contract: where a store that counts stands, the loads met are the open ones; elsewhere there are none.
use Rattle.std.proofs.Common.{sym, ◌∙◌}
use Rattle.std.proofs.lemmas.Bool.{false≢true}
use Rattle.fences.specs.Places.{open_of, open_none}
use Rattle.fences.proofs.Thread.open_load.Goals as goal

pub returns-then-not-is_live_store : goal.returns-then-not-is_live_store
returns-then-not-is_live_store c =
    λ l within. open_none _ _ c.requires _ (λ live. false≢true (sym c.if-not-is_live_store.true ∙ c.is_live_store.ensures.1 live)) l

pub returns : goal.returns
returns c =
    open_of _ _ c.requires _ (c.is_live_store.ensures.0 c.if-not-is_live_store.false) _ c.places_met-met.ensures _
    c.least_load.ensures
