use Rattle.std.proofs.Common.{arith}
use Rattle.fences.specs.Places.{NoneAt, all_so_far, none_at, pair_none}
use Rattle.fences.proofs.Thread.least_pair.Goals as goal

pub loop-store-preserved : goal.loop-store-preserved
loop-store-preserved c = all_so_far (NoneAt _) _ c.loop-store.invariant (none_at _ _ c.in_default.ensures)

pub returns : goal.returns
returns c = pair_none _ (λ s l. c.loop-store.invariant s (omega (arith, c.length-store-end.ensures, l)))
