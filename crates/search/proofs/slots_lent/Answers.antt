-- `search::slots_lent` meets its contract: the smallest of the four.
use Rattle.std.proofs.Common.{arith}
use Rattle.search.specs.Whole.{counted}
use Rattle.search.proofs.slots_lent.Goals as goal

pub returns : goal.returns
returns c = counted _ _ (omega arith)
