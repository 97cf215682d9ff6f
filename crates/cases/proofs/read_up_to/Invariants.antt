-- `cases::read_up_to` meets its contract: the count stays within the part.
use Rattle.std.proofs.Common.{◌≤◌, length}
use Rattle.cases.proofs.read_up_to.Given as goal

abbrev pub invariant-loop : goal.invariant-loop
invariant-loop l = l.end ≤ length l.part
