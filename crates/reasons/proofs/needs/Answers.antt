-- `reasons::needs` meets its contract: the test decides.
use Rattle.reasons.proofs.needs.Goals as goal

pub returns-else-test : goal.returns-else-test
returns-else-test c = rw c.if-test.false
