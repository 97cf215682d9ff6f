-- `readers::field_or` meets its contract: the test on the length tells whether the byte is there, the other one whether it is in its range.
use mathlib.Core.Path.{sym, ◌∙◌}
use Rattle.readers.proofs.Fields.{field_missing, field_there}
use Rattle.readers.proofs.field_or.Goals as goal

pub returns-then-job-at : goal.returns-then-job-at
returns-then-job-at g c = λ number n missing wrong. missing ∙ sym (field_missing _ _ _ _ c.if-job-at.true)

pub returns-then-low-k : goal.returns-then-low-k
returns-then-low-k g c = λ number n missing wrong. rw (field_there _ _ _ _ _ c.if-job-at.false, c.if-low-k.true)

pub returns-else-low-k : goal.returns-else-low-k
returns-else-low-k g c = λ number n missing wrong. rw (field_there _ _ _ _ _ c.if-job-at.false, c.if-low-k.false) wrong
