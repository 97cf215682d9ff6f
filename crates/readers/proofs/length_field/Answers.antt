-- `readers::length_field` meets its contract: each test is one of the definition.
use mathlib.Core.Path.{◌≡◌, ap, ◌∙◌}
use borrow.Author.Tests.{lt-leb, le-leb, eq-eqb, ne_eqb}
use Rattle.rules.specs.Limits.{width_of, longest_file}
use Rattle.rules.specs.File.{length_ok, byte}
use Rattle.readers.specs.Passed.{version_at}
use Rattle.readers.specs.Stages.{length_stage}
use Rattle.readers.proofs.length_field.Goals as goal
use Rattle.readers.proofs.length_field.Goals.{After-longest_file}

pub returns-then-job-lt-SHORTEST_FILE : goal.returns-then-job-lt-SHORTEST_FILE
unfolding length_stage length_ok
returns-then-job-lt-SHORTEST_FILE c = rw (c.at.ensures, lt-leb _ _ c.if-job-lt-SHORTEST_FILE.true)

-- the limit is that of the version's width
limit :
    (c : After-longest_file) →
    c.longest_file.result ≡ longest_file (width_of (byte c.args.job.now version_at))
unfolding byte
limit c = c.longest_file.ensures ∙ ap longest_file c.width.ensures

pub returns-then-longest_file-job : goal.returns-then-longest_file-job
unfolding length_stage length_ok
returns-then-longest_file-job c =
    rw (c.at-then-longest_file-job.ensures, le-leb _ _ c.if-job-lt-SHORTEST_FILE.false, ← (limit (goal.at.returns-then-longest_file-job c).After-longest_file), lt-leb _ _ c.if-longest_file-job.true)

pub returns-then-following-job : goal.returns-then-following-job
unfolding length_stage length_ok byte
returns-then-following-job c =
    rw (le-leb _ _ c.if-job-lt-SHORTEST_FILE.false, ← (limit (goal.at.returns-then-following-job c).After-longest_file), le-leb _ _ c.if-longest_file-job.false, ← c.word.ensures, ← c.from-following.ensures, eq-eqb _ _ c.if-following-job.true)

pub returns-else-following-job : goal.returns-else-following-job
unfolding length_stage length_ok byte
returns-else-following-job c =
    rw (c.at-else-following-job.ensures, le-leb _ _ c.if-job-lt-SHORTEST_FILE.false, ← (limit (goal.at.returns-else-following-job c).After-longest_file), le-leb _ _ c.if-longest_file-job.false, ← c.word.ensures, ← c.from-following.ensures, ne_eqb _ _ c.if-following-job.false)
