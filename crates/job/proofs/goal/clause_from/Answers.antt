-- `job::goal::clause_from` meets its contract: the length of the thread that the clause names is what the table asks.
use mathlib.Core.Path.{◌∙◌}
use Rattle.job.proofs.ThreadLaws.{threads_number, starts_good}
use Rattle.job.proofs.goal.clause_from.Goals as goal

pub returns : goal.returns
returns c =
    let i = c.item_at-i.ensures in
    let width = c.width.ensures in
    c.clause.ensures
    ∙ rw (c.length-n.ensures, i.op, i.a, i.b, i.c, width, ← threads_number _ (starts_good c.args.threads.now.laid))
