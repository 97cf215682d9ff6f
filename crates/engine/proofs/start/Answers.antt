use Rattle.rules.specs.File.{job_of}
use Rattle.engine.proofs.StartLaws.{starts}
use Rattle.engine.proofs.start.Goals as goal

pub returns : goal.returns
returns c =
    let l = c.loop-cell in
    starts (job_of _) c.args.job.now.in_range.variables_most l.x l.cell c.loop-cell-test.false l.invariant
