-- `job::parts::Job::flag` meets its contract: the byte of a flag is 0 or 1.
use Rattle.readers.proofs.Fields.{flag_is}
use Rattle.job.proofs.parts.Job.flag.Goals as goal

pub returns : goal.returns
returns c = flag_is _ _ c.args.self.now.laid.goal.flag_is
