-- `readers::Code::threads` meets its contract: as many threads, one after another.
use Rattle.std.proofs.Common.{rules}
use mathlib.Core.Path.{◌∙◌}
use Rattle.rules.specs.File.{thread}
use Rattle.readers.proofs.Readers.{times_repeated}
use Rattle.readers.proofs.Code.threads.Goals as goal

pub returns : goal.returns
returns c = c.times.ensures _ (λ at x fits called. search rules) ∙ times_repeated (thread c.args.self.now.bytes.now c.args.self.now.version c.args.self.now.vars) _ _
