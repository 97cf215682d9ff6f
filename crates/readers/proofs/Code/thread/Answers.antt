-- `readers::Code::thread` meets its contract: n is the byte at `at`, and then as many instructions.
use Rattle.std.proofs.Common.{rules}
use mathlib.Core.Path.{sym, ◌∙◌}
use Rattle.rules.specs.File.{instruction}
use Rattle.readers.proofs.Readers.{came_to_err, times_repeated}
use Rattle.readers.proofs.Fields.{field_passed, thread_passed}
use Rattle.readers.proofs.Code.thread.Goals as goal

pub bounds-self-at : goal.bounds-self-at
bounds-self-at c = field_passed _ _ _ _ _ (sym c.in_ok-next.ensures)

pub returns-in_err-next : goal.returns-in_err-next
returns-in_err-next c =
    let e = c.from_residual.ensures.1 in came_to_err _ _ e ∙ rw (thread_passed _ _ _ _, ← c.in_err-next.ensures)

pub returns : goal.returns
returns c = rw (thread_passed _ _ _ _, ← c.in_ok-next.ensures) (c.times.ensures _ (λ at x fits called. search rules) ∙ times_repeated (instruction c.args.self.now.bytes.now c.args.self.now.version c.args.self.now.vars _) _ _)
