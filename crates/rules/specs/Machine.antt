-- The machine of a job as a transition system, and why its steps can't be taken.
use Rattle.reach.specs.System.{System}
use Rattle.reach.specs.Explained.{Explained, system_of}
use Rattle.rules.specs.State.{State}
use Rattle.rules.specs.Job.{Job, start}
use Rattle.rules.specs.Step.{step}
use Rattle.rules.specs.Goal.{goal}
use Rattle.rules.specs.declared.Reason.{Reason}

-- start, step and goal are the whole of it
abbrev pub explained : Job → Explained
explained j = record { State = State; Reason = Reason; start = start j; step = step j; goal = goal j }

-- what a search asks for: `next` is the step with the reason forgotten
abbrev pub machine : Job → System
machine j = system_of (explained j)
