-- A state that is well formed for a job in range meets what the functions over its parts ask.
use Rattle.std.specs.Prelude.{[], ℕ, ◌≤◌, ◌<◌, length}
use Rattle.std.proofs.Common.{arith}
use Rattle.reach.specs.ListLaws.{all_get_or}
use Rattle.rules.specs.Limits.{most_threads, longest_thread}
use Rattle.rules.specs.Job.{Job}
use Rattle.rules.specs.Sound.{JobIn, WellFormed}
use Rattle.state.specs.Held.{held, StateOk}
use Rattle.state.specs.Parts.{Runs}
use Rattle.state.specs.declared.State.{State}

-- a place is at most n, so the next is a byte
pub runs :
    (j : Job) → JobIn j → (s : State) → StateOk s → WellFormed j (held s) → (t : ℕ) → t < most_threads → Runs s t
runs j in_range s ok well t thread =
    let short = all_get_or (λ code. length code ≤ longest_thread) j.threads t [] in_range.lengths (omega arith) in
    record { ok = ok; thread = thread; next_place = omega (arith, well.places t) }
