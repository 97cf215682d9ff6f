-- `readers::times` meets its contract: those that are left come from `at` as far as all do from the start.
use mathlib.Core.Path.{◌≡◌}
use Prim.Native.Nat.{ℕ, ◌-◌, ◌^◌, ◌<◌}
use Rattle.readers.specs.Passed.{Next, Reads, repeated}
use Rattle.readers.proofs.times.Given as goal

abbrev pub invariant-items : goal.invariant-items
invariant-items g l =
    (l.at < 2 ^ 64) × ((r : ℕ → Next) → Reads (goal.F-post g l.item) r → repeated l.count r l.start ≡ repeated (l.count - l.counter) r l.at)
