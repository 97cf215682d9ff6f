-- A state that is read from a slot where one stands is that state.
use Rattle.std.specs.Prelude.{◌≡◌, List, ℕ}
use Rattle.std.proofs.Common.{sym, subst}
use Rattle.lent.specs.Parts.{Stands}
use Rattle.rules.specs.File.{job_of}
use Rattle.rules.specs.Sound.{WellFormed, JobIn}
use Rattle.state.specs.Held.{held}
use Rattle.state.specs.Parts.{Holds}
use Rattle.state.specs.declared.State.{State}
use Rattle.slot.specs.Table.{ReadFrom}
use Rattle.slot.proofs.ReadHeld.{read_held}
use Rattle.engine.specs.At.{At}
use Rattle.search.specs.Coded.{coding, reached_well_formed}

module _ (bytes : List ℕ) (range : JobIn (job_of bytes)) (table : List ℕ) (i : ℕ) (at : Stands (coding (job_of bytes)) table i) (s : State)
    (read : ReadFrom table i s) where
  well : WellFormed (job_of bytes) at.state
  well = reached_well_formed (job_of bytes) range at.state at.reached

  holds : Holds s at.state
  holds = read_held (job_of bytes) range at.state well table i at.bytes s read

  pub read_is : held s ≡ at.state
  read_is = holds.is

  pub read_at : At bytes s
  read_at = record { ok = holds.ok; well = subst (WellFormed (job_of bytes)) (sym holds.is) well }
