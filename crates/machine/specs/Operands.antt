-- What the functions for instructions ask: operands that a state has, and room for a store.
use Rattle.std.specs.Prelude.{◌≡◌, ℕ, ◌<◌, ◌≤◌, true, List, length, Ok}
use Rattle.std.proofs.Common.{arith}
use borrow.Author.Tests.{lt-ltb, ltb-true}
use Rattle.rules.specs.Limits.{most_variables, group_unit}
use Rattle.rules.specs.State.{Pending, buffer}
use Rattle.rules.specs.Step.{joined_group, has_room, free}
use Rattle.rules.specs.MayLaws.{needs_yes}
use Rattle.rules.specs.declared.Reason.TheVariants.{BufferFull}
use Rattle.rules.specs.Sound.{SourceIn, InstrIn}
use Rattle.rules.specs.Onward.{ControlIn}
use Rattle.rules.specs.declared.Model.{Model}
use Rattle.rules.specs.declared.Model.TheVariants.{Sc, Tso, Pso}
use Rattle.rules.specs.declared.Width.{Width}
use Rattle.rules.specs.declared.Source.{Source}
use Rattle.rules.specs.declared.Instr.{Instr}
use Rattle.rules.specs.declared.Control.{Control}
use Rattle.state.specs.Held.{held}
use Rattle.state.specs.declared.State.{State}
use Rattle.rules.specs.declared.Wait.{Wait}
use Rattle.rules.specs.declared.Wait.TheVariants.{Never, ForRoom, UntilEmpty}

-- an instruction of some job: of a thread of n instructions, with no more variables than a state has
pub record InstrOk (i : Instr) : Type 0 where
  pub width : Width
  pub vars : ℕ
  pub n : ℕ
  pub few : vars ≤ most_variables
  pub fits : InstrIn width vars n i

-- a store that joins under PSO has its group's number in the upper half of a byte
abbrev pub GroupFits : State → ℕ → Type 0
GroupFits s t = joined_group (buffer t (held s)) < group_unit

-- what a store of such an instruction carries
abbrev pub SourceOk : Source → Type 0
SourceOk a = (u : Width) × SourceIn u a

-- the control of such an instruction
abbrev pub ControlOk : Control → Type 0
ControlOk c = (n : ℕ) × ControlIn n c

-- what is free at a capacity is free at a larger one
module _ {c d : ℕ} (more : c ≤ d) (b : List Pending) where
  room_more : (m : Model) → has_room m c b ≡ true → has_room m d b ≡ true
  unfolding has_room
  room_more Sc h = h
  room_more Tso h = lt-ltb (length b) d (omega (arith, ltb-true (length b) c h))
  room_more Pso h = lt-ltb (length b) d (omega (arith, ltb-true (length b) c h))

  pub free_more : (m : Model) (w : Wait) → free m c w b ≡ Ok tt → free m d w b ≡ Ok tt
  unfolding free
  free_more m Never h = h
  free_more m ForRoom h = rw (room_more m (needs_yes _ BufferFull h))
  free_more m UntilEmpty h = h
