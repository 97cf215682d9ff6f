-- The parts of a goal: the buffers of a state, and the clauses that were read.
use mathlib.Core.Path.{◌≡◌, sym, ap, ◌∙◌}
use mathlib.Core.List.{List}
use mathlib.Core.Option.{some, none-ne-some}
use Prim.Native.Nat.{ℕ, ◌≤◌, ◌<◌}
use native.Mathlib.Omega.{arith}
use lib.ListN.{length, get_or, get_elem?}
use Rattle.reach.specs.ListLaws.{all_at, at_in, below_at, at_default}
use Rattle.rules.specs.Limits.{most_threads, most_variables}
use Rattle.rules.specs.Job.{Job, width}
use Rattle.rules.specs.Sound.{ClauseIn, JobIn}
use Rattle.rules.specs.declared.Width.{Width}
use Rattle.rules.specs.declared.Clause.{Clause}
use Rattle.rules.specs.declared.Clause.TheVariants.{PlaceIs, RegisterIs, MemoryIs}
use Rattle.rules.specs.declared.Instr.{Instr}
use Rattle.buffer.specs.Held.{BufferOk}
use Rattle.buffer.specs.declared.Buf.{Buf}
use Rattle.std.specs.Prelude.{Option, Some, None}
use Rattle.tables.specs.Told.{told}
use Rattle.state.specs.Held.{StateOk}
use Rattle.state.specs.declared.State.{State}
use Rattle.engine.specs.At.{ClauseOk}

module _ (s : State) (ok : StateOk s) where
  -- each buffer is as it should be
  pub buffer_ok : (b : Buf) (t : ℕ) → t < length s.bufs → b ≡ get_or s.bufs t b → BufferOk b
  buffer_ok b t h is = all_at BufferOk s.bufs ok.buffers b (at_in s.bufs t b (at_default s.bufs t b h ∙ ap some (sym is)))

-- a clause of a job in range speaks of parts that a state has
clause_parts :
    (w : Width) (vars : ℕ) (threads : List (List Instr)) → vars ≤ most_variables → length threads ≤ most_threads →
    (c : Clause) → ClauseIn w vars threads c → ClauseOk c
clause_parts w vars threads few small (PlaceIs t p) h = omega (arith, h.0)
clause_parts w vars threads few small (RegisterIs t r k) h = (omega (arith, h.0), h.1)
clause_parts w vars threads few small (MemoryIs v k) h = omega (arith, h.0)

-- The clause at place i was read.
module _ (j : Job) (i : ℕ) (r : Option Clause) (read : told r ≡ get_elem? j.clauses i) where
  pub clause_read : (c : Clause) → r ≡ Some c → get_elem? j.clauses i ≡ some c
  clause_read c e = sym read ∙ ap told e

  pub clause_ok : JobIn j → (c : Clause) → r ≡ Some c → ClauseOk c
  clause_ok range c e =
      clause_parts (width j) (length j.initial) j.threads range.variables_most range.threads_most c
      (all_at (ClauseIn (width j) (length j.initial) j.threads) j.clauses range.clauses c (at_in j.clauses i c (clause_read c e)))

  -- none is bad below the number of the clauses
  pub clause_there : r ≡ None → i < length j.clauses → ⊥
  clause_there e h =
      let c = below_at j.clauses i h in
      none-ne-some c.0 (ap told (sym e) ∙ read ∙ c.1)
