-- `buffer::Buf::may_flush` meets its contract: by the three models; the oldest is pending, and so is one of the oldest group.
use mathlib.Core.Path.{◌≡◌, refl, sym, ◌∙◌}
use mathlib.Core.Bool.{Bool, true, false, ◌&&◌, ◌||◌, false≢true}
use mathlib.Core.List.{List, [], ◌∷◌}
use Prim.Native.Nat.{ℕ}
use lib.Dec.{eqb}
use Rattle.rules.specs.State.{Pending}
use Rattle.rules.specs.Step.{is_pending_to, is_oldest_to, is_in_oldest_group, may_flush}
use Rattle.buffer.proofs.Buf.may_flush.Goals as goal

oldest-pending : (v : ℕ) (b : List Pending) → is_oldest_to v b ≡ true → is_pending_to v b ≡ true
unfolding is_oldest_to is_pending_to
oldest-pending v [] e = absurd (false≢true e)
oldest-pending v (p ∷ b) e = rw e

oldest-group-pending : (v : ℕ) (b : List Pending) → is_in_oldest_group v b ≡ true → is_pending_to v b ≡ true
unfolding is_in_oldest_group is_pending_to
oldest-group-pending v [] e = absurd (false≢true e)
oldest-group-pending v (p ∷ b) e = either (eqb p.group 0) (eqb p.variable v) e (oldest-group-pending v b)
  where
    either : (g t : Bool) → ((g && t) || is_in_oldest_group v b) ≡ true → (is_in_oldest_group v b ≡ true → is_pending_to v b ≡ true)
        → (t || is_pending_to v b) ≡ true
    either g true e behind = refl
    either true false e behind = behind e
    either false false e behind = behind e

pub returns-in-Sc : goal.returns-in-Sc
unfolding may_flush
returns-in-Sc c = rw c.in-Sc.is

pub may_flush_first-requires-clause-pending : goal.may_flush_first-requires-clause-pending
may_flush_first-requires-clause-pending c = λ first. oldest-pending _ _ (sym c.is_oldest_to.ensures ∙ first)

pub may_flush_first-requires-in-Pso-clause-pending : goal.may_flush_first-requires-in-Pso-clause-pending
may_flush_first-requires-in-Pso-clause-pending c = λ first. oldest-group-pending _ _ (sym c.is_in_oldest_group.ensures ∙ first)

pub returns-in-Tso : goal.returns-in-Tso
unfolding may_flush
returns-in-Tso c = rw (c.in-Tso.is, ← c.is_oldest_to.ensures) c.may_flush_first.ensures

pub returns-in-Pso : goal.returns-in-Pso
unfolding may_flush
returns-in-Pso c = rw (c.in-Pso.is, ← c.is_in_oldest_group.ensures) c.may_flush_first-in-Pso.ensures
