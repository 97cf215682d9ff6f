-- Under SC nothing is ever pending, and what one instruction of a thread does is `executed_does`.
use Rattle.std.specs.Prelude.{◌≡◌, refl, ◌⊎◌, List, [], ℕ, ◌<◌, length, replicate, Ok}
use Rattle.std.proofs.Common.{ap, ◌∙◌, subst, inl, inr, arith}
use Rattle.std.proofs.Math.Option.{some}
use Rattle.std.proofs.Math.ListN.{get_elem?}
use Rattle.reach.specs.ListLaws.{get_or_padded}
use Rattle.rules.specs.Limits.{most_threads}
use Rattle.rules.specs.State.{Pending, Buffer, empty_buffer, State, place, buffer, pending}
use Rattle.rules.specs.Job.{Job, width, start}
use Rattle.rules.specs.Kinds.{wait_of}
use Rattle.rules.specs.Step.{has_room, free, is_empty, may_flush, executed, next}
use Rattle.rules.specs.Sound.{JobIn}
use Rattle.rules.specs.MayLaws.{no_is_not_yes}
use Rattle.rules.specs.declared.Model.TheVariants.{Sc}
use Rattle.rules.specs.declared.Wait.{Wait}
use Rattle.rules.specs.declared.Wait.TheVariants.{Never, ForRoom, UntilEmpty}
use Rattle.rules.specs.declared.Instr.{Instr}
use Rattle.signed.specs.Under.{under}
use Rattle.signed.specs.Own.{OwnPart, own, after, wrote, Sized, Changed, executed_does}
use Rattle.signed.specs.Steps.{code, Ran, Flushed, instr_in, next_runs, next_either}

-- a state in which nothing is pending
pub record Calm (x : State) : Type 0 where
  pub sized : Sized x
  pub empty : x.buffers ≡ replicate most_threads empty_buffer

pub calm_buffer : {x : State} → Calm x → (t : ℕ) → buffer t x ≡ empty_buffer
unfolding buffer
calm_buffer k t = rw k.empty (get_or_padded [] most_threads t empty_buffer (omega arith))

pub calm_pending : {x : State} → Calm x → (t : ℕ) → pending t x ≡ []
calm_pending k t = ap (λ (b : Buffer). b.pending) (calm_buffer k t)

pub calm_changed : {t : ℕ} {o : OwnPart} {m : List ℕ} {x y : State} → Changed t o m x y → Calm x → Calm y
calm_changed c k = record { sized = c.sized; empty = c.buffers ∙ k.empty }

pub start_calm : (j : Job) → Calm (start j)
unfolding start
start_calm j = record { sized = record { places = refl; registers = refl; buffers = refl }; empty = refl }

-- under SC nothing waits for an empty buffer
empty_free : (w : Wait) (b : List Pending) → b ≡ [] → free Sc 0 w b ≡ Ok tt
unfolding free has_room is_empty
empty_free Never b e = refl
empty_free ForRoom b e = refl
empty_free UntilEmpty b e = rw e

module _ (j : Job) (ok : JobIn j) where
  -- a thread's step under SC
  module _ (t : ℕ) (x : State) (i : Instr) (low : t < most_threads) (k : Calm x) (e : get_elem? (code j t) (place t x) ≡ some i) where
    pub sc_next : next (under Sc 0 j) t x ≡ some (executed Sc t i x)
    sc_next = next_runs (under Sc 0 j) t x i low e (empty_free (wait_of i) (pending t x) (calm_pending k t))

    pub sc_does : Changed t (after i x.memory (own t x)) (wrote i (own t x) x.memory) x (executed Sc t i x)
    sc_does =
        executed_does t low x k.sized (width j) (length j.initial) (length (code j t)) i (instr_in j ok t (place t x) i e) (λ h. calm_pending k t)

  -- no flush, so every step is a thread's
  pub sc_ran : (s : ℕ) (x y : State) → next (under Sc 0 j) s x ≡ some y → Ran (under Sc 0 j) s x y
  unfolding may_flush
  sc_ran s x y e = which (next_either (under Sc 0 j) s x y e)
    where
      which : Ran (under Sc 0 j) s x y ⊎ ((t : ℕ) × (v : ℕ) × Flushed (under Sc 0 j) t v x y) → Ran (under Sc 0 j) s x y
      which (inl r) = r
      which (inr f) = absurd (no_is_not_yes f.2.may)

  pub sc_calm : (s : ℕ) (x y : State) → Calm x → next (under Sc 0 j) s x ≡ some y → Calm y
  sc_calm s x y k e =
      let r = sc_ran s x y e in
      subst Calm r.is (calm_changed (sc_does s x r.instr r.low k r.stands) k)
