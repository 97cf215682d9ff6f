-- Each run under TSO of a program that the fence check passes is followed under SC: a store runs at its flush, with the quiet
-- instructions behind it.
use Rattle.std.specs.Prelude.{◌≡◌, refl, ◌⊎◌, ℕ, ◌<◌, Ok}
use Rattle.std.proofs.Math.Path.{subst}
use Rattle.std.proofs.Common.{inl, inr}
use mathlib.Core.List.{List, [], ◌∷◌, ◌++◌}
use Rattle.std.proofs.Math.Option.{some}
use Rattle.std.proofs.Math.ListN.{get_elem?}
use Rattle.reach.specs.System.{run}
use Rattle.reach.specs.RunLaws.{andThen_some}
use Rattle.rules.specs.Limits.{most_threads}
use Rattle.rules.specs.State.{Pending, State, place, pending}
use Rattle.rules.specs.Job.{Job}
use Rattle.rules.specs.Kinds.{wait_of}
use Rattle.rules.specs.Step.{is_empty, free, executed, next}
use Rattle.rules.specs.Machine.{machine}
use Rattle.rules.specs.Fences.{fenced, ChecksTo}
use Rattle.rules.specs.Sound.{JobIn}
use Rattle.rules.specs.MayLaws.{no_is_not_yes}
use Rattle.rules.specs.declared.Model.TheVariants.{Sc, Tso}
use Rattle.rules.specs.declared.Instr.{Instr}
use Rattle.signed.specs.Under.{under}
use Rattle.signed.specs.Roles.{ByRole, is_store, is_load, is_wait, is_quiet, by_role}
use Rattle.signed.specs.Steps.{code, Ran, Flushed, next_either, run_then}
use Rattle.signed.specs.Live.{AllLive}
use Rattle.signed.proofs.Live.{run_live}
use Rattle.signed.specs.Delayed.{Delayed}
use Rattle.signed.specs.TsoToSc.{Follows, both_step, quiet_step, open_pair, store_step, flush_took, oldest_flushed, flush_step}

-- A thread's step under TSO.
module _ (j : Job) (ok : JobIn j) (t : ℕ) (low : t < most_threads) (x y : State) (d : Delayed j x y) where
  module _ (passes : ChecksTo j.threads fenced) (live : AllLive j x) (capacity : ℕ) where
    -- what the role of the instruction allows: with a store pending a load would be open, and a fence waits
    step_of : (i : Instr) → ByRole i → get_elem? (code j t) (place t y) ≡ some i → free Tso capacity (wait_of i) (pending t y) ≡ Ok tt
        → (b : List Pending) → pending t y ≡ b → Follows j x (executed Tso t i y)
    unfolding executed free is_empty
    step_of i (is_store a v) at may b e = store_step j ok t low x y d a v at
    step_of i (is_load role alike) at may [] e = rw (alike t y) (both_step j ok t low x y d i at e)
    step_of i (is_load role alike) at may (p ∷ b) e = absurd (passes t _ _ (open_pair j ok t low x y d i at live role p b e))
    step_of i (is_wait wait alike) at may [] e = rw (alike t y) (both_step j ok t low x y d i at e)
    step_of i (is_wait wait alike) at may (p ∷ b) e = absurd (no_is_not_yes (rw (wait, e) at may))
    step_of i (is_quiet q alike) at may [] e = rw (alike t y) (both_step j ok t low x y d i at e)
    step_of i (is_quiet q alike) at may (p ∷ b) e = rw (alike t y) (quiet_step j ok t low x y d i at q p b e)

module _ (j : Job) (ok : JobIn j) (passes : ChecksTo j.threads fenced) (c : ℕ) where
  follows_step : (s : ℕ) (x y y' : State) → AllLive j x → Delayed j x y → next (under Tso c j) s y ≡ some y' → Follows j x y'
  follows_step s x y y' live d e = which (next_either (under Tso c j) s y y' e)
    where
      which : Ran (under Tso c j) s y y' ⊎ ((t : ℕ) × (v : ℕ) × Flushed (under Tso c j) t v y y') → Follows j x y'
      which (inl r) =
          subst (Follows j x) r.is (step_of j ok s r.low x y d passes live c r.instr (by_role r.instr) r.stands r.may (pending s y) refl)
      which (inr (t, v, f)) = subst (Follows j x) f.is (flush_step j ok t f.low x y d v (flush_took v (pending t y) (oldest_flushed v (pending t y) f.may)))

  -- the SC state keeps to live places, as every run does
  pub followed : (w : List ℕ) (x y z : State) → AllLive j x → Delayed j x y → run (machine (under Tso c j)) w y ≡ some z → Follows j x z
  followed [] x y z live d e =
      let f : some y ≡ some z = e in
      let same : y ≡ z = cc in
      record { way = []; state = x; leads = refl; delayed = subst (Delayed j x) same d }
  followed (s ∷ w) x y z live d e =
      let r = andThen_some (next (under Tso c j) s y) (run (machine (under Tso c j)) w) z e in
      let one = follows_step s x y r.0 live d r.1 in
      let still = run_live (under Sc 0 j) one.way x one.state one.leads live in
      let rest = followed w one.state r.0 z still one.delayed r.2 in
      record {
        way = one.way ++ rest.way;
        state = rest.state;
        leads = run_then (machine (under Sc 0 j)) one.way rest.way x one.state rest.state one.leads rest.leads;
        delayed = rest.delayed;
      }
