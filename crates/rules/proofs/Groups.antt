-- Under PSO two histories that leave the same groups are the same bytes: which groups are left is said without their numbers and without the order of
-- issue. (Under TSO the order of issue is the state, and there is one group.)
use Rattle.std.specs.Prelude.{◌≡◌, List, ℕ, get_or}
use Rattle.std.proofs.Common.{sym, ap, subst, ◌∙◌, ext_get_or}
use Rattle.reach.specs.Meaning.{LeadsTo}
use Rattle.rules.specs.State.{empty_buffer, State, buffer, pending}
use Rattle.rules.specs.Job.{Job}
use Rattle.rules.specs.Machine.{machine}
use Rattle.rules.specs.Slot.{slot_bytes}
use Rattle.rules.specs.Sound.{JobIn, InOrder, WellFormed}
use Rattle.rules.specs.Keeps.{buffer_in}
use Rattle.rules.proofs.Keeps.{run_well_formed}
use Rattle.rules.specs.declared.Model.TheVariants.{Pso}
use Rattle.rules.specs.Groups.{same_stores, SameSituation}

-- whichever schedules lead there
pub same_bytes : (j : Job) → JobIn j → j.model ≡ Pso → (u w : List ℕ) (x y : State) → LeadsTo (machine j) u x → LeadsTo (machine j) w y
    → SameSituation x y → slot_bytes x ≡ slot_bytes y
unfolding buffer
same_bytes j ok pso u w x y leads_x leads_y same = ap slot_bytes one_state
  where
    well_x : WellFormed j x
    well_x = run_well_formed j ok u x leads_x

    well_y : WellFormed j y
    well_y = run_well_formed j ok w y leads_y

    in_order : (z : State) → WellFormed j z → (t : ℕ) → InOrder Pso (pending t z)
    in_order z well t = subst (λ m. InOrder m (pending t z)) pso (buffer_in j z well t).order

    each : (t : ℕ) → buffer t x ≡ buffer t y
    each t =
        let stores = same_stores (pending t x) (pending t y) (in_order x well_x t) (in_order y well_y t) (same.groups t) in
        λ i. record { pending = stores i; marked = same.marks t i }

    buffers : x.buffers ≡ y.buffers
    buffers = ext_get_or empty_buffer x.buffers y.buffers (well_x.buffers_number ∙ sym well_y.buffers_number) (λ t h. at_each t)
      where
        at_each : (t : ℕ) → get_or x.buffers t empty_buffer ≡ get_or y.buffers t empty_buffer
        at_each t = each t

    one_state : x ≡ y
    one_state = λ i. record { places = same.places i; registers = same.registers i; memory = same.memory i; buffers = buffers i }
