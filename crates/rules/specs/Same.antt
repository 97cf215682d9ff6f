-- What a search of the machine needs beside it: an equality test of states, and a number that all steps are below.
use Rattle.std.specs.Prelude.{◌≡◌, Bool, true, false, not, ◌&&◌, ℕ, ◌≤◌, T, eqb}
use Rattle.std.proofs.Math.Path.{refl, ap₂}
use mathlib.Core.List.{List, [], ◌∷◌}
use Rattle.std.proofs.Math.Option.{none}
use Rattle.std.proofs.Common.{eqb→eq}
use Rattle.std.proofs.Math.Dec.{eqb_refl}
use Rattle.reach.specs.Searchable.{Searchable}
use Rattle.rules.specs.Limits.{step_bound}
use Rattle.rules.specs.State.{Pending, Buffer, State}
use Rattle.rules.specs.Job.{Job}
use Rattle.rules.specs.Step.{step, next}
use Rattle.rules.specs.MayLaws.{none_from_bound}
use Rattle.rules.specs.Machine.{machine}
use Rattle.rules.specs.Tests.{both, of_both, three, of_three, four, of_four}

-- the equality test of states
unfoldable pub same_list : {A : Type 0} → (A → A → Bool) → List A → List A → Bool
same_list same [] [] = true
same_list same [] (y ∷ m) = false
same_list same (x ∷ l) [] = false
same_list same (x ∷ l) (y ∷ m) = same x y && same_list same l m

unfoldable pub same_pending : Pending → Pending → Bool
same_pending p q = eqb p.group q.group && eqb p.variable q.variable && eqb p.value q.value

unfoldable pub same_mark : Bool → Bool → Bool
same_mark true b = b
same_mark false b = not b

unfoldable pub same_buffer : Buffer → Buffer → Bool
same_buffer b c = same_list same_pending b.pending c.pending && same_mark b.marked c.marked

unfoldable pub same_state : State → State → Bool
same_state x y =
    same_list eqb x.places y.places
    && same_list eqb x.registers y.registers
    && same_list eqb x.memory y.memory
    && same_list same_buffer x.buffers y.buffers

module _ {A : Type 0} (same : A → A → Bool) where
  pub same_list_equal : ((x y : A) → T (same x y) → x ≡ y) → (l m : List A) → T (same_list same l m) → l ≡ m
  unfolding same_list
  same_list_equal law [] [] h = refl
  same_list_equal law [] (y ∷ m) h = absurd h
  same_list_equal law (x ∷ l) [] h = absurd h
  same_list_equal law (x ∷ l) (y ∷ m) h =
      let p = both (same x y) (same_list same l m) h in
      ap₂ {C = List A} ◌∷◌ (law x y p.0) (same_list_equal law l m p.1)

  same_list_refl : ((x : A) → T (same x x)) → (l : List A) → T (same_list same l l)
  unfolding same_list
  same_list_refl law [] = tt
  same_list_refl law (x ∷ l) = of_both (same x x) (same_list same l l) (law x) (same_list_refl law l)

same_pending_equal : (p q : Pending) → T (same_pending p q) → p ≡ q
unfolding same_pending
same_pending_equal p q h =
    let e = three (eqb p.group q.group) (eqb p.variable q.variable) (eqb p.value q.value) h in
    λ i.
    record {
      group = eqb→eq p.group q.group e.0 i;
      variable = eqb→eq p.variable q.variable e.1 i;
      value = eqb→eq p.value q.value e.2 i;
    }

same_pending_refl : (p : Pending) → T (same_pending p p)
unfolding same_pending
same_pending_refl p =
    of_three (eqb p.group p.group) (eqb p.variable p.variable) (eqb p.value p.value)
    (eqb_refl p.group) (eqb_refl p.variable) (eqb_refl p.value)

same_mark_equal : (a b : Bool) → T (same_mark a b) → a ≡ b
unfolding same_mark
same_mark_equal true true h = refl
same_mark_equal true false h = absurd h
same_mark_equal false true h = absurd h
same_mark_equal false false h = refl

same_mark_refl : (a : Bool) → T (same_mark a a)
unfolding same_mark
same_mark_refl true = tt
same_mark_refl false = tt

same_buffer_equal : (b c : Buffer) → T (same_buffer b c) → b ≡ c
unfolding same_buffer
same_buffer_equal b c h =
    let e = both (same_list same_pending b.pending c.pending) (same_mark b.marked c.marked) h in
    λ i.
    record {
      pending = same_list_equal same_pending same_pending_equal b.pending c.pending e.0 i;
      marked = same_mark_equal b.marked c.marked e.1 i;
    }

same_buffer_refl : (b : Buffer) → T (same_buffer b b)
unfolding same_buffer
same_buffer_refl b =
    of_both (same_list same_pending b.pending b.pending) (same_mark b.marked b.marked)
    (same_list_refl same_pending same_pending_refl b.pending) (same_mark_refl b.marked)

pub same_state_equal : (x y : State) → T (same_state x y) → x ≡ y
unfolding same_state
same_state_equal x y h =
    let e =
    four
    (same_list eqb x.places y.places)
    (same_list eqb x.registers y.registers)
    (same_list eqb x.memory y.memory)
    (same_list same_buffer x.buffers y.buffers)
    h in
    λ i.
    record {
      places = same_list_equal eqb eqb→eq x.places y.places e.0 i;
      registers = same_list_equal eqb eqb→eq x.registers y.registers e.1 i;
      memory = same_list_equal eqb eqb→eq x.memory y.memory e.2 i;
      buffers = same_list_equal same_buffer same_buffer_equal x.buffers y.buffers e.3 i;
    }

pub same_state_refl : (x : State) → T (same_state x x)
unfolding same_state
same_state_refl x =
    of_four
    (same_list eqb x.places x.places)
    (same_list eqb x.registers x.registers)
    (same_list eqb x.memory x.memory)
    (same_list same_buffer x.buffers x.buffers)
    (same_list_refl eqb eqb_refl x.places)
    (same_list_refl eqb eqb_refl x.registers)
    (same_list_refl eqb eqb_refl x.memory)
    (same_list_refl same_buffer same_buffer_refl x.buffers)

-- no step has a number from the bound upwards
pub none_beyond : (j : Job) (s : ℕ) (x : State) → step_bound ≤ s → next j s x ≡ none
unfolding step
none_beyond j s x h = rw (none_from_bound j x s h)

abbrev pub searchable : Job → Searchable
searchable j =
    record {
      system = machine j;
      same = same_state;
      same_equal = same_state_equal;
      same_refl = same_state_refl;
      bound = step_bound;
      beyond = none_beyond j;
    }
