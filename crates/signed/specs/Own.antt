-- A thread's own part of a state, what an instruction does to it and to memory, and that under SC it does just that.
use Rattle.std.specs.Prelude.{◌≡◌, ◌≢◌, Bool, true, false, cond, ℕ, suc, ◌+◌, ◌-◌, ◌*◌, ◌%◌, ◌≤◌, ◌<◌, eqb, length, get_or, drop}
use Rattle.std.proofs.Math.Path.{refl, ap}
use Rattle.std.proofs.Common.{◌∙◌, inl, get_or-take, get_or-drop}
use mathlib.Core.List.{List, []}
use native.Mathlib.Omega.{arith}
use Rattle.std.proofs.Math.Decide.{dec_lt}
use Rattle.std.proofs.Math.ListN.{set, take, length-set}
use Rattle.std.proofs.Math.Seq.{get_or-set_same, get_or-set_other, drop-set-lt, take-set-lt}
use Rattle.std.proofs.lemmas.List.{drop-set-add, take-set-le}
use Rattle.reach.specs.Lists.{◌∈◌}
use Rattle.rules.specs.Limits.{registers_each, all_registers, most_threads, values}
use Rattle.rules.specs.State.{State, place, register, variable, pending, with_place, with_register, with_variable}
use Rattle.rules.specs.Kinds.{control_of, role_of}
use Rattle.rules.specs.Step.{newest, carried, stored, grouped, changed, place_after, executed}
use Rattle.rules.specs.Fences.{onward}
use Rattle.rules.specs.Sound.{SourceIn, InstrIn}
use Rattle.rules.specs.Onward.{branch_onward, ControlIn, control_in}
use Rattle.rules.specs.declared.Width.{Width}
use Rattle.rules.specs.declared.Model.TheVariants.{Sc}
use Rattle.rules.specs.declared.Source.{Source}
use Rattle.rules.specs.declared.Source.TheVariants.{Register, Constant}
use Rattle.rules.specs.declared.Control.{Control}
use Rattle.rules.specs.declared.Control.TheVariants.{On, To, ToIf}
use Rattle.rules.specs.declared.Role.TheVariants.{Loads}
use Rattle.rules.specs.declared.Instr.{Instr}
use Rattle.rules.specs.declared.Instr.TheVariants.{Set, Add, Load, Store, Fence, Xchg, Jeq, Jmp, Cmpx, Wfence}

-- what belongs to one thread alone: its place and its registers
pub record OwnPart : Type 0 where
  pub place : ℕ
  pub registers : List ℕ

unfoldable pub own : ℕ → State → OwnPart
own t x = record { place = place t x; registers = take registers_each (drop (registers_each * t) x.registers) }

-- the own part with its place or a register changed
unfoldable pub at_place : ℕ → OwnPart → OwnPart
at_place p o = record { place = p; registers = o.registers }

unfoldable pub onwards : OwnPart → OwnPart
onwards o = at_place (suc o.place) o

unfoldable pub with_own_register : ℕ → ℕ → OwnPart → OwnPart
with_own_register r k o = record { place = o.place; registers = set o.registers r k }

unfoldable pub own_register : ℕ → OwnPart → ℕ
own_register r o = get_or o.registers r 0

unfoldable pub carries : OwnPart → Source → ℕ
carries o (Register r) = own_register r o
carries o (Constant k) = k

-- the place to which the thread goes on
unfoldable pub goes_on : Control → OwnPart → ℕ
goes_on On o = suc o.place
goes_on (To p) o = p
goes_on (ToIf r k p) o = cond (eqb (own_register r o) k) p (suc o.place)

pub goes_onward : (c : Control) (o : OwnPart) → goes_on c o ∈ onward o.place c
unfolding goes_on onward
goes_onward On o = inl refl
goes_onward (To p) o = inl refl
goes_onward (ToIf r k p) o = branch_onward o.place p (eqb (own_register r o) k)

-- what an instruction makes of the registers, if loads take what memory holds
unfoldable pub altered : Instr → List ℕ → OwnPart → OwnPart
altered (Set r k) m o = with_own_register r k o
altered (Add w r k) m o = with_own_register r ((own_register r o + k) % values w) o
altered (Load r v) m o = with_own_register r (get_or m v 0) o
altered (Store a v) m o = o
altered Fence m o = o
altered (Xchg r v) m o = with_own_register r (get_or m v 0) o
altered (Jeq r p k) m o = o
altered (Jmp p) m o = o
altered (Cmpx r v k) m o = with_own_register r (get_or m v 0) o
altered Wfence m o = o

unfoldable pub after : Instr → List ℕ → OwnPart → OwnPart
after i m o = at_place (goes_on (control_of i) o) (altered i m o)

-- what an instruction makes of memory, if stores go straight to it
unfoldable pub wrote : Instr → OwnPart → List ℕ → List ℕ
wrote (Set r k) o m = m
wrote (Add w r k) o m = m
wrote (Load r v) o m = m
wrote (Store a v) o m = set m v (carries o a)
wrote Fence o m = m
wrote (Xchg r v) o m = set m v (own_register r o)
wrote (Jeq r p k) o m = m
wrote (Jmp p) o m = m
wrote (Cmpx r v k) o m = cond (eqb (get_or m v 0) (own_register r o)) (set m v k) m
wrote Wfence o m = m

-- the lengths of the lists, which no step changes
pub record Sized (x : State) : Type 0 where
  pub places : length x.places ≡ most_threads
  pub registers : length x.registers ≡ all_registers
  pub buffers : length x.buffers ≡ most_threads

-- y is x with thread t's own part o and memory m
pub record Changed (t : ℕ) (o : OwnPart) (m : List ℕ) (x y : State) : Type 0 where
  pub mine : own t y ≡ o
  pub others : (u : ℕ) → u ≢ t → own u y ≡ own u x
  pub memory : y.memory ≡ m
  pub buffers : y.buffers ≡ x.buffers
  pub sized : Sized y

-- Reading a thread's own part after a part of the state was written.

module _ (t : ℕ) (low : t < most_threads) (x : State) (z : Sized x) where
  own_with_place : (p : ℕ) → own t (with_place t p x) ≡ at_place p (own t x)
  unfolding own place with_place at_place
  own_with_place p = λ i. record { place = get_or-set_same x.places t p 0 (omega (arith, z.places)) i; registers = (own t x).registers }

  own_with_register : (r k : ℕ) → r < registers_each → own t (with_register t r k x) ≡ with_own_register r k (own t x)
  unfolding own place with_register with_own_register
  own_with_register r k h =
      ap (λ (l : List ℕ). record { place = place t x; registers = l }) (rw (drop-set-add, take-set-lt))

  pub register_own : (r : ℕ) → r < registers_each → register t r x ≡ own_register r (own t x)
  unfolding own own_register register
  register_own r h = rw (get_or-take, get_or-drop)

  pub carried_own : (u : Width) (a : Source) → SourceIn u a → carried t x a ≡ carries (own t x) a
  unfolding carried carries
  carried_own u (Register r) h = register_own r h
  carried_own u (Constant k) h = refl

module _ (t u : ℕ) (other : u ≢ t) (x : State) where
  other_with_place : (p : ℕ) → own u (with_place t p x) ≡ own u x
  unfolding own place with_place
  other_with_place p = λ i. record { place = get_or-set_other x.places t u p 0 other i; registers = (own u x).registers }

  -- the registers of two threads do not overlap
  other_with_register : (r k : ℕ) → r < registers_each → own u (with_register t r k x) ≡ own u x
  unfolding own place with_register
  other_with_register r k h =
      ap (λ (l : List ℕ). record { place = place u x; registers = l }) (which (dec_lt (registers_each * t + r) (registers_each * u)))
    where
      which :
          Dec (registers_each * t + r < registers_each * u) →
          take registers_each (drop (registers_each * u) (set x.registers (registers_each * t + r) k))
          ≡ take registers_each (drop (registers_each * u) x.registers)
      which (yes below) = rw drop-set-lt
      which (no n) =
          let above : registers_each * u ≤ registers_each * t + r = omega arith in
          let far : registers_each ≤ registers_each * t + r - registers_each * u = omega arith in
          let e : registers_each * t + r ≡ registers_each * u + (registers_each * t + r - registers_each * u) = omega arith in
          ap (λ n. take registers_each (drop (registers_each * u) (set x.registers n k))) e ∙ rw (drop-set-add, take-set-le)

-- Changes one after another.

module _ (t : ℕ) (low : t < most_threads) (x : State) where
  pub unchanged : Sized x → Changed t (own t x) x.memory x x
  unchanged z = record { mine = refl; others = λ u n. refl; memory = refl; buffers = refl; sized = z }

  module _ {o : OwnPart} {m : List ℕ} {y : State} (c : Changed t o m x y) where
    changed_place : (p : ℕ) → Changed t (at_place p o) m x (with_place t p y)
    unfolding with_place
    changed_place p =
        record {
          mine = own_with_place t low y c.sized p ∙ ap (at_place p) c.mine;
          others = λ u n. other_with_place t u n y p ∙ c.others u n;
          memory = c.memory;
          buffers = c.buffers;
          sized = record { places = simp length-set c.sized.places; registers = c.sized.registers; buffers = c.sized.buffers };
        }

    changed_register : (r k : ℕ) → r < registers_each → Changed t (with_own_register r k o) m x (with_register t r k y)
    unfolding with_register
    changed_register r k h =
        record {
          mine = own_with_register t low y c.sized r k h ∙ ap (with_own_register r k) c.mine;
          others = λ u n. other_with_register t u n y r k h ∙ c.others u n;
          memory = c.memory;
          buffers = c.buffers;
          sized = record { places = c.sized.places; registers = simp length-set c.sized.registers; buffers = c.sized.buffers };
        }

    changed_variable : (v k : ℕ) → Changed t o (set m v k) x (with_variable v k y)
    unfolding with_variable own place
    changed_variable v k =
        record {
          mine = c.mine;
          others = c.others;
          memory = ap (λ (l : List ℕ). set l v k) c.memory;
          buffers = c.buffers;
          sized = record { places = c.sized.places; registers = c.sized.registers; buffers = c.sized.buffers };
        }

module _ (t : ℕ) (low : t < most_threads) (x : State) (z : Sized x) where
  -- the thread at its next place
  pub changed_onwards : Changed t (onwards (own t x)) x.memory x (with_place t (suc (place t x)) x)
  unfolding onwards own
  changed_onwards = changed_place t low x (unchanged t low x z) (suc (place t x))

  -- CMPX writes or not
  compared : (b : Bool) (v k : ℕ) → Changed t (own t x) (cond b (set x.memory v k) x.memory) x (cond b (with_variable v k x) x)
  compared true v k = changed_variable t low x (unchanged t low x z) v k
  compared false v k = unchanged t low x z

  -- under SC this becomes of the own part's registers and of memory, and no more; a load must not have a store of its own pending
  changed_does : (u : Width) (vars n : ℕ) (i : Instr) → InstrIn u vars n i → (role_of i ≡ Loads → pending t x ≡ [])
      → Changed t (altered i x.memory (own t x)) (wrote i (own t x) x.memory) x (changed Sc t i x)
  unfolding changed altered wrote stored grouped newest variable role_of
  changed_does u vars n (Set r k) h f = changed_register t low x (unchanged t low x z) r k h.0
  changed_does u vars n (Add w r k) h f =
      rw (← register_own t low x z r h.0) (changed_register t low x (unchanged t low x z) r ((register t r x + k) % values w) h.0)
  changed_does u vars n (Load r v) h f = rw (f refl) (changed_register t low x (unchanged t low x z) r (variable v x) h.0)
  changed_does u vars n (Store a v) h f =
      rw (← carried_own t low x z u a h.0) (changed_variable t low x (unchanged t low x z) v (carried t x a))
  changed_does u vars n Fence h f = unchanged t low x z
  changed_does u vars n (Xchg r v) h f =
      rw (← register_own t low x z r h.0)
      (changed_register t low x (changed_variable t low x (unchanged t low x z) v (register t r x)) r (variable v x) h.0)
  changed_does u vars n (Jeq r p k) h f = unchanged t low x z
  changed_does u vars n (Jmp p) h f = unchanged t low x z
  changed_does u vars n (Cmpx r v k) h f =
      rw (← register_own t low x z r h.0)
      (changed_register t low x (compared (eqb (variable v x) (register t r x)) v k) r (variable v x) h.0)
  changed_does u vars n Wfence h f = unchanged t low x z

  place_own : (n : ℕ) (c : Control) → ControlIn n c → place_after t c x ≡ goes_on c (own t x)
  unfolding place_after goes_on own
  place_own n On h = refl
  place_own n (To p) h = refl
  place_own n (ToIf r k p) h = rw (register_own t low x z r h.0)

  pub executed_does : (u : Width) (vars n : ℕ) (i : Instr) → InstrIn u vars n i → (role_of i ≡ Loads → pending t x ≡ [])
      → Changed t (after i x.memory (own t x)) (wrote i (own t x) x.memory) x (executed Sc t i x)
  unfolding executed after
  executed_does u vars n i h f =
      rw (← place_own n (control_of i) (control_in u vars n i h)) (changed_place t low x (changed_does u vars n i h f) (place_after t (control_of i) x))
