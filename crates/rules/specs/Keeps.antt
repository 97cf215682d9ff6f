-- Every state that an accepted job reaches is well formed: the start is, and each step keeps it so.
use Rattle.std.specs.Prelude.{◌≡◌, Bool, not, ◌&&◌, List, [], ◌∷◌, ℕ, zero, suc, ◌+◌, ◌-◌, ◌*◌, ◌%◌, ◌≤◌, ◌<◌, eqb, get_or, replicate, Ok}
use Rattle.std.proofs.Math.Path.{refl, ap, subst}
use Rattle.std.proofs.Common.{sym, arith, length-append}
use Rattle.std.proofs.Math.Bool.{true, false, cond}
use Rattle.std.proofs.Math.Option.{some}
use Rattle.std.proofs.Math.ListN.{length, get_elem?, length-set}
use Rattle.std.proofs.lemmas.List.{length-replicate}
use Rattle.reach.specs.Lists.{All}
use Rattle.reach.specs.ListLaws.{all_at, all_imp, all_append, all_replicate, all_get_or, all_set, at_in, at_below, at_get_or, at_set, get_or_padded}
use Rattle.reach.specs.System.{and_then}
use Rattle.reach.specs.RunLaws.{andThen_some}
use Rattle.rules.specs.Limits.{most_threads, most_variables, registers_each, all_registers, values, most_pending}
use Rattle.rules.specs.State.{Pending, Buffer, empty_buffer, State, place, register, variable, buffer, pending}
use Rattle.rules.specs.State.{with_place, with_register, with_variable, with_buffer}
use Rattle.rules.specs.Job.{Job, width, start}
use Rattle.rules.specs.Step.{newest, without_oldest_to, flushed_buffer, marked_buffer, is_empty, is_pending_to, may_flush}
use Rattle.rules.specs.Step.{carried, grouped, instruction_at}
use Rattle.rules.specs.MayLaws.{no_is_not_yes, needs_yes, then_yes}
use Rattle.rules.specs.Sound.{Value, SourceIn, InstrIn, CapacityIn, JobIn, InOrder, MarkIn, BufferIn, WellFormed}
use Rattle.rules.specs.BufferLaws.{of_cond, Inserted, inserted_length, inserted_all, counted_length}
use Rattle.rules.specs.declared.Width.{Width}
use Rattle.rules.specs.declared.Width.TheVariants.{One, Two}
use Rattle.rules.specs.declared.Model.{Model}
use Rattle.rules.specs.declared.Model.TheVariants.{Sc, Tso, Pso}
use Rattle.rules.specs.declared.Source.{Source}
use Rattle.rules.specs.declared.Source.TheVariants.{Register, Constant}
use Rattle.rules.specs.declared.Instr.{Instr}

-- 0 is a value, and so is a sum modulo the width's values
pub zero_in : (u : Width) → Value u 0
zero_in One = omega arith
zero_in Two = omega arith

pub sum_in : (u : Width) (n : ℕ) → Value u (n % values u)
sum_in One n = omega arith
sum_in Two n = omega arith

-- Buffers.

-- a store that may be flushed is pending, under PSO in the oldest group
pub flush_pending : (m : Model) (v : ℕ) (b : List Pending) → may_flush m v b ≡ Ok tt → is_pending_to v b ≡ true
unfolding may_flush
flush_pending Sc v b h = absurd (no_is_not_yes h)
flush_pending Tso v b h = needs_yes (is_pending_to v b) _ (then_yes _ _ h).0
flush_pending Pso v b h = needs_yes (is_pending_to v b) _ (then_yes _ _ h).0

pub newest_value : (u : Width) (v k : ℕ) (b : List Pending) → Value u k → All (λ p. Value u p.value) b → Value u (newest v k b)
unfolding newest
newest_value u v k [] h a = h
newest_value u v k (p ∷ b) h a =
    newest_value u v (cond (eqb p.variable v) p.value k) b (of_cond (Value u) (eqb p.variable v) (λ e. a.0) (λ e. h)) a.1

in_order_empty : (m : Model) → InOrder m []
in_order_empty Sc = refl
in_order_empty Tso = tt
in_order_empty Pso = (tt, tt)

unmarked_in : (m : Model) (b : Buffer) → b.marked ≡ false → MarkIn m b
unmarked_in Sc b e = e
unmarked_in Tso b e = e
unmarked_in Pso b e = λ h. e

pub flush_mark_in : (m : Model) (v : ℕ) (b : Buffer) → MarkIn m b → MarkIn m (flushed_buffer v b)
unfolding flushed_buffer is_empty
flush_mark_in Sc v b h = rw h
flush_mark_in Tso v b h = rw h
flush_mark_in Pso v b h = λ e.
    let rest = without_oldest_to v b.pending in
    gone b.marked (is_empty rest) (nothing_left rest (omega (arith, ap length e, counted_length rest)))
  where
    nothing_left : (l : List Pending) → length l ≡ 0 → is_empty l ≡ true
    nothing_left [] n = refl
    nothing_left (p ∷ l) n = absurd (omega arith)

    gone : (m e : Bool) → e ≡ true → (m && not e) ≡ false
    gone true e d = rw d
    gone false e d = refl

-- a pending store's variable and value are in range
pub record PendingIn (j : Job) (q : Pending) : Type 0 where
  pub variable_in : q.variable < length j.initial
  pub value_in : Value (width j) q.value

module _ (j : Job) where
  empty_in : BufferIn j empty_buffer
  empty_in = record { count = omega arith; variables = tt; values_in = tt; order = in_order_empty j.model; mark = unmarked_in j.model empty_buffer refl }

  -- a store has joined: the mark has ended
  inserted_in : {q : Pending} {b : Buffer} {c : List Pending}
      → Inserted q b.pending c → BufferIn j b → PendingIn j q → length b.pending < j.capacity → InOrder j.model c
      → BufferIn j (record { pending = c; marked = false })
  inserted_in {c = c} i h q room o =
      record {
        count = omega (arith, inserted_length i);
        variables = inserted_all (λ p. p.variable < length j.initial) i q.variable_in h.variables;
        values_in = inserted_all (λ p. Value (width j) p.value) i q.value_in h.values_in;
        order = o;
        mark = unmarked_in j.model (record { pending = c; marked = false }) refl;
      }

  -- a WFENCE under PSO: a mark stands only behind a store
  marked_in : (b : Buffer) → j.model ≡ Pso → BufferIn j b → BufferIn j (marked_buffer b)
  unfolding marked_buffer is_empty
  marked_in b pso h =
      record { count = h.count; variables = h.variables; values_in = h.values_in; order = h.order; mark = subst (λ m. MarkIn m (marked_buffer b)) (sym pso) (λ e. rw e) }

-- the stores of one buffer never outnumber the pairs that a slot has for them
abbrev pub Fits : Buffer → Type 0
Fits b = length b.pending ≤ most_pending

pub capacity_most : (m : Model) (c : ℕ) → CapacityIn m c → c ≤ most_pending
capacity_most Sc c h = omega arith
capacity_most Tso c h = h.1
capacity_most Pso c h = h.1

module _ (j : Job) (ok : JobIn j) where
  pub buffer_fits : (b : Buffer) → BufferIn j b → Fits b
  buffer_fits b h = omega (arith, capacity_most j.model j.capacity ok.capacity)

  pub buffers_fit : (x : State) → WellFormed j x → All Fits x.buffers
  buffers_fit x w = all_imp (BufferIn j) Fits buffer_fits x.buffers w.buffers

-- States: what may be written to each part.

module _ (j : Job) (x : State) (w : WellFormed j x) where
  pub register_value : (t r : ℕ) → Value (width j) (register t r x)
  unfolding register
  register_value t r = all_get_or (Value (width j)) x.registers (registers_each * t + r) 0 w.registers (zero_in (width j))

  pub variable_value : (v : ℕ) → Value (width j) (variable v x)
  unfolding variable
  variable_value v = all_get_or (Value (width j)) x.memory v 0 w.memory (zero_in (width j))

  pub buffer_in : (t : ℕ) → BufferIn j (buffer t x)
  unfolding buffer
  buffer_in t = all_get_or (BufferIn j) x.buffers t empty_buffer w.buffers (empty_in j)

  pub with_place_keeps : (t p : ℕ) → p ≤ length (get_or j.threads t []) → WellFormed j (with_place t p x)
  unfolding place register variable buffer with_place
  with_place_keeps t p h =
      record {
        places_number = simp length-set w.places_number;
        registers_number = w.registers_number;
        memory_number = w.memory_number;
        buffers_number = w.buffers_number;
        places = at_set (λ k q. q ≤ length (get_or j.threads k [])) x.places t p 0 w.places h;
        registers = w.registers;
        registers_unused = w.registers_unused;
        memory = w.memory;
        memory_unused = w.memory_unused;
        buffers = w.buffers;
        buffers_unused = w.buffers_unused;
      }

  pub with_register_keeps : (t r k : ℕ) → t < length j.threads → r < registers_each → Value (width j) k → WellFormed j (with_register t r k x)
  unfolding place register variable buffer with_register
  with_register_keeps t r k used low h =
      record {
        places_number = w.places_number;
        registers_number = simp length-set w.registers_number;
        memory_number = w.memory_number;
        buffers_number = w.buffers_number;
        places = w.places;
        registers = all_set (Value (width j)) x.registers (registers_each * t + r) k w.registers h;
        registers_unused =
            λ u s beyond below.
            at_set
            (λ i n. i ≡ registers_each * u + s → n ≡ 0)
            x.registers
            (registers_each * t + r)
            k
            0
            (λ i e. rw e (w.registers_unused u s beyond below))
            (λ e. absurd (omega arith))
            (registers_each * u + s)
            refl;
        memory = w.memory;
        memory_unused = w.memory_unused;
        buffers = w.buffers;
        buffers_unused = w.buffers_unused;
      }

  pub with_variable_keeps : (v k : ℕ) → v < length j.initial → Value (width j) k → WellFormed j (with_variable v k x)
  unfolding place register variable buffer with_variable
  with_variable_keeps v k used h =
      record {
        places_number = w.places_number;
        registers_number = w.registers_number;
        memory_number = simp length-set w.memory_number;
        buffers_number = w.buffers_number;
        places = w.places;
        registers = w.registers;
        registers_unused = w.registers_unused;
        memory = all_set (Value (width j)) x.memory v k w.memory h;
        memory_unused =
            at_set (λ u n. length j.initial ≤ u → n ≡ 0) x.memory v k 0 w.memory_unused (λ beyond. absurd (omega arith));
        buffers = w.buffers;
        buffers_unused = w.buffers_unused;
      }

  pub with_buffer_keeps : (t : ℕ) (b : Buffer) → t < length j.threads → BufferIn j b → WellFormed j (with_buffer t b x)
  unfolding place register variable buffer with_buffer
  with_buffer_keeps t b used h =
      record {
        places_number = w.places_number;
        registers_number = w.registers_number;
        memory_number = w.memory_number;
        buffers_number = simp length-set w.buffers_number;
        places = w.places;
        registers = w.registers;
        registers_unused = w.registers_unused;
        memory = w.memory;
        memory_unused = w.memory_unused;
        buffers = all_set (BufferIn j) x.buffers t b w.buffers h;
        buffers_unused =
            at_set (λ u c. length j.threads ≤ u → c ≡ empty_buffer) x.buffers t b empty_buffer w.buffers_unused (λ beyond. absurd (omega arith));
      }

  pub carried_value : (t : ℕ) (a : Source) → SourceIn (width j) a → Value (width j) (carried t x a)
  unfolding carried
  carried_value t (Register r) h = register_value t r
  carried_value t (Constant k) h = h

-- what stands at a place of a thread; a thread that the job doesn't have has no instruction
pub instruction_of_thread : (j : Job) (t p : ℕ) → instruction_at j t p ≡ get_elem? (get_or j.threads t []) p
unfolding instruction_at
instruction_of_thread j t p = go j.threads t
  where
    go : (l : List (List Instr)) (t : ℕ) → and_then (get_elem? l t) (λ code. get_elem? code p) ≡ get_elem? (get_or l t []) p
    go [] t = refl
    go (code ∷ l) zero = refl
    go (code ∷ l) (suc t) = go l t

-- an instruction that a thread can stand at: thread, place and operands are the job's
pub record StandsIn (j : Job) (t p : ℕ) (i : Instr) : Type 0 where
  pub thread : t < length j.threads
  pub inside : p < length (get_or j.threads t [])
  pub operands : InstrIn (width j) (length j.initial) (length (get_or j.threads t [])) i

pub stands : (j : Job) → JobIn j → (t p : ℕ) (i : Instr) → instruction_at j t p ≡ some i → StandsIn j t p i
unfolding instruction_at
stands j ok t p i e =
    let r = andThen_some (get_elem? j.threads t) (λ code. get_elem? code p) i e in
    let code_is = at_get_or j.threads t r.0 [] r.1 in
    let Fit : List Instr → Instr → Type 0 = λ code. InstrIn (width j) (length j.initial) (length code) in
    let fits = all_at (λ code. All (Fit code) code) j.threads ok.instructions r.0 (at_in j.threads t r.0 r.1) in
    record {
      thread = at_below j.threads t r.0 r.1;
      inside = rw code_is (at_below r.0 p i r.2);
      operands = rw code_is (all_at (Fit r.0) r.0 fits i (at_in r.0 p i r.2));
    }

-- One step, of a thread that the job has.

module _ (j : Job) (t : ℕ) (used : t < length j.threads) (x : State) (w : WellFormed j x) where
  pub joined_keeps : {q : Pending} {c : List Pending}
      → Inserted q (pending t x) c → PendingIn j q → length (pending t x) < j.capacity → InOrder j.model c
      → WellFormed j (with_buffer t (record { pending = c; marked = false }) x)
  joined_keeps i h room o = with_buffer_keeps j x w t _ used (inserted_in j i (buffer_in j x w t) h room o)

  pub grouped_keeps : (m : Model) → j.model ≡ m → WellFormed j (grouped m t x)
  unfolding grouped
  grouped_keeps Sc e = w
  grouped_keeps Tso e = w
  grouped_keeps Pso e = with_buffer_keeps j x w t _ used (marked_in j (buffer t x) e (buffer_in j x w t))

  -- CMPX writes or not
  pub compared_keeps : (b : Bool) (v k : ℕ) → v < length j.initial → Value (width j) k → WellFormed j (cond b (with_variable v k x) x)
  compared_keeps true v k to value = with_variable_keeps j x w v k to value
  compared_keeps false v k to value = w

pub start_well_formed : (j : Job) → JobIn j → WellFormed j (start j)
unfolding start place register variable buffer
start_well_formed j ok =
    let spare = most_variables - length j.initial in
    record {
      places_number = refl;
      registers_number = refl;
      memory_number = simp (length-append, length-replicate) (omega arith);
      buffers_number = refl;
      places = λ t. omega (arith, get_or_padded {A = ℕ} [] most_threads t 0 (omega arith));
      registers = all_replicate (Value (width j)) all_registers 0 (zero_in (width j));
      registers_unused = λ t r h k. get_or_padded [] all_registers (registers_each * t + r) 0 (omega arith);
      memory = all_append (Value (width j)) j.initial (replicate spare 0) ok.initial (all_replicate (Value (width j)) spare 0 (zero_in (width j)));
      memory_unused = λ v beyond. get_or_padded j.initial spare v 0 beyond;
      buffers = all_replicate (BufferIn j) most_threads empty_buffer (empty_in j);
      buffers_unused = λ t beyond. get_or_padded [] most_threads t empty_buffer (omega arith);
    }
