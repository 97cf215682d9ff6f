-- What the bytes of an accepted job hold, and where; and that the stages in a row come to what the bytes are.
use mathlib.Core.Path.{◌≡◌, refl, sym, ap, subst, ◌∙◌}
use mathlib.Core.Bool.{Bool, true, false, cond}
use mathlib.Core.List.{List}
use mathlib.Core.Option.{some}
use Prim.Native.Nat.{ℕ, ◌+◌}
use native.Mathlib.Omega.{arith}
use borrow.Author.Tests.{eqb-true}
use lib.Dec.{eqb}
use lib.ListN.{length, get_or}
use Rattle.std.specs.Prelude.{Result, Err}
use Rattle.std.specs.Result.{IsErrAnd}
use Rattle.reach.specs.ListLaws.{at_get_or}
use Rattle.rules.specs.Limits.{first_version, last_version, most_threads, most_variables, most_pending, length_size, head_size, value_size, item_size}
use Rattle.rules.specs.Job.{Job}
use Rattle.rules.specs.File.{Read, ◌>>=◌, got, fault, times, byte, field, model_of, capacity_of, flag_of, clause_count_of, thread, clause, initial_value, ended, fields, length_ok, accepted, refused, decoded, decode}
use Rattle.rules.specs.declared.Model.{Model}
use Rattle.rules.specs.declared.Model.TheVariants.{Sc, Tso, Pso}
use Rattle.rules.specs.declared.Instr.{Instr}
use Rattle.rules.specs.declared.Clause.{Clause}
use Rattle.job.specs.declared.Starts.{Starts}
use Rattle.readers.specs.Passed.{At, Fault, came_to, version_at, model_at, capacity_at, threads_at, variables_at, count_in, version_in, vars_in, model_in, passed, listed, then}
use Rattle.readers.specs.Stages.{length_stage, head_stage}
use Rattle.readers.specs.declared.faults.Fault as faults
use Rattle.job.specs.Passed.{came_out, answer, answer_of}
use Rattle.job.specs.Stages.{width_in, values_end, threads_read, threads_of, rest_stage}
use Rattle.job.specs.Laid.{HeadGood, ThreadsGood, StartsLaid, GoalLaid, Laid}
use Rattle.readers.proofs.Readers.{handed_on, items_laid, then_got, times_length}
use Rattle.readers.proofs.Fields.{range_got, field_then, range_then}
use Rattle.job.proofs.StageLaws.{values_then, fields_passed}

capacity_is : (m : Model) (k a : ℕ) → capacity_of m k ≡ some a → a ≡ k
unfolding capacity_of
capacity_is Sc k a e = (range_got 0 0 k a e).is
capacity_is Tso k a e = (range_got 1 most_pending k a e).is
capacity_is Pso k a e = (range_got 1 most_pending k a e).is

module _ (bytes : List ℕ) where
  -- the fields of an accepted job; `end` is where its goal begins
  pub record Fields (j : Job) : Type 0 where
    pub head : HeadGood bytes
    pub version : get_or bytes version_at 0 ≡ j.version
    pub model : model_in bytes ≡ some j.model
    pub capacity : get_or bytes capacity_at 0 ≡ j.capacity
    pub initial : times (vars_in bytes) (initial_value bytes (width_in bytes)) head_size ≡ got j.initial (values_end bytes)
    pub end : ℕ
    pub threads : threads_read bytes (count_in bytes) ≡ got j.threads end
    pub goal : GoalLaid bytes end j.all_empty j.clauses

  ended_got : {A : Type 0} (a b : A) (at next : ℕ) → ended bytes a at ≡ got b next → (at ≡ length bytes) × (a ≡ b)
  unfolding ended
  ended_got {A} a b at next e = go (eqb at (length bytes)) refl e
    where
      go : (x : Bool) → eqb at (length bytes) ≡ x → cond x (got a at) (fault 6 at) ≡ got b next → (at ≡ length bytes) × (a ≡ b)
      go true h e = (eqb-true at (length bytes) h, cc)
      go false h e = absurd (let z : ◌≡◌ {A = ℕ} 0 1 = cc in omega arith)

  -- a goal that was read over the threads, with what was made of it
  goal_got : {A : Type 0} (threads : List (List Instr)) → threads_of bytes ≡ threads → (make : Bool → List Clause → A) (at : ℕ) (a : A) (next : ℕ) →
      (field bytes 5 flag_of >>= λ flag.
      field bytes 5 clause_count_of >>= λ K.
      times K (clause bytes (width_in bytes) (vars_in bytes) threads) >>= λ clauses. ended bytes (make flag clauses)) at
      ≡ got a next →
      (flag : Bool) × (clauses : List Clause) × (make flag clauses ≡ a) × GoalLaid bytes at flag clauses
  unfolding clause byte
  goal_got threads is make at a next e =
      let flag = field_then bytes 5 flag_of _ at a next e in
      let K = range_then bytes 5 _ _ _ (at + 1) a next flag.rest in
      let t = then_got (times (get_or bytes (at + 1) 0) (clause bytes (width_in bytes) (vars_in bytes) threads)) _ (at + 1 + 1) a next K.rest in
      let h = items_laid bytes (item_size (width_in bytes)) 5 _ _ (at + 1 + 1) t.0 t.1 t.2 in
      let last = ended_got _ a t.1 next t.3 in
      let two : at + 2 ≡ at + 1 + 1 = omega arith in (
        flag.held,
        t.0,
        last.1,
        record {
          flag_is = flag.holds;
          number = sym h.number;
          ends = rw (two, h.number, ← h.behind) last.0;
          clauses_are = λ i m. rw (two, is) (h.values i (omega (arith, h.number)));
        },
      )

  fields_got : (j : Job) (next : ℕ) → fields bytes length_size ≡ got j next → Fields j
  unfolding fields threads_read threads_of
  fields_got j next e =
      let version = range_then bytes 2 first_version last_version _ version_at j next e in
      let model = field_then bytes 3 model_of _ model_at j next version.rest in
      let capacity = field_then bytes 3 _ _ capacity_at j next model.rest in
      let count = range_then bytes 3 1 most_threads _ threads_at j next capacity.rest in
      let vars = range_then bytes 3 1 most_variables _ variables_at j next count.rest in
      let initial = values_then bytes (width_in bytes) _ (vars_in bytes) head_size j next vars.rest in
      let threads = then_got (times (count_in bytes) (thread bytes (version_in bytes) (vars_in bytes))) _ (values_end bytes) j next initial.2 in
      let goal = goal_got threads.0 (ap listed threads.2) _ threads.1 j next threads.3 in
      subst Fields goal.2
      (record {
        head = record { there = vars.there; most = count.most };
        version = refl;
        model = model.holds;
        capacity = sym (capacity_is model.held _ _ capacity.holds);
        initial = initial.1;
        end = threads.1;
        threads = threads.2;
        goal = goal.3;
      })

  -- what the bytes are is what the stages come to
  pub decode_stages : answer_of (decode bytes) ≡ answer (then (then (length_stage bytes) (head_stage bytes)) (rest_stage bytes)) (model_in bytes)
  unfolding decode decoded length_stage
  decode_stages = go (length_ok bytes)
    where
      read_to : (x : Read Job) → fields bytes length_size ≡ x → answer_of (decoded x) ≡ answer (passed x) (model_in bytes)
      read_to (got j next) d = rw (fields_got j next d).model
      read_to (fault number offset) d = refl

      go :
          (b : Bool) → answer_of (cond b (decoded (fields bytes length_size)) (refused 1 0))
          ≡ answer (then (then (cond b (At version_at) (Fault 1 0)) (head_stage bytes)) (rest_stage bytes)) (model_in bytes)
      go true = read_to (fields bytes length_size) refl ∙ ap (λ n. answer n (model_in bytes)) (fields_passed bytes)
      go false = refl

  -- the first fault is what decoding comes to: the length's, and behind a good length the head's
  pub length_fault : (x : Result Model faults.Fault) (f : faults.Fault) → IsErrAnd x (λ e. e ≡ f) → came_to (Err f) ≡ length_stage bytes → came_out x ≡ answer_of (decode bytes)
  length_fault x f h e = rw (handed_on x f h, decode_stages, ← e)

  pub head_fault : (f : faults.Fault) → came_to (Err f) ≡ head_stage bytes → (x : Result Model faults.Fault) → IsErrAnd x (λ e. e ≡ f) → (p : ℕ) → At p ≡ length_stage bytes → came_out x ≡ answer_of (decode bytes)
  head_fault f g x h p e = rw (handed_on x f h, decode_stages, ← e, ← g)

  accepted_fields : (j : Job) → decode bytes ≡ accepted j → Fields j
  unfolding decode decoded
  accepted_fields j e = go (length_ok bytes) (fields bytes length_size) refl e
    where
      go : (b : Bool) (x : Read Job) → fields bytes length_size ≡ x → cond b (decoded x) (refused 1 0) ≡ accepted j → Fields j
      go true (got i next) d e = let h : i ≡ j = cc in subst Fields h (fields_got i next d)
      go true (fault number offset) d e = absurd (let z : ◌≡◌ {A = ℕ} 0 1 = cc in omega arith)
      go false x d e = absurd (let z : ◌≡◌ {A = ℕ} 0 1 = cc in omega arith)

  module _ (j : Job) (e : decode bytes ≡ accepted j) where
    pub accepted_threads : ThreadsGood bytes
    accepted_threads = let f = accepted_fields j e in record { head = f.head; end = f.end; read = ap passed f.threads }

    pub accepted_laid :
        (m : Model) → m ≡ j.model → (s : Starts) → StartsLaid bytes s →
        Laid bytes (record { version = get_or bytes version_at 0; model = m; capacity = get_or bytes capacity_at 0; threads = count_in bytes; vars = vars_in bytes; starts = s }) j
    unfolding threads_read threads_of initial_value
    accepted_laid m is s h =
        let f = accepted_fields j e in
        let values = items_laid bytes (value_size (width_in bytes)) 6 _ _ _ _ _ f.initial in
        let d : At f.end ≡ At s.goal = sym (ap passed f.threads) ∙ h.goal in
        let end : f.end ≡ s.goal = cc in
        record {
          version = f.version;
          model = is;
          capacity = f.capacity;
          threads = sym (times_length _ _ _ _ _ f.threads);
          vars = sym values.number;
          initial_inside = rw values.number (values.inside f.head.there);
          initial = λ i m. sym (at_get_or j.initial i _ 0 (sym (values.values i (omega (arith, values.number)))));
          starts = h;
          code = ap listed f.threads;
          goal = subst (λ at. GoalLaid bytes at j.all_empty j.clauses) end f.goal;
        }
