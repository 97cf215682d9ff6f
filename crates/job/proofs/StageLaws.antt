-- The stages in a row come as far as the file's fields, and what a good head says.
use mathlib.Core.Path.{◌≡◌, refl, ap, ◌∙◌}
use mathlib.Core.Bool.{Bool, true, false, cond}
use mathlib.Core.List.{List}
use mathlib.Core.Option.{some}
use Prim.Native.Nat.{ℕ, zero, suc, ◌+◌, ◌-◌, ◌*◌, ◌/◌, ◌≤◌, ◌<◌}
use native.Mathlib.Nat.{div-lt_iff_lt-mul, mul-div-le, lt-mul-div-succ}
use native.Mathlib.Omega.{arith}
use lib.Dec.{eqb}
use lib.ListN.{length}
use Rattle.rules.specs.Limits.{first_version, last_version, most_threads, most_variables, length_size, head_size, value_size}
use Rattle.rules.specs.Job.{Job}
use Rattle.rules.specs.File.{Read, got, fault, Reader, read_on, ◌>>=◌, times, judged, field, in_range, model_of, flag_of, clause_count_of, value, clause, initial_value, ended, fields}
use Rattle.rules.specs.declared.Width.{Width}
use Rattle.rules.specs.declared.Clause.{Clause}
use Rattle.readers.specs.Passed.{Next, At, Fault, version_at, model_at, capacity_at, threads_at, variables_at, vars_in, passed, listed, then}
use Rattle.readers.specs.Stages.{length_stage, capacity_stage, head_stage}
use Rattle.job.specs.Stages.{width_in, values_stage, values_end, threads_read, threads_of, ending, clauses_stage, goal_stage, rest_stage}
use Rattle.job.specs.Laid.{HeadGood}
use Rattle.readers.proofs.Widths.{size_positive}
use Rattle.readers.proofs.Readers.{item_missing, item_there, passed_then, passed_first, then_got, times_none, times_next, items_laid, got_of_passed}
use Rattle.readers.proofs.Fields.{field_got, field_passed, range_got}

then_first : (a b c : Next) → then (then a b) c ≡ then a (then b c)
then_first (At p) b c = refl
then_first (Fault number offset) b c = refl

-- both came to their ends
both_at : (a b : Next) (p : ℕ) → then a b ≡ At p → (q : ℕ) × (a ≡ At q) × (b ≡ At p)
both_at (At q) b p e = (q, refl, e)
both_at (Fault number offset) b p e = absurd (let z : ◌≡◌ {A = ℕ} 0 1 = cc in omega arith)

module _ (bytes : List ℕ) where
  ended_passed : {A B : Type 0} (r : Reader A) (make : A → B) (at : ℕ) → passed ((r >>= λ a. ended bytes (make a)) at) ≡ ending bytes (passed (r at))
  unfolding ◌>>=◌ read_on ended
  ended_passed {A} {B} r make at = go (r at)
    where
      left : (b : Bool) (a : A) (p : ℕ) → passed (cond b (got (make a) p) (fault 6 p)) ≡ cond b (At p) (Fault 6 p)
      left true a p = refl
      left false a p = refl

      go : (x : Read A) → passed (read_on x (λ a. ended bytes (make a))) ≡ ending bytes (passed x)
      go (got a p) = left (eqb p (length bytes)) a p
      go (fault number offset) = refl

  -- how far the goal's reader comes does not go by what is made of it
  goal_passed : (make : Bool → List Clause → Job) (at : ℕ) →
      passed
      ((field bytes 5 flag_of >>= λ flag.
      field bytes 5 clause_count_of >>= λ K.
      times K (clause bytes (width_in bytes) (vars_in bytes) (threads_of bytes)) >>= λ clauses. ended bytes (make flag clauses)) at)
      ≡ goal_stage bytes at
  unfolding goal_stage clauses_stage
  goal_passed make at =
      passed_then (field bytes 5 flag_of) _ _ at
      (λ flag p e.
      passed_then (field bytes 5 clause_count_of) _ _ p
      (λ K q f.
      ended_passed (times K (clause bytes (width_in bytes) (vars_in bytes) (threads_of bytes))) (make flag) q
      ∙ ap (λ k. ending bytes (passed (times k (clause bytes (width_in bytes) (vars_in bytes) (threads_of bytes)) q))) (range_got _ _ _ K (field_got bytes 5 _ p K q f).holds).is))

  -- the initial values, whatever their width
  module _ (w : Width) where
    value_there : (at : ℕ) → at + value_size w ≤ length bytes → passed (initial_value bytes w at) ≡ At (at + value_size w)
    unfolding initial_value judged
    value_there at h = ap passed (item_there bytes (value_size w) 6 (λ p. some (value bytes w p)) at h)

    value_missing : (at : ℕ) → length bytes < at + value_size w → passed (initial_value bytes w at) ≡ Fault 6 at
    unfolding initial_value
    value_missing at h = ap passed (item_missing bytes (value_size w) 6 _ at h)

    values_there : (k at : ℕ) → at + value_size w * k ≤ length bytes → passed (times k (initial_value bytes w) at) ≡ At (at + value_size w * k)
    values_there zero at h =
        let d : at ≡ at + value_size w * 0 = omega arith in
        ap passed (times_none (initial_value bytes w) at) ∙ ap {B = Next} At d
    values_there (suc k) at h =
        let d : at + value_size w + value_size w * k ≡ at + value_size w * suc k = omega arith in
        rw (times_next (initial_value bytes w) k at, value_there at (omega arith))
        (values_there k (at + value_size w) (omega arith) ∙ ap {B = Next} At d)

    -- so many of them are there, and the next is not
    values_missing :
        (whole k at : ℕ) → whole < k → at + value_size w * whole ≤ length bytes → length bytes < at + value_size w * suc whole →
        passed (times k (initial_value bytes w) at) ≡ Fault 6 (at + value_size w * whole)
    values_missing whole zero at h there missing = absurd (omega arith)
    values_missing zero (suc k) at h there missing =
        let d : at ≡ at + value_size w * 0 = omega arith in
        rw (times_next (initial_value bytes w) k at, value_missing at (omega arith)) (ap {B = Next} (Fault 6) d)
    values_missing (suc whole) (suc k) at h there missing =
        let d : at + value_size w + value_size w * whole ≡ at + value_size w * suc whole = omega arith in
        rw (times_next (initial_value bytes w) k at, value_there at (omega arith))
        (values_missing whole k (at + value_size w) (omega arith) (omega arith) (omega arith) ∙ ap {B = Next} (Fault 6) d)

    -- they end behind so many bytes
    values_behind : (k at : ℕ) (l : List ℕ) (next : ℕ) → times k (initial_value bytes w) at ≡ got l next → next ≡ at + value_size w * k
    unfolding initial_value
    values_behind k at l next e = (items_laid bytes (value_size w) 6 _ k at l next e).behind

    pub values_then : {B : Type 0} (f : List ℕ → Reader B) (k at : ℕ) (b : B) (next : ℕ) → (times k (initial_value bytes w) >>= f) at ≡ got b next →
        (l : List ℕ) × (times k (initial_value bytes w) at ≡ got l (at + value_size w * k)) × (f l (at + value_size w * k) ≡ got b next)
    values_then f k at b next e =
        let t = then_got (times k (initial_value bytes w)) f at b next e in
        let p = values_behind k at t.0 t.1 t.2 in
        (t.0, rw (← p) t.2, rw (← p) t.3)

  pub values_stage_there : values_end bytes ≤ length bytes → values_stage bytes ≡ At (values_end bytes)
  unfolding values_stage
  values_stage_there = values_there (width_in bytes) (vars_in bytes) head_size

  pub values_stage_missing : head_size ≤ length bytes → length bytes < values_end bytes →
      values_stage bytes ≡ Fault 6 (head_size + value_size (width_in bytes) * ((length bytes - head_size) / value_size (width_in bytes)))
  unfolding values_stage
  values_stage_missing h m =
      let size = value_size (width_in bytes) in
      let positive = size_positive (width_in bytes) in
      let behind = length bytes - head_size in
      let short : behind < vars_in bytes * size = omega arith in
      values_missing (width_in bytes) (behind / size) (vars_in bytes) head_size
      ((div-lt_iff_lt-mul positive).1 short)
      (omega (arith, mul-div-le behind size))
      (omega (arith, lt-mul-div-succ behind positive))

  pub fields_passed : passed (fields bytes length_size) ≡ then (head_stage bytes) (rest_stage bytes)
  unfolding fields head_stage rest_stage values_stage threads_read threads_of
  fields_passed =
      rw (then_first, then_first, then_first, then_first)
      (passed_first _ _ _ version_at λ version p e.
      rw ((field_got _ _ _ _ _ _ e).behind, (range_got _ _ _ _ (field_got _ _ _ _ _ _ e).holds).is)
      (passed_first _ _ _ model_at λ model q f.
      rw ((field_got _ _ _ _ _ _ f).behind, (field_got _ _ _ _ _ _ f).holds)
      (passed_first _ _ _ capacity_at λ capacity r g.
      rw (field_got _ _ _ _ _ _ g).behind
      (passed_first _ _ _ threads_at λ count s k.
      rw ((field_got _ _ _ _ _ _ k).behind, (range_got _ _ _ _ (field_got _ _ _ _ _ _ k).holds).is)
      (passed_first _ _ _ variables_at λ vars u l.
      rw ((field_got _ _ _ _ _ _ l).behind, (range_got _ _ _ _ (field_got _ _ _ _ _ _ l).holds).is)
      (passed_first _ _ _ head_size λ initial v m.
      rw (values_behind _ _ _ _ _ m)
      (passed_then _ _ _ (values_end bytes) λ threads w n. rw (← ap listed n) (goal_passed _ w))))))))

  pub head_good : (p : ℕ) → then (length_stage bytes) (head_stage bytes) ≡ At p → HeadGood bytes
  unfolding head_stage
  head_good p e =
      let version = (both_at (length_stage bytes) _ p e).2 in
      let model = (both_at (passed (field bytes 2 (in_range first_version last_version) version_at)) _ p version).2 in
      let capacity = (both_at (passed (field bytes 3 model_of model_at)) _ p model).2 in
      let count = (both_at (capacity_stage bytes) _ p capacity).2 in
      let both = both_at (passed (field bytes 3 (in_range 1 most_threads) threads_at)) _ p count in
      let held = got_of_passed (field bytes 3 (in_range 1 most_threads) threads_at) _ both.1 in
      let t = range_got 1 most_threads _ held.0 (field_got bytes 3 _ threads_at held.0 _ held.1).holds in
      record {
        there = field_passed bytes 3 (in_range 1 most_variables) variables_at p both.2;
        most = omega (arith, t.is, t.most);
      }
