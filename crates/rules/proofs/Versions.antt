-- Request 7: "Nothing else of version 1 moves". A version 2 file that uses neither CMPX nor WFENCE holds, but for the version field, the job of the
-- version 1 file with the same bytes behind the version; and the other way, every accepted version 1 file can say version 2. The machine knows no version.
use Rattle.std.specs.Prelude.{◌≡◌, ◌⊎◌, Bool, leb, length}
use Rattle.std.proofs.Math.Path.{refl, subst}
use Rattle.std.proofs.Common.{sym, ap, ◌∙◌, arith}
use Rattle.std.proofs.Math.Logic.{inl, inr}
use Rattle.std.proofs.Math.Bool.{true, false, cond}
use mathlib.Core.List.{List}
use Rattle.std.proofs.Math.Option.{Option}
use Prim.Native.Nat.{ℕ, ◌+◌}
use Rattle.rules.specs.Limits.{first_version, second_version, most_threads, most_variables, longest_thread, length_size, shortest_file, value_size, item_size}
use Rattle.rules.specs.Job.{Job}
use Rattle.rules.specs.File.{Read, got, fault, read_on, ◌>>=◌, judged, in_range, model_of, capacity_of, byte, item, field}
use Rattle.rules.specs.File.{value, instruction, thread, clause, initial_value, behind_version, fields, flag_of, clause_count_of, length_ok, accepted, refused, decoded, decode}
use Rattle.rules.specs.declared.Width.TheVariants.{One}
use Rattle.rules.specs.declared.Instr.{Instr}
use Rattle.rules.specs.Versions.{in_version, IsNew, Some, UsesNew, IsAdded, Beside, both_give, both_refuse, first_barred, same, Follows, then_follows, then_only, times_follows, Nothing, some_nothing, Judged, judged_alike, judged_where, operations_judged, re_versioned, not_both, back_accepts, only_new, FirstBars, Barred, behind, item_follows, ended_follows, ended_only, length_alike}

-- Two files of the same bytes but for the version.
module _ (one two : List ℕ) (long : length one ≡ length two) (alike : (at : ℕ) → ¬ (at ≡ length_size) → byte one at ≡ byte two at) where
  module _ {A : Type 0} {New : A → Type 0} where
    field_follows : (number : ℕ) (value : ℕ → Option A) → Follows (Barred one two long alike) same New (field one number value) (field two number value)
    unfolding field
    field_follows number value =
        item_follows one two long alike 1 number
        (λ at low. subst (λ k. Judged (Barred one two long alike number at) New (value (byte one at)) (value k)) (behind one two long alike at low) (judged_alike (value (byte one at))))

  instruction_follows : (vars n : ℕ) → Follows (Barred one two long alike) same IsNew (instruction one first_version vars n) (instruction two second_version vars n)
  unfolding instruction value
  instruction_follows vars n =
      item_follows one two long alike (item_size One) 4
      (λ at low.
      rw (behind one two long alike at low, behind one two long alike (at + 1) (omega arith), behind one two long alike (at + 2) (omega arith), behind one two long alike (at + 3) (omega arith))
      (judged_where (λ added. (refl, added)) (operations_judged vars n (byte two at) (byte two (at + 1)) (byte two (at + 2)) (byte two (at + 3)))))

  thread_follows : (vars : ℕ) → Follows (Barred one two long alike) same (Some IsNew) (thread one first_version vars) (thread two second_version vars)
  unfolding thread
  thread_follows vars =
      then_follows {New = λ n. ⊥} (field_follows 4 (in_range 0 longest_thread)) (λ n. times_follows n (instruction_follows vars n)) (λ n new. absurd new)

  -- the goal: nothing of it is new, but the job may be
  clause_follows : (vars : ℕ) (threads : List (List Instr)) → Follows (Barred one two long alike) same (λ c. ⊥) (clause one One vars threads) (clause two One vars threads)
  unfolding clause value
  clause_follows vars threads =
      item_follows one two long alike (item_size One) 5
      (λ at low.
      rw (behind one two long alike at low, behind one two long alike (at + 1) (omega arith), behind one two long alike (at + 2) (omega arith), behind one two long alike (at + 3) (omega arith))
      (judged_alike _))

  initial_follows : Follows (Barred one two long alike) same (λ k. ⊥) (initial_value one One) (initial_value two One)
  unfolding initial_value value
  initial_follows = item_follows one two long alike (value_size One) 6 (λ at low. rw (behind one two long alike at low) (judged_alike _))

  -- the rest of the fields: where only the second gives a job, its threads have something new
  rest_follows : Follows (Barred one two long alike) (in_version second_version) UsesNew (behind_version one first_version) (behind_version two second_version)
  rest_follows =
      then_follows {New = Nothing} (field_follows 3 model_of)
      (λ model. then_follows {New = Nothing} (field_follows 3 (capacity_of model))
      (λ capacity. then_follows {New = Nothing} (field_follows 3 (in_range 1 most_threads))
      (λ count. then_follows {New = Nothing} (field_follows 3 (in_range 1 most_variables))
      (λ vars. then_follows {New = Some Nothing} (times_follows vars initial_follows)
      (λ initial. then_follows (times_follows count (thread_follows vars))
      (λ threads. then_follows {New = Nothing} (field_follows 5 flag_of)
      (λ flag. then_follows {New = Nothing} (field_follows 5 clause_count_of)
      (λ K. then_follows {New = Some Nothing} (times_follows K (clause_follows vars threads))
      (λ clauses. ended_follows one two long alike _)
      (λ clauses new. absurd (some_nothing clauses new)))
      (λ K new. absurd new))
      (λ flag new. absurd new))
      (λ threads new.
      then_only {New = Nothing} (field_follows 5 flag_of)
      (λ flag. then_only {New = Nothing} (field_follows 5 clause_count_of)
      (λ K. then_only {New = Some Nothing} (times_follows K (clause_follows vars threads)) (λ clauses. ended_only one two long alike _ new)))))
      (λ initial new. absurd (some_nothing initial new)))
      (λ vars new. absurd new))
      (λ count new. absurd new))
      (λ capacity new. absurd new))
      (λ model new. absurd new)

  module _ (is_first : byte one length_size ≡ first_version) (is_second : byte two length_size ≡ second_version) where
    fields_follow : Beside (Barred one two long alike) (in_version second_version) UsesNew (fields one length_size) (fields two length_size)
    unfolding fields ◌>>=◌ read_on field item judged in_range
    fields_follow = rw (is_first, is_second, ← long) (which (leb (length_size + 1) (length one)))
      where
        which : (b : Bool) → Beside (Barred one two long alike) (in_version second_version) UsesNew
            (read_on (cond b (got first_version shortest_file) (fault 6 length_size)) (behind_version one))
            (read_on (cond b (got second_version shortest_file) (fault 6 length_size)) (behind_version two))
        which true = rest_follows shortest_file (omega arith)
        which false = both_refuse 6 length_size

    -- Every pair of files: the second holds the first's job but for the version, or is refused with the same number and offset; or the first bars it.
    pub two_files : (decode two ≡ re_versioned second_version (decode one)) ⊎ FirstBars one two
    unfolding decode decoded
    two_files =
        subst (λ d. (d ≡ re_versioned second_version (decode one))
        ⊎ ((offset : ℕ) × (decode one ≡ refused 4 offset) × IsAdded (byte one offset) × ((j : Job) → d ≡ accepted j → UsesNew j)))
        (rw (length_alike one two long alike is_first is_second))
        (which (length_ok one) (fields one length_size) (fields two length_size) fields_follow)
      where
        which : (b : Bool) (x y : Read Job) → Beside (Barred one two long alike) (in_version second_version) UsesNew x y
            → (cond b (decoded y) (refused 1 0) ≡ re_versioned second_version (cond b (decoded x) (refused 1 0)))
            ⊎ ((offset : ℕ) × (cond b (decoded x) (refused 1 0) ≡ refused 4 offset) × IsAdded (byte one offset)
            × ((j : Job) → cond b (decoded y) (refused 1 0) ≡ accepted j → UsesNew j))
        which false x y h = inl refl
        which true x y (both_give j next low) = inl refl
        which true x y (both_refuse number offset) = inl refl
        which true x y (first_barred number offset (by_four, added) _ new) = inr (offset, rw by_four, added, only_new y new)

    -- every accepted version 1 file may say version 2, and then holds the same job but for the version
    pub second_accepts : (j : Job) → decode one ≡ accepted j → decode two ≡ accepted (in_version second_version j)
    second_accepts j e = which two_files
      where
        which : (decode two ≡ re_versioned second_version (decode one)) ⊎ FirstBars one two
            → decode two ≡ accepted (in_version second_version j)
        which (inl h) = h ∙ ap (re_versioned second_version) e
        which (inr (offset, first, added, new)) = not_both (sym first ∙ e)

    -- a version 2 file that uses neither operation holds, but for the version, the job of the version 1 file
    pub first_accepts : (j : Job) → decode two ≡ accepted j → ¬ (UsesNew j) → (i : Job) × (decode one ≡ accepted i) × (j ≡ in_version second_version i)
    first_accepts j e old = which two_files
      where
        which : (decode two ≡ re_versioned second_version (decode one)) ⊎ FirstBars one two
            → (i : Job) × (decode one ≡ accepted i) × (j ≡ in_version second_version i)
        which (inl h) = back_accepts (decode one) j (sym h ∙ e)
        which (inr (offset, first, added, new)) = absurd (old (new j e))
