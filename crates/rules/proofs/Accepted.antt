-- Every number of an accepted job is in its range, and a refusal is one of the list: "No other refusals exist."
use Rattle.std.specs.Prelude.{◌≡◌, List}
use Rattle.std.proofs.Common.{subst}
use Rattle.std.proofs.Math.Option.{Option}
use Prim.Native.Nat.{ℕ, ◌+◌, ◌≤◌, ◌<◌}
use native.Mathlib.Omega.{arith}
use Rattle.reach.specs.Lists.{All}
use Rattle.reach.specs.ListLaws.{all_imp}
use Rattle.rules.specs.Limits.{byte_values, length_size, width_of, value_size, item_size}
use Rattle.rules.specs.Job.{Job}
use Rattle.rules.specs.File.{byte, field, in_range}
use Rattle.rules.specs.File.{instruction, thread, clause, initial_value, fields}
use Rattle.rules.specs.File.{length_ok, accepted, refused, decode}
use Rattle.rules.specs.Sound.{Value, JobIn}
use Rattle.rules.specs.declared.Width.{Width}
use Rattle.rules.specs.Accepted.{Listed, listed, IfSome, of_some, Gives, gives_map, then_gives, times_gives, item_gives, ended_gives, anything, range_in, capacity_in, instruction_in, clause_in, ThreadIn, byte_in, value_in, Shows, decoded_shows}

-- The file, field by field.
module _ (bytes : List ℕ) (small : All (λ k. k < byte_values) bytes) where
  field_gives : {A : Type 0} {P : A → Type 0} (number : ℕ) {value : ℕ → Option A} →
      Listed number → ((k : ℕ) → k < byte_values → IfSome P (value k)) → Gives P (field bytes number value)
  unfolding field
  field_gives number n h = item_gives bytes 1 number n λ at. h (byte bytes at) (byte_in bytes small at)

  range_gives : (number low high : ℕ) → Listed number → Gives (λ k. (low ≤ k) × (k ≤ high)) (field bytes number (in_range low high))
  range_gives number low high n = field_gives number n λ k h. range_in low high k

  initial_gives : (w : Width) → Gives (Value w) (initial_value bytes w)
  unfolding initial_value
  initial_gives w = item_gives bytes (value_size w) 6 (listed 6 tt) λ at. of_some (value_in bytes small w at)

  thread_gives : (version vars : ℕ) → Gives (ThreadIn (width_of version) vars) (thread bytes version vars)
  unfolding thread instruction
  thread_gives version vars =
      then_gives (range_gives 4 _ _ (listed 4 tt)) λ n most.
      gives_map (λ code h. (omega arith, rw h.0 h.1))
      (times_gives n
      (item_gives bytes (item_size (width_of version)) 4 (listed 4 tt) λ at. instruction_in version vars n _ _ _ (value_in bytes small (width_of version) (at + 3)) (byte bytes at)))

  fields_give : Gives JobIn (fields bytes)
  unfolding fields clause
  fields_give =
      then_gives (range_gives 2 _ _ (listed 2 tt)) λ version _.
      then_gives (field_gives 3 (listed 3 tt) λ k h. anything _) λ model _.
      then_gives (field_gives 3 (listed 3 tt) λ k h. capacity_in model k) λ capacity capacity_is.
      then_gives (range_gives 3 _ _ (listed 3 tt)) λ count count_is.
      then_gives (range_gives 3 _ _ (listed 3 tt)) λ vars vars_is.
      then_gives (times_gives vars (initial_gives (width_of version))) λ initial initial_is.
      then_gives (times_gives count (thread_gives version vars)) λ threads threads_are.
      then_gives (field_gives 5 (listed 5 tt) λ k h. anything _) λ flag _.
      then_gives (range_gives 5 _ _ (listed 5 tt)) λ K K_is.
      then_gives
      (times_gives K
      (item_gives bytes (item_size (width_of version)) 5 (listed 5 tt) λ at.
      clause_in (width_of version) vars threads _ _ _ (value_in bytes small (width_of version) (at + 3)) (byte bytes at)))
      λ clauses clauses_are.
      ended_gives bytes _
      (record {
        capacity = capacity_is;
        threads_least = omega arith;
        threads_most = omega arith;
        variables_least = omega arith;
        variables_most = omega arith;
        initial = initial_is.1;
        lengths = all_imp _ _ (λ code h. h.0) threads threads_are.1;
        instructions = rw initial_is.0 (all_imp _ _ (λ code h. h.1) threads threads_are.1);
        clauses_least = omega arith;
        clauses_most = omega arith;
        clauses = rw initial_is.0 clauses_are.1;
      })

module _ (bytes : List ℕ) (small : All (λ k. k < byte_values) bytes) where
  shows : Shows (decode bytes)
  unfolding decode
  shows = decoded_shows (length_ok bytes) (fields bytes length_size) (fields_give bytes small length_size)

  pub accepted_in : (j : Job) → decode bytes ≡ accepted j → JobIn j
  accepted_in j e = subst Shows e shows

  pub refused_by : (number offset : ℕ) → decode bytes ≡ refused number offset → Listed number
  refused_by number offset e = subst Shows e shows
