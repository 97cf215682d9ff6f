-- Request 8: "A blank goal must be refused." How a goal is judged once reading has come to it, and that none without a clause is accepted.
use Rattle.std.specs.Prelude.{◌≡◌, refl, Bool, true, List, [], ◌∷◌, ℕ, ◌+◌, ◌≤◌, ◌<◌, length}
use Rattle.std.proofs.Math.Option.{none, some}
use borrow.Author.Tests.{le-leb, lt-leb}
use Rattle.rules.specs.Limits.{most_threads, most_variables, first_version, last_version, length_size}
use Rattle.rules.specs.Job.{Job}
use Rattle.rules.specs.File.{got, Reader, read_on, ◌>>=◌, done, times, judged, byte, item, field, in_range, model_of, capacity_of, register_ok, zero_ok}
use Rattle.rules.specs.File.{instruction_of, instruction, thread, value, initial_value, flag_of, clause_count_of, fields, length_ok, refused, decoded, decode}
use Rattle.rules.specs.Jobs.{p12}
use Rattle.rules.specs.declared.Width.TheVariants.{One}
use Rattle.rules.specs.declared.Model.TheVariants.{Tso}
use Rattle.rules.specs.declared.Source.TheVariants.{Constant}
use Rattle.rules.specs.declared.Instr.TheVariants.{Load, Store}

-- reading by r from p on has come, item by item and each of them good, to reading by s from q on
pub data ComesTo {A : Type 0} (s : Reader A) (q : ℕ) : Reader A → ℕ → Type 1 where
  here : ComesTo s q s q
  past : {B : Type 0} (r : Reader B) (f : B → Reader A) (b : B) (p next : ℕ) → r p ≡ got b next → ComesTo s q (f b) next → ComesTo s q (r >>= f) p

-- and then gives what that gives
come_to : {A : Type 0} (s : Reader A) (q : ℕ) (r : Reader A) (p : ℕ) → ComesTo s q r p → r p ≡ s q
unfolding ◌>>=◌ read_on
come_to s q r p here = refl
come_to s q r p (past first f b at next e c) = rw e (come_to s q (f b) next c)

module _ (bytes : List ℕ) where
  -- The length is good, and reading has come to the goal, at G: its flag, then K, and what is read behind them.
  module _ (length_good : length_ok bytes ≡ true) (G : ℕ) (behind : Bool → ℕ → Reader Job)
      (comes : ComesTo (field bytes 5 flag_of >>= λ flag. field bytes 5 clause_count_of >>= behind flag) G (fields bytes) length_size) where
    goal_judged : decode bytes ≡ decoded ((field bytes 5 flag_of >>= λ flag. field bytes 5 clause_count_of >>= behind flag) G)
    unfolding decode
    goal_judged = rw (length_good, come_to _ G (fields bytes) length_size comes)

    -- "then fields from the front, the first fault winning": a bad flag is judged before K
    pub flag_first : G + 1 ≤ length bytes → flag_of (byte bytes G) ≡ none → decode bytes ≡ refused 5 G
    unfolding ◌>>=◌ read_on field item judged decoded
    flag_first there bad = rw (goal_judged, le-leb (G + 1) (length bytes) there, bad)

    module _ (there : G + 1 ≤ length bytes) (flag : Bool) (is : flag_of (byte bytes G) ≡ some flag) where
      -- "of each item whether it is wholly there before what it holds": K is not there
      pub count_missing : length bytes < G + 1 + 1 → decode bytes ≡ refused 6 (G + 1)
      unfolding ◌>>=◌ read_on field item judged decoded
      count_missing missing = rw (goal_judged, le-leb (G + 1) (length bytes) there, is, lt-leb (G + 1 + 1) (length bytes) missing)

      -- "K = 0 is refusal 5 at K's offset, whatever the flag."
      pub blank_refused : G + 1 + 1 ≤ length bytes → byte bytes (G + 1) ≡ 0 → decode bytes ≡ refused 5 (G + 1)
      unfolding ◌>>=◌ read_on field item judged decoded in_range
      blank_refused count_there blank =
          rw (goal_judged, le-leb (G + 1) (length bytes) there, is, le-leb (G + 1 + 1) (length bytes) count_there, blank)

-- P12 is such a file: item by item it is read up to its goal, at 27
p12_reads :
    (field p12 2 (in_range first_version last_version) 2 ≡ got 1 3)
    × (field p12 3 model_of 3 ≡ got Tso 4)
    × (field p12 3 (capacity_of Tso) 4 ≡ got 1 5)
    × (field p12 3 (in_range 1 most_threads) 5 ≡ got 2 6)
    × (field p12 3 (in_range 1 most_variables) 6 ≡ got 2 7)
    × (times 2 (initial_value p12 One) 7 ≡ got (0 ∷ 0 ∷ []) 9)
    × (times 2 (thread p12 1 2) 9 ≡ got ((Store (Constant 1) 0 ∷ Load 0 1 ∷ []) ∷ (Store (Constant 1) 1 ∷ Load 0 0 ∷ []) ∷ []) 27)
unfolding p12 read_on ◌>>=◌ done times judged byte item field in_range model_of capacity_of register_ok zero_ok instruction_of instruction thread value initial_value
p12_reads = (refl, refl, refl, refl, refl, refl, refl)

pub p12_comes : (behind : Bool → ℕ → Reader Job) × ComesTo (field p12 5 flag_of >>= λ flag. field p12 5 clause_count_of >>= behind flag) 27 (fields p12) length_size
unfolding fields
p12_comes =
    let r = p12_reads in
    (_, past _ _ _ _ _ r.0 (past _ _ _ _ _ r.1 (past _ _ _ _ _ r.2 (past _ _ _ _ _ r.3 (past _ _ _ _ _ r.4 (past _ _ _ _ _ r.5 (past _ _ _ _ _ r.6 here)))))))
