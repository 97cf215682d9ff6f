-- The search between two expansions, and the ways in which it ends.
use Rattle.std.specs.Prelude.{◌≡◌, T}
use Rattle.std.proofs.Math.Path.{refl, sym}
use Rattle.std.proofs.Common.{◌∙◌, true≢false, arith}
use Rattle.std.proofs.Math.Bool.{false}
use mathlib.Core.List.{List, ◌++◌}
use Rattle.std.proofs.Math.Option.{some}
use Prim.Native.Nat.{ℕ, suc, ◌-◌, ◌≤◌, ◌<◌}
use Rattle.std.proofs.Math.ListN.{length, take}
use Rattle.reach.specs.Lists.{◌∈◌}
use Rattle.reach.specs.Rows.{Row, offers, goal_row, put_all}
use Rattle.reach.specs.Levels.{Level}
use Rattle.reach.proofs.Found.{no_goal_row, goal_row_none}
use Rattle.reach.specs.WalkBack.{walk_back, Walkable, walk_back_way}
use Rattle.reach.specs.Stored.{links_at}
use Rattle.lent.specs.Meaning.{Lent}
use Rattle.lent.specs.Coding.{Coding, system, Faithful}
use Rattle.lent.specs.Parts.{Memory, with_one_more, Put, was_full, was_known, none_left, one_more, FirstGoal}
use Rattle.lent.specs.Kept.{Lends, Kept}
use Rattle.lent.specs.Goals.{goal_found, goal_nowhere, goal_row_in}

-- All states at distance d stand from slot `mark` on. Those before it are nearer, and no goal is among them.
pub record Whole (C : Coding) (N : ℕ) (t l : List ℕ) (d mark : ℕ) (e : Memory) : Type 0 where
  pub old : List (Row (system C).State)
  pub new : List (Row (system C).State)
  pub level : Level (system C) d old new
  pub no_nearer : (r : Row (system C).State) → r ∈ old → ¬ (T ((system C).goal r.state))
  pub from : length old ≡ mark
  pub kept : Kept C N t l (record { rows = old ++ new; full = false }) e

-- The states at distance d are being met. Those before slot `mark` are all that are nearer, no goal is among them, and those before slot `next` are expanded.
pub record Growing (C : Coding) (N : ℕ) (t l : List ℕ) (d mark next : ℕ) (e : Memory) : Type 0 where
  pub nearer : ℕ
  pub one_less : d ≡ suc nearer
  pub old : List (Row (system C).State)
  pub new : List (Row (system C).State)
  pub level : Level (system C) nearer old new
  pub no_goal : (r : Row (system C).State) → r ∈ (old ++ new) → ¬ (T ((system C).goal r.state))
  pub marked : length (old ++ new) ≡ mark
  pub low : length old ≤ next
  pub fits : length (old ++ new) ≤ N
  pub kept :
      Kept C N t l
      (put_all C.searched N (record { rows = old ++ new; full = false }) (offers C.searched (length old) (take (next - length old) new)))
      e

-- the first candidate finds an empty memory
pub put_first :
    (size N : ℕ) (e : Memory) (bytes : List ℕ) (k : ℕ) (e' : Memory) → e.count ≡ 0 → e.full ≡ false → 0 < N →
    Put size N e bytes k e' → e' ≡ with_one_more size e bytes k
put_first size N e bytes k e' empty left some_slot (was_full full is) = absurd (true≢false (sym full ∙ left))
put_first size N e bytes k e' empty left some_slot (was_known l there is) = absurd (omega (arith, there.1))
put_first size N e bytes k e' empty left some_slot (none_left l missed n is) = absurd (omega arith)
put_first size N e bytes k e' empty left some_slot (one_more l missed n is) = is

module _ (C : Coding) (f : Faithful C) (N : ℕ) (m : Lent) (lends : Lends C.size N m.table m.links) where
  -- the buffers as they are when the search ends
  abbrev pub ended : Memory → List ℕ → Lent
  ended e schedule = record { table = e.table; links = e.links; schedule = schedule }

  -- A level that is whole is judged.
  module _ (d mark : ℕ) (e : Memory) (w : Whole C N m.table m.links d mark e) (g : ℕ) (found : FirstGoal C e.table mark e.count g) where
    module _ (there : g < e.count) where
      -- the goal that was found: its links lead back to the start in d steps
      pub goal_way :
          (r : Row (system C).State) × (goal_row (system C) w.new ≡ some r) × (length r.way ≡ d) × (walk_back e.links d g ≡ r.way) × Walkable e.links d g
      goal_way =
          let r = goal_found C N m.table m.links w.old w.new e w.kept mark g w.from found there in
          let steps = w.level.level r.0 (goal_row_in (system C) w.new r.0 r.2) in
          let back =
          walk_back_way C.searched f.few_steps (w.old ++ w.new) w.level.least w.level.linked e.links
          (λ q k p. links_at m.links _ e.links w.kept.links q k p) d g r.0 r.1 steps in
          (r.0, r.2, steps, back.0, back.1)

      pub goal_walkable : Walkable e.links d g
      goal_walkable = goal_way.4

    module _ (nowhere : e.count ≤ g) where
      pub no_goal_new : (r : Row (system C).State) → r ∈ w.new → ¬ (T ((system C).goal r.state))
      no_goal_new =
          goal_row_none (system C) w.new
          (goal_nowhere C N m.table m.links w.old w.new e w.kept mark g w.from found nowhere)

      -- else its states are expanded from the first on
      pub growing_start : Growing C N m.table m.links (suc d) e.count mark e
      unfolding put_all offers
      growing_start =
          let none_yet : mark - length w.old ≡ 0 = omega (arith, w.from) in
          record {
            nearer = d;
            one_less = refl;
            old = w.old;
            new = w.new;
            level = w.level;
            no_goal = no_goal_row (system C) N d w.old w.new w.level w.no_nearer no_goal_new;
            marked = sym w.kept.count;
            low = omega (arith, w.from);
            fits = w.kept.few;
            kept = rw none_yet w.kept;
          }
