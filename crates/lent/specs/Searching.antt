-- The search from level to level: one that is whole is judged, and then its states are expanded. It can be stopped before each level and before each state.
use Rattle.std.specs.Prelude.{◌≡◌, false, List, ℕ, ◌+◌, ◌≤◌, ◌<◌, length}
use Rattle.std.proofs.Common.{arith, add-one}
use Rattle.reach.specs.Stored.{table_length, links_length}
use Rattle.reach.specs.Found.{states, links}
use Rattle.reach.specs.Rows.{Met}
use Rattle.lent.specs.Meaning.{Lent}
use Rattle.lent.specs.Coding.{Coding, system, Faithful}
use Rattle.lent.specs.Parts.{Memory, Stands, FirstGoal}
use Rattle.lent.specs.Kept.{Lends, Kept, kept_stands}
use Rattle.lent.specs.Levels.{Whole, Growing, growing_start}

-- what memory holds of the lent one, whatever its rows are
pub record Holding (C : Coding) (N : ℕ) (t l : List ℕ) (e : Memory) : Type 0 where
  pub few : e.count ≤ N
  pub table_size : length e.table ≡ length t
  pub links_size : length e.links ≡ length l
  pub stands : (i : ℕ) → i < e.count → Stands C e.table i

pub holding : (C : Coding) (N : ℕ) (t l : List ℕ) (m : Met (system C).State) (e : Memory) → Kept C N t l m e → Holding C N t l e
holding C N t l m e h =
    record {
      few = omega (arith, h.count, h.few);
      table_size = table_length C.bytes C.size t (states m.rows) e.table h.table;
      links_size = links_length l (links m.rows) e.links h.links;
      stands = kept_stands C N t l m e h;
    }

-- Before a level or a state of it: the states before slot `next` are expanded, those from slot `mark` on are at distance d, and the level is whole when `next` has come to `mark`.
pub record Searching (C : Coding) (N : ℕ) (t l : List ℕ) (d mark next : ℕ) (e : Memory) : Type 0 where
  pub whole : mark ≤ next → Whole C N t l d mark e
  pub growing : next < mark → Growing C N t l d mark next e
  pub behind : next ≤ mark
  pub counted : mark ≤ e.count
  pub deep : d ≤ mark
  pub left : e.full ≡ false
  pub holds : Holding C N t l e

module _ (C : Coding) (f : Faithful C) (N : ℕ) (m : Lent) (lends : Lends C.size N m.table m.links) where
  module _ (d mark next : ℕ) (e : Memory) (s : Searching C N m.table m.links d mark next e) where
    -- a whole level without a goal, but with states: these are expanded next
    pub searching_level :
        mark ≤ next → (g : ℕ) → FirstGoal C e.table mark e.count g → e.count ≤ g → mark < e.count →
        Searching C N m.table m.links (d + 1) e.count next e
    searching_level at_end g found nowhere more =
        let same : next ≡ mark = omega (arith, s.behind) in
        rw (add-one d, same)
        (record {
          whole = λ h. absurd (omega arith);
          growing = λ h. growing_start C f N m lends d mark e (s.whole at_end) g found nowhere;
          behind = omega arith;
          counted = omega arith;
          deep = omega (arith, s.deep);
          left = s.left;
          holds = s.holds;
        })
