-- The search from level to level: one that is whole is judged, and then its states are expanded. It can be stopped before each level and before each state.
use Rattle.std.specs.Prelude.{◌≡◌, false, ◌++◌, ℕ, suc, ◌+◌, ◌-◌, ◌≤◌, ◌<◌, length, take}
use Rattle.std.proofs.Common.{arith, add-one}
use Rattle.reach.specs.ListLaws.{below_at, at_below}
use Rattle.reach.specs.Meaning.{no_link}
use Rattle.reach.proofs.PutLaws.{put_all_keeps}
use Rattle.reach.specs.Rows.{offers, put_all}
use Rattle.lent.specs.Meaning.{Lent}
use Rattle.lent.specs.Coding.{Coding, system, Faithful}
use Rattle.lent.specs.Parts.{Memory, with_one_more, Expanded}
use Rattle.lent.specs.Kept.{Lends}
use Rattle.lent.specs.Levels.{Growing}
use Rattle.lent.proofs.Levels.{whole_start, growing_on, whole_next}
use Rattle.lent.specs.Searching.{holding, Searching}

module _ (C : Coding) (f : Faithful C) (N : ℕ) (m : Lent) (lends : Lends C.size N m.table m.links) where
  -- the start in slot 0
  pub searching_start :
      0 < N → (e : Memory) → e ≡ with_one_more C.size (record { table = m.table; links = m.links; count = 0; full = false }) (C.bytes (system C).start) no_link →
      Searching C N m.table m.links 0 0 0 e
  searching_start some_slot e is =
      let w = whole_start C f N m lends some_slot e is in
      record {
        whole = λ h. w;
        growing = λ h. absurd (omega arith);
        behind = omega arith;
        counted = omega arith;
        deep = omega arith;
        left = w.kept.full;
        holds = holding C N m.table m.links _ e w.kept;
      }

  module _ (d mark next : ℕ) (e : Memory) (s : Searching C N m.table m.links d mark next e) where
    -- one state more is expanded, and none was left out
    pub searching_state :
        next < mark → (e' : Memory) → Expanded C N next e e' → e'.full ≡ false → Searching C N m.table m.links d mark (next + 1) e'
    searching_state inside e' done left =
        let w = s.growing inside in
        let on = growing_on C f N m lends d mark next e w inside e' done left in
        rw (add-one next)
        (record {
          whole = λ h. whole_next C f N m lends d mark next e w inside e' done left h;
          growing = λ h. on;
          behind = omega arith;
          counted = counted on;
          deep = s.deep;
          left = left;
          holds = holding C N m.table m.links _ e' on.kept;
        })
      where
        counted : Growing C N m.table m.links d mark (suc next) e' → mark ≤ e'.count
        counted on =
            let last = below_at (on.old ++ on.new) (mark - 1) (omega (arith, on.marked)) in
            let there = put_all_keeps C.searched N (record { rows = on.old ++ on.new; full = false }) (offers C.searched (length on.old) (take (suc next - length on.old) on.new)) (mark - 1) last.0 last.1 in
            omega (arith, on.kept.count, at_below (put_all C.searched N (record { rows = on.old ++ on.new; full = false }) (offers C.searched (length on.old) (take (suc next - length on.old) on.new))).rows (mark - 1) last.0 there)
