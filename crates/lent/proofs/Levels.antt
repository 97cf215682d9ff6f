-- The search between two expansions, and the ways in which it ends.
use Rattle.std.specs.Prelude.{◌≡◌, Bool, true, drop}
use Rattle.std.proofs.Math.Path.{refl, sym, ap, subst}
use Rattle.std.proofs.Common.{◌∙◌, arith, take-append-drop, length-take-le}
use Rattle.std.proofs.Math.Bool.{false}
use mathlib.Core.List.{List, [], ◌∷◌, ◌++◌}
use Prim.Native.Nat.{ℕ, suc, ◌+◌, ◌-◌, ◌≤◌, ◌<◌}
use Rattle.std.proofs.Math.Dec.{ltb}
use borrow.Author.Tests.{ltb-true, ltb-false, lt-leb}
use Rattle.std.proofs.Math.ListN.{length, length-append, length-take, take}
use Rattle.std.proofs.Math.Seq.{take_all}
use Rattle.reach.specs.ListLaws.{at_below, take_one_more}
use Rattle.reach.specs.Meaning as reach
use Rattle.reach.specs.Words.{answer_words}
use Rattle.reach.specs.Rows.{Row, start_row, offers, offers_below, known, Met, put_all, outcome}
use Rattle.reach.specs.PutLaws.{put_when_new, put_all_append, offers_append, offers_one}
use Rattle.reach.proofs.PutLaws.{put_all_full, put_all_keeps}
use Rattle.reach.specs.Levels.{Level, level_zero}
use Rattle.reach.proofs.Levels.{level_next}
use Rattle.reach.specs.Growth.{add_all}
use Rattle.reach.proofs.Bounded.{put_all_kept}
use Rattle.reach.proofs.Found.{ends_reachable, ends_unreachable, ends_unknown}
use Rattle.reach.specs.WalkBack.{walk_back}
use Rattle.lent.specs.Meaning.{Lent, IsAnswered}
use Rattle.lent.specs.Coding.{Coding, system, Faithful}
use Rattle.lent.specs.Parts.{Memory, with_one_more, one_more, Expanded, FirstGoal}
use Rattle.lent.specs.Kept.{Lends, Kept, kept_nothing, kept_put, kept_stands, stands_row}
use Rattle.lent.proofs.Tries.{kept_tried}
use Rattle.lent.specs.Goals.{level_row}
use Rattle.lent.specs.Levels.{Whole, Growing, goal_way, no_goal_new}

module _ (C : Coding) (f : Faithful C) (N : ℕ) (m : Lent) (lends : Lends C.size N m.table m.links) where
  -- the buffers as they are when the search ends
  abbrev ended : Memory → List ℕ → Lent
  ended = Rattle.lent.specs.Levels.ended C f N m lends

  answered :
      (a : reach.Answer) (rows : List (Row (system C).State)) (b : Bool) (e : Memory) (w schedule : List ℕ) →
      Kept C N m.table m.links (record { rows = rows; full = b }) e → schedule ≡ w ++ drop (length w) m.schedule →
      reach.Means (system C) N (outcome (system C) N a rows w) →
      IsAnswered (system C) C.size C.bytes N m (answer_words a) (ended e schedule)
  unfolding outcome
  answered a rows b e w schedule k s h =
      record {
        outcome = outcome (system C) N a rows w;
        means = h;
        answer = refl;
        buffers = λ i. record { table = k.table.is i; links = k.links.is i; schedule = s i };
      }

  -- Level 0: the start in slot 0.
  pub whole_start :
      0 < N → (e : Memory) → e ≡ with_one_more C.size (record { table = m.table; links = m.links; count = 0; full = false }) (C.bytes (system C).start) reach.no_link →
      Whole C N m.table m.links 0 0 e
  unfolding start_row known
  whole_start some_slot e is =
      let S = C.searched in
      let nothing : Met (system C).State = record { rows = []; full = false } in
      let one = put_when_new S N nothing (start_row (system C)) refl refl (lt-leb N 0 some_slot) in
      let kept =
      kept_put C N m.table m.links nothing (record { table = m.table; links = m.links; count = 0; full = false }) (kept_nothing C N m.table m.links) f lends
      (start_row (system C)) refl e (one_more refl (λ h. absurd (omega (arith, h.1))) some_slot is) in
      record {
        old = [];
        new = start_row (system C) ∷ [];
        level = level_zero (system C);
        no_nearer = λ r k. absurd k;
        from = refl;
        kept = rw one at kept;
      }

  -- A level that is whole is judged.
  module _ (d mark : ℕ) (e : Memory) (w : Whole C N m.table m.links d mark e) (g : ℕ) (found : FirstGoal C e.table mark e.count g) where
    module _ (there : g < e.count) where
      -- "Reachable"
      pub answered_reachable :
          (schedule : List ℕ) → schedule ≡ walk_back e.links d g ++ drop d m.schedule →
          IsAnswered (system C) C.size C.bytes N m (answer_words (reach.reachable d e.count)) (ended e schedule)
      unfolding outcome
      answered_reachable schedule is =
          let r = goal_way C f N m lends d mark e w g found there in
          rw w.kept.count
          (answered (reach.reachable d (length (w.old ++ w.new))) (w.old ++ w.new) false e r.0.way schedule w.kept (is ∙ rw (r.3, r.2))
          (ends_reachable (system C) N d w.old w.new w.level w.no_nearer r.0 w.kept.few r.1))

    module _ (nowhere : e.count ≤ g) where
      -- "Unreachable": the level is empty
      pub answered_unreachable : e.count ≤ mark → IsAnswered (system C) C.size C.bytes N m (answer_words (reach.unreachable e.count)) (ended e m.schedule)
      unfolding outcome
      answered_unreachable n =
          rw w.kept.count
          (answered (reach.unreachable (length (w.old ++ w.new))) (w.old ++ w.new) false e [] m.schedule w.kept refl
          (ends_unreachable (system C) N d w.old w.new w.level w.no_nearer (no_goal_new C f N m lends d mark e w g found nowhere) empty w.kept.few))
        where
          which : (rows : List (Row (system C).State)) → length rows ≤ 0 → rows ≡ []
          which [] h = refl
          which (r ∷ rows) h = absurd (omega arith)

          empty : w.new ≡ []
          empty = which w.new (omega (arith, w.kept.count, w.from, length-append w.old w.new))

  -- One state more is expanded.
  module _ (d mark next : ℕ) (e : Memory) (w : Growing C N m.table m.links d mark next e) (inside : next < mark) (e' : Memory) (done : Expanded C N next e e') where
    nearer_rows : Met (system C).State
    nearer_rows = record { rows = w.old ++ w.new; full = false }

    -- the steps of the states before slot n lead to these rows
    met_before : ℕ → Met (system C).State
    met_before n = put_all C.searched N nearer_rows (offers C.searched (length w.old) (take (n - length w.old) w.new))

    kept_on : Kept C N m.table m.links (met_before (suc next)) e'
    unfolding met_before nearer_rows
    kept_on =
        let S = C.searched in
        let lo = length w.old in
        let r = level_row w.old w.new lo next mark refl (sym w.marked) w.low inside in
        let there = put_all_keeps S N nearer_rows (offers S lo (take (next - lo) w.new)) next r.0 r.1 in
        let at = kept_stands C N m.table m.links (met_before next) e w.kept next (omega (arith, w.kept.count, at_below (met_before next).rows next r.0 there)) in
        let is = stands_row C N m.table m.links (met_before next) e w.kept f next r.0 there at in
        let tried = rw is at (done at) in
        let more = kept_tried C f N m.table m.links lends next r.0 (met_before next) e w.kept there S.bound e' tried in
        let one : suc next - lo ≡ suc (next - lo) = omega (arith, w.low) in
        let slot : lo + length (take (next - lo) w.new) ≡ next = omega (arith, w.low, length-take (next - lo) w.new, at_below w.new (next - lo) r.0 r.2) in
        rw (
          one,
          take_one_more w.new (next - lo) r.0 r.2,
          offers_append C.searched lo (take (next - lo) w.new) (r.0 ∷ []),
          slot,
          offers_one C.searched next r.0,
          put_all_append S N nearer_rows (offers S lo (take (next - lo) w.new)) (offers_below (system C) next r.0 S.bound),
        )
        more

    -- all rows of both levels
    grown :
        (fresh : List (Row (system C).State))
        × (add_all C.searched (w.old ++ w.new) (offers C.searched (length w.old) w.new) ≡ (w.old ++ w.new) ++ fresh)
        × Level (system C) (suc w.nearer) (w.old ++ w.new) fresh
    grown = level_next C.searched w.nearer w.old w.new w.level

    all : List (Row (system C).State)
    all = (w.old ++ w.new) ++ grown.0

    -- once nothing more can change, the memory holds the first N of them
    first_kept :
        met_before (suc next) ≡ put_all C.searched N nearer_rows (offers C.searched (length w.old) w.new) →
        Kept C N m.table m.links (record { rows = take N all; full = ltb N (length all) }) e'
    unfolding nearer_rows all
    first_kept same =
        let put_kept = put_all_kept C.searched N (w.old ++ w.new) (offers C.searched (length w.old) w.new) w.fits in
        subst (λ z. Kept C N m.table m.links (record { rows = take N z; full = ltb N (length z) }) e') grown.1
        (subst (λ z. Kept C N m.table m.links z e') (same ∙ put_kept) kept_on)

    -- "Unknown": one state more was met than there are slots
    pub answered_unknown : e'.full ≡ true → IsAnswered (system C) C.size C.bytes N m (answer_words (reach.unknown N)) (ended e' m.schedule)
    unfolding outcome all met_before nearer_rows
    answered_unknown full =
        let S = C.searched in
        let lo = length w.old in
        let k = suc next - lo in
        let rest = offers S (lo + length (take k w.new)) (drop k w.new) in
        let nothing_more : put_all S N (met_before (suc next)) rest ≡ met_before (suc next) = put_all_full C.searched N (met_before (suc next)) rest (sym kept_on.full ∙ full) in
        let split : offers S lo w.new ≡ offers S lo (take k w.new) ++ rest =
        ap (offers S lo) (sym (take-append-drop k w.new)) ∙ offers_append C.searched lo (take k w.new) (drop k w.new) in
        let same : met_before (suc next) ≡ put_all S N nearer_rows (offers S lo w.new) =
        sym (ap (put_all S N nearer_rows) split ∙ put_all_append S N nearer_rows (offers S lo (take k w.new)) rest ∙ nothing_more) in
        let kept = first_kept same in
        let more = ltb-true N (length all) (sym kept.full ∙ full) in
        answered (reach.unknown N) (take N all) (ltb N (length all)) e' [] m.schedule kept refl
        (ends_unknown (system C) N (suc w.nearer) (w.old ++ w.new) grown.0 (take N all) (drop N all) grown.2 w.no_goal
        (sym (take-append-drop N all)) (length-take-le N all (omega arith)) more)

    module _ (left : e'.full ≡ false) where
      -- the level grows on
      pub growing_on : Growing C N m.table m.links d mark (suc next) e'
      unfolding met_before nearer_rows
      growing_on =
          record {
            nearer = w.nearer;
            one_less = w.one_less;
            old = w.old;
            new = w.new;
            level = w.level;
            no_goal = w.no_goal;
            marked = w.marked;
            low = omega (arith, w.low);
            fits = w.fits;
            kept = kept_on;
          }

      -- its last state was expanded: it is whole
      pub whole_next : mark ≤ suc next → Whole C N m.table m.links d mark e'
      unfolding all met_before nearer_rows
      whole_next last =
          let everything = take_all (suc next - length w.old) w.new (omega (arith, w.marked, length-append w.old w.new)) in
          let kept = first_kept (ap (λ z. put_all C.searched N nearer_rows (offers C.searched (length w.old) z)) everything) in
          let some_left = sym kept.full ∙ left in
          let fits = ltb-false N (length all) some_left in
          rw w.one_less
          (record {
            old = w.old ++ w.new;
            new = grown.0;
            level = grown.2;
            no_nearer = w.no_goal;
            from = w.marked;
            kept =
                subst (λ b. Kept C N m.table m.links (record { rows = all; full = b }) e') some_left
                (subst (λ z. Kept C N m.table m.links (record { rows = z; full = ltb N (length all) }) e') (take_all N all fits) kept);
          })
