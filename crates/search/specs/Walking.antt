-- The steps of one state, by the mask of those that may be taken: its lowest bit is the next step, and what is passed over may not be taken.
use Rattle.std.specs.Prelude.{◌≡◌, refl, true, Ok}
use Rattle.std.proofs.Common.{sym, ◌∙◌, subst, arith}
use Rattle.std.proofs.Math.Path.{ap}
use Rattle.std.proofs.Math.Option.{none, some}
use Prim.Native.Nat.{ℕ, zero, suc, ◌+◌, ◌^◌, ◌≤◌, ◌<◌}
use Rattle.std.proofs.Math.Decide.{dec_lt}
use Rattle.bits.specs.Bits.{width, bit_of, lowest_of, count_of, Lowest, WithoutLowest, Counted}
use Rattle.bits.specs.BitLaws.{bit_of_zero}
use Rattle.bits.proofs.BitLaws.{count_law}
use Rattle.reach.specs.Explained.{forget}
use Rattle.reach.specs.Meaning.{link}
use Rattle.reach.specs.RunLaws.{step_below}
use Rattle.lent.specs.Parts.{Memory, Put, Stands, Tried, Expanded}
use Rattle.lent.specs.Tries.{tried_start, tried_step, tried_skip, tried_full}
use Rattle.rules.specs.Limits.{step_bound, slot_size}
use Rattle.rules.specs.State.{State}
use Rattle.rules.specs.Job.{Job}
use Rattle.rules.specs.Slot.{slot_bytes}
use Rattle.rules.specs.Same.{searchable}
use Rattle.rules.specs.Step.{may, after, step, next, enabled}
use Rattle.engine.specs.Mask.{enabled_fits, enabled_may, zero_exactly}
use Rattle.search.specs.Coded.{coding}

module _ (j : Job) (N q : ℕ) (x : State) where
  -- the steps below `below` were tried and brought the memory from e to e'; `left` has the others that may be taken, and `tried` is the number of those tried
  pub record Walking (tries : ℕ) (e e' : Memory) (left tried : ℕ) : Type 0 where
    pub below : ℕ
    pub bounded : below ≤ step_bound
    pub done : Tried (coding j) N q x below e e'
    pub kept : (s : ℕ) → below ≤ s → bit_of left s ≡ bit_of (enabled j x) s
    pub gone : (s : ℕ) → s < below → bit_of left s ≡ 0
    pub small : left < 2 ^ width
    pub number : tried + count_of left ≡ tries

  pub walking_start : (mask tries : ℕ) (e : Memory) → mask ≡ enabled j x → Counted mask tries → Walking tries e e mask 0
  walking_start mask tries e is counted =
      record {
        below = 0;
        bounded = omega arith;
        done = tried_start (coding j) N q x e;
        kept = λ s h. ap (λ m. bit_of m s) is;
        gone = λ s h. absurd (omega arith);
        small = omega (arith, is, enabled_fits j x);
        number = omega (arith, counted.is);
      }

  -- a step that is not in the mask may not be taken
  not_enabled : (s : ℕ) → bit_of (enabled j x) s ≡ 0 → next j s x ≡ none
  not_enabled s off = ap forget ((zero_exactly j x s).0 off).1

  module _ (tries : ℕ) (e e' : Memory) (left tried : ℕ) (w : Walking tries e e' left tried) where
    -- something is left while not all were tried
    pub some_left : tried < tries → 0 < left
    some_left n = which left w.number (count_law left w.small).empty
      where
        which : (m : ℕ) → tried + count_of m ≡ tries → (m ≡ 0 → count_of m ≡ 0) → 0 < m
        which zero e none_there = absurd (omega (arith, none_there refl))
        which (suc m) e none_there = omega arith

    module _ (s : ℕ) (low : Lowest left s) (any : 0 < left) where
      -- the lowest step that is left has not been tried, and those before it may not be taken
      not_below : w.below ≤ s
      not_below = which (dec_lt s w.below)
        where
          which : Dec (s < w.below) → w.below ≤ s
          which (yes h) = absurd (omega (arith, low.set any, w.gone s h))
          which (no h) = omega arith

      pub step_may : may j s x ≡ Ok tt
      step_may = enabled_may j x s (sym (w.kept s not_below) ∙ low.set any)

      pub walking_step :
          (left' : ℕ) → WithoutLowest left left' → (e'' : Memory) → Put slot_size N e' (slot_bytes (after j s x)) (link q s) e'' →
          Walking tries e e'' left' (tried + 1)
      unfolding step
      walking_step left' rest e'' put =
          let to_step = tried_skip (coding j) N q x w.below s e e' not_below (λ k a b. not_enabled k (sym (w.kept k a) ∙ low.least k b)) w.done in
          let leads : next j s x ≡ some (after j s x) = rw step_may in
          record {
            below = suc s;
            bounded = step_below (searchable j) s x (after j s x) leads;
            done = tried_step (coding j) N q x s e e' e'' to_step (rw leads put);
            kept = λ k a. rest.kept k (λ same. omega (arith, low.is)) ∙ w.kept k (omega (arith, not_below));
            gone = λ k a. gone k a (dec_lt k s);
            small = omega (arith, w.small, rest.smaller any);
            number = omega (arith, w.number, rest.is, (count_law left w.small).one_less any, ap count_of rest.is);
          }
        where
          gone : (k : ℕ) → k < suc s → Dec (k < s) → bit_of left' k ≡ 0
          gone k a (yes h) = rest.kept k (λ same. omega (arith, low.is)) ∙ low.least k h
          gone k a (no h) = let same : k ≡ lowest_of left = omega (arith, low.is) in rw same rest.cleared

    -- nothing is left, so all were tried; or none can change anything any more
    pub walked_out : left ≡ 0 → Tried (coding j) N q x step_bound e e'
    walked_out nothing_left =
        tried_skip (coding j) N q x w.below step_bound e e' w.bounded
        (λ s a b. not_enabled s (sym (w.kept s a) ∙ ap (λ m. bit_of m s) nothing_left ∙ bit_of_zero s)) w.done

    pub walked : tries ≤ tried → Tried (coding j) N q x step_bound e e'
    walked n = walked_out ((count_law left w.small).only_empty (omega (arith, w.number)))

    pub walked_full : e'.full ≡ true → Tried (coding j) N q x step_bound e e'
    walked_full full = tried_full (coding j) N q x w.below step_bound e e' w.bounded full w.done

-- the state that was read is the one that stands there
pub expanded :
    (j : Job) (N q : ℕ) (x : State) (e e' : Memory) → ((at : Stands (coding j) e.table q) → x ≡ at.state) →
    Tried (coding j) N q x step_bound e e' → Expanded (coding j) N q e e'
expanded j N q x e e' is tried at = subst (λ y. Tried (coding j) N q y step_bound e e') (is at) tried
