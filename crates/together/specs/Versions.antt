-- Request 7: a version 2 file which uses neither operation "has the same answers as the version 1 file with the same bytes behind the version": whatever is
-- lent, each promise allows the same answers, and the same bytes of lent memory, for the one file as for the other, be they accepted or refused.
use Rattle.std.specs.Prelude.{◌≡◌, ◌↔◌, ◌⊎◌, List, length}
use Rattle.std.proofs.Common.{sym, ap, subst, ◌∙◌, inl, inr}
use Prim.Native.Nat.{ℕ, zero, suc}
use Rattle.rules.specs.Limits.{first_version, second_version, length_size}
use Rattle.rules.specs.Job.{Job, start}
use Rattle.rules.specs.Step.{instruction_at, has_thread, has_variable, may_execute_of, may_flush_of, may, after, step}
use Rattle.rules.specs.Goal.{goal}
use Rattle.rules.specs.File.{byte, Decoded, accepted, refused, decode}
use Rattle.rules.specs.Versions.{in_version, re_versioned, UsesNew, FirstBars}
use Rattle.rules.proofs.Versions.{two_files, second_accepts, first_accepts}
use Rattle.fences.specs.Meaning as fences
use Rattle.replay.specs.Meaning as replay
use Rattle.lent.specs.Meaning.{Lent}
use Rattle.search.specs.Meaning as search

-- what each promise says of a decoded file, it says of the same job, or the same refusal, in another version
module _ (version : ℕ) where
  search_alike : (N : ℕ) (d : Decoded) (m : Lent) (ws : List ℕ) (m' : Lent) → search.SearchIn N d m ws m' ↔ search.SearchIn N (re_versioned version d) m ws m'
  unfolding start step may after may_execute_of may_flush_of has_thread has_variable instruction_at goal
  search_alike zero (accepted j) m ws m' = (λ h. h, λ h. h)
  search_alike (suc N) (accepted j) m ws m' = (λ h. h, λ h. h)
  search_alike N (refused number offset) m ws m' = (λ h. h, λ h. h)

  replay_alike : (d : Decoded) (schedule ws : List ℕ) → replay.ReplayOf d schedule ws ↔ replay.ReplayOf (re_versioned version d) schedule ws
  unfolding start step may after may_execute_of may_flush_of has_thread has_variable instruction_at goal
  replay_alike (accepted j) schedule ws =
      (λ h. record { replayed = h.replayed; means = h.means; answer = h.answer }, λ h. record { replayed = h.replayed; means = h.means; answer = h.answer })
  replay_alike (refused number offset) schedule ws = (λ h. h, λ h. h)

  check_alike : (d : Decoded) (ws : List ℕ) → fences.FenceOf d ws ↔ fences.FenceOf (re_versioned version d) ws
  check_alike (accepted j) ws = (λ h. h, λ h. h)
  check_alike (refused number offset) ws = (λ h. h, λ h. h)

-- the three promises allow the same for the one file as for the other
pub record SameAnswers (one two : List ℕ) : Type 1 where
  pub search : (N : ℕ) (m : Lent) (ws : List ℕ) (m' : Lent) → search.SearchedIn N one m ws m' ↔ search.SearchedIn N two m ws m'
  pub replay : (schedule ws : List ℕ) → replay.ReplayPromise one schedule ws ↔ replay.ReplayPromise two schedule ws
  pub check : (ws : List ℕ) → fences.FencePromise one ws ↔ fences.FencePromise two ws

pub same_answers : (one two : List ℕ) → decode two ≡ re_versioned second_version (decode one) → SameAnswers one two
same_answers one two e =
    record {
      search = λ N m ws m'. subst (λ d. search.SearchedIn N one m ws m' ↔ search.SearchIn N d m ws m') (sym e) (search_alike second_version N (decode one) m ws m');
      replay = λ schedule ws.
          subst (λ d. replay.ReplayPromise one schedule ws ↔ replay.ReplayOf d schedule ws) (sym e) (replay_alike second_version (decode one) schedule ws);
      check = λ ws. subst (λ d. fences.FencePromise one ws ↔ fences.FenceOf d ws) (sym e) (check_alike second_version (decode one) ws);
    }

-- Two files of the same bytes but for the version, which is 1 in the one and 2 in the other.
module _ (one two : List ℕ) (long : length one ≡ length two) (alike : (at : ℕ) → ¬ (at ≡ length_size) → byte one at ≡ byte two at)
    (is_first : byte one length_size ≡ first_version) (is_second : byte two length_size ≡ second_version) where
  -- "Nothing else of version 1 moves": the answers are the same, refusals and their offsets too, unless the first file is refused at operation 10 or 11
  pub every_pair : SameAnswers one two ⊎ FirstBars one two
  every_pair = which (two_files one two long alike is_first is_second)
    where
      which : (decode two ≡ re_versioned second_version (decode one)) ⊎ FirstBars one two → SameAnswers one two ⊎ FirstBars one two
      which (inl e) = inl (same_answers one two e)
      which (inr bars) = inr bars

  -- "a version 2 file which uses neither operation means, but for the version field, the same job and has the same answers"
  pub neither_used : (j : Job) → decode two ≡ accepted j → ¬ (UsesNew j)
      → ((i : Job) × (decode one ≡ accepted i) × (j ≡ in_version second_version i)) × SameAnswers one two
  neither_used j second old =
      let r = first_accepts one two long alike is_first is_second j second old in
      (r, same_answers one two (second ∙ ap accepted r.2 ∙ ap (re_versioned second_version) (sym r.1)))

  -- and a version 1 file keeps its answers when it says version 2
  pub says_second : (j : Job) → decode one ≡ accepted j → SameAnswers one two
  says_second j first =
      same_answers one two (second_accepts one two long alike is_first is_second j first ∙ ap (re_versioned second_version) (sym first))
