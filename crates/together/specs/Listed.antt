-- What the promises allow on 01's list and on the rows beyond it: the row's answer and no other. So whatever refuses everything, or always
-- says unknown or unreachable, or makes up counts, breaks its promise at P1; a check that always says OPEN at P9, one that always says
-- FENCED at P1; a replay that always says "reaches" at P10; a search that writes nothing at P1's slots and links.
use Rattle.std.specs.Prelude.{◌≡◌, refl, List, [], ◌∷◌, ◌++◌, ℕ, zero, suc, ◌*◌, ◌≤◌, length, drop}
use Rattle.std.proofs.Common.{sym, ◌∙◌, ap, subst, arith}
use Rattle.reach.specs.Lists.{All}
use Rattle.reach.specs.ListLaws.{all_imp}
use Rattle.reach.specs.Meaning.{Answer, reachable, unreachable, unknown, Outcome, LeastGoal, NoGoal, Reached, AtMost, Counts, GoalSchedule, MeansAt, Brings, slots_bytes}
use Rattle.reach.specs.Words.{refusal_words, answer_words}
use Rattle.reach.specs.Explained.{withheld}
use Rattle.reach.specs.Replay.{Replayed, stuck, ReplaysTo}
use Rattle.reach.specs.ReplayLaws.{withheld_stuck}
use Rattle.reach.specs.Order.{First}
use Rattle.reach.proofs.Promise.{unknown_exactly}
use Rattle.reach.specs.System.{System}
use Rattle.reach.specs.Unique.{counts_unique, goal_unique}
use Rattle.reach.proofs.Unique.{first_unique}
use Rattle.rules.specs.Job.{Job}
use Rattle.rules.specs.File.{Decoded, accepted, refused, decode, job_of}
use Rattle.rules.specs.Limits.{slot_size}
use Rattle.rules.specs.Slot.{slot_bytes}
use Rattle.rules.specs.Machine.{explained, machine}
use Rattle.rules.specs.Step.{step}
use Rattle.rules.specs.declared.Reason.{Reason}
use Rattle.rules.specs.Same.{searchable}
use Rattle.rules.specs.State.{State}
use Rattle.rules.specs.Accepted.{job_of_accepted}
use Rattle.rules.specs.Claims.{Claim, search_reaches, search_never, search_unknown, slots_follow, links_are, fences_say, replay_says, slot_after, enabled_after, withheld_after, refuses, Case, CaseHolds, Meant, InTurn}
use Rattle.rules.specs.Pins.{pins}
use Rattle.rules.specs.Worked.{table}
use Rattle.rules.proofs.Worked.{worked, pinned}
use Rattle.fences.specs.Meaning as fences
use Rattle.replay.specs.Meaning as replay
use Rattle.lent.specs.Meaning.{Lent, IsRefused, IsAnswered, AnsweredWith}
use Rattle.search.specs.Meaning.{slots_of, SearchOf, SearchPromise}
use Rattle.together.specs.Answered.{reachable_words, unreachable_words}

-- What a claim about a search fixes of the outcome.

least_goal : (S : System) (d : ℕ) (w : List ℕ) → Brings S d w → LeastGoal S d
least_goal S d w b =
    record {
      goal = b.goal;
      holds = b.holds;
      distance = record { way = w; leads = b.replays; steps = b.steps; least = λ v l. b.none_shorter v b.goal l b.holds };
      least = λ x k g far. subst (λ z. d ≤ z) far.steps (b.none_shorter far.way x far.leads g);
    }

first_schedule : (S : System) (d : ℕ) (w : List ℕ) → Brings S d w → First (GoalSchedule S d) w
first_schedule S d w b =
    record {
      has = record { goal = b.goal; holds = b.holds; leads = b.replays; steps = b.steps };
      none_earlier = λ v g. b.none_before v g.goal g.leads g.holds;
    }

module _ (S : System) (N : ℕ) (o : Outcome S.State) where
  reaches_fixed : (d n : ℕ) (w : List ℕ) → Brings S d w → Counts (AtMost S d) n → n ≤ N → (a : Answer) → MeansAt S N a o →
      (a ≡ reachable d n) × (o.schedule ≡ w)
  reaches_fixed d n w b c fits (reachable e m) h =
      let same_d : e ≡ d = goal_unique S e d h.least (least_goal S d w b) in
      let same_n : m ≡ n = counts_unique (AtMost S d) m n (subst (λ z. Counts (AtMost S z) m) same_d h.counted) c in
      let first : First (GoalSchedule S d) o.schedule = subst (λ z. First (GoalSchedule S z) o.schedule) same_d h.first in (
        ap {B = Answer} (λ z. reachable z m) same_d ∙ ap {B = Answer} (reachable d) same_n,
        first_unique (GoalSchedule S d) o.schedule w (first.has.steps ∙ sym b.steps) first (first_schedule S d w b),
      )
  reaches_fixed d n w b c fits (unreachable m) h = absurd (h.no_goal b.goal b.holds (record { way = w; leads = b.replays }))
  reaches_fixed d n w b c fits (unknown m) h = absurd (h.not_reachable d n (least_goal S d w b) c fits)

  never_fixed : (n : ℕ) → NoGoal S → Counts (Reached S) n → n ≤ N → (a : Answer) → MeansAt S N a o → a ≡ unreachable n
  never_fixed n nowhere c fits (reachable e m) h =
      absurd (nowhere h.least.goal h.least.holds (record { way = h.least.distance.way; leads = h.least.distance.leads }))
  never_fixed n nowhere c fits (unreachable m) h = ap {B = Answer} unreachable (counts_unique (Reached S) m n h.counted c)
  never_fixed n nowhere c fits (unknown m) h = absurd (h.not_unreachable n nowhere c fits)

-- what a search answered, with the list's number of slots lent
module _ (bytes : List ℕ) (j : Job) (is : decode bytes ≡ accepted j) (N : ℕ) (some_slot : 1 ≤ N) where
  answered : (m m' : Lent) (ws : List ℕ) → slots_of m ≡ N → SearchPromise bytes m ws m' → IsAnswered (machine j) slot_size slot_bytes N m ws m'
  answered m m' ws slots h =
      which N some_slot (subst (λ n. AnsweredWith (machine j) slot_size slot_bytes n m ws m') slots (subst (λ z. SearchOf z m ws m') is h))
    where
      which : (n : ℕ) → 1 ≤ n → AnsweredWith (machine j) slot_size slot_bytes n m ws m' → IsAnswered (machine j) slot_size slot_bytes n m ws m'
      which zero l k = absurd (omega arith)
      which (suc n) l k = k

-- the table holds the bytes of the states to which the schedules lead, one slot after another, and behind them what was lent
pub record TableFollows (bytes : List ℕ) (schedules : List (List ℕ)) (lent written : List ℕ) : Type 0 where
  pub states : List State
  pub in_turn : InTurn (job_of bytes) schedules states
  pub is : written ≡ slots_bytes slot_bytes states ++ drop (slot_size * length states) lent

-- the words that a claim of the list fixes, with its number of slots lent
module _ (bytes : List ℕ) (N : ℕ) where
  abbrev pub Searched : (Lent → List ℕ → Lent → Type 0) → Type 0
  Searched P = (m m' : Lent) (ws : List ℕ) → slots_of m ≡ N → SearchPromise bytes m ws m' → P m ws m'

  abbrev pub Fixes : Claim → Type 0
  Fixes (search_reaches n w) = Searched (λ m ws m'. (ws ≡ reachable_words (length w) n) × (m'.schedule ≡ w ++ drop (length w) m.schedule))
  Fixes (search_never n) = Searched (λ m ws m'. (ws ≡ unreachable_words n) × (m'.schedule ≡ m.schedule))
  Fixes search_unknown = Searched (λ m ws m'. (ws ≡ answer_words (unknown N)) × (m'.schedule ≡ m.schedule))
  Fixes (slots_follow schedules) = Searched (λ m ws m'. TableFollows bytes schedules m.table m'.table)
  Fixes (links_are l) = Searched (λ m ws m'. m'.links ≡ l ++ drop (length l) m.links)
  Fixes (fences_say a) = (ws : List ℕ) → fences.FencePromise bytes ws → ws ≡ fences.checked_words a
  Fixes (replay_says w a) = (ws : List ℕ) → replay.ReplayPromise bytes w ws → ws ≡ replay.replayed_words a
  -- a replay that comes to such a step is stuck there, for this reason
  Fixes (withheld_after w steps why) =
      All (λ s. (ws : List ℕ) → replay.ReplayPromise bytes (w ++ (s ∷ [])) ws → ws ≡ replay.replayed_words (stuck (length w) why)) steps
  -- of these no public promise speaks
  Fixes (slot_after w b) = Unit {0}
  Fixes (enabled_after w mask) = Unit {0}
  Fixes (refuses number offset) =
      ((ws : List ℕ) → fences.FencePromise bytes ws → ws ≡ refusal_words number offset)
      × ((w ws : List ℕ) → replay.ReplayPromise bytes w ws → ws ≡ refusal_words number offset)
      × ((m m' : Lent) (ws : List ℕ) → SearchPromise bytes m ws m' → IsRefused number offset m ws m')

  replay_fixed : (j : Job) → decode bytes ≡ accepted j → (w : List ℕ) (a : Replayed Reason) → ReplaysTo (explained j) w a →
      (ws : List ℕ) → replay.ReplayPromise bytes w ws → ws ≡ replay.replayed_words a
  replay_fixed j is w a h ws k =
      replay.replay_once bytes w ws (replay.replayed_words a) k
      (subst (λ d. replay.ReplayOf d w (replay.replayed_words a)) (sym is) (record { replayed = a; means = h; answer = refl }))

  fixed_accepted : 1 ≤ N → (j : Job) → decode bytes ≡ accepted j → (c : Claim) → Meant N c (accepted j) → Fixes c
  fixed_accepted some_slot j is (search_reaches n w) h =
      λ m m' ws slots k.
      (let x = answered bytes j is N some_slot m m' ws slots k in
      let o = x.outcome in
      let f = reaches_fixed (machine j) N o (length w) n w h.0 h.1 h.2 o.answer x.means in (
        x.answer ∙ ap answer_words f.0,
        ap (λ z. z.schedule) x.buffers ∙ ap (λ z. z ++ drop (length z) m.schedule) f.1,
      ))
  fixed_accepted some_slot j is (search_never n) h =
      λ m m' ws slots k.
      (let x = answered bytes j is N some_slot m m' ws slots k in
      let o = x.outcome in
      let nowhere : NoGoal (machine j) = λ y g r. h.0 r.way y r.leads g in
      let f = never_fixed (machine j) N o n nowhere h.1 h.2 o.answer x.means in
      let means : MeansAt (machine j) N (unreachable n) o = subst (λ a. MeansAt (machine j) N a o) f x.means in (
        x.answer ∙ ap answer_words f,
        ap (λ z. z.schedule) x.buffers ∙ ap (λ z. z ++ drop (length z) m.schedule) means.none_written,
      ))
  fixed_accepted some_slot j is search_unknown h =
      λ m m' ws slots k.
      (let x = answered bytes j is N some_slot m m' ws slots k in
      let o = x.outcome in
      let f = (unknown_exactly (searchable j) N o x.means).1 h in
      let means : MeansAt (machine j) N (unknown N) o = subst (λ a. MeansAt (machine j) N a o) f x.means in (
        x.answer ∙ ap answer_words f,
        ap (λ z. z.schedule) x.buffers ∙ ap (λ z. z ++ drop (length z) m.schedule) means.none_written,
      ))
  fixed_accepted some_slot j is (slots_follow schedules) h =
      λ m m' ws slots k.
      (let x = answered bytes j is N some_slot m m' ws slots k in
      let o = x.outcome in
      record {
        states = o.slots;
        in_turn = subst (λ z. InTurn z schedules o.slots) (sym (job_of_accepted bytes j is)) (h o x.means);
        is = ap (λ z. z.table) x.buffers;
      })
  fixed_accepted some_slot j is (links_are l) h =
      λ m m' ws slots k.
      (let x = answered bytes j is N some_slot m m' ws slots k in
      ap (λ z. z.links) x.buffers ∙ ap (λ z. z ++ drop (length z) m.links) (h x.outcome x.means))
  fixed_accepted some_slot j is (fences_say a) h =
      λ ws k.
      fences.fences_once bytes ws (fences.checked_words a) k
      (fences.fences_accepted bytes (fences.checked_words a) j is (record { checked = a; means = h; answer = refl }))
  fixed_accepted some_slot j is (replay_says w a) h = replay_fixed j is w a h
  fixed_accepted some_slot j is (withheld_after w steps why) h =
      all_imp (λ s. step j s h.state ≡ withheld why) _
      (λ s e. replay_fixed j is (w ++ (s ∷ [])) (stuck (length w) why) (withheld_stuck (explained j) w h.state s why h.leads e)) steps h.holds
  fixed_accepted some_slot j is (slot_after w b) h = tt
  fixed_accepted some_slot j is (enabled_after w mask) h = tt
  fixed_accepted some_slot j is (refuses number offset) h = absurd h

  fixed_refused : (number offset : ℕ) → decode bytes ≡ refused number offset → Fixes (refuses number offset)
  fixed_refused number offset is = (
    λ ws k. subst (λ d. fences.FenceOf d ws) is k,
    λ w ws k. subst (λ d. replay.ReplayOf d w ws) is k,
    λ m m' ws k. subst (λ d. SearchOf d m ws m') is k,
  )

  fixed : 1 ≤ N → (d : Decoded) → decode bytes ≡ d → (c : Claim) → Meant N c d → Fixes c
  fixed some_slot (accepted j) is c h = fixed_accepted some_slot j is c h
  fixed some_slot (refused number offset) is c h = subst Fixes (sym h) (fixed_refused number offset is)

-- every case of the list
abbrev pub CaseFixed : Case → Type 0
CaseFixed c = 1 ≤ c.slots → Fixes c.bytes c.slots c.claim

case_fixed : (c : Case) → CaseHolds c → CaseFixed c
case_fixed c h = λ slots. fixed c.bytes c.slots slots (decode c.bytes) refl c.claim h

pub listed : All CaseFixed table
listed = all_imp CaseHolds CaseFixed case_fixed table worked

-- and every row beyond it
pub pins_listed : All CaseFixed pins
pins_listed = all_imp CaseHolds CaseFixed case_fixed pins pinned
