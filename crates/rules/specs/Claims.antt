-- What a row of the worked lists says of a job, what that means, and a test of it by computing, with the proof that the test is right.
use Rattle.std.specs.Prelude.{◌≡◌, Bool, true, false, ◌&&◌, ℕ, ◌≤◌, leb}
use Rattle.std.proofs.Math.Path.{refl, sym, ap, subst}
use Rattle.std.proofs.Common.{◌∙◌, leb→le}
use mathlib.Core.List.{List, [], ◌∷◌}
use Rattle.std.proofs.Math.Option.{Option, none, some, none-ne-some, some-injective}
use Rattle.std.proofs.Math.Dec.{T, eqb, eqb→eq}
use Rattle.std.proofs.Math.ListN.{length, get_elem?}
use Rattle.reach.specs.Lists.{All}
use Rattle.reach.specs.ListLaws.{all_nth}
use Rattle.reach.specs.System.{run}
use Rattle.reach.specs.Meaning.{LeadsTo, AtMost, Reached, Counts, Answer, reachable, unreachable, unknown, Outcome, Means, MeansAt, Brings, Outnumber}
use Rattle.reach.specs.Rows.{find}
use Rattle.reach.proofs.Found.{find_means}
use Rattle.reach.proofs.Unique.{one_outcome}
use Rattle.reach.specs.Promise.{never}
use Rattle.reach.proofs.Promise.{brings, unknown_exactly}
use Rattle.reach.specs.Explained.{Stepped, gives, withheld}
use Rattle.reach.specs.Replay.{Replayed, reaches, falls_short, stuck, ReplaysTo, replay}
use Rattle.reach.specs.ReplayLaws.{replay_means}
use Rattle.rules.specs.State.{State}
use Rattle.rules.specs.Job.{Job, start}
use Rattle.rules.specs.Step.{step, enabled}
use Rattle.rules.specs.Reasons.{number_of, same_number}
use Rattle.rules.specs.Slot.{slot_bytes}
use Rattle.rules.specs.Goal.{every, goal}
use Rattle.rules.specs.File.{Decoded, accepted, refused, decode, held_job, job_of}
use Rattle.rules.specs.Tests.{both, three}
use Rattle.rules.specs.Machine.{explained, machine}
use Rattle.rules.specs.Same.{same_list, same_list_equal, same_state, same_state_equal, searchable}
use Rattle.rules.specs.Fences.{Checked, fenced, open_at, ChecksTo}
use Rattle.rules.specs.FenceCheck.{fence_check, fence_check_means}
use Rattle.rules.specs.declared.Reason.{Reason}

-- what a row says of a job: of its search, of the slots and links that a search then holds, of its fence check, of a replay, of the state
-- after a schedule (its slot, the steps that may be taken there, those that may not be for a reason); or its refusal
pub data Claim : Type 0 where
  search_reaches : (states : ℕ) (schedule : List ℕ) → Claim
  search_never : (states : ℕ) → Claim
  search_unknown : Claim
  slots_follow : (schedules : List (List ℕ)) → Claim
  links_are : (links : List ℕ) → Claim
  fences_say : Checked → Claim
  replay_says : (schedule : List ℕ) → Replayed Reason → Claim
  slot_after : (schedule bytes : List ℕ) → Claim
  enabled_after : (schedule : List ℕ) (mask : ℕ) → Claim
  withheld_after : (schedule steps : List ℕ) (why : Reason) → Claim
  refuses : (number offset : ℕ) → Claim

pub record Case : Type 0 where
  pub slots : ℕ
  pub bytes : List ℕ
  pub claim : Claim

-- slots, job, claim
abbrev pub case : ℕ → List ℕ → Claim → Case
case n b c = record { slots = n; bytes = b; claim = c }

-- What each claim means: distance, first schedule, counts, never, walks, runs, the bytes of a slot, the enabled steps, why others are withheld.
-- What computes an answer is not named.

-- slots hold, one after the other, the states to which the schedules lead
abbrev pub InTurn : Job → List (List ℕ) → List State → Type 0
InTurn j [] [] = Unit {0}
InTurn j [] (x ∷ l) = ⊥
InTurn j (w ∷ ws) [] = ⊥
InTurn j (w ∷ ws) (x ∷ l) = LeadsTo (machine j) w x × InTurn j ws l

-- the schedule leads to a state of which P holds
pub record After (j : Job) (w : List ℕ) (P : State → Type 0) : Type 0 where
  pub state : State
  pub leads : LeadsTo (machine j) w state
  pub holds : P state

module _ (j : Job) (N : ℕ) where
  abbrev pub Never : Type 0
  Never = (w : List ℕ) (x : State) → LeadsTo (machine j) w x → ¬ (T (goal j x))

  -- what every outcome of a search with N slots holds
  abbrev pub Outcomes : (Outcome State → Type 0) → Type 0
  Outcomes P = (o : Outcome State) → Means (machine j) N o → P o

  abbrev pub Says : Claim → Type 0
  Says (search_reaches n w) = Brings (machine j) (length w) w × Counts (AtMost (machine j) (length w)) n × (n ≤ N)
  Says (search_never n) = Never × Counts (Reached (machine j)) n × (n ≤ N)
  Says search_unknown = Outnumber (machine j) N
  Says (slots_follow ws) = Outcomes (λ o. InTurn j ws o.slots)
  Says (links_are l) = Outcomes (λ o. o.links ≡ l)
  Says (fences_say a) = ChecksTo j.threads a
  Says (replay_says w a) = ReplaysTo (explained j) w a
  Says (slot_after w bytes) = After j w (λ x. slot_bytes x ≡ bytes)
  Says (enabled_after w mask) = After j w (λ x. enabled j x ≡ mask)
  Says (withheld_after w steps why) = After j w (λ x. All (λ s. step j s x ≡ withheld why) steps)
  Says (refuses number offset) = ⊥

-- a refused job has no claim but its refusal
abbrev pub Meant : ℕ → Claim → Decoded → Type 0
Meant N m (accepted j) = Says j N m
Meant N m (refused number offset) = m ≡ refuses number offset

abbrev pub CaseHolds : Case → Type 0
CaseHolds c = Meant c.slots c.claim (decode c.bytes)

-- The test of a claim, computed on lists.

unfoldable pub answer_reaches : (d n : ℕ) → Answer → Bool
answer_reaches d n (reachable e m) = eqb d e && eqb n m
answer_reaches d n (unreachable m) = false
answer_reaches d n (unknown m) = false

unfoldable pub answer_never : ℕ → Answer → Bool
answer_never n (reachable e m) = false
answer_never n (unreachable m) = eqb n m
answer_never n (unknown m) = false

unfoldable pub answer_unknown : Answer → Bool
answer_unknown (reachable e m) = false
answer_unknown (unreachable m) = false
answer_unknown (unknown m) = true

unfoldable pub same_fenced : Checked → Checked → Bool
same_fenced fenced fenced = true
same_fenced fenced (open_at t s l) = false
same_fenced (open_at t s l) fenced = false
same_fenced (open_at t s l) (open_at t' s' l') = eqb t t' && eqb s s' && eqb l l'

unfoldable pub same_replayed : Replayed Reason → Replayed Reason → Bool
same_replayed reaches reaches = true
same_replayed reaches falls_short = false
same_replayed reaches (stuck k why) = false
same_replayed falls_short reaches = false
same_replayed falls_short falls_short = true
same_replayed falls_short (stuck k why) = false
same_replayed (stuck i because) reaches = false
same_replayed (stuck i because) falls_short = false
same_replayed (stuck i because) (stuck k why) = eqb i k && eqb (number_of because) (number_of why)

unfoldable pub same_withheld : Stepped State Reason → Reason → Bool
same_withheld (gives y) why = false
same_withheld (withheld because) why = eqb (number_of because) (number_of why)

unfoldable pub same_end : Option State → State → Bool
same_end none x = false
same_end (some y) x = same_state y x

unfoldable pub in_turn_test : Job → List (List ℕ) → List State → Bool
in_turn_test j [] [] = true
in_turn_test j [] (x ∷ l) = false
in_turn_test j (w ∷ ws) [] = false
in_turn_test j (w ∷ ws) (x ∷ l) = same_end (run (machine j) w (start j)) x && in_turn_test j ws l

unfoldable pub after_test : Option State → (State → Bool) → Bool
after_test none test = false
after_test (some x) test = test x

unfoldable pub claim_test : Job → ℕ → Claim → Bool
claim_test j N (search_reaches n w) = leb 1 N && answer_reaches (length w) n (find (searchable j) N).answer && same_list eqb (find (searchable j) N).schedule w
claim_test j N (search_never n) = leb 1 N && answer_never n (find (searchable j) N).answer
claim_test j N search_unknown = leb 1 N && answer_unknown (find (searchable j) N).answer
claim_test j N (slots_follow ws) = leb 1 N && in_turn_test j ws (find (searchable j) N).slots
claim_test j N (links_are l) = leb 1 N && same_list eqb (find (searchable j) N).links l
claim_test j N (fences_say a) = same_fenced (fence_check j.threads) a
claim_test j N (replay_says w a) = same_replayed (replay (explained j) w) a
claim_test j N (slot_after w bytes) = after_test (run (machine j) w (start j)) (λ x. same_list eqb (slot_bytes x) bytes)
claim_test j N (enabled_after w mask) = after_test (run (machine j) w (start j)) (λ x. eqb (enabled j x) mask)
claim_test j N (withheld_after w steps why) = after_test (run (machine j) w (start j)) (λ x. every (λ s. same_withheld (step j s x) why) steps)
claim_test j N (refuses number offset) = false

unfoldable pub refusal_test : (number offset : ℕ) → Claim → Bool
refusal_test number offset (search_reaches n w) = false
refusal_test number offset (search_never n) = false
refusal_test number offset search_unknown = false
refusal_test number offset (slots_follow ws) = false
refusal_test number offset (links_are l) = false
refusal_test number offset (fences_say a) = false
refusal_test number offset (replay_says w a) = false
refusal_test number offset (slot_after w bytes) = false
refusal_test number offset (enabled_after w mask) = false
refusal_test number offset (withheld_after w steps why) = false
refusal_test number offset (refuses k at) = eqb k number && eqb at offset

unfoldable pub decoded_test : ℕ → Claim → Decoded → Bool
decoded_test N m (accepted j) = claim_test j N m
decoded_test N m (refused number offset) = refusal_test number offset m

unfoldable pub case_test : Case → Bool
case_test c = decoded_test c.slots c.claim (decode c.bytes)

-- The test is right.

module _ (j : Job) (N : ℕ) where
  means : 1 ≤ N → (a : Answer) → (find (searchable j) N).answer ≡ a → MeansAt (machine j) N a (find (searchable j) N)
  means h a e = subst (λ z. MeansAt (machine j) N z (find (searchable j) N)) e (find_means (searchable j) N h)

  reaches_right :
      (n : ℕ) (w : List ℕ) → 1 ≤ N → T (answer_reaches (length w) n (find (searchable j) N).answer) → (find (searchable j) N).schedule ≡ w →
      Says j N (search_reaches n w)
  unfolding answer_reaches
  reaches_right n w h t s = which (find (searchable j) N).answer refl t
    where
      which : (a : Answer) → (find (searchable j) N).answer ≡ a → T (answer_reaches (length w) n a) → Says j N (search_reaches n w)
      which (reachable d m) e t =
          let p = both (eqb (length w) d) (eqb n m) t in
          let c : d ≡ length w = sym (eqb→eq (length w) d p.0) in
          let k : m ≡ n = sym (eqb→eq n m p.1) in
          let r = means h (reachable d m) e in (
            subst (λ z. Brings (machine j) (length w) z) s (subst (λ z. Brings (machine j) z (find (searchable j) N).schedule) c (brings (machine j) N d m (find (searchable j) N) r)),
            subst (λ z. Counts (AtMost (machine j) (length w)) z) k (subst (λ z. Counts (AtMost (machine j) z) m) c r.counted),
            subst (λ z. z ≤ N) k r.fits,
          )
      which (unreachable m) e t = absurd t
      which (unknown m) e t = absurd t

  never_right : (n : ℕ) → 1 ≤ N → T (answer_never n (find (searchable j) N).answer) → Says j N (search_never n)
  unfolding answer_never
  never_right n h t = which (find (searchable j) N).answer refl t
    where
      which : (a : Answer) → (find (searchable j) N).answer ≡ a → T (answer_never n a) → Says j N (search_never n)
      which (reachable d m) e t = absurd t
      which (unreachable m) e t =
          let r = means h (unreachable m) e in
          let k : m ≡ n = sym (eqb→eq n m t) in (
            never (machine j) N m (find (searchable j) N) r,
            subst (λ z. Counts (Reached (machine j)) z) k r.counted,
            subst (λ z. z ≤ N) k r.fits,
          )
      which (unknown m) e t = absurd t

  unknown_right : 1 ≤ N → T (answer_unknown (find (searchable j) N).answer) → Says j N search_unknown
  unfolding answer_unknown
  unknown_right h t = which (find (searchable j) N).answer refl t
    where
      which : (a : Answer) → (find (searchable j) N).answer ≡ a → T (answer_unknown a) → Says j N search_unknown
      which (reachable d m) e t = absurd t
      which (unreachable m) e t = absurd t
      which (unknown m) e t =
          let r = means h (unknown m) e in
          (unknown_exactly (searchable j) N (find (searchable j) N) (find_means (searchable j) N h)).0 (subst (λ z. (find (searchable j) N).answer ≡ unknown z) r.gives e)

  -- what holds of the list search's outcome holds of all, since there is one only
  every_outcome : 1 ≤ N → (P : Outcome State → Type 0) → P (find (searchable j) N) → Outcomes j N P
  every_outcome h P p = λ o means. subst P (one_outcome (searchable j) N (find (searchable j) N) o (find_means (searchable j) N h) means) p

  same_end_equal : (y : Option State) (x : State) → T (same_end y x) → y ≡ some x
  unfolding same_end
  same_end_equal none x t = absurd t
  same_end_equal (some y) x t = ap some (same_state_equal y x t)

  in_turn_right : (ws : List (List ℕ)) (l : List State) → T (in_turn_test j ws l) → InTurn j ws l
  unfolding in_turn_test
  in_turn_right [] [] t = tt
  in_turn_right [] (x ∷ l) t = absurd t
  in_turn_right (w ∷ ws) [] t = absurd t
  in_turn_right (w ∷ ws) (x ∷ l) t =
      let p = both (same_end (run (machine j) w (start j)) x) (in_turn_test j ws l) t in
      (same_end_equal (run (machine j) w (start j)) x p.0, in_turn_right ws l p.1)

  after_right :
      (w : List ℕ) (P : State → Type 0) (test : State → Bool) → ((x : State) → T (test x) → P x) →
      (y : Option State) → run (machine j) w (start j) ≡ y → T (after_test y test) → After j w P
  unfolding after_test
  after_right w P test right none e t = absurd t
  after_right w P test right (some x) e t = record { state = x; leads = e; holds = right x t }

  same_fenced_equal : (a b : Checked) → T (same_fenced a b) → a ≡ b
  unfolding same_fenced
  same_fenced_equal fenced fenced t = refl
  same_fenced_equal fenced (open_at a b c) t = absurd t
  same_fenced_equal (open_at a b c) fenced t = absurd t
  same_fenced_equal (open_at a b c) (open_at d e f) t =
      let p = three (eqb a d) (eqb b e) (eqb c f) t in
      let x = eqb→eq a d p.0 in
      let y = eqb→eq b e p.1 in
      let z = eqb→eq c f p.2 in
      cc

  same_replayed_equal : (a b : Replayed Reason) → T (same_replayed a b) → a ≡ b
  unfolding same_replayed
  same_replayed_equal reaches reaches t = refl
  same_replayed_equal reaches falls_short t = absurd t
  same_replayed_equal reaches (stuck k why) t = absurd t
  same_replayed_equal falls_short reaches t = absurd t
  same_replayed_equal falls_short falls_short t = refl
  same_replayed_equal falls_short (stuck k why) t = absurd t
  same_replayed_equal (stuck i because) reaches t = absurd t
  same_replayed_equal (stuck i because) falls_short t = absurd t
  same_replayed_equal (stuck i because) (stuck k why) t =
      let p = both (eqb i k) (eqb (number_of because) (number_of why)) t in
      let at = eqb→eq i k p.0 in
      let reason = same_number because why (eqb→eq (number_of because) (number_of why) p.1) in
      cc

  same_withheld_equal : (a : Stepped State Reason) (why : Reason) → T (same_withheld a why) → a ≡ withheld why
  unfolding same_withheld
  same_withheld_equal (gives y) why t = absurd t
  same_withheld_equal (withheld because) why t = ap withheld (same_number because why (eqb→eq (number_of because) (number_of why) t))

  all_withheld : (x : State) (why : Reason) (steps : List ℕ) → T (every (λ s. same_withheld (step j s x) why) steps) → All (λ s. step j s x ≡ withheld why) steps
  unfolding every
  all_withheld x why [] t = tt
  all_withheld x why (s ∷ steps) t =
      let p = both (same_withheld (step j s x) why) (every (λ s. same_withheld (step j s x) why) steps) t in
      (same_withheld_equal (step j s x) why p.0, all_withheld x why steps p.1)

  claim_right : (m : Claim) → T (claim_test j N m) → Says j N m
  unfolding claim_test
  claim_right (search_reaches n w) t =
      let o = find (searchable j) N in
      let p = three (leb 1 N) (answer_reaches (length w) n o.answer) (same_list eqb o.schedule w) t in
      reaches_right n w (leb→le 1 N p.0) p.1 (same_list_equal eqb eqb→eq o.schedule w p.2)
  claim_right (search_never n) t =
      let p = both (leb 1 N) (answer_never n (find (searchable j) N).answer) t in
      never_right n (leb→le 1 N p.0) p.1
  claim_right search_unknown t =
      let p = both (leb 1 N) (answer_unknown (find (searchable j) N).answer) t in
      unknown_right (leb→le 1 N p.0) p.1
  claim_right (slots_follow ws) t =
      let p = both (leb 1 N) (in_turn_test j ws (find (searchable j) N).slots) t in
      every_outcome (leb→le 1 N p.0) (λ o. InTurn j ws o.slots) (in_turn_right ws (find (searchable j) N).slots p.1)
  claim_right (links_are l) t =
      let p = both (leb 1 N) (same_list eqb (find (searchable j) N).links l) t in
      every_outcome (leb→le 1 N p.0) (λ o. o.links ≡ l) (same_list_equal eqb eqb→eq (find (searchable j) N).links l p.1)
  claim_right (fences_say a) t = subst (ChecksTo j.threads) (same_fenced_equal (fence_check j.threads) a t) (fence_check_means j.threads)
  claim_right (replay_says w a) t =
      subst (ReplaysTo (explained j) w) (same_replayed_equal (replay (explained j) w) a t) (replay_means (explained j) w)
  claim_right (slot_after w bytes) t =
      after_right w (λ x. slot_bytes x ≡ bytes) (λ x. same_list eqb (slot_bytes x) bytes)
      (λ x. same_list_equal eqb eqb→eq (slot_bytes x) bytes) (run (machine j) w (start j)) refl t
  claim_right (enabled_after w mask) t =
      after_right w (λ x. enabled j x ≡ mask) (λ x. eqb (enabled j x) mask) (λ x. eqb→eq (enabled j x) mask) (run (machine j) w (start j)) refl t
  claim_right (withheld_after w steps why) t =
      after_right w (λ x. All (λ s. step j s x ≡ withheld why) steps) (λ x. every (λ s. same_withheld (step j s x) why) steps)
      (λ x. all_withheld x why steps) (run (machine j) w (start j)) refl t
  claim_right (refuses number offset) t = absurd t

refusal_right : (number offset : ℕ) (m : Claim) → T (refusal_test number offset m) → m ≡ refuses number offset
unfolding refusal_test
refusal_right number offset (search_reaches n w) t = absurd t
refusal_right number offset (search_never n) t = absurd t
refusal_right number offset search_unknown t = absurd t
refusal_right number offset (slots_follow ws) t = absurd t
refusal_right number offset (links_are l) t = absurd t
refusal_right number offset (fences_say a) t = absurd t
refusal_right number offset (replay_says w a) t = absurd t
refusal_right number offset (slot_after w bytes) t = absurd t
refusal_right number offset (enabled_after w mask) t = absurd t
refusal_right number offset (withheld_after w steps why) t = absurd t
refusal_right number offset (refuses k at) t =
    let p = both (eqb k number) (eqb at offset) t in
    let x = eqb→eq k number p.0 in
    let y = eqb→eq at offset p.1 in
    cc

decoded_right : (N : ℕ) (m : Claim) (d : Decoded) → T (decoded_test N m d) → Meant N m d
unfolding decoded_test
decoded_right N m (accepted j) t = claim_right j N m t
decoded_right N m (refused number offset) t = refusal_right number offset m t

-- the rows of a list hold if the test of each says so
pub all_right : (l : List Case) → T (every case_test l) → All CaseHolds l
unfolding every case_test
all_right [] t = tt
all_right (c ∷ l) t =
    let p = both (case_test c) (every case_test l) t in
    (decoded_right c.slots c.claim (decode c.bytes) p.0, all_right l p.1)

-- the refusal that a row is about
abbrev pub refusal_of : Claim → Option Decoded
refusal_of (search_reaches n w) = none
refusal_of (search_never n) = none
refusal_of search_unknown = none
refusal_of (slots_follow ws) = none
refusal_of (links_are l) = none
refusal_of (fences_say a) = none
refusal_of (replay_says w a) = none
refusal_of (slot_after w bytes) = none
refusal_of (enabled_after w mask) = none
refusal_of (withheld_after w steps why) = none
refusal_of (refuses number offset) = some (refused number offset)

refusal_meant : (N number offset : ℕ) (d : Decoded) → Meant N (refuses number offset) d → d ≡ refused number offset
refusal_meant N number offset (accepted j) h = absurd h
refusal_meant N number offset (refused k at) h = sym (some-injective _ _ (ap refusal_of h))

accepted_meant : (N : ℕ) (c : Claim) → refusal_of c ≡ none → (d : Decoded) → Meant N c d → d ≡ accepted (held_job d)
unfolding held_job
accepted_meant N c e (accepted j) h = refl
accepted_meant N c e (refused k at) h = absurd (none-ne-some (refused k at) (sym e ∙ ap refusal_of h))

-- What row i of a list says of the decoder: a row about a refusal is refused so, a row about anything else is accepted.
module _ (l : List Case) (holds : All CaseHolds l) (i n : ℕ) (bytes : List ℕ) where
  pub row_refuses : (number offset : ℕ) → get_elem? l i ≡ some (case n bytes (refuses number offset)) → decode bytes ≡ refused number offset
  row_refuses number offset e =
      refusal_meant n number offset (decode bytes) (all_nth CaseHolds l holds i (case n bytes (refuses number offset)) e)

  pub row_accepts : (c : Claim) → refusal_of c ≡ none → get_elem? l i ≡ some (case n bytes c) → decode bytes ≡ accepted (job_of bytes)
  unfolding job_of
  row_accepts c job e = accepted_meant n c job (decode bytes) (all_nth CaseHolds l holds i (case n bytes c) e)
