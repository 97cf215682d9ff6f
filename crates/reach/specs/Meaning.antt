-- What the three answers of a search mean, and what slots, links and schedule then hold: 01, "Search", over any system.
use Rattle.std.specs.Prelude.{◌≡◌, ◌↔◌, List, [], ◌∷◌, ◌++◌, ℕ, suc, ◌+◌, ◌*◌, ◌≤◌, ◌<◌, T, length}
use Rattle.std.proofs.Math.Option.{some}
use Rattle.std.proofs.Math.ListN.{get_elem?}
use Rattle.reach.specs.Lists.{◌∈◌, Pairwise, Distinct}
use Rattle.reach.specs.System.{System, run}
use Rattle.reach.specs.Order.{Earlier, Sooner, First}

-- Distances and goals.

-- the schedule w can be run from the start, and ends in x
abbrev pub LeadsTo : (S : System) → List ℕ → S.State → Type 0
LeadsTo S w x = run S w S.start ≡ some x

-- "The distance of a state is the least number of steps to it."
pub record Distance (S : System) (x : S.State) (k : ℕ) : Type 0 where
  pub way : List ℕ
  pub leads : LeadsTo S way x
  pub steps : length way ≡ k
  pub least : (w : List ℕ) → LeadsTo S w x → k ≤ length w

-- x is at distance j or less
pub record AtMost (S : System) (j : ℕ) (x : S.State) : Type 0 where
  pub far : ℕ
  pub distance : Distance S x far
  pub near : far ≤ j

-- x can be reached at all
pub record Reached (S : System) (x : S.State) : Type 0 where
  pub way : List ℕ
  pub leads : LeadsTo S way x

-- "R(j) counts distinct states at distance j or less": n is the number of distinct states that have the property;
-- R(j) is the n of `Counts (AtMost S j)`
pub record Counts {X : Type 0} (P : X → Type 0) (n : ℕ) : Type 0 where
  pub states : List X
  pub distinct : Distinct states
  pub exactly : (x : X) → (x ∈ states) ↔ P x
  pub number : length states ≡ n

-- "Let d be the least distance of a goal state."
pub record LeastGoal (S : System) (d : ℕ) : Type 0 where
  pub goal : S.State
  pub holds : T (S.goal goal)
  pub distance : Distance S goal d
  pub least : (x : S.State) (k : ℕ) → T (S.goal x) → Distance S x k → d ≤ k

-- no goal state is reachable
abbrev pub NoGoal : (S : System) → Type 0
NoGoal S = (x : S.State) → T (S.goal x) → ¬ (Reached S x)

-- a schedule of d steps to a goal state
pub record GoalSchedule (S : System) (d : ℕ) (w : List ℕ) : Type 0 where
  pub goal : S.State
  pub holds : T (S.goal goal)
  pub leads : LeadsTo S w goal
  pub steps : length w ≡ d

-- What slots and links hold.

-- a state's first shortest schedule
pub record FirstShortest (S : System) (x : S.State) (w : List ℕ) : Type 0 where
  pub shortest : Distance S x (length w)
  pub first : First (λ v. LeadsTo S v x) w

-- the order of slots: "by distance and then by their first shortest schedule"
pub record SlotBefore (S : System) (x y : S.State) : Type 0 where
  pub way : List ℕ
  pub way_first : FirstShortest S x way
  pub later : List ℕ
  pub later_first : FirstShortest S y later
  pub sooner : Sooner way later

-- slots hold exactly the states that have the property, in the order of slots
pub record Holds (S : System) (P : S.State → Type 0) (slots : List S.State) : Type 0 where
  pub ordered : Pairwise (SlotBefore S) slots
  pub exactly : (x : S.State) → (x ∈ slots) ↔ P x

-- slots hold the first n reachable states in the order of slots
pub record HoldsFirst (S : System) (n : ℕ) (slots : List S.State) : Type 0 where
  pub number : length slots ≡ n
  pub ordered : Pairwise (SlotBefore S) slots
  pub reached : (x : S.State) → x ∈ slots → Reached S x
  pub closed : (x y : S.State) → y ∈ slots → SlotBefore S x y → x ∈ slots

-- the slots' bytes: those of one state after another, each as `code` lays it out
unfoldable pub slots_bytes : {X : Type 0} → (code : X → List ℕ) → List X → List ℕ
slots_bytes code [] = []
slots_bytes code (x ∷ l) = code x ++ slots_bytes code l

-- "Link 0 is 4,294,967,295; each other link is 64 times the slot of the state before the last step of that schedule, plus that step."
abbrev pub no_link : ℕ
no_link = 4294967295

abbrev pub link : ℕ → ℕ → ℕ
link slot step = 64 * slot + step

-- the link of a state that is not the start: its first shortest schedule is `before` and then `step`, and `before` ends at `parent`,
-- which stands at `slot`
pub record LinkOf (S : System) (slots : List S.State) (x : S.State) (l : ℕ) : Type 0 where
  pub before : List ℕ
  pub step : ℕ
  pub first : FirstShortest S x (before ++ (step ∷ []))
  pub parent : S.State
  pub parent_leads : LeadsTo S before parent
  pub slot : ℕ
  pub parent_at : get_elem? slots slot ≡ some parent
  pub is : l ≡ link slot step

-- a link for each slot
pub record Linked (S : System) (slots : List S.State) (links : List ℕ) : Type 0 where
  pub number : length links ≡ length slots
  pub zeroth : (l : ℕ) → get_elem? links 0 ≡ some l → l ≡ no_link
  pub other : (i : ℕ) (x : S.State) (l : ℕ) → 0 < i → get_elem? slots i ≡ some x → get_elem? links i ≡ some l → LinkOf S slots x l

-- The three answers.

pub data Answer : Type 0 where
  reachable : (d states : ℕ) → Answer
  unreachable : (states : ℕ) → Answer
  unknown : (N : ℕ) → Answer

-- the answer, the states and links that the counted slots hold, and the steps written to the schedule
pub record Outcome (X : Type 0) : Type 0 where
  pub answer : Answer
  pub slots : List X
  pub links : List ℕ
  pub schedule : List ℕ

-- "Reachable: d exists and R(d) is at most N. Gives d, R(d) and the schedule: of all schedules of d steps to a goal state, the first ..."
pub record IsReachable (S : System) (N d n : ℕ) (o : Outcome S.State) : Type 0 where
  pub least : LeastGoal S d
  pub counted : Counts (AtMost S d) n
  pub fits : n ≤ N
  pub first : First (GoalSchedule S d) o.schedule
  pub held : Holds S (AtMost S d) o.slots
  pub linked : Linked S o.slots o.links

-- "Unreachable: no goal state is reachable and all reachable states fit in N. Gives their number."
pub record IsUnreachable (S : System) (N n : ℕ) (o : Outcome S.State) : Type 0 where
  pub no_goal : NoGoal S
  pub counted : Counts (Reached S) n
  pub fits : n ≤ N
  pub none_written : o.schedule ≡ []
  pub held : Holds S (Reached S) o.slots
  pub linked : Linked S o.slots o.links

-- "Unknown: otherwise. Gives N."
pub record IsUnknown (S : System) (N n : ℕ) (o : Outcome S.State) : Type 0 where
  pub gives : n ≡ N
  pub not_reachable : (d m : ℕ) → LeastGoal S d → Counts (AtMost S d) m → ¬ (m ≤ N)
  pub not_unreachable : (m : ℕ) → NoGoal S → Counts (Reached S) m → ¬ (m ≤ N)
  pub none_written : o.schedule ≡ []
  pub held : HoldsFirst S N o.slots
  pub linked : Linked S o.slots o.links

abbrev pub MeansAt : (S : System) → ℕ → Answer → Outcome S.State → Type 0
MeansAt S N (reachable d n) o = IsReachable S N d n o
MeansAt S N (unreachable n) o = IsUnreachable S N n o
MeansAt S N (unknown n) o = IsUnknown S N n o

-- the outcome is what a search of the system with N slots must give
abbrev pub Means : (S : System) → ℕ → Outcome S.State → Type 0
Means S N o = MeansAt S N o.answer o

-- The same in the words of the bench's second demand.

-- "Reachable" brings the shortest schedule, the first in step order among equals, and it replays to the goal.
pub record Brings (S : System) (d : ℕ) (w : List ℕ) : Type 0 where
  pub goal : S.State
  pub replays : LeadsTo S w goal
  pub holds : T (S.goal goal)
  pub steps : length w ≡ d
  pub none_shorter : (v : List ℕ) (x : S.State) → LeadsTo S v x → T (S.goal x) → d ≤ length v
  pub none_before : (v : List ℕ) (x : S.State) → LeadsTo S v x → T (S.goal x) → length v ≡ length w → ¬ (Earlier v w)

-- The states up to the goal's distance, or all states if no goal can be reached, outnumber N.
pub record Outnumber (S : System) (N : ℕ) : Type 0 where
  pub states : List S.State
  pub distinct : Distinct states
  pub number : length states ≡ suc N
  pub reached : (x : S.State) → x ∈ states → Reached S x
  pub near : (x : S.State) → x ∈ states → (d : ℕ) → LeastGoal S d → AtMost S d x
