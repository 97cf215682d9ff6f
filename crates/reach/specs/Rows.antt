-- A search on lists that has the meaning: level by level, states in slot order, steps from the lowest upward.
use Rattle.std.specs.Prelude.{Bool, true, false, ◌||◌, List, [], ◌∷◌, ◌++◌, map, ℕ, zero, suc, leb, length, drop}
use Rattle.std.proofs.Math.Option.{Option, none, some}
use Rattle.reach.specs.System.{System}
use Rattle.reach.specs.Meaning.{Answer, reachable, unreachable, unknown, Outcome, link, no_link}
use Rattle.reach.specs.Searchable.{Searchable}

-- a state that was met, the schedule that first led to it, and its link
pub record Row (X : Type 0) : Type 0 where
  pub state : X
  pub way : List ℕ
  pub from : ℕ

-- the rows met, and whether one more was met than there are slots
pub record Met (X : Type 0) : Type 0 where
  pub rows : List (Row X)
  pub full : Bool

module _ (S : System) where
  unfoldable pub start_row : Row S.State
  start_row = record { state = S.start; way = []; from = no_link }

  -- what the step s of the row r at slot p leads to: at most one row
  unfoldable pub offer_of : ℕ → Row S.State → ℕ → Option S.State → List (Row S.State)
  offer_of p r s none = []
  offer_of p r s (some y) = record { state = y; way = r.way ++ (s ∷ []); from = link p s } ∷ []

  unfoldable pub offer : ℕ → Row S.State → ℕ → List (Row S.State)
  offer p r s = offer_of p r s (S.next s r.state)

  -- what its steps below k lead to, lowest first
  unfoldable pub offers_below : ℕ → Row S.State → ℕ → List (Row S.State)
  offers_below p r zero = []
  offers_below p r (suc k) = offers_below p r k ++ offer p r k

  -- the first row whose state is a goal
  unfoldable pub goal_row : List (Row S.State) → Option (Row S.State)
  goal_row [] = none
  goal_row (r ∷ rows) = elim (S.goal r.state) [ true ↦ some r | false ↦ goal_row rows ]

module _ (S : System) (N : ℕ) where
  unfoldable pub keep : Row S.State → List (Row S.State) → Bool → Met S.State
  keep c rows true = record { rows = rows; full = true }
  keep c rows false = record { rows = rows ++ (c ∷ []); full = false }

  unfoldable pub keep_new : Row S.State → List (Row S.State) → Bool → Met S.State
  keep_new c rows true = record { rows = rows; full = false }
  keep_new c rows false = keep c rows (leb N (length rows))

  unfoldable pub outcome : Answer → List (Row S.State) → List ℕ → Outcome S.State
  outcome a rows w = record { answer = a; slots = map (λ r. r.state) rows; links = map (λ r. r.from) rows; schedule = w }

  -- the three ways to end, and what is done otherwise
  unfoldable pub by_goal : ℕ → List (Row S.State) → Option (Row S.State) → (Unit {0} → Outcome S.State) → Outcome S.State
  by_goal d rows (some r) otherwise = outcome (reachable d (length rows)) rows r.way
  by_goal d rows none otherwise = otherwise tt

  unfoldable pub by_rest : List (Row S.State) → (ended : Bool) → (Unit {0} → Outcome S.State) → Outcome S.State
  by_rest rows true otherwise = outcome (unreachable (length rows)) rows []
  by_rest rows false otherwise = otherwise tt

  unfoldable pub by_room : List (Row S.State) → (full : Bool) → (Unit {0} → Outcome S.State) → Outcome S.State
  by_room rows true otherwise = outcome (unknown N) rows []
  by_room rows false otherwise = otherwise tt

module _ (E : Searchable) where
  -- what the steps of a run of rows lead to, of which the first stands at slot p
  unfoldable pub offers : ℕ → List (Row E.system.State) → List (Row E.system.State)
  offers p [] = []
  offers p (r ∷ rows) = offers_below E.system p r E.bound ++ offers (suc p) rows

  -- is the state among those of the rows?
  unfoldable pub known : E.system.State → List (Row E.system.State) → Bool
  known x [] = false
  known x (r ∷ rows) = E.same x r.state || known x rows

module _ (E : Searchable) (N : ℕ) where
  -- one row more, unless the state is known or no slot is left; once one was left out, no other is taken
  unfoldable pub put_unless : Row E.system.State → List (Row E.system.State) → Bool → Met E.system.State
  put_unless c rows true = record { rows = rows; full = true }
  put_unless c rows false = keep_new E.system N c rows (known E c.state rows)

  unfoldable pub put : Met E.system.State → Row E.system.State → Met E.system.State
  put m c = put_unless c m.rows m.full

  unfoldable pub put_all : Met E.system.State → List (Row E.system.State) → Met E.system.State
  put_all m [] = m
  put_all m (c ∷ cs) = put_all (put m c) cs

  -- The rows are all the states at distance d or less, those from slot lo on are the ones at d, and no goal is nearer.
  -- `fuel` counts the levels that may still come: more than N are never needed, since each level holds a state more.
  unfoldable pub levels : (fuel d lo : ℕ) → List (Row E.system.State) → Outcome E.system.State
  levels zero d lo rows = outcome E.system N (unknown N) rows []
  levels (suc fuel) d lo rows =
      by_goal E.system N d rows (goal_row E.system (drop lo rows)) λ _.
      by_rest E.system N rows (leb (length rows) lo) λ _.
      let m = put_all (record { rows = rows; full = false }) (offers E lo (drop lo rows)) in
      by_room E.system N m.rows m.full λ _.
      levels fuel (suc d) (length rows) m.rows

  -- the search: level 0 is the start
  unfoldable pub find : Outcome E.system.State
  find = levels (suc N) 0 0 (start_row E.system ∷ [])
