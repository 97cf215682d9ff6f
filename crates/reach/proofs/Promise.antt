-- What the three answers promise, in the words of the bench's second demand.
use Rattle.std.specs.Prelude.{◌≡◌, ◌↔◌, List, ℕ, suc, ◌≤◌, length}
use Rattle.std.proofs.Common.{◌∙◌, ap, subst, inl, arith}
use Rattle.std.proofs.Math.Decide.{dec_le}
use Rattle.reach.specs.Lists.{◌∈◌}
use Rattle.reach.specs.ListLaws.{no_longer}
use Rattle.reach.specs.System.{System}
use Rattle.reach.specs.Searchable.{Searchable}
use Rattle.reach.specs.RunLaws.{Least, least_first, distance_reached}
use Rattle.reach.specs.Meaning.{AtMost, Reached, Counts, LeastGoal, NoGoal, SlotBefore, Answer, reachable, unreachable, unknown, Outcome, IsReachable, IsUnknown, MeansAt, Means, Brings, Outnumber}
use Rattle.reach.proofs.Levels.{least_of}
use Rattle.reach.proofs.Found.{find_means, counted_at, distinct_states, ways_before}
use Rattle.reach.specs.Rows.{find}
use Rattle.reach.specs.Unique.{goal_unique}
use Rattle.reach.specs.Promise.{none_shorter}

module _ (S : System) where
  pub brings : (N d n : ℕ) (o : Outcome S.State) → IsReachable S N d n o → Brings S d o.schedule
  brings N d n o h =
      let first = h.first.has in
      record {
        goal = first.goal;
        replays = first.leads;
        holds = first.holds;
        steps = first.steps;
        none_shorter = none_shorter S d h.least;
        none_before = λ v x l g e. h.first.none_earlier v (record { goal = x; holds = g; leads = l; steps = e ∙ first.steps }) e;
      }

  outnumbered : (N n : ℕ) (P : S.State → Type 0) (h : Outnumber S N) → Counts P n → ((x : S.State) → x ∈ h.states → P x) → ¬ (n ≤ N)
  outnumbered N n P h c f k =
      let all = no_longer h.states c.states h.distinct (λ x m. (c.exactly x).1 (f x m)) in
      omega (arith, h.number, c.number)

  -- there is no count of states up to the goal's distance, or of all where there is no goal, that fits in N
  abbrev Overflows : ℕ → Type 0
  Overflows N =
      ((d m : ℕ) → LeastGoal S d → Counts (AtMost S d) m → ¬ (m ≤ N)) × ((m : ℕ) → NoGoal S → Counts (Reached S) m → ¬ (m ≤ N))

-- where every state that can be reached has a least schedule, and those at any distance or less are counted
module _ (S : System) (least : (x : S.State) → Reached S x → (u : List ℕ) × Least S x u) (count : (d : ℕ) → (n : ℕ) × Counts (AtMost S d) n) where
  -- what a search with one slot more finds are the states that are too many
  overflows_outnumber : (N : ℕ) (o : Outcome S.State) → Means S (suc N) o → Overflows S N → Outnumber S N
  overflows_outnumber N o h over = which o.answer h
    where
      which : (a : Answer) → MeansAt S (suc N) a o → Outnumber S N
      which (reachable d n) h =
          let c = h.counted in
          record {
            states = c.states;
            distinct = c.distinct;
            number = (let more = over.0 d n h.least c in omega (arith, h.fits, c.number));
            reached = λ x m. (let a = (c.exactly x).0 m in distance_reached S x a.far a.distance);
            near = λ x m e g. subst (λ k. AtMost S k x) (goal_unique S d e h.least g) ((c.exactly x).0 m);
          }
      which (unreachable n) h =
          let c = h.counted in
          record {
            states = c.states;
            distinct = c.distinct;
            number = (let more = over.1 n h.no_goal c in omega (arith, h.fits, c.number));
            reached = λ x m. (c.exactly x).0 m;
            near = λ x m e g. absurd (h.no_goal g.goal g.holds (distance_reached S g.goal e g.distance));
          }
      which (unknown n) h =
          record {
            states = o.slots;
            distinct = distinct_states S o.slots h.held.ordered;
            number = h.held.number;
            reached = h.held.reached;
            near = λ x m d g. near x m d g;
          }
        where
          near : (x : S.State) → x ∈ o.slots → (d : ℕ) → LeastGoal S d → AtMost S d x
          near x m d g =
              let u = least x (h.held.reached x m) in
              decide u.0 u.1 (dec_le (length u.0) d)
            where
              -- else all states at distance d or less come before x, and fit
              decide : (u : List ℕ) → Least S x u → Dec (length u ≤ d) → AtMost S d x
              decide u l (yes n) = record { far = length u; distance = (least_first S x u l).shortest; near = n }
              decide u l (no n) =
                  let c = count d in
                  let all = no_longer c.1.states o.slots c.1.distinct (λ y k. h.held.closed y x m (before y ((c.1.exactly y).0 k))) in
                  absurd (h.not_reachable d c.0 g c.1 (omega (arith, c.1.number, h.held.number)))
                where
                  before : (y : S.State) → AtMost S d y → SlotBefore S y x
                  before y a =
                      let w = least y (distance_reached S y a.far a.distance) in
                      let shortest = (least_first S y w.0 w.1).shortest in
                      ways_before S y x w.0 u w.1 l (inl (omega (arith, a.near, a.distance.steps, shortest.least a.distance.way a.distance.leads)))

module _ (E : Searchable) where
  -- "Unknown" is given exactly when these states outnumber N.
  pub unknown_exactly : (N : ℕ) (o : Outcome E.system.State) → Means E.system N o → (o.answer ≡ unknown N) ↔ Outnumber E.system N
  unknown_exactly N o h = (
    λ e. overflows_outnumber E.system (λ x r. least_of E r.way x r.leads) (counted_at E) N (find E (suc N)) (find_means E (suc N) (omega arith))
        (overflow (subst (λ a. MeansAt E.system N a o) e h)),
    λ k. which o.answer h k,
  )
    where
      overflow : IsUnknown E.system N N o → Overflows E.system N
      overflow h = (h.not_reachable, h.not_unreachable)

      which : (a : Answer) → MeansAt E.system N a o → Outnumber E.system N → a ≡ unknown N
      which (reachable d n) h k =
          absurd (outnumbered E.system N n (AtMost E.system d) k h.counted (λ x m. k.near x m d h.least) h.fits)
      which (unreachable n) h k = absurd (outnumbered E.system N n (Reached E.system) k h.counted k.reached h.fits)
      which (unknown n) h k = ap {B = Answer} unknown h.gives
