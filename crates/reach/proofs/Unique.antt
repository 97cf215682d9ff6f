-- Any two outcomes that the meaning allows are equal: answer, slots, links and schedule.
use Rattle.std.specs.Prelude.{◌≡◌, refl, ◌⊎◌, List, [], ◌∷◌, ◌++◌, ℕ, zero, suc, ◌≤◌, length}
use Rattle.std.proofs.Common.{sym, ◌∙◌, ap, ap₂, subst, inl, inr, arith}
use Rattle.std.proofs.Math.Option.{some}
use Rattle.std.proofs.Math.ListN.{get_elem?}
use Rattle.reach.specs.Lists.{◌∈◌, Pairwise, Distinct}
use Rattle.reach.specs.ListLaws.{in_left, in_right, in_either, all_at, pairwise_imp, at_below, below_at, same_at, same_place}
use Rattle.reach.specs.System.{System}
use Rattle.reach.specs.Order.{Earlier, Sooner, First}
use Rattle.reach.specs.OrderLaws.{earlier_total, sooner_irrefl, sooner_trans, snoc_equal}
use Rattle.reach.proofs.OrderLaws.{sooner_total}
use Rattle.reach.specs.Searchable.{Searchable}
use Rattle.reach.specs.RunLaws.{Least, first_least, leads_unique, distance_unique, distance_reached}
use Rattle.reach.proofs.RunLaws.{least_unique}
use Rattle.reach.proofs.Levels.{least_of}
use Rattle.reach.proofs.Found.{before_ways, ways_before, before_differ}
use Rattle.reach.specs.Meaning.{LeadsTo, AtMost, Reached, Counts, GoalSchedule, SlotBefore, Holds, HoldsFirst, LinkOf, Linked, Answer, reachable, unreachable, unknown, Outcome, MeansAt, Means}
use Rattle.reach.specs.Unique.{counts_unique, goal_unique}

pub first_unique : (P : List ℕ → Type 0) (u v : List ℕ) → length u ≡ length v → First P u → First P v → u ≡ v
first_unique P u v e h k = which (earlier_total u v e)
  where
    which : Earlier u v ⊎ ((u ≡ v) ⊎ Earlier v u) → u ≡ v
    which (inl d) = absurd (k.none_earlier u h.has e d)
    which (inr (inl d)) = d
    which (inr (inr d)) = absurd (h.none_earlier v k.has (sym e) d)

-- how many states an answer counts
abbrev counted : Answer → ℕ
counted (reachable d n) = n
counted (unreachable n) = n
counted (unknown n) = n

module _ (S : System) where
  before_asym : (x y : S.State) → SlotBefore S x y → ¬ (SlotBefore S y x)
  before_asym x y b c =
      let h = first_least S x b.way b.way_first in
      let k = first_least S y b.later b.later_first in
      sooner_irrefl b.way (sooner_trans b.way b.later b.way b.sooner (before_ways S y x b.later b.way c k h))

  -- what stands behind `seen` in the order of slots, with all that comes before it
  record Follows (seen l : List S.State) : Type 0 where
    ordered : Pairwise (SlotBefore S) l
    reached : (x : S.State) → x ∈ l → Reached S x
    closed : (x y : S.State) → y ∈ l → SlotBefore S x y → (x ∈ seen) ⊎ (x ∈ l)
    later : (x y : S.State) → x ∈ seen → y ∈ l → SlotBefore S x y

  -- the element that heads one list cannot stand before the head of the other
  not_before :
      (seen l m : List S.State) (x y : S.State) → Follows seen (x ∷ l) → Follows seen (y ∷ m) → ¬ (SlotBefore S x y)
  not_before seen l m x y f g b = which (g.closed x y (inl refl) b)
    where
      which : (x ∈ seen) ⊎ (x ∈ (y ∷ m)) → ⊥
      which (inl h) = before_differ S x x (f.later x x h (inl refl)) refl
      which (inr (inl e)) = before_differ S x y b e
      which (inr (inr h)) = before_asym x y b (all_at (SlotBefore S y) m g.ordered.0 x h)

  follows_tail : (seen l : List S.State) (x : S.State) → Follows seen (x ∷ l) → Follows (seen ++ (x ∷ [])) l
  follows_tail seen l x f =
      record {
        ordered = f.ordered.1;
        reached = λ y h. f.reached y (inr h);
        closed = λ y z h b. closed y (f.closed y z (inr h) b);
        later = λ y z h k. later y z k (in_either y seen (x ∷ []) h);
      }
    where
      closed : (y : S.State) → (y ∈ seen) ⊎ (y ∈ (x ∷ l)) → (y ∈ (seen ++ (x ∷ []))) ⊎ (y ∈ l)
      closed y (inl h) = inl (in_left y seen (x ∷ []) h)
      closed y (inr (inl e)) = inl (in_right y seen (x ∷ []) (inl e))
      closed y (inr (inr h)) = inr h

      later : (y z : S.State) → z ∈ l → (y ∈ seen) ⊎ (y ∈ (x ∷ [])) → SlotBefore S y z
      later y z k (inl h) = f.later y z h (inr k)
      later y z k (inr (inl e)) = subst (λ x. SlotBefore S x z) (sym e) (all_at (SlotBefore S x) l f.ordered.0 z k)
      later y z k (inr (inr h)) = absurd h

  first_follows : (n : ℕ) (l : List S.State) → HoldsFirst S n l → Follows [] l
  first_follows n l h =
      record { ordered = h.ordered; reached = h.reached; closed = λ x y k b. inr (h.closed x y k b); later = λ x y k. absurd k }

  -- the states that have a property, where it is kept by what comes before: the first of their number
  holds_first :
      (P : S.State → Type 0) (n : ℕ) (l : List S.State) → ((x : S.State) → P x → Reached S x) →
      ((x y : S.State) → P y → SlotBefore S x y → P x) → Counts P n → Holds S P l → HoldsFirst S n l
  holds_first P n l reached kept c h =
      record {
        number = counts_unique P (length l) n (record { states = l; distinct = distinct; exactly = h.exactly; number = refl }) c;
        ordered = h.ordered;
        reached = λ x k. reached x ((h.exactly x).0 k);
        closed = λ x y k b. (h.exactly x).1 (kept x y ((h.exactly y).0 k) b);
      }
    where
      distinct : Distinct l
      distinct = pairwise_imp (SlotBefore S) (λ x y. ¬ (x ≡ y)) (before_differ S) l h.ordered

  at_most_kept : (d : ℕ) (x y : S.State) → AtMost S d y → SlotBefore S x y → AtMost S d x
  at_most_kept d x y h b =
      record {
        far = length b.way;
        distance = b.way_first.shortest;
        near = omega (arith, h.near, distance_unique S y h.far (length b.later) h.distance b.later_first.shortest, no_longer_than b.sooner);
      }
    where
      no_longer_than : Sooner b.way b.later → length b.way ≤ length b.later
      no_longer_than (inl k) = omega arith
      no_longer_than (inr k) = omega (arith, k.0)

  reached_kept : (x y : S.State) → Reached S y → SlotBefore S x y → Reached S x
  reached_kept x y h b = record { way = b.way; leads = b.way_first.first.has }

  -- links

  link_unique : (slots : List S.State) → Distinct slots → (x : S.State) (l k : ℕ) → LinkOf S slots x l → LinkOf S slots x k → l ≡ k
  link_unique slots distinct x l k a b =
      let e = least_unique S x (a.before ++ (a.step ∷ [])) (b.before ++ (b.step ∷ []))
      (first_least S x (a.before ++ (a.step ∷ [])) a.first) (first_least S x (b.before ++ (b.step ∷ [])) b.first) in
      let p = snoc_equal a.before b.before a.step b.step e in
      let q = leads_unique S a.before a.parent b.parent a.parent_leads (subst (λ w. LeadsTo S w b.parent) (sym p.0) b.parent_leads) in
      let r = same_place slots distinct a.slot b.slot a.parent a.parent_at (subst (λ z. get_elem? slots b.slot ≡ some z) (sym q) b.parent_at) in
      omega (arith, a.is, b.is, r, p.1)

  links_unique : (slots : List S.State) → Pairwise (SlotBefore S) slots → (l m : List ℕ) → Linked S slots l → Linked S slots m → l ≡ m
  links_unique slots ordered l m h k = same_at l m (h.number ∙ sym k.number) same
    where
      distinct : Distinct slots
      distinct = pairwise_imp (SlotBefore S) (λ x y. ¬ (x ≡ y)) (before_differ S) slots ordered

      same : (i : ℕ) (a b : ℕ) → get_elem? l i ≡ some a → get_elem? m i ≡ some b → a ≡ b
      same zero a b e f = h.zeroth a e ∙ sym (k.zeroth b f)
      same (suc i) a b e f =
          let x = below_at slots (suc i) (omega (arith, at_below l (suc i) a e, h.number)) in
          link_unique slots distinct x.0 a b (h.other (suc i) x.0 a (omega arith) x.1 e) (k.other (suc i) x.0 b (omega arith) x.1 f)

  -- the slots of an outcome are the first of as many as the answer counts
  held_first : (N : ℕ) (a : Answer) (o : Outcome S.State) → MeansAt S N a o → HoldsFirst S (counted a) o.slots
  held_first N (reachable d n) o h = holds_first (AtMost S d) n o.slots (λ x a. distance_reached S x a.far a.distance) (at_most_kept d) h.counted h.held
  held_first N (unreachable n) o h = holds_first (Reached S) n o.slots (λ x r. r) reached_kept h.counted h.held
  held_first N (unknown n) o h = subst (λ k. HoldsFirst S k o.slots) (sym h.gives) h.held

  linked_of : (N : ℕ) (a : Answer) (o : Outcome S.State) → MeansAt S N a o → Linked S o.slots o.links
  linked_of N (reachable d n) o h = h.linked
  linked_of N (unreachable n) o h = h.linked
  linked_of N (unknown n) o h = h.linked

  answer_unique : (N : ℕ) (a b : Answer) (o p : Outcome S.State) → MeansAt S N a o → MeansAt S N b p → a ≡ b
  answer_unique N (reachable d n) (reachable e m) o p h k =
      let q = goal_unique S d e h.least k.least in
      let r = counts_unique (AtMost S d) n m h.counted (subst (λ k. Counts (AtMost S k) m) (sym q) k.counted) in
      ap₂ {C = Answer} reachable q r
  answer_unique N (reachable d n) (unreachable m) o p h k =
      absurd (k.no_goal h.least.goal h.least.holds (distance_reached S h.least.goal d h.least.distance))
  answer_unique N (reachable d n) (unknown m) o p h k = absurd (k.not_reachable d n h.least h.counted h.fits)
  answer_unique N (unreachable n) (reachable e m) o p h k =
      absurd (h.no_goal k.least.goal k.least.holds (distance_reached S k.least.goal e k.least.distance))
  answer_unique N (unreachable n) (unreachable m) o p h k = ap {B = Answer} unreachable (counts_unique (Reached S) n m h.counted k.counted)
  answer_unique N (unreachable n) (unknown m) o p h k = absurd (k.not_unreachable n h.no_goal h.counted h.fits)
  answer_unique N (unknown n) (reachable e m) o p h k = absurd (h.not_reachable e m k.least k.counted k.fits)
  answer_unique N (unknown n) (unreachable m) o p h k = absurd (h.not_unreachable m k.no_goal k.counted k.fits)
  answer_unique N (unknown n) (unknown m) o p h k = ap {B = Answer} unknown (h.gives ∙ sym k.gives)

  schedule_unique : (N : ℕ) (a : Answer) (o p : Outcome S.State) → MeansAt S N a o → MeansAt S N a p → o.schedule ≡ p.schedule
  schedule_unique N (reachable d n) o p h k =
      first_unique (GoalSchedule S d) o.schedule p.schedule (h.first.has.steps ∙ sym k.first.has.steps) h.first k.first
  schedule_unique N (unreachable n) o p h k = h.none_written ∙ sym k.none_written
  schedule_unique N (unknown n) o p h k = h.none_written ∙ sym k.none_written

-- where every state that can be reached has a least schedule
module _ (S : System) (least : (x : S.State) → Reached S x → (u : List ℕ) × Least S x u) where
  before_total : (x y : S.State) → Reached S x → Reached S y → SlotBefore S x y ⊎ ((x ≡ y) ⊎ SlotBefore S y x)
  before_total x y h k =
      let u = least x h in
      let v = least y k in
      which u.0 v.0 u.1 v.1 (sooner_total u.0 v.0)
    where
      which :
          (u v : List ℕ) → Least S x u → Least S y v → Sooner u v ⊎ ((u ≡ v) ⊎ Sooner v u) →
          SlotBefore S x y ⊎ ((x ≡ y) ⊎ SlotBefore S y x)
      which u v a b (inl k) = inl (ways_before S x y u v a b k)
      which u v a b (inr (inl e)) = inr (inl (leads_unique S u x y a.leads (subst (λ w. LeadsTo S w y) (sym e) b.leads)))
      which u v a b (inr (inr k)) = inr (inr (ways_before S y x v u b a k))

  follows_equal : (seen l m : List S.State) → Follows S seen l → Follows S seen m → length l ≡ length m → l ≡ m
  follows_equal seen [] [] f g e = refl
  follows_equal seen [] (y ∷ m) f g e = absurd (omega arith)
  follows_equal seen (x ∷ l) [] f g e = absurd (omega arith)
  follows_equal seen (x ∷ l) (y ∷ m) f g e =
      which (before_total x y (f.reached x (inl refl)) (g.reached y (inl refl)))
      (λ d. follows_equal (seen ++ (x ∷ [])) l m (follows_tail S seen l x f) (follows_tail S seen m x (subst (λ z. Follows S seen (z ∷ m)) (sym d) g)) (omega arith))
    where
      which : SlotBefore S x y ⊎ ((x ≡ y) ⊎ SlotBefore S y x) → (x ≡ y → l ≡ m) → (x ∷ l) ≡ (y ∷ m)
      which (inl b) again = absurd (not_before S seen l m x y f g b)
      which (inr (inl d)) again = ap₂ {C = List S.State} ◌∷◌ d (again d)
      which (inr (inr b)) again = absurd (not_before S seen m l y x g f b)

  slots_unique : (n : ℕ) (l m : List S.State) → HoldsFirst S n l → HoldsFirst S n m → l ≡ m
  slots_unique n l m h k = follows_equal [] l m (first_follows S n l h) (first_follows S n m k) (h.number ∙ sym k.number)

  outcomes_equal : (N : ℕ) (o p : Outcome S.State) → Means S N o → Means S N p → o ≡ p
  outcomes_equal N o p h k =
      let a = answer_unique S N o.answer p.answer o p h k in
      let g : MeansAt S N o.answer p = subst (λ b. MeansAt S N b p) (sym a) k in
      let slots =
      slots_unique (counted o.answer) o.slots p.slots (held_first S N o.answer o h) (held_first S N o.answer p g) in
      let links =
      links_unique S o.slots (held_first S N o.answer o h).ordered o.links p.links (linked_of S N o.answer o h)
      (subst (λ l. Linked S l p.links) (sym slots) (linked_of S N o.answer p g)) in
      λ i. record { answer = a i; slots = slots i; links = links i; schedule = schedule_unique S N o.answer o p h g i }

pub one_outcome : (E : Searchable) (N : ℕ) (o p : Outcome E.system.State) → Means E.system N o → Means E.system N p → o ≡ p
one_outcome E N o p h k = outcomes_equal E.system (λ x r. least_of E r.way x r.leads) N o p h k
