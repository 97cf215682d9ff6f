-- Under PSO two histories that leave the same groups are the same bytes: which groups are left is said without their numbers and without the order of
-- issue. (Under TSO the order of issue is the state, and there is one group.)
use Rattle.std.specs.Prelude.{◌≡◌, refl, Bool, true, false, cond, List, [], ◌∷◌, ℕ, zero, suc, ◌+◌, ◌≤◌, eqb, length}
use Rattle.std.proofs.Common.{sym, ap, ap₂, subst, ◌∙◌, zero-add, arith, eq-eqb, ne_eqb}
use Rattle.std.proofs.Math.Decide.{ℕ_discrete}
use Rattle.reach.specs.Lists.{All, Pairwise}
use Rattle.reach.specs.ListLaws.{all_imp}
use Rattle.rules.specs.State.{Pending, State, buffer, pending}
use Rattle.rules.specs.Sound.{StandsBefore, NoGap, InOrder}
use Rattle.rules.specs.declared.Model.TheVariants.{Pso}

-- The groups of a buffer, the oldest first, whatever their numbers: group 0 is that of the first store, the others are found in what is left without it.

unfoldable pub of_group : ℕ → List Pending → List Pending
of_group g [] = []
of_group g (p ∷ b) = cond (eqb p.group g) (p ∷ of_group g b) (of_group g b)

unfoldable pub of_others : ℕ → List Pending → List Pending
of_others g [] = []
of_others g (p ∷ b) = cond (eqb p.group g) (of_others g b) (p ∷ of_others g b)

unfoldable pub first_number : List Pending → ℕ
first_number [] = 0
first_number (p ∷ b) = p.group

unfoldable pub nth_group : ℕ → List Pending → List Pending
nth_group zero b = of_group (first_number b) b
nth_group (suc i) b = nth_group i (of_others (first_number b) b)

-- what waits for a variable, oldest first
unfoldable pub queue : ℕ → List Pending → List ℕ
queue v [] = []
queue v (p ∷ b) = cond (eqb p.variable v) (p.value ∷ queue v b) (queue v b)

-- the same groups, each with the same queues
abbrev pub SameGroups : List Pending → List Pending → Type 0
SameGroups b c = (i v : ℕ) → queue v (nth_group i b) ≡ queue v (nth_group i c)

-- Groups that are counted from n on without a gap are found by their numbers.

abbrev From : ℕ → List Pending → Type 0
From n = All (λ p. n ≤ p.group)

none_of : (g : ℕ) (b : List Pending) → From (suc g) b → (of_group g b ≡ []) × (of_others g b ≡ b)
unfolding of_group of_others
none_of g [] h = (refl, refl)
none_of g (p ∷ b) h =
    let rest = none_of g b h.1 in
    let other = ne_eqb p.group g (λ e. omega (arith, h.0, e)) in
    (rw other rest.0, rw other (ap {B = List Pending} (λ l. p ∷ l) rest.1))

others_all : (P : Pending → Type 0) (g : ℕ) (b : List Pending) → All P b → All P (of_others g b)
unfolding of_others
others_all P g [] h = tt
others_all P g (p ∷ b) h = which (eqb p.group g) (others_all P g b h.1)
  where
    which : (c : Bool) → All P (of_others g b) → All P (cond c (of_others g b) (p ∷ of_others g b))
    which true k = k
    which false k = (h.0, k)

others_ordered : (g : ℕ) (b : List Pending) → Pairwise StandsBefore b → Pairwise StandsBefore (of_others g b)
unfolding of_others
others_ordered g [] h = tt
others_ordered g (p ∷ b) h = which (eqb p.group g) (others_ordered g b h.1)
  where
    which : (c : Bool) → Pairwise StandsBefore (of_others g b) → Pairwise StandsBefore (cond c (of_others g b) (p ∷ of_others g b))
    which true k = k
    which false k = (others_all (StandsBefore p) g b h.0, k)

-- without group n the others are counted from the next on
others_counted : (n m : ℕ) (b : List Pending) → Pairwise StandsBefore b → From n b → m ≤ suc n → NoGap m b
    → From (suc n) (of_others n b) × NoGap (suc n) (of_others n b)
unfolding of_others
others_counted n m [] o f low h = (tt, tt)
others_counted n m (p ∷ b) o f low h = which (ℕ_discrete p.group n) (others_counted n (suc p.group) b o.1 f.1)
  where
    which : Dec (p.group ≡ n) → (suc p.group ≤ suc n → NoGap (suc p.group) b → From (suc n) (of_others n b) × NoGap (suc n) (of_others n b))
        → From (suc n) (cond (eqb p.group n) (of_others n b) (p ∷ of_others n b)) × NoGap (suc n) (cond (eqb p.group n) (of_others n b) (p ∷ of_others n b))
    which (yes e) rest = rw (eq-eqb p.group n e) (rest (omega (arith, e)) h.1)
    which (no d) rest =
        let up : suc n ≤ p.group = omega (arith, f.0, d) in
        let later : From (suc n) b = all_imp (StandsBefore p) _ (λ q k. omega (arith, up, k.0)) b o.0 in
        rw (ne_eqb p.group n d, (none_of n b later).1) ((up, later), (omega (arith, h.0, low), h.1))

-- another group is not touched by taking one away
of_others_of : (g n : ℕ) (b : List Pending) → ¬ (g ≡ n) → of_group g (of_others n b) ≡ of_group g b
unfolding of_group of_others
of_others_of g n [] d = refl
of_others_of g n (p ∷ b) d = which (ℕ_discrete p.group n) (of_others_of g n b d)
  where
    which : Dec (p.group ≡ n) → of_group g (of_others n b) ≡ of_group g b
        → of_group g (cond (eqb p.group n) (of_others n b) (p ∷ of_others n b)) ≡ cond (eqb p.group g) (p ∷ of_group g b) (of_group g b)
    which (yes e) rest = rw (eq-eqb p.group n e, ne_eqb p.group g (λ k. d (sym k ∙ e))) rest
    which (no k) rest = rw (ne_eqb p.group n k, rest)

first_is : (n : ℕ) (p : Pending) (b : List Pending) → From n (p ∷ b) → NoGap n (p ∷ b) → first_number (p ∷ b) ≡ n
unfolding first_number
first_is n p b f h = omega (arith, f.0, h.0)

by_number : (i n : ℕ) (b : List Pending) → Pairwise StandsBefore b → From n b → NoGap n b → nth_group i b ≡ of_group (n + i) b
unfolding nth_group of_group of_others first_number
by_number zero n [] o f h = refl
by_number zero n (p ∷ b) o f h =
    let is : p.group ≡ n + 0 = omega (arith, first_is n p b f h) in
    ap (λ g. of_group g (p ∷ b)) is
by_number (suc i) n [] o f h = by_number i n [] tt tt tt
by_number (suc i) n (p ∷ b) o f h =
    let is : p.group ≡ n = first_is n p b f h in
    let rest = others_counted n n (p ∷ b) o f (omega arith) h in
    let up : suc n + i ≡ n + suc i = omega arith in
    ap (λ g. nth_group i (of_others g (p ∷ b))) is
    ∙ by_number i (suc n) (of_others n (p ∷ b)) (others_ordered n (p ∷ b) o) rest.0 rest.1
    ∙ ap (λ g. of_group g (of_others n (p ∷ b))) up
    ∙ of_others_of (n + suc i) n (p ∷ b) (λ e. omega (arith, e))

-- In order, the queues of every group and variable are the whole list.

abbrev SameQueues : List Pending → List Pending → Type 0
SameQueues b c = (g v : ℕ) → queue v (of_group g b) ≡ queue v (of_group g c)

-- of a queue that is not empty a store is pending, and what stands before all stands before it
behind_first : (q : Pending) (g v k : ℕ) (rest : List ℕ) (b : List Pending) → All (StandsBefore q) b → queue v (of_group g b) ≡ k ∷ rest
    → (q.group ≤ g) × (q.group ≡ g → q.variable ≤ v)
unfolding of_group queue
behind_first q g v k rest [] h e = absurd (omega (arith, ap length e))
behind_first q g v k rest (p ∷ b) h e = which (ℕ_discrete p.group g) (ℕ_discrete p.variable v) (behind_first q g v k rest b h.1) e
  where
    Goal : Type 0
    Goal = (q.group ≤ g) × (q.group ≡ g → q.variable ≤ v)

    which : Dec (p.group ≡ g) → Dec (p.variable ≡ v) → (queue v (of_group g b) ≡ k ∷ rest → Goal)
        → queue v (cond (eqb p.group g) (p ∷ of_group g b) (of_group g b)) ≡ k ∷ rest → Goal
    which (yes a) (yes d) behind e =
        (omega (arith, h.0.0, a), λ same. let l = h.0.1 (same ∙ sym a) in omega (arith, l, d))
    which (yes a) (no d) behind e = behind (rw (eq-eqb p.group g a, ne_eqb p.variable v d) at e)
    which (no a) d behind e = behind (rw (ne_eqb p.group g a) at e)

-- the first store's own queue, and any other
own_queue : (p : Pending) (b : List Pending) → queue p.variable (of_group p.group (p ∷ b)) ≡ p.value ∷ queue p.variable (of_group p.group b)
unfolding of_group queue
own_queue p b = rw (eq-eqb p.group p.group refl, eq-eqb p.variable p.variable refl)

other_queue : (p : Pending) (b : List Pending) (g v : ℕ) → ¬ ((p.group ≡ g) × (p.variable ≡ v)) → queue v (of_group g (p ∷ b)) ≡ queue v (of_group g b)
unfolding of_group queue
other_queue p b g v d = which (ℕ_discrete p.group g) (ℕ_discrete p.variable v)
  where
    which : Dec (p.group ≡ g) → Dec (p.variable ≡ v) → queue v (cond (eqb p.group g) (p ∷ of_group g b) (of_group g b)) ≡ queue v (of_group g b)
    which (yes a) (yes e) = absurd (d (a, e))
    which (yes a) (no e) = rw (eq-eqb p.group g a, ne_eqb p.variable v e)
    which (no a) e = rw (ne_eqb p.group g a)

itself_first : (p : Pending) (b : List Pending) → All (StandsBefore p) b → All (StandsBefore p) (p ∷ b)
itself_first p b h = ((omega arith, λ e. omega arith), h)

-- two lists with the same queues begin with the same store, and go on with the same queues
module _ (p q : Pending) (b c : List Pending) (h : All (StandsBefore p) b) (k : All (StandsBefore q) c) (same : SameQueues (p ∷ b) (q ∷ c)) where
  first_after : (q.group ≤ p.group) × (q.group ≡ p.group → q.variable ≤ p.variable)
  first_after =
      behind_first q p.group p.variable _ _ (q ∷ c) (itself_first q c k) (sym (same p.group p.variable) ∙ own_queue p b)

  first_before : (p.group ≤ q.group) × (p.group ≡ q.group → p.variable ≤ q.variable)
  first_before =
      behind_first p q.group q.variable _ _ (p ∷ b) (itself_first p b h) (same q.group q.variable ∙ own_queue q c)

  group_same : p.group ≡ q.group
  group_same = omega (arith, first_after.0, first_before.0)

  variable_same : p.variable ≡ q.variable
  variable_same =
      let low = first_before.1 group_same in
      let high = first_after.1 (sym group_same) in
      omega (arith, low, high)

  own_same : p.value ∷ queue p.variable (of_group p.group b) ≡ q.value ∷ queue p.variable (of_group p.group c)
  own_same =
      sym (own_queue p b)
      ∙ same p.group p.variable
      ∙ subst (λ g. queue p.variable (of_group g (q ∷ c)) ≡ q.value ∷ queue p.variable (of_group g c)) (sym group_same)
      (subst (λ v. queue v (of_group q.group (q ∷ c)) ≡ q.value ∷ queue v (of_group q.group c)) (sym variable_same) (own_queue q c))

  store_same : p ≡ q
  store_same =
      let value : p.value ≡ q.value = (let e = own_same in cc) in
      λ i. record { group = group_same i; variable = variable_same i; value = value i }

  rest_same : SameQueues b c
  rest_same g v = which (ℕ_discrete p.group g) (ℕ_discrete p.variable v)
    where
      else : ¬ ((p.group ≡ g) × (p.variable ≡ v)) → queue v (of_group g b) ≡ queue v (of_group g c)
      else d =
          sym (other_queue p b g v d)
          ∙ same g v
          ∙ other_queue q c g v (λ e. d (group_same ∙ e.0, variable_same ∙ e.1))

      which : Dec (p.group ≡ g) → Dec (p.variable ≡ v) → queue v (of_group g b) ≡ queue v (of_group g c)
      which (yes a) (yes e) =
          let tails : queue p.variable (of_group p.group b) ≡ queue p.variable (of_group p.group c) = (let d = own_same in cc) in
          subst (λ u. queue u (of_group g b) ≡ queue u (of_group g c)) e
          (subst (λ n. queue p.variable (of_group n b) ≡ queue p.variable (of_group n c)) a tails)
      which (yes a) (no e) = else (λ d. e d.1)
      which (no a) e = else (λ d. a d.0)

nothing_waits : (g v k : ℕ) (rest : List ℕ) → queue v (of_group g []) ≡ k ∷ rest → ⊥
unfolding of_group queue
nothing_waits g v k rest e = absurd (omega (arith, ap length e))

by_queues : (b c : List Pending) → Pairwise StandsBefore b → Pairwise StandsBefore c → SameQueues b c → b ≡ c
by_queues [] [] h k same = refl
by_queues [] (q ∷ c) h k same = absurd (nothing_waits q.group q.variable _ _ (same q.group q.variable ∙ own_queue q c))
by_queues (p ∷ b) [] h k same = absurd (nothing_waits p.group p.variable _ _ (sym (same p.group p.variable) ∙ own_queue p b))
by_queues (p ∷ b) (q ∷ c) h k same =
    ap₂ {C = List Pending} ◌∷◌ (store_same p q b c h.0 k.0 same) (by_queues b c h.1 k.1 (rest_same p q b c h.0 k.0 same))

from_zero : (b : List Pending) → From 0 b
from_zero [] = tt
from_zero (p ∷ b) = (omega arith, from_zero b)

-- buffers in order that have the same groups have the same stores
pub same_stores : (b c : List Pending) → InOrder Pso b → InOrder Pso c → SameGroups b c → b ≡ c
same_stores b c h k same =
    by_queues b c h.0 k.0
    (λ g v.
    ap (queue v) (sym (counted b h g))
    ∙ same g v
    ∙ ap (queue v) (counted c k g))
  where
    counted : (l : List Pending) → InOrder Pso l → (g : ℕ) → nth_group g l ≡ of_group g l
    counted l o g = by_number g 0 l o.0 (from_zero l) o.1 ∙ ap (λ n. of_group n l) (zero-add g)

-- the same situation: places, registers and memory, and of each thread the groups that are left and whether a WFENCE stands after the newest store
pub record SameSituation (x y : State) : Type 0 where
  pub places : x.places ≡ y.places
  pub registers : x.registers ≡ y.registers
  pub memory : x.memory ≡ y.memory
  pub groups : (t : ℕ) → SameGroups (pending t x) (pending t y)
  pub marks : (t : ℕ) → (buffer t x).marked ≡ (buffer t y).marked
