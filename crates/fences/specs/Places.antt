-- The places to which walks lead from one place, as a set that grows: what it has is met, and at rest it has all.
use Rattle.std.specs.Prelude.{◌≡◌, refl, ◌⊎◌, ◌↔◌, Bool, true, false, IsTrue, Option, None, Some, List, [], ◌∷◌, ℕ, ◌+◌, ◌≤◌, ◌<◌, eqb, length, get_or}
use Rattle.std.proofs.Common.{sym, ◌∙◌, subst, inl, inr, eq-or-lt_of_le, arith, eqb-true, eq-eqb, below_more}
use Rattle.std.proofs.lemmas.Bool.{false≢true}
use Rattle.std.proofs.Math.Option.{none}
use Rattle.std.proofs.Math.ListN.{get_elem?}
use Rattle.reach.specs.Lists.{◌∈◌}
use Rattle.reach.specs.ListLaws.{all_get_or, at_below, at_get_or, below_at}
use Rattle.bits.specs.Bits.{width, bit_of, Has, Put}
use Rattle.bits.specs.BitLaws.{bit_of_zero}
use Rattle.rules.specs.Limits.{longest_thread}
use Rattle.rules.specs.File.{job_of}
use Rattle.fences.specs.declared.Thread.{Thread}
use Rattle.rules.specs.Sound.{JobIn}
use Rattle.rules.specs.Fences.{onward_at, successors, role_at, Move, Passes, Walk, Leads, Live, OpenIn, Open, fenced, open_at, ChecksTo}
use Rattle.rules.specs.FenceCheck.{leads_on, move_inside, load_inside, store_inside, least_open}
use Rattle.rules.specs.declared.Instr.{Instr}
use Rattle.rules.specs.declared.Role.{Role}
use Rattle.rules.specs.declared.Role.TheVariants.{Stores, Loads}
use Rattle.rules.specs.declared.Passing.{Passing}
use Rattle.rules.specs.declared.Passing.TheVariants.{Anything, NoFence}

-- the instructions of a thread, none for a thread that the job doesn't have
abbrev pub thread_of : List ℕ → ℕ → List Instr
thread_of bytes t = get_or (job_of bytes).threads t []

abbrev pub code : Thread → List Instr
code w = thread_of w.job.now.bytes.now w.number

-- a word has a bit for each place that has an instruction
pub short : (bytes : List ℕ) (t : ℕ) → JobIn (job_of bytes) → length (thread_of bytes t) ≤ width
short bytes t ok =
    let most = all_get_or (λ code. length code ≤ longest_thread) (job_of bytes).threads t [] ok.lengths (omega arith) in
    omega arith

-- The answer to a question: true exactly when it holds.

pub tells_yes : {P : Type 0} → P → (IsTrue true ↔ P)
tells_yes p = (λ e. p, λ q. refl)

pub tells_no : {P : Type 0} → ¬ P → (IsTrue false ↔ P)
tells_no n = (λ e. absurd (false≢true e), λ p. absurd (n p))

pub tells_has : (b : Bool) (m p : ℕ) → b ≡ eqb (bit_of m p) 1 → (IsTrue b ↔ Has m p)
tells_has b m p e = (λ d. eqb-true _ _ (sym e ∙ d), λ h. e ∙ eq-eqb _ _ h)

-- the same question in other words
pub tells_same : {b : Bool} {P Q : Type 0} → (P → Q) → (Q → P) → (IsTrue b ↔ P) → (IsTrue b ↔ Q)
tells_same f g t = (λ e. f (t.0 e), λ q. t.1 (g q))

-- a set with some numbers more; of these a word has those below its width
pub record Joined (qs : List ℕ) (m r : ℕ) : Type 0 where
  pub there : (q : ℕ) → q ∈ qs → q < width → Has r q
  pub only : (q : ℕ) → Has r q → (q ∈ qs) ⊎ Has m q
  pub no_less : m ≤ r

pub joined_one : (m x r : ℕ) → Put m x r → Joined (x ∷ []) m r
joined_one m x r p = record { there = there; only = λ q h. among q (p.only q h); no_less = p.no_less }
  where
    there : (q : ℕ) → q ∈ (x ∷ []) → q < width → Has r q
    there q (inl e) l = rw e (p.there (subst (λ z. z < width) e l))
    there q (inr h) l = absurd h

    among : (q : ℕ) → (q ≡ x) ⊎ Has m q → (q ∈ (x ∷ [])) ⊎ Has m q
    among q (inl e) = inl (inl e)
    among q (inr k) = inr k

pub joined_two : (m x k y r : ℕ) → Put m x k → Put k y r → Joined (x ∷ y ∷ []) m r
joined_two m x k y r p o = record { there = there; only = λ q h. last q (o.only q h); no_less = omega (arith, p.no_less, o.no_less) }
  where
    there : (q : ℕ) → q ∈ (x ∷ y ∷ []) → q < width → Has r q
    there q (inl e) l = o.kept q (rw e (p.there (subst (λ z. z < width) e l)))
    there q (inr (inl e)) l = rw e (o.there (subst (λ z. z < width) e l))
    there q (inr (inr h)) l = absurd h

    first : (q : ℕ) → (q ≡ x) ⊎ Has m q → (q ∈ (x ∷ y ∷ [])) ⊎ Has m q
    first q (inl e) = inl (inl e)
    first q (inr g) = inr g

    last : (q : ℕ) → (q ≡ y) ⊎ Has k q → (q ∈ (x ∷ y ∷ [])) ⊎ Has m q
    last q (inl e) = inl (inr (inl e))
    last q (inr g) = first q (p.only q g)

-- Walks from one place, which pass what they may.

-- a walk goes on from a place with the role `own`: the first itself, or one that was met and may be passed
abbrev pub Onwards : Passing → (met s p : ℕ) → Role → Type 0
Onwards by met s p own = (p ≡ s) ⊎ (Has met p × Passes by own)

module _ (by : Passing) (code : List Instr) (s : ℕ) where
  -- each place of the set was met by a walk
  abbrev pub Sound : ℕ → Type 0
  Sound m = (q : ℕ) → Has m q → Leads by code s q

  -- if a walk goes on from p, the set has all successors of p that it can have
  abbrev pub ClosedAt : ℕ → ℕ → Type 0
  ClosedAt m p = Onwards by m s p (role_at code p) → (q : ℕ) → q < width → Move code p q → Has m q

  -- what a look at the places with P makes of a set: if it adds nothing, the set is closed at each of them
  pub record Grown (P : ℕ → Type 0) (m r : ℕ) : Type 0 where
    pub sound : Sound m → Sound r
    pub no_less : m ≤ r
    pub closed : r ≡ m → (p : ℕ) → P p → ClosedAt m p

  -- the set of the places to which walks lead, complete for the places that hold an instruction: place n holds none, and may have no bit
  pub record Met (m : ℕ) : Type 0 where
    pub sound : Sound m
    pub complete : (q : ℕ) → q < length code → Leads by code s q → Has m q

module _ (by : Passing) (code : List Instr) (s : ℕ) where
  goes_further : (m p q : ℕ) → Sound by code s m → Onwards by m s p (role_at code p) → Move code p q → Leads by code s q
  goes_further m p q sound (inl e) move = ([], subst (λ z. Move code z q) e move)
  goes_further m p q sound (inr (h, n)) move = leads_on by code s p q (sound p h) n move

  -- a look at one place
  pub grown_on : (m r p : ℕ) → Onwards by m s p (role_at code p) → Joined (successors code p) m r → Grown by code s (λ q. q ≡ p) m r
  grown_on m r p on joined =
      record {
        sound = sound;
        no_less = joined.no_less;
        closed =
            λ e q is on' x fits move. subst (λ z. Has z x) e (joined.there x (subst (λ z. Move code z x) is move) fits);
      }
    where
      sound : Sound by code s m → Sound by code s r
      sound k q h = which (joined.only q h)
        where
          which : (q ∈ successors code p) ⊎ Has m q → Leads by code s q
          which (inl move) = goes_further m p q k on move
          which (inr g) = k q g

  pub grown_not : (m p : ℕ) → ¬ (Onwards by m s p (role_at code p)) → Grown by code s (λ q. q ≡ p) m m
  grown_not m p n =
      record {
        sound = λ k. k;
        no_less = omega arith;
        closed = λ e q is on. absurd (n (subst (λ z. Onwards by m s z (role_at code z)) is on));
      }

  pub grown_end : (m p : ℕ) → get_elem? code p ≡ none → Grown by code s (λ q. q ≡ p) m m
  unfolding successors onward_at
  grown_end m p e =
      record {
        sound = λ k. k;
        no_less = omega arith;
        closed = λ d q is on x fits move. absurd (subst (λ o. x ∈ onward_at p o) e (subst (λ z. Move code z x) is move));
      }

  -- looks at the places one after the other
  pub grown_none : (m : ℕ) → Grown by code s (λ q. q < 0) m m
  grown_none m = record { sound = λ k. k; no_less = omega arith; closed = λ e p l. absurd (omega arith) }

  pub grown_more : (m k r i : ℕ) → Grown by code s (λ q. q < i) m k → Grown by code s (λ q. q ≡ i) k r → Grown by code s (λ q. q < i + 1) m r
  grown_more m k r i g h = record { sound = λ x. h.sound (g.sound x); no_less = omega (arith, g.no_less, h.no_less); closed = closed }
    where
      closed : r ≡ m → (p : ℕ) → p < i + 1 → ClosedAt by code s m p
      closed e p l = which (eq-or-lt_of_le (omega arith))
        where
          still : k ≡ m
          still = omega (arith, g.no_less, h.no_less)

          which : (p ≡ i) ⊎ (p < i) → ClosedAt by code s m p
          which (inl d) = subst (λ z. ClosedAt by code s z p) still (h.closed (omega arith) p d)
          which (inr d) = g.closed still p d

  pub grown_all : (m r i n : ℕ) → i ≡ n → Grown by code s (λ q. q < i) m r → Grown by code s (λ q. q < n) m r
  grown_all m r i n e = subst (λ z. Grown by code s (λ q. q < z) m r) e

  -- a look that added nothing has met all
  pub all_met : length code ≤ width → (m r : ℕ) → Sound by code s m → Grown by code s (λ q. q < length code) m r → r ≤ m → Met by code s r
  all_met fit m r sound g l =
      record {
        sound = g.sound sound;
        complete = λ q held w. subst (λ z. Has z q) (sym still) (reached w.0 s q (inl refl) (omega (arith, fit, held)) w.1);
      }
    where
      still : r ≡ m
      still = omega (arith, g.no_less)

      has_move : (p q : ℕ) → Onwards by m s p (role_at code p) → q < width → Move code p q → Has m q
      has_move p q on fits move = g.closed still p (move_inside code p q move) on q fits move

      -- a place from which a move leads has an instruction, and so a bit
      bit : (x : ℕ) (between : List ℕ) (q : ℕ) → Walk by code x between q → x < width
      bit x [] q w = omega (arith, fit, move_inside code x q w)
      bit x (y ∷ between) q w = omega (arith, fit, move_inside code x y w.0)

      reached : (between : List ℕ) (p q : ℕ) → Onwards by m s p (role_at code p) → q < width → Walk by code p between q → Has m q
      reached [] p q on fits w = has_move p q on fits w
      reached (x ∷ between) p q on fits w =
          reached between x q (inr (has_move p x on (bit x between q w.2) w.0, w.1)) fits w.2

  pub sound_none : Sound by code s 0
  sound_none q h = absurd (omega (arith, bit_of_zero q))

-- The least.

-- what holds of all numbers below p and of p
pub all_so_far : (P : ℕ → Type 0) (p : ℕ) → ((i : ℕ) → i < p → P i) → P p → (i : ℕ) → i < p + 1 → P i
all_so_far P p before this = below_more P p before this

-- r is the least number below n of which P holds
pub record Least (P : ℕ → Type 0) (n r : ℕ) : Type 0 where
  pub within : r < n
  pub holds : P r
  pub before : (i : ℕ) → i < r → ¬ (P i)

-- the least number below n of which P holds, if there is one
abbrev pub LeastBelow : (P : ℕ → Type 0) → ℕ → Option ℕ → Type 0
LeastBelow P n None = (i : ℕ) → i < n → ¬ (P i)
LeastBelow P n (Some r) = Least P n r

pub none_below : (P : ℕ → Type 0) (n r : ℕ) → r ≡ n → ((i : ℕ) → i < r → ¬ (P i)) → LeastBelow P n None
none_below P n r e before = λ i l. before i (omega arith)

-- a load that was met
abbrev pub MetLoad : List Instr → ℕ → ℕ → Type 0
MetLoad code m p = (role_at code p ≡ Loads) × Has m p

-- the places to which any walks lead from place 0
abbrev pub FromPlaceZero : List Instr → ℕ → Type 0
FromPlaceZero code live = Met Anything code 0 live

-- a place that can be reached: place 0, or one that was met from there
abbrev pub LiveBy : (live p : ℕ) → Type 0
LiveBy live p = (p ≡ 0) ⊎ Has live p

pub tells_live : (live p : ℕ) → ¬ (p ≡ 0) → {b : Bool} → (IsTrue b ↔ Has live p) → (IsTrue b ↔ LiveBy live p)
tells_live live p later = tells_same inr back
  where
    back : LiveBy live p → Has live p
    back (inl e) = absurd (later e)
    back (inr h) = h

-- a store that counts
abbrev pub LiveStore : List Instr → (live p : ℕ) → Type 0
LiveStore code live p = (role_at code p ≡ Stores) × LiveBy live p

module _ (code : List Instr) (live : ℕ) (from_zero : FromPlaceZero code live) (s : ℕ) where
  is_live : LiveBy live s → Live code s
  is_live (inl e) = inl e
  is_live (inr h) = inr (from_zero.sound s h)

  live_is_met : s < length code → Live code s → LiveBy live s
  live_is_met inside (inl e) = inl e
  live_is_met inside (inr w) = inr (from_zero.complete s (omega (arith, inside)) w)

  -- where a store that counts stands, the loads that were met are the open ones
  pub open_of : LiveStore code live s → (m : ℕ) → Met NoFence code s m → (r : Option ℕ) →
      LeastBelow (MetLoad code m) (length code) r → LeastBelow (OpenIn code s) (length code) r
  open_of (store, counts) m met None none_met = λ i l o. none_met i l (o.pair.load, met.complete i l (o.pair.between, o.pair.walk))
  open_of (store, counts) m met (Some r) least =
      let w = met.sound r least.holds.1 in
      record {
        within = least.within;
        holds =
            record {
              pair = record { store = store; load = least.holds.0; between = w.0; walk = w.1 };
              live = is_live counts;
            };
        before =
            λ i l o.
            least.before i l (o.pair.load, met.complete i (omega (arith, load_inside o.pair)) (o.pair.between, o.pair.walk));
      }

  -- where none stands there are none
  pub open_none : ¬ (LiveStore code live s) → (l : ℕ) → ¬ (OpenIn code s l)
  open_none n l o = n (o.pair.store, live_is_met (store_inside o.pair) o.live)

-- The least pair of a thread.

abbrev pub NoneAt : List Instr → ℕ → Type 0
NoneAt code s = (l : ℕ) → ¬ (OpenIn code s l)

abbrev pub NoneIn : List Instr → Type 0
NoneIn code = (s : ℕ) → NoneAt code s

pub record LeastPair (code : List Instr) (s l : ℕ) : Type 0 where
  pub is_open : OpenIn code s l
  pub stores_before : (n : ℕ) → n < s → NoneAt code n
  pub loads_before : (n : ℕ) → n < l → ¬ (OpenIn code s n)

abbrev pub PairMeans : List Instr → Option (ℕ × ℕ) → Type 0
PairMeans code None = NoneIn code
PairMeans code (Some (s, l)) = LeastPair code s l

module _ (code : List Instr) where
  pub pair_found :
      (s l : ℕ) → ((n : ℕ) → n < s → NoneAt code n) → LeastBelow (OpenIn code s) (length code) (Some l) → PairMeans code (Some (s, l))
  pair_found s l stores least = record { is_open = least.holds; stores_before = stores; loads_before = least.before }

  -- a store place that has no least load has none
  pub none_at : (s : ℕ) → LeastBelow (OpenIn code s) (length code) None → NoneAt code s
  none_at s nothing l o = nothing l (load_inside o.pair) o

  pub pair_none : ((s : ℕ) → s < length code → NoneAt code s) → PairMeans code None
  pair_none stores s l o = stores s (store_inside o.pair) l o

-- The least pair of all threads.

module _ (threads : List (List Instr)) where
  -- an open pair is one of its thread's
  in_thread : (t s l : ℕ) → Open threads t s l → OpenIn (get_or threads t []) s l
  in_thread t s l o = rw (at_get_or threads t o.code [] o.thread_is) o.is_open

  pub least_of_all :
      (t s l : ℕ) → t < length threads → ((n : ℕ) → n < t → NoneIn (get_or threads n [])) → LeastPair (get_or threads t []) s l →
      ChecksTo threads (open_at t s l)
  least_of_all t s l below before p =
      let r = below_at threads t below in (
        record { code = r.0; thread_is = r.1; is_open = rw (at_get_or threads t r.0 [] r.1) at p.is_open },
        least_open threads t s l (λ n k s' l' o. before n k s' l' (in_thread n s' l' o)) (λ n k l' o. p.stores_before n k l' (in_thread t n l' o))
            (λ n k o. p.loads_before n k (in_thread t s n o)),
      )

  pub none_at_all : ((n : ℕ) → n < length threads → NoneIn (get_or threads n [])) → ChecksTo threads fenced
  none_at_all none_open t s l o = none_open t (at_below threads t o.code o.thread_is) s l (in_thread t s l o)
