-- The whole search, from what its parts promise.
use Rattle.std.specs.Prelude.{◌≡◌, refl, List, ℕ, zero, suc, ◌+◌, ◌/◌, ◌≤◌, ◌<◌, min, length, get_or}
use Rattle.std.proofs.Common.{sym, ◌∙◌, ap, subst, mul-le-mul_left, arith}
use Rattle.reach.specs.Words.{refusal_words, answer_words}
use Rattle.reach.specs.Meaning.{Answer, reachable, unreachable, unknown}
use Rattle.lent.specs.Meaning.{Lent, slots_lent, IsAnswered, AnsweredWith}
use Rattle.lent.specs.Parts.{Expanded}
use Rattle.lent.specs.Kept.{Lends}
use Rattle.chains.specs.Chains.{Cleared}
use Rattle.chains.specs.ChainLaws.{indexed_none}
use Rattle.shelf.specs.Front.{memory, Ready, Fits, PutDone}
use Rattle.shelf.specs.declared.Front.{Front}
use Rattle.rules.specs.Limits.{slot_size, most_slots}
use Rattle.rules.specs.State as rules
use Rattle.rules.specs.Job.{Job}
use Rattle.rules.specs.File.{accepted, refused, decode, job_of}
use Rattle.rules.specs.Slot.{slot_bytes}
use Rattle.rules.specs.Machine.{machine}
use Rattle.state.specs.Parts.{Holds}
use Rattle.state.specs.declared.State.{State}
use Rattle.slot.specs.Bytes.{state_bytes}
use Rattle.slot.specs.BytesLaws.{sized, state_bytes_number}
use Rattle.slot.proofs.StateHeld.{state_bytes_held}
use Rattle.search.specs.Meaning.{slots_of, slots_indexed, SearchIn}
use Rattle.search.specs.Coded.{coding}

-- what the expansion of one state promises
pub record ExpandDone (j : Job) (N q : ℕ) (t l : List ℕ) (f : Front) (t' l' index' : List ℕ) (width : ℕ) (f' : Front) : Type 0 where
  pub few : f'.count ≤ N
  pub ready : Ready slot_size N t' index' width f'.count
  pub expanded : Expanded (coding j) N q (memory t l f) (memory t' l' f')

-- a value laid out: the bytes of the state that it holds, as many as a slot has
pub record LaidOut (x : rules.State) (bytes : List ℕ) : Type 0 where
  pub is : bytes ≡ slot_bytes x
  pub size : length bytes ≡ slot_size

pub laid_out : (s : State) (x : rules.State) → Holds s x → (bytes : List ℕ) → bytes ≡ state_bytes s → LaidOut x bytes
laid_out s x h bytes e =
    record { is = e ∙ state_bytes_held s h.ok ∙ ap slot_bytes h.is; size = ap length e ∙ state_bytes_number s (sized s h.ok) }

-- what is put as bytes is put as that state's slot
module _ (N : ℕ) (t l : List ℕ) (width : ℕ) (f : Front) (x : rules.State) (bytes : List ℕ) (b : LaidOut x bytes) where
  pub fits_laid : (index : List ℕ) → Fits slot_size N t l index width f → Fits (length bytes) N t l index width f
  fits_laid index h = subst (λ n. Fits n N t l index width f) (sym b.size) h

  pub put_laid :
      (k : ℕ) (t' l' index' : List ℕ) (f' : Front) → PutDone (length bytes) N t l f bytes k t' l' index' width f' →
      PutDone slot_size N t l f (slot_bytes x) k t' l' index' width f'
  put_laid k t' l' index' f' h =
      subst (λ z. PutDone slot_size N t l f z k t' l' index' width f') b.is (subst (λ n. PutDone n N t l f bytes k t' l' index' width f') b.size h)

-- no index: its width is 0
pub fits_alone : (N : ℕ) (t l index : List ℕ) (width : ℕ) (f : Front) → Fits slot_size N t l index width f → width ≡ 0 → Fits slot_size N t l index 0 f
fits_alone N t l index width f h none = subst (λ w. Fits slot_size N t l index w f) none h

pub put_alone :
    (N : ℕ) (t l : List ℕ) (f : Front) (bytes : List ℕ) (k : ℕ) (t' l' index' : List ℕ) (width : ℕ) (f' : Front) →
    PutDone slot_size N t l f bytes k t' l' index' 0 f' → width ≡ 0 → PutDone slot_size N t l f bytes k t' l' index' width f'
put_alone N t l f bytes k t' l' index' width f' h none = subst (λ w. PutDone slot_size N t l f bytes k t' l' index' w f') (sym none) h

-- as many slots as are lent fit in what is lent
pub record Counted (N : ℕ) (m : Lent) : Type 0 where
  pub is : N ≡ slots_of m
  pub lends : Lends slot_size N m.table m.links
  pub steps : N ≤ length m.schedule
  pub most : N ≤ most_slots

pub counted : (N : ℕ) (m : Lent) → N ≡ min (length m.table / slot_size) (min (length m.links) (min (length m.schedule) most_slots)) → Counted N m
unfolding slots_lent
counted N m e =
    record {
      is = e;
      lends = record { table = omega arith; links = omega arith };
      steps = omega arith;
      most = omega arith;
    }

-- a search in N slots, and whatever index there is, fit in what is lent
pub record HasRoom (N : ℕ) (m : Lent) (index : List ℕ) (width : ℕ) : Type 0 where
  pub lends : Lends slot_size N m.table m.links
  pub steps : N ≤ length m.schedule
  pub most : N ≤ most_slots
  pub narrow : width ≤ most_slots
  pub chains : width ≤ length index
  pub room : 0 < width → width + N ≤ length index

-- no index, and one as wide as there are slots
pub room_alone : (N : ℕ) (m : Lent) (index : List ℕ) → Counted N m → HasRoom N m index 0
room_alone N m index c =
    record {
      lends = c.lends;
      steps = c.steps;
      most = c.most;
      narrow = omega arith;
      chains = omega arith;
      room = λ some. absurd (omega (arith, some));
    }

pub room_indexed : (N n : ℕ) (m : Lent) (index : List ℕ) → Counted n m → N ≡ min n (length index / 2) → HasRoom N m index N
room_indexed N n m index c e =
    let fewer : N ≤ n = omega (arith, e) in
    record {
      lends = record { table = omega (arith, mul-le-mul_left slot_size fewer, c.lends.table); links = omega (arith, fewer, c.lends.links) };
      steps = omega (arith, fewer, c.steps);
      most = omega (arith, fewer, c.most);
      narrow = omega (arith, fewer, c.most);
      chains = omega (arith, e);
      room = λ some. omega (arith, e);
    }

-- an index that was made empty is ready
pub ready_start :
    (N : ℕ) (m : Lent) (index index' : List ℕ) (width : ℕ) → HasRoom N m index width → length index' ≡ length index → Cleared index' width →
    Ready slot_size N m.table index' width 0
ready_start N m index index' width h same cleared =
    record {
      narrow = omega (arith, h.narrow);
      few = λ some. omega (arith, h.most);
      room = λ some. omega (arith, h.room some, same);
      indexed = λ some. indexed_none slot_size m.table index' width cleared;
    }

-- no slot: refusal 7; else what the turns answer
module _ (j : Job) (N : ℕ) (m : Lent) where
  pub refused_empty : N ≡ 0 → AnsweredWith (machine j) slot_size slot_bytes N m (refusal_words 7 0) m
  refused_empty e = subst (λ n. AnsweredWith (machine j) slot_size slot_bytes n m (refusal_words 7 0) m) (sym e) (record { answer = refl; untouched = refl })

  pub answered_some : (ws : List ℕ) (m' : Lent) → ¬ (N ≡ 0) → IsAnswered (machine j) slot_size slot_bytes N m ws m' → AnsweredWith (machine j) slot_size slot_bytes N m ws m'
  answered_some ws m' n h = with_some N n h
    where
      with_some : (k : ℕ) → ¬ (k ≡ 0) → IsAnswered (machine j) slot_size slot_bytes k m ws m' → AnsweredWith (machine j) slot_size slot_bytes k m ws m'
      with_some zero n h = absurd (n refl)
      with_some (suc k) n h = h

module _ (bytes : List ℕ) (m : Lent) (N : ℕ) where
  -- an accepted job, and a refused one
  search_accepted :
      (ws : List ℕ) (m' : Lent) → decode bytes ≡ accepted (job_of bytes) →
      AnsweredWith (machine (job_of bytes)) slot_size slot_bytes N m ws m' → SearchIn N (decode bytes) m ws m'
  search_accepted ws m' e h = subst (λ d. SearchIn N d m ws m') (sym e) h

  -- the same, where N is as many slots as are lent, or at most half as many as there are numbers in the index
  pub search_lent :
      (ws : List ℕ) (m' : Lent) → Counted N m → decode bytes ≡ accepted (job_of bytes) →
      AnsweredWith (machine (job_of bytes)) slot_size slot_bytes N m ws m' → SearchIn (slots_of m) (decode bytes) m ws m'
  search_lent ws m' c e h = subst (λ n. SearchIn n (decode bytes) m ws m') c.is (search_accepted ws m' e h)

  pub search_in_half :
      (n : ℕ) (index : List ℕ) (ws : List ℕ) (m' : Lent) → Counted n m → N ≡ min n (length index / 2) → decode bytes ≡ accepted (job_of bytes) →
      AnsweredWith (machine (job_of bytes)) slot_size slot_bytes N m ws m' → SearchIn (slots_indexed m index) (decode bytes) m ws m'
  search_in_half n index ws m' c is e h =
      subst (λ k. SearchIn k (decode bytes) m ws m') (is ∙ ap (λ k. min k (length index / 2)) c.is) (search_accepted ws m' e h)

  pub search_refused : (number offset : ℕ) → decode bytes ≡ refused number offset → SearchIn N (decode bytes) m (refusal_words number offset) m
  search_refused number offset e =
      subst (λ d. SearchIn N d m (refusal_words number offset) m) (sym e) (record { answer = refl; untouched = refl })

-- an answer is no refusal
pub no_refusal :
    (j : Job) (N : ℕ) (m : Lent) (ws : List ℕ) (m' : Lent) → AnsweredWith (machine j) slot_size slot_bytes N m ws m' →
    (number offset : ℕ) → ws ≡ refusal_words number offset → N ≡ 0
no_refusal j zero m ws m' h number offset e = refl
no_refusal j (suc n) m ws m' h number offset e = absurd (another h.outcome.answer (sym h.answer ∙ e))
  where
    another : (a : Answer) → answer_words a ≡ refusal_words number offset → ⊥
    another (reachable d states) q = absurd (omega (arith, ap (λ l. get_or l 0 0) q))
    another (unreachable states) q = absurd (omega (arith, ap (λ l. get_or l 0 0) q))
    another (unknown slots) q = absurd (omega (arith, ap (λ l. get_or l 0 0) q))
