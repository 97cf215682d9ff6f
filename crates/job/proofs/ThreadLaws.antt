-- Where threads stand that were read, and their instructions.
use mathlib.Core.Path.{◌≡◌, refl, sym, ap, ◌∙◌}
use mathlib.Core.List.{List, [], ◌∷◌}
use Prim.Native.Nat.{ℕ, zero, suc, ◌+◌, ◌*◌, ◌≤◌, ◌<◌}
use native.Mathlib.Omega.{arith}
use borrow.Author.Count.{below_more}
use lib.ListN.{length, get_or, get_elem?, set, replicate, length-set}
use lib.Seq.{get_or-set_same, get_or-set_other}
use Rattle.reach.specs.System.{and_then}
use Rattle.reach.specs.ListLaws.{get_or_padded, below_at, at_get_or}
use Rattle.rules.specs.Limits.{most_threads, longest_thread, item_size}
use Rattle.rules.specs.File.{got, byte, instruction, thread}
use Rattle.rules.specs.declared.Instr.{Instr}
use Rattle.job.specs.declared.Starts.{Starts}
use Rattle.readers.specs.Passed.{At, count_in, version_in, vars_in, passed, instruction_in_bytes}
use Rattle.job.specs.Stages.{width_in, values_end, threads_read, threads_of}
use Rattle.job.specs.Laid.{ThreadsGood, StartsLaid}
use Rattle.readers.proofs.Widths.{one_fits}
use Rattle.readers.proofs.Readers.{listed_got, items_laid, times_none, times_last, times_length, times_item}
use Rattle.readers.proofs.Fields.{range_then}

module _ {A : Type 0} where
  -- in a list of lists, where a list that is not there is empty
  pub at_of_at : (m : List (List A)) (t p : ℕ) → and_then (get_elem? m t) (λ l. get_elem? l p) ≡ get_elem? (get_or m t []) p
  at_of_at [] t p = refl
  at_of_at (l ∷ m) zero p = refl
  at_of_at (l ∷ m) (suc t) p = at_of_at m t p

  pub there_in : (m : List (List A)) (t p : ℕ) → p < length (get_or m t []) → t < length m
  there_in [] t p h = absurd (omega arith)
  there_in (l ∷ m) zero p h = omega arith
  there_in (l ∷ m) (suc t) p h = let k = there_in m t p h in omega arith

-- a thread's n stands at `at`, and behind it its instructions, which are all there
pub record ThreadLaid (bytes : List ℕ) (at : ℕ) (code : List Instr) : Type 0 where
  pub number : get_or bytes at 0 ≡ length code
  pub inside : at + 1 + item_size (width_in bytes) * length code ≤ length bytes
  pub instructions :
      (p : ℕ) → p < length code → instruction_in_bytes bytes (version_in bytes) (vars_in bytes) (length code) (at + 1 + item_size (width_in bytes) * p) ≡ get_elem? code p

module _ (bytes : List ℕ) where
  thread_got : (at : ℕ) (code : List Instr) (next : ℕ) → thread bytes (version_in bytes) (vars_in bytes) at ≡ got code next →
      (next ≡ at + 1 + item_size (width_in bytes) * length code) × ThreadLaid bytes at code
  unfolding thread instruction byte
  thread_got at code next e =
      let f = range_then bytes 4 0 longest_thread _ at code next e in
      let h = items_laid bytes (item_size (width_in bytes)) 4 _ (get_or bytes at 0) (at + 1) code next f.rest in
      let behind : next ≡ at + 1 + item_size (width_in bytes) * length code = rw h.number h.behind in (
        behind,
        record {
          number = sym h.number;
          inside = rw (← behind) (h.inside (omega (arith, f.there)));
          instructions = λ p k. rw h.number (h.values p (omega (arith, h.number)));
        },
      )

  module _ (good : ThreadsGood bytes) where
    pub threads_got : threads_read bytes (count_in bytes) ≡ got (threads_of bytes) good.end
    unfolding threads_of
    threads_got = listed_got (threads_read bytes (count_in bytes)) good.end good.read

    pub threads_number : length (threads_of bytes) ≡ count_in bytes
    unfolding threads_read
    threads_number = times_length _ _ _ _ _ threads_got

    -- thread t, where reading those before it has come to
    module _ (t at : ℕ) (h : t < count_in bytes) (e : passed (threads_read bytes t) ≡ At at) where
      there : (next : ℕ) × (thread bytes (version_in bytes) (vars_in bytes) at ≡ got (get_or (threads_of bytes) t []) next)
      unfolding threads_read
      there =
          let code = below_at (threads_of bytes) t (omega (arith, threads_number)) in
          let i = times_item _ _ _ _ _ threads_got t code.0 code.1 in
          let d : At i.0 ≡ At at = sym i.2 ∙ e in
          let p : i.0 ≡ at = cc in
          (i.1, rw (at_get_or (threads_of bytes) t code.0 [] code.1) (rw p at i.3))

      pub thread_laid : ThreadLaid bytes at (get_or (threads_of bytes) t [])
      thread_laid = (thread_got at _ _ there.1).1

      -- the next begins behind its instructions
      pub next_start : passed (threads_read bytes (t + 1)) ≡ At (at + 1 + item_size (width_in bytes) * get_or bytes at 0)
      unfolding threads_read
      next_start =
          let n : t + 1 ≡ suc t = omega arith in
          rw (n, times_last, e, there.1, (thread_got at _ _ there.1).0, thread_laid.number)

-- where a walk from thread to thread has come to, with t threads behind it
pub record Walked (bytes threads : List ℕ) (at t : ℕ) : Type 0 where
  pub come : passed (threads_read bytes t) ≡ At at
  pub room : length threads ≡ most_threads
  pub behind : (i : ℕ) → i < t → passed (threads_read bytes i) ≡ At (get_or threads i 0)
  pub absent : (i : ℕ) → t ≤ i → get_or threads i 0 ≡ 0

module _ {bytes : List ℕ} (good : ThreadsGood bytes) where
  pub walked_none : Walked bytes (replicate most_threads 0) (values_end bytes) 0
  unfolding threads_read
  walked_none = record { come = ap passed (times_none _ _); room = refl; behind = λ i h. absurd (omega arith); absent = λ i h. get_or_padded [] most_threads i 0 (omega arith) }

  module _ {threads : List ℕ} {at t : ℕ} (w : Walked bytes threads at t) where
    pub walked_inside : t < count_in bytes → at < length bytes
    walked_inside h = omega (arith, (thread_laid bytes good t at h w.come).inside)

    pub walked_next : t < count_in bytes → Walked bytes (set threads t at) (at + 1 + item_size (width_in bytes) * get_or bytes at 0) (t + 1)
    walked_next h =
        record {
          come = next_start bytes good t at h w.come;
          room = simp length-set w.room;
          behind =
              below_more (λ i. passed (threads_read bytes i) ≡ At (get_or (set threads t at) i 0)) t
              (λ i k. rw (get_or-set_other threads t i at 0 (omega arith)) (w.behind i k))
              (rw (get_or-set_same threads t at 0 (omega (arith, w.room, good.head.most))) w.come);
          absent = λ i k. get_or-set_other threads t i at 0 (omega arith) ∙ w.absent i (omega arith);
        }

    pub walked_all : t ≡ count_in bytes → StartsLaid bytes (record { threads = threads; goal = at })
    walked_all e = record { head = good.head; room = w.room; threads = rw (← e) w.behind; absent = rw (← e) w.absent; goal = rw (← e) w.come }

module _ {bytes : List ℕ} {s : Starts} (h : StartsLaid bytes s) where
  pub starts_good : ThreadsGood bytes
  starts_good = record { head = h.head; end = s.goal; read = h.goal }

  pub start_laid : (t : ℕ) → t < count_in bytes → ThreadLaid bytes (get_or s.threads t 0) (get_or (threads_of bytes) t [])
  start_laid t k = thread_laid bytes starts_good t _ k (h.threads t k)

  -- a place of thread t at which an instruction stands
  module _ (t p : ℕ) (k : p < length (get_or (threads_of bytes) t [])) where
    pub place_there : t < count_in bytes
    place_there = let m = there_in (threads_of bytes) t p k in omega (arith, threads_number bytes starts_good)

    pub place_inside : get_or s.threads t 0 + 1 + item_size (width_in bytes) * p + item_size (width_in bytes) ≤ length bytes
    place_inside = omega (arith, (start_laid t place_there).inside, one_fits (item_size (width_in bytes)) p _ k)

    pub place_holds :
        instruction_in_bytes bytes (version_in bytes) (vars_in bytes) (length (get_or (threads_of bytes) t [])) (get_or s.threads t 0 + 1 + item_size (width_in bytes) * p)
        ≡ get_elem? (get_or (threads_of bytes) t []) p
    place_holds = (start_laid t place_there).instructions p k
