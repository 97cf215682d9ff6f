-- From the decoder's answer to the job: for whoever calls it.
use Rattle.std.specs.Prelude.{◌≡◌, refl, List, ℕ, ◌<◌, get_or, Result, Ok, Err}
use Rattle.std.proofs.Common.{sym, ap, ◌∙◌, arith, ext_get_or}
use Rattle.std.proofs.Math.Decide.{dec_lt}
use Rattle.rules.specs.File.{accepted, refused, decode, held_job, job_of}
use Rattle.rules.specs.File as file
use Rattle.rules.specs.declared.Model.{Model}
use Rattle.job.specs.declared.Layout.{Layout}
use Rattle.job.specs.declared.parts.Job.{Job}
use Rattle.job.specs.declared.Starts.{Starts}
use Rattle.readers.specs.Passed.{At, count_in}
use Rattle.job.specs.Passed.{Accepted, Refused, came_out, answer_of}
use Rattle.readers.specs.declared.faults.Fault.{Fault}
use Rattle.readers.specs.Refusals.{number_of, number_once}
use Rattle.job.specs.Laid.{StartsLaid, AcceptedUnder, IsAccepted}

-- bytes that the decoder accepts hold a job, and its model is the one given
pub is_accepted : (bytes : List ℕ) (m : Model) → answer_of (decode bytes) ≡ Accepted m → AcceptedUnder bytes m
unfolding job_of held_job
is_accepted bytes m e = let h = go (decode bytes) e in record { decoded = h.0; model = h.1 }
  where
    go : (d : file.Decoded) → answer_of d ≡ Accepted m → (d ≡ accepted (held_job d)) × (m ≡ (held_job d).model)
    go (accepted j) e = let is : j.model ≡ m = cc in (refl, sym is)
    go (refused number offset) e = absurd (let z : ◌≡◌ {A = ℕ} 0 1 = cc in omega arith)

-- what a job carries is all that its laws ask
pub accepted_job : (j : Job) → IsAccepted j.bytes.now j.layout
accepted_job j = record { decoded = j.decoded; in_range = j.in_range; laid = j.laid }

-- it refuses by the file's own number and offset
pub is_refused : (bytes : List ℕ) (number offset : ℕ) → answer_of (decode bytes) ≡ Refused number offset → decode bytes ≡ refused number offset
is_refused bytes number offset e = go (decode bytes) e
  where
    go : (d : file.Decoded) → answer_of d ≡ Refused number offset → d ≡ refused number offset
    go (accepted j) e = absurd (let z : ◌≡◌ {A = ℕ} 0 1 = cc in omega arith)
    go (refused k o) e = let n : k ≡ number = cc in let p : o ≡ offset = cc in λ i. refused (n i) (p i)

-- threads and goal begin in one way alone
starts_once : (bytes : List ℕ) (s r : Starts) → StartsLaid bytes s → StartsLaid bytes r → s ≡ r
starts_once bytes s r h k = λ i. record { threads = threads i; goal = goal i }
  where
    goal : s.goal ≡ r.goal
    goal = let d : At s.goal ≡ At r.goal = sym h.goal ∙ k.goal in cc

    each : (t : ℕ) → Dec (t < count_in bytes) → get_or s.threads t 0 ≡ get_or r.threads t 0
    each t (yes l) = let d : At (get_or s.threads t 0) ≡ At (get_or r.threads t 0) = sym (h.threads t l) ∙ k.threads t l in cc
    each t (no l) = h.absent t (omega arith) ∙ sym (k.absent t (omega arith))

    threads : s.threads ≡ r.threads
    threads = ext_get_or 0 s.threads r.threads (h.room ∙ sym k.room) (λ t l. each t (dec_lt t (count_in bytes)))

-- any two layouts that the promise allows are equal
pub layout_once : (bytes : List ℕ) (l m : Layout) → IsAccepted bytes l → IsAccepted bytes m → l ≡ m
layout_once bytes l m a b =
    let h = a.laid in
    let k = b.laid in
    λ i.
    record {
      version = (h.version ∙ sym k.version) i;
      model = (h.model ∙ sym k.model) i;
      capacity = (h.capacity ∙ sym k.capacity) i;
      threads = (h.threads ∙ sym k.threads) i;
      vars = (h.vars ∙ sym k.vars) i;
      starts = starts_once bytes l.starts m.starts h.starts k.starts i;
    }

came_out_once : (r s : Result Model Fault) → came_out r ≡ came_out s → r ≡ s
came_out_once (Ok m) (Ok n) e = let h : m ≡ n = cc in ap {B = Result Model Fault} Ok h
came_out_once (Err f) (Err g) e =
    let n : number_of f.refusal ≡ number_of g.refusal = cc in
    let o : f.offset ≡ g.offset = cc in
    λ i. Err (record { refusal = number_once f.refusal g.refusal n i; offset = o i })
came_out_once (Ok m) (Err g) e = absurd (let z : ◌≡◌ {A = ℕ} 0 1 = cc in omega arith)
came_out_once (Err f) (Ok n) e = absurd (let z : ◌≡◌ {A = ℕ} 0 1 = cc in omega arith)

-- any two answers that the promise allows are equal
pub decode_once : (bytes : List ℕ) (r s : Result Model Fault) → came_out r ≡ answer_of (decode bytes) → came_out s ≡ answer_of (decode bytes) → r ≡ s
decode_once bytes r s h k = came_out_once r s (h ∙ sym k)
