-- "Reachable" brings a schedule that replays to the goal: the first d bytes of the lent schedule, handed to replay as they stand.
use Rattle.std.specs.Prelude.{◌≡◌, List, ℕ, length, take, drop}
use Rattle.std.proofs.Common.{◌∙◌, ap, subst, take_at}
use Rattle.reach.specs.Replay.{reaches}
use Rattle.rules.specs.Job.{Job}
use Rattle.rules.specs.File.{accepted, decode}
use Rattle.lent.specs.Meaning.{Lent}
use Rattle.search.specs.Meaning.{SearchedIn}
use Rattle.replay.specs.Meaning.{ReplayPromise, replayed_words, found_reaches}
use Rattle.together.specs.Answered.{reachable_words, found}

pub found_replays :
    (bytes : List ℕ) (j : Job) → decode bytes ≡ accepted j → (N : ℕ) (m m' : Lent) (d n : ℕ) → SearchedIn N bytes m (reachable_words d n) m' →
    (ws : List ℕ) → ReplayPromise bytes (take d m'.schedule) ws → ws ≡ replayed_words reaches
found_replays bytes j is N m m' d n h ws r =
    let f = found bytes j is N m m' d n h in
    let steps = f.outcome.schedule in
    let written : take d m'.schedule ≡ steps =
    ap (λ z. take d z.schedule) f.buffers ∙ take_at steps (drop (length steps) m.schedule) d f.means.first.has.steps in
    found_reaches bytes j is f.slots d n f.outcome f.means ws (subst (λ z. ReplayPromise bytes z ws) written r)
