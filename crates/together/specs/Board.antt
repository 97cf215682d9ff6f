-- Search SC, sign for TSO: the third demand about the answers that the searches give, whatever memory was lent to each, with an index or
-- without: of any numbers of slots.
use Rattle.std.specs.Prelude.{◌≡◌, List, ℕ, ◌≤◌, ◌<◌}
use Rattle.std.proofs.Common.{subst, arith}
use Rattle.reach.specs.Lists.{All}
use Rattle.rules.specs.Limits.{byte_values}
use Rattle.rules.specs.Job.{Job}
use Rattle.rules.specs.File.{accepted, decode}
use Rattle.rules.specs.Fences.{fenced, ChecksTo}
use Rattle.fences.specs.Meaning.{FenceFor, FenceOf, FencePromise, fences_accepted}
use Rattle.rules.proofs.Accepted.{accepted_in}
use Rattle.rules.specs.Sound.{JobIn}
use Rattle.rules.specs.declared.Model.TheVariants.{Sc, Tso}
use Rattle.signed.specs.Under.{under, under_sc}
use Rattle.together.specs.Answered.{fenced_words, passed}

abbrev pub Bytes : List ℕ → Type 0
Bytes l = All (λ k. k < byte_values) l

-- Two accepted files of one job: the first says SC, the second TSO with some capacity, and all else is the same.
pub record OfOneJob (sc tso : List ℕ) (j : Job) (c : ℕ) : Type 0 where
  pub sc_bytes : Bytes sc
  pub tso_bytes : Bytes tso
  pub sc_is : decode sc ≡ accepted j
  pub says_sc : j.model ≡ Sc
  pub tso_is : decode tso ≡ accepted (under Tso c j)

-- "Once the job is accepted, its model makes no difference here": files of the same threads are answered alike.
pub checked_alike :
    (one other : List ℕ) (i j : Job) → decode one ≡ accepted i → decode other ≡ accepted j → i.threads ≡ j.threads →
    (ws : List ℕ) → FencePromise one ws → FencePromise other ws
checked_alike one other i j p q e ws h =
    fences_accepted other ws j q (subst (λ threads. FenceFor threads ws) e (subst (λ r. FenceOf r ws) p h))

module _ (sc tso : List ℕ) (j : Job) (c : ℕ) (files : OfOneJob sc tso j c) (check : FencePromise sc fenced_words) where
  pub passes : ChecksTo j.threads fenced
  passes = passed sc j files.sc_is check

  pub ok : JobIn j
  ok = accepted_in sc files.sc_bytes j files.sc_is

  pub room : 1 ≤ c
  room = let k = (accepted_in tso files.tso_bytes (under Tso c j) files.tso_is).capacity in omega (arith, k)

  pub as_it_stands : under Sc 0 j ≡ j
  as_it_stands = under_sc j ok files.says_sc
