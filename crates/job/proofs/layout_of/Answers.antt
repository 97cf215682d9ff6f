-- `job::layout_of` meets its contract: the head's bytes, and where its threads and its goal begin.
use Prim.Native.Nat.{ℕ, ◌<◌}
use Rattle.reach.specs.ListLaws.{all_by_get_or}
use Rattle.rules.specs.Limits.{byte_values}
use Rattle.rules.proofs.Accepted.{accepted_in}
use Rattle.job.proofs.FieldsGot.{accepted_threads, accepted_laid}
use Rattle.job.proofs.layout_of.Goals as goal

pub starts-starts-requires : goal.starts-starts-requires
starts-starts-requires c = accepted_threads _ _ c.requires.decoded

pub returns : goal.returns
returns c =
    let bytes = c.args.job.now in
    let accepted = c.requires.decoded in
    let small = all_by_get_or (λ (k : ℕ). k < byte_values) bytes 0 (λ i. (c.type_inv.job i).fits) in
    record {
      decoded = accepted;
      in_range = accepted_in bytes small _ accepted;
      laid = accepted_laid bytes _ accepted _ c.requires.model _ c.starts-starts.ensures;
    }
