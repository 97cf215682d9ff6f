-- `verdict::judge` meets its contract: the promises of the search, of the fence check and of the decision. The job's elements are bytes, by its type.
use Prim.Native.Nat.{ℕ, ◌<◌}
use Rattle.reach.specs.ListLaws.{all_by_get_or}
use Rattle.rules.specs.Limits.{byte_values}
use Rattle.together.specs.Board.{Bytes}
use Rattle.verdict.specs.Released.{with_release}
use Rattle.verdict.proofs.judge.Goals as goal
use Rattle.verdict.proofs.judge.Goals.{After-shared_slice_known-1}

small : (c : After-shared_slice_known-1) → Bytes c.args.job.now
small c = all_by_get_or (λ (k : ℕ). k < byte_values) c.args.job.now 0 (λ i. (c.type_inv.job i).fits)

pub returns : goal.returns
returns c =
    let bytes = small (goal.at.returns c).After-shared_slice_known-1 in
    let promises =
    with_release _ bytes
    _ _ _ (record { searched = c.search-found.ensures; checked = c.fences-checked.ensures; releases = c.may_release-release.ensures }) in
    record { verdict_promise = promises.0; released = promises.1 }
