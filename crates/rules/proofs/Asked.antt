-- Request 8: "A blank goal must be refused." How a goal is judged once reading has come to it, and that none without a clause is accepted.
use Rattle.std.specs.Prelude.{◌≡◌, List, ℕ, ◌≤◌, ◌<◌, length}
use Rattle.reach.specs.Lists.{All}
use Rattle.rules.specs.Limits.{byte_values}
use Rattle.rules.specs.Job.{Job}
use Rattle.rules.specs.File.{accepted, decode}
use Rattle.rules.proofs.Accepted.{accepted_in}

module _ (bytes : List ℕ) where
  -- a goal of no clause can't be asked: every accepted job has at least one clause
  pub some_clause : All (λ k. k < byte_values) bytes → (j : Job) → decode bytes ≡ accepted j → 1 ≤ length j.clauses
  some_clause small j e = (accepted_in bytes small j e).clauses_least
