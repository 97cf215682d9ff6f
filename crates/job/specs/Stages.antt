-- How far reading comes behind the head, in the stages in which the decoder reads: the initial values; the threads; the goal.
use Rattle.std.specs.Prelude.{cond, List, ℕ, ◌+◌, ◌*◌, eqb, length, get_or}
use Rattle.rules.specs.Limits.{head_size, width_of, value_size}
use Rattle.rules.specs.File.{Read, times, field, flag_of, clause_count_of, thread, clause, initial_value}
use Rattle.rules.specs.declared.Width.{Width}
use Rattle.rules.specs.declared.Instr.{Instr}
use Rattle.readers.specs.Passed.{Next, At, Fault, count_in, version_in, vars_in, passed, listed, then, chain}

module _ (bytes : List ℕ) where
  -- how wide the job's values are
  abbrev pub width_in : Width
  width_in = width_of (version_in bytes)

  -- the initial values, each a field
  unfoldable pub values_stage : Next
  values_stage = passed (times (vars_in bytes) (initial_value bytes width_in) head_size)

  -- where they end
  abbrev pub values_end : ℕ
  values_end = head_size + value_size width_in * vars_in bytes

  -- the first t threads, behind the initial values
  unfoldable pub threads_read : ℕ → Read (List (List Instr))
  threads_read t = times t (thread bytes (version_in bytes) (vars_in bytes)) values_end

  -- all of them; none, where they are refused
  unfoldable pub threads_of : List (List Instr)
  threads_of = listed (threads_read (count_in bytes))

  -- what is read must end where the bytes do
  abbrev pub ending : Next → Next
  ending (At at) = cond (eqb at (length bytes)) (At at) (Fault 6 at)
  ending (Fault number offset) = Fault number offset

  -- K and as many clauses over the threads, and no byte more
  unfoldable pub clauses_stage : ℕ → Next
  clauses_stage at =
      chain (passed (field bytes 5 clause_count_of at))
      (λ next. ending (passed (times (get_or bytes at 0) (clause bytes width_in (vars_in bytes) threads_of) next)))

  -- the flag, and then K and the clauses
  unfoldable pub goal_stage : ℕ → Next
  goal_stage at = chain (passed (field bytes 5 flag_of at)) clauses_stage

  -- what stands behind the head
  unfoldable pub rest_stage : Next
  rest_stage = then values_stage (chain (passed (threads_read (count_in bytes))) goal_stage)
