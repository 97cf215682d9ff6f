-- That a job is in range has one proof at most: so a value can carry it.
use Rattle.std.specs.Prelude.{List, [], ◌∷◌, ℕ, length}
use Rattle.std.specs.Coded.{×_prop, Unit-prop, le_prop}
use Rattle.std.proofs.Props.{props}
use Rattle.reach.specs.Lists.{All}
use Rattle.rules.specs.Job.{Job, width}
use Rattle.rules.specs.Sound.{SourceIn, InstrIn, ClauseIn, CapacityIn, JobIn}
use Rattle.rules.specs.declared.Width.{Width}
use Rattle.rules.specs.declared.Model.{Model}
use Rattle.rules.specs.declared.Model.TheVariants.{Sc, Tso, Pso}
use Rattle.rules.specs.declared.Source.{Source}
use Rattle.rules.specs.declared.Source.TheVariants.{Register, Constant}
use Rattle.rules.specs.declared.Instr.{Instr}
use Rattle.rules.specs.declared.Instr.TheVariants.{Set, Add, Load, Store, Fence, Xchg, Jeq, Jmp, Cmpx, Wfence}
use Rattle.rules.specs.declared.Clause.{Clause}
use Rattle.rules.specs.declared.Clause.TheVariants.{PlaceIs, RegisterIs, MemoryIs}

pub all_once : {A : Type 0} (P : A → Type 0) → ((a : A) → IsProp (P a)) → (l : List A) → IsProp (All P l)
all_once P h [] = Unit-prop
all_once P h (x ∷ l) = ×_prop (h x) (all_once P h l)

source_once : (w : Width) (a : Source) → IsProp (SourceIn w a)
source_once w (Register r) = le_prop
source_once w (Constant k) = le_prop

instr_once : (w : Width) (vars n : ℕ) (i : Instr) → IsProp (InstrIn w vars n i)
instr_once w vars n (Set r k) = Prim.hlevel props
instr_once w vars n (Add u r k) = Prim.hlevel props
instr_once w vars n (Load r v) = Prim.hlevel props
instr_once w vars n (Store a v) = ×_prop (source_once w a) le_prop
instr_once w vars n Fence = Unit-prop
instr_once w vars n (Xchg r v) = Prim.hlevel props
instr_once w vars n (Jeq r p k) = Prim.hlevel props
instr_once w vars n (Jmp p) = Prim.hlevel props
instr_once w vars n (Cmpx r v k) = Prim.hlevel props
instr_once w vars n Wfence = Unit-prop

clause_once : (w : Width) (vars : ℕ) (threads : List (List Instr)) (c : Clause) → IsProp (ClauseIn w vars threads c)
clause_once w vars threads (PlaceIs t p) = Prim.hlevel props
clause_once w vars threads (RegisterIs t r k) = Prim.hlevel props
clause_once w vars threads (MemoryIs v k) = Prim.hlevel props

capacity_once : (m : Model) (c : ℕ) → IsProp (CapacityIn m c)
capacity_once Sc c = Prim.hlevel props
capacity_once Tso c = Prim.hlevel props
capacity_once Pso c = Prim.hlevel props

pub job_once : (j : Job) → IsProp (JobIn j)
job_once j a b =
    λ i.
    record {
      capacity = capacity_once j.model j.capacity a.capacity b.capacity i;
      threads_least = le_prop a.threads_least b.threads_least i;
      threads_most = le_prop a.threads_most b.threads_most i;
      variables_least = le_prop a.variables_least b.variables_least i;
      variables_most = le_prop a.variables_most b.variables_most i;
      initial = all_once _ (λ k. le_prop) j.initial a.initial b.initial i;
      lengths = all_once _ (λ code. le_prop) j.threads a.lengths b.lengths i;
      instructions = all_once _ (λ code. all_once _ (instr_once (width j) (length j.initial) (length code)) code) j.threads a.instructions b.instructions i;
      clauses_least = le_prop a.clauses_least b.clauses_least i;
      clauses_most = le_prop a.clauses_most b.clauses_most i;
      clauses = all_once _ (clause_once (width j) (length j.initial) j.threads) j.clauses a.clauses b.clauses i;
    }
