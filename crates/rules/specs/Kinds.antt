-- What an instruction is to control, to its thread's buffer and to the fence check: one row for each case of Instr, said once.
use Rattle.rules.specs.declared.Instr.{Instr}
use Rattle.rules.specs.declared.Instr.TheVariants.{Set, Add, Load, Store, Fence, Xchg, Jeq, Jmp, Cmpx, Wfence}
use Rattle.rules.specs.declared.Control.{Control}
use Rattle.rules.specs.declared.Control.TheVariants.{On, To, ToIf}
use Rattle.rules.specs.declared.Wait.{Wait}
use Rattle.rules.specs.declared.Wait.TheVariants.{Never, ForRoom, UntilEmpty}
use Rattle.rules.specs.declared.Role.{Role}
use Rattle.rules.specs.declared.Role.TheVariants.{Stores, Loads, Fences, Other}

-- where it goes on: "then the next place, unless it jumps"; JEQ "to place p if r = k"; JMP "to place p"
unfoldable pub control_of : Instr → Control
control_of (Set r k) = On
control_of (Add w r k) = On
control_of (Load r v) = On
control_of (Store a v) = On
control_of Fence = On
control_of (Xchg r v) = On
control_of (Jeq r p k) = ToIf r k p
control_of (Jmp p) = To p
control_of (Cmpx r v k) = On
control_of Wfence = On

-- what it waits for: a store "waits while C stores are pending"; FENCE "waits until the own buffer is empty"; XCHG "waits likewise";
-- request 7: CMPX "waits for an empty own buffer", WFENCE "is always enabled"
unfoldable pub wait_of : Instr → Wait
wait_of (Set r k) = Never
wait_of (Add w r k) = Never
wait_of (Load r v) = Never
wait_of (Store a v) = ForRoom
wait_of Fence = UntilEmpty
wait_of (Xchg r v) = UntilEmpty
wait_of (Jeq r p k) = Never
wait_of (Jmp p) = Never
wait_of (Cmpx r v k) = UntilEmpty
wait_of Wfence = Never

-- what it is to the fence check: "no FENCE or XCHG strictly between"; "XCHG is neither store nor load here."
-- Request 7: "CMPX counts as XCHG (a fence, neither store nor load); WFENCE isn't a fence, nor a store or load."
unfoldable pub role_of : Instr → Role
role_of (Set r k) = Other
role_of (Add w r k) = Other
role_of (Load r v) = Loads
role_of (Store a v) = Stores
role_of Fence = Fences
role_of (Xchg r v) = Fences
role_of (Jeq r p k) = Other
role_of (Jmp p) = Other
role_of (Cmpx r v k) = Fences
role_of Wfence = Other
