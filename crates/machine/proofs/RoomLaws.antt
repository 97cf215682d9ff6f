-- A buffer's value has room where its pending stores leave some, and a group has a number where the state's has.
use Rattle.std.proofs.Common.{◌≡◌, ℕ, ◌<◌, true, ltb, length, sym, ap, ◌∙◌, subst, arith, ltb-true}
use Rattle.rules.specs.Limits.{most_pending, most_variables, group_unit}
use Rattle.rules.specs.State.{Buffer}
use Rattle.rules.specs.Step.{joined_group}
use Rattle.buffer.specs.declared.Buf.{Buf}
use Rattle.buffer.specs.HeldLaws.{held_number}
use Rattle.buffer.specs.Posts.{Holds, HasRoom, GroupHasRoom}

pub room_under : {b : Buf} {x : Buffer} → Holds b x → ltb (length x.pending) most_pending ≡ true → HasRoom b
room_under {b} {x} h room =
    let number = ap (λ (y : Buffer). length y.pending) (sym h.held) ∙ held_number b h.ok in
    record { ok = h.ok; room = omega (arith, number, ltb-true (length x.pending) most_pending room) }

pub group_under : {b : Buf} {x : Buffer} (v : ℕ) → Holds b x → ltb (length x.pending) most_pending ≡ true → v < most_variables
    → joined_group x < group_unit → GroupHasRoom b v
group_under v h room low few =
    record { room = room_under h room; variable = low; group = subst (λ (y : Buffer). joined_group y < group_unit) (sym h.held) few }
