-- `machine::effects::stored` meets its contract: by the three models.
use Rattle.rules.specs.Step.{has_room}
use Rattle.machine.proofs.RoomLaws.{room_under, group_under}
use Rattle.machine.proofs.effects.stored.Goals as goal

pub with_last-more-requires-clause-has_room : goal.with_last-more-requires-clause-has_room
unfolding has_room
with_last-more-requires-clause-has_room c = room_under c.buffer.ensures (rw c.in-Tso.is at c.requires.has_room)

pub with_sorted-sorted-requires : goal.with_sorted-sorted-requires
unfolding has_room
with_sorted-sorted-requires c =
    group_under _ c.buffer-in-Pso.ensures (rw c.in-Pso.is at c.requires.has_room) c.requires.is_variable c.requires.group_fits
