-- Rows of request 7, each under what it pins: CMPX, WFENCE and groups, message passing, the fence check, versions. Slots, reasons and most counts were
-- worked by hand; the counts of message passing also by a checker written apart.
use Rattle.std.specs.Prelude.{List, [], ◌∷◌, set}
use Rattle.reach.specs.Replay.{stuck}
use Rattle.rules.specs.Fences.{fenced, open_at}
use Rattle.rules.specs.Jobs.{p1, p6}
use Rattle.rules.specs.GroupJobs.{alone_slot}
use Rattle.rules.specs.GroupJobs.{cmpx_twice, cmpx_zero, cmpx_of_others, cmpx_waits, cmpx_race, wfence_first, wfence_twice, wfence_between, wfence_outlives, wfence_sorted, three_groups, eight_groups, message_passing, wfence_no_fence, cmpx_fence, cmpx_no_store, cmpx_no_load, wfence_no_load, wfence_no_store}
use Rattle.rules.specs.Claims.{search_reaches, search_never, fences_say, replay_says, slot_after, enabled_after, withheld_after, refuses, Case, case}
use Rattle.rules.specs.declared.Reason.TheVariants.{ThreadEnded, BufferFull, BufferNotEmpty, NothingToFlush, NotTheOldest}

unfoldable pub group_pins : List Case
group_pins =
    -- CMPX that does not match: r takes the old value, memory keeps it
    case 640 cmpx_twice (slot_after (0x00 ∷ []) (alone_slot 0x01 (0x05 ∷ []) (0x05 ∷ []) []))
    -- and that matches: memory takes k, r the old value
    ∷ case 640 cmpx_twice (slot_after (0x00 ∷ 0x00 ∷ []) (alone_slot 0x02 (0x05 ∷ []) (0x09 ∷ []) []))
    -- with the values of the start it matches
    ∷ case 640 cmpx_zero (slot_after (0x00 ∷ []) (alone_slot 0x01 (0x00 ∷ []) (0x07 ∷ []) []))
    -- another register, another variable, the highest k
    ∷ case 640 cmpx_of_others (slot_after (0x00 ∷ 0x00 ∷ []) (alone_slot 0x02 (0x00 ∷ 0x00 ∷ 0x03 ∷ []) (0x00 ∷ 0xFF ∷ []) []))
    -- CMPX waits for an empty buffer, also where it will not match. TSO
    ∷ case 640 cmpx_waits (replay_says (0x00 ∷ 0x00 ∷ []) (stuck 1 BufferNotEmpty))
    -- then it takes the old value
    ∷ case 640 cmpx_waits (slot_after (0x00 ∷ 0x04 ∷ 0x00 ∷ []) (alone_slot 0x02 (0x04 ∷ []) (0x01 ∷ 0x04 ∷ []) []))
    -- PSO
    ∷ case 640 (set cmpx_waits 3 0x02) (replay_says (0x00 ∷ 0x00 ∷ []) (stuck 1 BufferNotEmpty))
    -- with room left
    ∷ case 640 (set (set cmpx_waits 3 0x02) 4 0x08) (withheld_after (0x00 ∷ []) (0x00 ∷ []) BufferNotEmpty)
    -- an execute step of an ended thread behind it
    ∷ case 640 (set cmpx_waits 3 0x02) (withheld_after (0x00 ∷ 0x04 ∷ 0x00 ∷ []) (0x00 ∷ []) ThreadEnded)
    -- one CMPX of two takes: thread 0 has read 0, so x is not 2 at the end
    ∷ case 640 cmpx_race (search_never 5)
    -- TSO
    ∷ case 640 (set (set cmpx_race 3 0x01) 4 0x01) (search_never 5)
    -- PSO
    ∷ case 640 (set (set cmpx_race 3 0x02) 4 0x08) (search_never 5)
    -- WFENCE on an empty buffer leaves nothing
    ∷ case 640 wfence_first (slot_after (0x00 ∷ []) (alone_slot 0x01 [] [] []))
    -- so the store joins group 0
    ∷ case 640 wfence_first (slot_after (0x00 ∷ 0x00 ∷ []) (alone_slot 0x02 [] [] (0x01 ∷ 0x00 ∷ 0x00 ∷ 0x07 ∷ [])))
    -- a store
    ∷ case 640 wfence_twice (slot_after (0x00 ∷ []) (alone_slot 0x01 [] [] (0x01 ∷ 0x00 ∷ 0x00 ∷ 0x01 ∷ [])))
    -- a WFENCE behind it
    ∷ case 640 wfence_twice (slot_after (0x00 ∷ 0x00 ∷ []) (alone_slot 0x02 [] [] (0x81 ∷ 0x00 ∷ 0x00 ∷ 0x01 ∷ [])))
    -- two in a row act as one
    ∷ case 640 wfence_twice (slot_after (0x00 ∷ 0x00 ∷ 0x00 ∷ []) (alone_slot 0x03 [] [] (0x81 ∷ 0x00 ∷ 0x00 ∷ 0x01 ∷ [])))
    -- the mark ends when a store joins, in the next group
    ∷ case 640 wfence_twice (slot_after (0x00 ∷ 0x00 ∷ 0x00 ∷ 0x00 ∷ []) (alone_slot 0x04 [] [] (0x02 ∷ 0x00 ∷ 0x00 ∷ 0x01 ∷ 0x11 ∷ 0x00 ∷ 0x02 ∷ [])))
    -- a flush of a later group
    ∷ case 640 wfence_twice (withheld_after (0x00 ∷ 0x00 ∷ 0x00 ∷ 0x00 ∷ []) (0x05 ∷ []) NotTheOldest)
    -- of a variable that is pending nowhere
    ∷ case 640 wfence_twice (withheld_after (0x00 ∷ 0x00 ∷ 0x00 ∷ 0x00 ∷ []) (0x06 ∷ []) NothingToFlush)
    -- the step of the oldest group may be taken, and no other
    ∷ case 640 wfence_twice (enabled_after (0x00 ∷ 0x00 ∷ 0x00 ∷ 0x00 ∷ []) 16)
    -- under TSO it does nothing
    ∷ case 640 (set wfence_twice 3 0x01) (slot_after (0x00 ∷ 0x00 ∷ 0x00 ∷ 0x00 ∷ []) (alone_slot 0x04 [] [] (0x02 ∷ 0x00 ∷ 0x00 ∷ 0x01 ∷ 0x01 ∷ 0x00 ∷ 0x02 ∷ [])))
    -- and y is not the oldest there
    ∷ case 640 (set wfence_twice 3 0x01) (withheld_after (0x00 ∷ 0x00 ∷ 0x00 ∷ 0x00 ∷ []) (0x05 ∷ []) NotTheOldest)
    -- under SC it does nothing
    ∷ case 640 (set (set wfence_twice 3 0x00) 4 0x00) (slot_after (0x00 ∷ 0x00 ∷ 0x00 ∷ 0x00 ∷ []) (alone_slot 0x04 [] (0x01 ∷ 0x02 ∷ []) []))
    -- three histories that leave one group are one slot: x flushed last
    ∷ case 640 wfence_between (slot_after (0x00 ∷ 0x00 ∷ 0x00 ∷ 0x04 ∷ []) (alone_slot 0x03 [] (0x01 ∷ []) (0x01 ∷ 0x01 ∷ 0x00 ∷ 0x02 ∷ [])))
    -- x flushed behind the WFENCE, whose mark ends when the buffer empties
    ∷ case 640 wfence_between (slot_after (0x00 ∷ 0x00 ∷ 0x04 ∷ 0x00 ∷ []) (alone_slot 0x03 [] (0x01 ∷ []) (0x01 ∷ 0x01 ∷ 0x00 ∷ 0x02 ∷ [])))
    -- x flushed before the WFENCE, on an empty buffer
    ∷ case 640 wfence_between (slot_after (0x00 ∷ 0x04 ∷ 0x00 ∷ 0x00 ∷ []) (alone_slot 0x03 [] (0x01 ∷ []) (0x01 ∷ 0x01 ∷ 0x00 ∷ 0x02 ∷ [])))
    -- the mark ends when the buffer empties
    ∷ case 640 wfence_between (slot_after (0x00 ∷ 0x00 ∷ 0x04 ∷ []) (alone_slot 0x02 [] (0x01 ∷ []) []))
    -- WFENCE is enabled on a full buffer
    ∷ case 640 (set wfence_between 4 0x01) (slot_after (0x00 ∷ 0x00 ∷ []) (alone_slot 0x02 [] [] (0x81 ∷ 0x00 ∷ 0x00 ∷ 0x01 ∷ [])))
    -- which stays full
    ∷ case 640 (set wfence_between 4 0x01) (withheld_after (0x00 ∷ 0x00 ∷ []) (0x00 ∷ []) BufferFull)
    -- a WFENCE behind two stores
    ∷ case 640 wfence_outlives (slot_after (0x00 ∷ 0x00 ∷ 0x00 ∷ []) (alone_slot 0x03 [] [] (0x82 ∷ 0x00 ∷ 0x00 ∷ 0x01 ∷ 0x01 ∷ 0x00 ∷ 0x02 ∷ [])))
    -- the mark outlives the newest store, while an older one of its group is pending
    ∷ case 640 wfence_outlives (slot_after (0x00 ∷ 0x00 ∷ 0x00 ∷ 0x05 ∷ []) (alone_slot 0x03 [] (0x00 ∷ 0x02 ∷ []) (0x81 ∷ 0x00 ∷ 0x00 ∷ 0x01 ∷ [])))
    -- so the next store is of a later group
    ∷ case 640 wfence_outlives (slot_after (0x00 ∷ 0x00 ∷ 0x00 ∷ 0x05 ∷ 0x00 ∷ []) (alone_slot 0x04 [] (0x00 ∷ 0x02 ∷ []) (0x02 ∷ 0x00 ∷ 0x00 ∷ 0x01 ∷ 0x11 ∷ 0x00 ∷ 0x03 ∷ [])))
    -- and may not flush before x
    ∷ case 640 wfence_outlives (withheld_after (0x00 ∷ 0x00 ∷ 0x00 ∷ 0x05 ∷ 0x00 ∷ []) (0x05 ∷ []) NotTheOldest)
    -- when the last store of the oldest group has flushed, the next becomes group 0
    ∷ case 640 wfence_outlives (slot_after (0x00 ∷ 0x00 ∷ 0x00 ∷ 0x05 ∷ 0x00 ∷ 0x04 ∷ []) (alone_slot 0x04 [] (0x01 ∷ 0x02 ∷ []) (0x01 ∷ 0x01 ∷ 0x00 ∷ 0x03 ∷ [])))
    -- entries stand by group, then by variable
    ∷ case 640 wfence_sorted (slot_after (0x00 ∷ 0x00 ∷ 0x00 ∷ 0x00 ∷ []) (alone_slot 0x04 [] [] (0x03 ∷ 0x00 ∷ 0x00 ∷ 0x01 ∷ 0x10 ∷ 0x00 ∷ 0x03 ∷ 0x11 ∷ 0x00 ∷ 0x02 ∷ [])))
    -- the oldest store to x is of the oldest group, none to y is
    ∷ case 640 wfence_sorted (enabled_after (0x00 ∷ 0x00 ∷ 0x00 ∷ 0x00 ∷ []) 16)
    -- C counts the stores of all groups
    ∷ case 640 (set wfence_sorted 4 0x02) (withheld_after (0x00 ∷ 0x00 ∷ 0x00 ∷ []) (0x00 ∷ []) BufferFull)
    -- within a variable and a group the oldest comes first
    ∷ case 640 (set wfence_sorted 20 0x00) (slot_after (0x00 ∷ 0x00 ∷ 0x00 ∷ 0x00 ∷ []) (alone_slot 0x04 [] [] (0x03 ∷ 0x00 ∷ 0x00 ∷ 0x01 ∷ 0x10 ∷ 0x00 ∷ 0x02 ∷ 0x10 ∷ 0x00 ∷ 0x03 ∷ [])))
    -- three groups, x in two of them; a load sees the newest across groups
    ∷ case 640 three_groups (slot_after (0x00 ∷ 0x00 ∷ 0x00 ∷ 0x00 ∷ 0x00 ∷ 0x00 ∷ 0x00 ∷ []) (alone_slot 0x07 (0x03 ∷ []) [] (0x04 ∷ 0x00 ∷ 0x00 ∷ 0x02 ∷ 0x01 ∷ 0x00 ∷ 0x01 ∷ 0x10 ∷ 0x00 ∷ 0x03 ∷ 0x22 ∷ 0x00 ∷ 0x04 ∷ [])))
    -- the oldest x has flushed, the oldest group has y
    ∷ case 640 three_groups (slot_after (0x00 ∷ 0x00 ∷ 0x00 ∷ 0x00 ∷ 0x00 ∷ 0x00 ∷ 0x00 ∷ 0x04 ∷ []) (alone_slot 0x07 (0x03 ∷ []) (0x02 ∷ []) (0x03 ∷ 0x01 ∷ 0x00 ∷ 0x01 ∷ 0x10 ∷ 0x00 ∷ 0x03 ∷ 0x22 ∷ 0x00 ∷ 0x04 ∷ [])))
    -- x is now in a later group only
    ∷ case 640 three_groups (withheld_after (0x00 ∷ 0x00 ∷ 0x00 ∷ 0x00 ∷ 0x00 ∷ 0x00 ∷ 0x00 ∷ 0x04 ∷ []) (0x04 ∷ 0x06 ∷ []) NotTheOldest)
    -- groups are counted anew when the oldest is empty
    ∷ case 640 three_groups (slot_after (0x00 ∷ 0x00 ∷ 0x00 ∷ 0x00 ∷ 0x00 ∷ 0x00 ∷ 0x00 ∷ 0x04 ∷ 0x05 ∷ []) (alone_slot 0x07 (0x03 ∷ []) (0x02 ∷ 0x01 ∷ []) (0x02 ∷ 0x00 ∷ 0x00 ∷ 0x03 ∷ 0x12 ∷ 0x00 ∷ 0x04 ∷ [])))
    -- and again; ended threads still flush
    ∷ case 640 three_groups (slot_after (0x00 ∷ 0x00 ∷ 0x00 ∷ 0x00 ∷ 0x00 ∷ 0x00 ∷ 0x00 ∷ 0x04 ∷ 0x05 ∷ 0x04 ∷ []) (alone_slot 0x07 (0x03 ∷ []) (0x03 ∷ 0x01 ∷ []) (0x01 ∷ 0x02 ∷ 0x00 ∷ 0x04 ∷ [])))
    -- until nothing is left
    ∷ case 640 three_groups (slot_after (0x00 ∷ 0x00 ∷ 0x00 ∷ 0x00 ∷ 0x00 ∷ 0x00 ∷ 0x00 ∷ 0x04 ∷ 0x05 ∷ 0x04 ∷ 0x06 ∷ []) (alone_slot 0x07 (0x03 ∷ []) (0x03 ∷ 0x01 ∷ 0x04 ∷ []) []))
    -- with no store of its own to x pending a load takes memory
    ∷ case 640 three_groups (slot_after (0x00 ∷ 0x00 ∷ 0x00 ∷ 0x00 ∷ 0x00 ∷ 0x00 ∷ 0x04 ∷ 0x05 ∷ 0x04 ∷ 0x00 ∷ []) (alone_slot 0x07 (0x03 ∷ []) (0x03 ∷ 0x01 ∷ []) (0x01 ∷ 0x02 ∷ 0x00 ∷ 0x04 ∷ [])))
    -- eight groups, and a mark
    ∷ case 640 eight_groups (slot_after (0x00 ∷ 0x00 ∷ 0x00 ∷ 0x00 ∷ 0x00 ∷ 0x00 ∷ 0x00 ∷ 0x00 ∷ 0x00 ∷ 0x00 ∷ 0x00 ∷ 0x00 ∷ 0x00 ∷ 0x00 ∷ 0x00 ∷ 0x00 ∷ []) (alone_slot 0x10 [] [] (0x88 ∷ 0x00 ∷ 0x00 ∷ 0x01 ∷ 0x11 ∷ 0x00 ∷ 0x02 ∷ 0x22 ∷ 0x00 ∷ 0x03 ∷ 0x33 ∷ 0x00 ∷ 0x04 ∷ 0x44 ∷ 0x00 ∷ 0x05 ∷ 0x55 ∷ 0x00 ∷ 0x06 ∷ 0x66 ∷ 0x00 ∷ 0x07 ∷ 0x77 ∷ 0x00 ∷ 0x08 ∷ [])))
    -- one less
    ∷ case 640 eight_groups (slot_after (0x00 ∷ 0x00 ∷ 0x00 ∷ 0x00 ∷ 0x00 ∷ 0x00 ∷ 0x00 ∷ 0x00 ∷ 0x00 ∷ 0x00 ∷ 0x00 ∷ 0x00 ∷ 0x00 ∷ 0x00 ∷ 0x00 ∷ 0x00 ∷ 0x04 ∷ []) (alone_slot 0x10 [] (0x01 ∷ []) (0x87 ∷ 0x01 ∷ 0x00 ∷ 0x02 ∷ 0x12 ∷ 0x00 ∷ 0x03 ∷ 0x23 ∷ 0x00 ∷ 0x04 ∷ 0x34 ∷ 0x00 ∷ 0x05 ∷ 0x45 ∷ 0x00 ∷ 0x06 ∷ 0x56 ∷ 0x00 ∷ 0x07 ∷ 0x67 ∷ 0x00 ∷ 0x08 ∷ [])))
    -- what has flushed is pending nowhere
    ∷ case 640 eight_groups (withheld_after (0x00 ∷ 0x00 ∷ 0x00 ∷ 0x00 ∷ 0x00 ∷ 0x00 ∷ 0x00 ∷ 0x00 ∷ 0x00 ∷ 0x00 ∷ 0x00 ∷ 0x00 ∷ 0x00 ∷ 0x00 ∷ 0x00 ∷ 0x00 ∷ 0x04 ∷ []) (0x04 ∷ []) NothingToFlush)
    -- all but the oldest wait
    ∷ case 640 eight_groups (withheld_after (0x00 ∷ 0x00 ∷ 0x00 ∷ 0x00 ∷ 0x00 ∷ 0x00 ∷ 0x00 ∷ 0x00 ∷ 0x00 ∷ 0x00 ∷ 0x00 ∷ 0x00 ∷ 0x00 ∷ 0x00 ∷ 0x00 ∷ 0x00 ∷ 0x04 ∷ []) (0x06 ∷ 0x07 ∷ 0x08 ∷ 0x09 ∷ 0x0A ∷ 0x0B ∷ []) NotTheOldest)
    -- message passing: with the WFENCE unreachable
    ∷ case 640 message_passing (search_never 30)
    -- C 1
    ∷ case 640 (set message_passing 4 0x01) (search_never 27)
    -- TSO
    ∷ case 640 (set message_passing 3 0x01) (search_never 30)
    -- SC
    ∷ case 640 (set (set message_passing 3 0x00) 4 0x00) (search_never 17)
    -- P6, without it, in a file of version 2: reachable as in version 1
    ∷ case 640 (set p6 2 0x02) (search_reaches 25 (0x00 ∷ 0x00 ∷ 0x05 ∷ 0x01 ∷ 0x01 ∷ []))
    -- the second store is not the oldest
    ∷ case 640 message_passing (replay_says (0x00 ∷ 0x00 ∷ 0x00 ∷ 0x05 ∷ []) (stuck 3 NotTheOldest))
    -- its slot
    ∷ case 640 message_passing (slot_after (0x00 ∷ 0x00 ∷ 0x00 ∷ []) (alone_slot 0x03 [] [] (0x02 ∷ 0x00 ∷ 0x00 ∷ 0x01 ∷ 0x11 ∷ 0x00 ∷ 0x01 ∷ [])))
    -- and when the first has flushed
    ∷ case 640 message_passing (slot_after (0x00 ∷ 0x00 ∷ 0x00 ∷ 0x04 ∷ []) (alone_slot 0x03 [] (0x01 ∷ []) (0x01 ∷ 0x01 ∷ 0x00 ∷ 0x01 ∷ [])))
    -- the fence check: WFENCE isn't a fence
    ∷ case 640 wfence_no_fence (fences_say (open_at 0 0 2))
    -- CMPX is one
    ∷ case 640 cmpx_fence (fences_say fenced)
    -- and no store
    ∷ case 640 cmpx_no_store (fences_say fenced)
    -- and no load
    ∷ case 640 cmpx_no_load (fences_say fenced)
    -- WFENCE is no load
    ∷ case 640 wfence_no_load (fences_say fenced)
    -- and no store
    ∷ case 640 wfence_no_store (fences_say fenced)
    -- in version 1 operations 10 and 11 are refused: 11
    ∷ case 640 (set (set p1 10 0x0B) 13 0x00) (refuses 4 10)
    -- in version 2 10 is CMPX (r, v, k)
    ∷ case 640 (set (set p1 2 0x02) 10 0x0A) (fences_say (open_at 1 0 1))
    -- its highest operands
    ∷ case 640 (set (set (set (set (set p1 2 0x02) 10 0x0A) 11 0x03) 12 0x01) 13 0xFF) (fences_say (open_at 1 0 1))
    -- r is 0 to 3
    ∷ case 640 (set (set (set p1 2 0x02) 10 0x0A) 11 0x04) (refuses 4 10)
    -- v below V
    ∷ case 640 (set (set (set p1 2 0x02) 10 0x0A) 12 0x02) (refuses 4 10)
    -- 11 is WFENCE (0, 0, 0)
    ∷ case 640 (set (set (set p1 2 0x02) 10 0x0B) 13 0x00) (fences_say (open_at 1 0 1))
    -- not with a 1 in c
    ∷ case 640 (set (set p1 2 0x02) 10 0x0B) (refuses 4 10)
    -- in b
    ∷ case 640 (set (set (set (set p1 2 0x02) 10 0x0B) 13 0x00) 12 0x01) (refuses 4 10)
    -- in a
    ∷ case 640 (set (set (set (set p1 2 0x02) 10 0x0B) 13 0x00) 11 0x01) (refuses 4 10)
    -- 12 is none
    ∷ case 640 (set (set p1 2 0x02) 10 0x0C) (refuses 4 10)
    -- 255 is none
    ∷ case 640 (set (set p1 2 0x02) 10 0xFF) (refuses 4 10)
    -- a version and no more: 4
    ∷ case 640 (0x00 ∷ 0x01 ∷ 0x04 ∷ []) (refuses 2 2)
    -- 0
    ∷ case 640 (0x00 ∷ 0x01 ∷ 0x00 ∷ []) (refuses 2 2)
    ∷ []
