-- Rows of request 10: version 3, worked from the request's text.
use Rattle.std.specs.Prelude.{List, [], ◌∷◌, ◌++◌, set, take, replicate}
use Rattle.reach.specs.Replay.{reaches, falls_short, stuck}
use Rattle.rules.specs.Claims.{Case, case, search_reaches, replay_says, slot_after, refuses, fences_say}
use Rattle.rules.specs.Fences.{fenced}
use Rattle.rules.specs.GroupJobs.{wide_slot}
use Rattle.rules.specs.WidthJobs.{wide, wide_sums, wide_stores, wide_jumps, wide_compares, wide_goal, one_wide, wide_fullest, blank_file}
use Rattle.rules.specs.declared.Reason.TheVariants.{ThreadEnded}

unfoldable pub width_pins : List Case
width_pins =
    -- initial values are two bytes, big-endian
    case 400 wide_sums (slot_after [] (wide_slot 0x00 [] (0xFF ∷ 0xFF ∷ []) []))
    -- a load takes both
    ∷ case 400 wide_sums (slot_after (0x00 ∷ []) (wide_slot 0x01 (0xFF ∷ 0xFF ∷ []) (0xFF ∷ 0xFF ∷ []) []))
    -- ADD works mod 65,536: 65,535 plus 1 is 0
    ∷ case 400 wide_sums (slot_after (0x00 ∷ 0x00 ∷ []) (wide_slot 0x02 [] (0xFF ∷ 0xFF ∷ []) []))
    -- k at 65,535
    ∷ case 400 wide_sums (slot_after (0x00 ∷ 0x00 ∷ 0x00 ∷ []) (wide_slot 0x03 (0xFF ∷ 0xFF ∷ []) (0xFF ∷ 0xFF ∷ []) []))
    -- 255 plus 1 is 256
    ∷ case 400 wide_sums
    (slot_after (0x00 ∷ 0x00 ∷ 0x00 ∷ 0x00 ∷ 0x00 ∷ []) (wide_slot 0x05 (0xFF ∷ 0xFF ∷ 0x01 ∷ 0x00 ∷ []) (0xFF ∷ 0xFF ∷ []) []))
    -- three-byte entries, in groups, with the mark
    ∷ case 400 wide_stores
    (slot_after (replicate 6 0x00) (wide_slot 0x06 [] [] (0x83 ∷ 0x01 ∷ 0x00 ∷ 0x07 ∷ 0x10 ∷ 0xFF ∷ 0xFF ∷ 0x25 ∷ 0x12 ∷ 0x34 ∷ [])))
    -- a load of its own newest store; a store of a register
    ∷ case 400 wide_stores
    (slot_after (replicate 8 0x00)
    (wide_slot 0x08 (replicate 6 0 ++ (0x12 ∷ 0x34 ∷ [])) []
    (0x04 ∷ 0x01 ∷ 0x00 ∷ 0x07 ∷ 0x10 ∷ 0xFF ∷ 0xFF ∷ 0x25 ∷ 0x12 ∷ 0x34 ∷ 0x30 ∷ 0x12 ∷ 0x34 ∷ [])))
    -- flushes carry both bytes to memory
    ∷ case 400 wide_stores
    (slot_after (replicate 6 0x00 ++ (0x05 ∷ 0x04 ∷ 0x09 ∷ []))
    (wide_slot 0x06 [] (0xFF ∷ 0xFF ∷ 0x00 ∷ 0x07 ∷ 0x00 ∷ 0x00 ∷ 0x00 ∷ 0x00 ∷ 0x00 ∷ 0x00 ∷ 0x12 ∷ 0x34 ∷ []) []))
    -- JEQ compares both bytes: 0 is not 0x0100
    ∷ case 400 wide_jumps (slot_after (0x00 ∷ []) (wide_slot 0x01 [] (0x01 ∷ 0x00 ∷ []) []))
    -- 0x0100 is
    ∷ case 400 wide_jumps (slot_after (0x00 ∷ 0x00 ∷ 0x00 ∷ []) (wide_slot 0x04 (0x01 ∷ 0x00 ∷ []) (0x01 ∷ 0x00 ∷ []) []))
    -- and the thread has ended
    ∷ case 400 wide_jumps (replay_says (0x00 ∷ 0x00 ∷ 0x00 ∷ 0x00 ∷ []) (stuck 3 ThreadEnded))
    -- CMPX compares both bytes
    ∷ case 400 wide_compares (slot_after (0x00 ∷ []) (wide_slot 0x01 (0x01 ∷ 0x00 ∷ []) (0x01 ∷ 0x00 ∷ []) []))
    -- and writes both
    ∷ case 400 wide_compares (slot_after (0x00 ∷ 0x00 ∷ []) (wide_slot 0x02 (0x01 ∷ 0x00 ∷ []) (0xFF ∷ 0xFF ∷ []) []))
    -- XCHG takes both
    ∷ case 400 wide_compares (slot_after (0x00 ∷ 0x00 ∷ 0x00 ∷ []) (wide_slot 0x03 (0x01 ∷ 0x00 ∷ 0xFF ∷ 0xFF ∷ []) [] []))
    -- clauses of place, register and memory with k of two bytes
    ∷ case 400 wide_goal (search_reaches 4 (0x00 ∷ 0x00 ∷ 0x00 ∷ []))
    -- every clause counts: another low byte of the place's
    ∷ case 400 (set wide_goal 31 0x02) (replay_says (0x00 ∷ 0x00 ∷ 0x00 ∷ []) falls_short)
    -- another high byte of a register's clause
    ∷ case 400 (set wide_goal 35 0x7F) (replay_says (0x00 ∷ 0x00 ∷ 0x00 ∷ []) falls_short)
    -- another low byte of memory's
    ∷ case 400 (set wide_goal 41 0xFE) (replay_says (0x00 ∷ 0x00 ∷ 0x00 ∷ []) falls_short)
    -- a place clause above the thread's n
    ∷ case 400 (set wide_goal 31 0x04) (refuses 5 27)
    -- a place clause of 256 plus a good place
    ∷ case 400 (set wide_goal 30 0x01) (refuses 5 27)
    -- bytes marked 0 in clauses: their b
    ∷ case 400 (set wide_goal 29 0x01) (refuses 5 27)
    -- r is 0 to 3
    ∷ case 400 (set wide_goal 34 0x04) (refuses 5 32)
    -- v is below V
    ∷ case 400 (set wide_goal 38 0x01) (refuses 5 37)
    -- the other fields' ends are those of every version: model, T, V, flag, K
    ∷ case 400 (set wide_goal 3 0x03) (refuses 3 3)
    ∷ case 400 (set wide_goal 5 0x05) (refuses 3 5)
    ∷ case 400 (set wide_goal 6 0x09) (refuses 3 6)
    ∷ case 400 (set wide_goal 25 0x02) (refuses 5 25)
    ∷ case 400 (set wide_goal 26 0x00) (refuses 5 26)
    ∷ case 400 (set wide_goal 26 0x11) (refuses 5 26)
    -- the last clause is not wholly there
    ∷ case 400 (set (take 41 wide_goal) 1 39) (refuses 6 37)
    -- a byte is left over
    ∷ case 400 (set (wide_goal ++ (0x00 ∷ [])) 1 41) (refuses 6 42)
    -- version 3, and the model is not there
    ∷ case 400 (0x00 ∷ 0x01 ∷ 0x03 ∷ []) (refuses 6 3)
    -- none of the three
    ∷ case 400 (0x00 ∷ 0x01 ∷ 0x04 ∷ []) (refuses 2 2)
    -- an initial value of which one byte is there
    ∷ case 400 (0x00 ∷ 0x06 ∷ 0x03 ∷ 0x00 ∷ 0x00 ∷ 0x01 ∷ 0x01 ∷ 0x00 ∷ []) (refuses 6 7)
    -- the second of two
    ∷ case 400 (0x00 ∷ 0x08 ∷ 0x03 ∷ 0x00 ∷ 0x00 ∷ 0x01 ∷ 0x02 ∷ 0x00 ∷ 0x00 ∷ 0x00 ∷ []) (refuses 6 9)
    -- none of the second
    ∷ case 400 (0x00 ∷ 0x07 ∷ 0x03 ∷ 0x00 ∷ 0x00 ∷ 0x01 ∷ 0x02 ∷ 0x00 ∷ 0x00 ∷ []) (refuses 6 9)
    -- n stands behind both bytes
    ∷ case 400 (0x00 ∷ 0x08 ∷ 0x03 ∷ 0x00 ∷ 0x00 ∷ 0x01 ∷ 0x01 ∷ 0x00 ∷ 0x00 ∷ 0x41 ∷ []) (refuses 4 9)
    -- an instruction of which four bytes are there, though its operation is unknown
    ∷ case 400 (0x00 ∷ 0x0C ∷ 0x03 ∷ 0x00 ∷ 0x00 ∷ 0x01 ∷ 0x01 ∷ 0x00 ∷ 0x00 ∷ 0x01 ∷ 0x0C ∷ 0x00 ∷ 0x00 ∷ 0x00 ∷ []) (refuses 6 10)
    -- operations are version 2's: 0 and 12 are none
    ∷ case 400 (one_wide (wide 0x00 0x00 0x00 0x00 0x00)) (refuses 4 10)
    ∷ case 400 (one_wide (wide 0x0C 0x00 0x00 0x00 0x00)) (refuses 4 10)
    -- the last two bytes are 0 in LOAD
    ∷ case 400 (one_wide (wide 0x03 0x00 0x00 0x01 0x00)) (refuses 4 10)
    ∷ case 400 (one_wide (wide 0x03 0x00 0x00 0x00 0x01)) (refuses 4 10)
    -- in STORE
    ∷ case 400 (one_wide (wide 0x04 0x00 0x00 0x01 0x00)) (refuses 4 10)
    ∷ case 400 (one_wide (wide 0x04 0x00 0x00 0x00 0x01)) (refuses 4 10)
    -- in FENCE
    ∷ case 400 (one_wide (wide 0x06 0x00 0x00 0x01 0x00)) (refuses 4 10)
    ∷ case 400 (one_wide (wide 0x06 0x00 0x00 0x00 0x01)) (refuses 4 10)
    -- in XCHG
    ∷ case 400 (one_wide (wide 0x07 0x00 0x00 0x01 0x00)) (refuses 4 10)
    ∷ case 400 (one_wide (wide 0x07 0x00 0x00 0x00 0x01)) (refuses 4 10)
    -- in JMP
    ∷ case 400 (one_wide (wide 0x09 0x00 0x00 0x01 0x00)) (refuses 4 10)
    ∷ case 400 (one_wide (wide 0x09 0x00 0x00 0x00 0x01)) (refuses 4 10)
    -- in WFENCE
    ∷ case 400 (one_wide (wide 0x0B 0x00 0x00 0x01 0x00)) (refuses 4 10)
    ∷ case 400 (one_wide (wide 0x0B 0x00 0x00 0x00 0x01)) (refuses 4 10)
    -- jump targets stay in the one byte b: n at most
    ∷ case 400 (one_wide (wide 0x09 0x00 0x02 0x00 0x00)) (refuses 4 10)
    ∷ case 400 (one_wide (wide 0x08 0x00 0x02 0xFF 0xFF)) (refuses 4 10)
    -- k is any where it is one: SET, ADD, STOREK, JEQ, CMPX
    ∷ case 400 (one_wide (wide 0x01 0x03 0x00 0xFF 0xFF)) (fences_say fenced)
    ∷ case 400 (one_wide (wide 0x02 0x03 0x00 0xFF 0xFF)) (fences_say fenced)
    ∷ case 400 (one_wide (wide 0x05 0x00 0x00 0xFF 0xFF)) (fences_say fenced)
    ∷ case 400 (one_wide (wide 0x08 0x03 0x01 0xFF 0xFF)) (fences_say fenced)
    ∷ case 400 (one_wide (wide 0x0A 0x03 0x00 0xFF 0xFF)) (fences_say fenced)
    -- 1,389 bytes are accepted
    ∷ case 400 wide_fullest (replay_says [] reaches)
    -- 1,390 are not
    ∷ case 400 (set (wide_fullest ++ (0x00 ∷ [])) 1 0x6C) (refuses 1 0)
    -- in versions 1 and 2 nor are 1,389 and 1,110
    ∷ case 400 (set wide_fullest 2 0x01) (refuses 1 0)
    ∷ case 400 (set wide_fullest 2 0x02) (refuses 1 0)
    ∷ case 400 (blank_file 0x01 0x04 0x54 1107) (refuses 1 0)
    ∷ case 400 (blank_file 0x02 0x04 0x54 1107) (refuses 1 0)
    -- in version 3 1,110 are: then the fields decide
    ∷ case 400 (blank_file 0x03 0x04 0x54 1107) (refuses 3 5)
    -- the limit looks at the version byte before the version is judged
    ∷ case 400 (blank_file 0x04 0x04 0x54 1107) (refuses 1 0)
    ∷ case 400 (blank_file 0x04 0x04 0x53 1106) (refuses 2 2)
    -- fewer than 3 bytes
    ∷ case 400 (0x00 ∷ 0x03 ∷ []) (refuses 1 0)
    ∷ []
