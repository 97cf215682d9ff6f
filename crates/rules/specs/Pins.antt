-- What 01's own list leaves open: rows beyond it, each under the rule that it pins, and single worked values. The counts and schedules were
-- worked by a checker written apart. `Worked` has the list of 01, with what requests 5, 7 and 8 changed of it, and that every row of both holds.
use Rattle.std.specs.Prelude.{◌≡◌, refl, List, [], ◌∷◌, ◌++◌, ℕ, zero, suc, ◌+◌, ◌^◌, set, take, replicate}
use Rattle.reach.specs.Replay.{reaches, falls_short, stuck}
use Rattle.rules.specs.Limits.{longest_thread, longest_file, slot_size, step_bound, most_slots}
use Rattle.rules.specs.Slot.{word_bytes, entry_bytes, buffer_bytes, buffers_bytes, slot_bytes}
use Rattle.rules.specs.State.{State, empty_buffer, register}
use Rattle.rules.specs.Fences.{fenced, open_at}
use Rattle.rules.specs.Jobs.{p1, p2, p3, p4, p5, p6, p9, p10, p12, p9_sc, p9_sc_drained, p2_drained, no_instruction, waits_apart, three_to_one, own_newest, fence_waits, exchange, jump_over, either_order, oldest_first, stored_register}
use Rattle.rules.specs.Jobs.{exchange_between, ends_and_moves, back_around, past_a_load, next_of_two, over_a_fence}
use Rattle.rules.specs.Jobs.{in_memory, other_registers, widest, sixty_four, sixty_five, next_door, fifty_one, down_the_stairs, fullest, too_long, cut, cut_unknown, left_over}
use Rattle.rules.specs.Jobs.{two_lengths, lengths_turned, nine_stores, behind_a_jump, down_to_a_store, parked_store, two_stores_open, two_threads_open, last_thread_open, last_of_all, third_drains, highest_values, round_to_zero, each_reason, each_reason_sc, each_reason_pso}
use Rattle.rules.specs.Jobs.{set_0, add_0, load_x, store_r, store_x, fence, xchg_x, jeq_to, jmp_to, alone}
use Rattle.rules.specs.GroupPins.{group_pins}
use Rattle.rules.specs.WidthPins.{width_pins}
use Rattle.rules.specs.Claims.{search_reaches, search_never, search_unknown, slots_follow, links_are, fences_say, replay_says, slot_after, enabled_after, withheld_after, refuses, Case, case}
use Rattle.rules.specs.declared.Width.TheVariants.{One, Two}
use Rattle.rules.specs.declared.Reason.TheVariants.{NoSuchStep, ThreadEnded, BufferFull, BufferNotEmpty, NothingToFlush, NotTheOldest}

-- P1's states up to its goal, in the order of slots, each by its first shortest schedule
unfoldable pub p1_schedules : List (List ℕ)
p1_schedules =
    []
    ∷ (0x00 ∷ [])
    ∷ (0x01 ∷ [])
    ∷ (0x00 ∷ 0x00 ∷ [])
    ∷ (0x00 ∷ 0x01 ∷ [])
    ∷ (0x00 ∷ 0x04 ∷ [])
    ∷ (0x01 ∷ 0x01 ∷ [])
    ∷ (0x01 ∷ 0x0D ∷ [])
    ∷ (0x00 ∷ 0x00 ∷ 0x01 ∷ [])
    ∷ (0x00 ∷ 0x00 ∷ 0x04 ∷ [])
    ∷ (0x00 ∷ 0x01 ∷ 0x01 ∷ [])
    ∷ (0x00 ∷ 0x01 ∷ 0x04 ∷ [])
    ∷ (0x00 ∷ 0x01 ∷ 0x0D ∷ [])
    ∷ (0x01 ∷ 0x01 ∷ 0x0D ∷ [])
    ∷ (0x00 ∷ 0x00 ∷ 0x01 ∷ 0x01 ∷ [])
    ∷ (0x00 ∷ 0x00 ∷ 0x01 ∷ 0x04 ∷ [])
    ∷ (0x00 ∷ 0x00 ∷ 0x01 ∷ 0x0D ∷ [])
    ∷ (0x00 ∷ 0x01 ∷ 0x01 ∷ 0x04 ∷ [])
    ∷ (0x00 ∷ 0x01 ∷ 0x01 ∷ 0x0D ∷ [])
    ∷ (0x00 ∷ 0x01 ∷ 0x04 ∷ 0x01 ∷ [])
    ∷ (0x00 ∷ 0x01 ∷ 0x04 ∷ 0x0D ∷ [])
    ∷ (0x00 ∷ 0x01 ∷ 0x0D ∷ 0x00 ∷ [])
    ∷ []

-- their links: 64 times the slot of the state before the last step, plus that step
unfoldable pub p1_links : List ℕ
p1_links =
    4294967295
    -- from slots 0, 0; 1, 1, 1, 2, 2
    ∷ 0 ∷ 1 ∷ 64 ∷ 65 ∷ 68 ∷ 129 ∷ 141
    -- from slots 3, 3, 4, 4, 4, 6
    ∷ 193 ∷ 196 ∷ 257 ∷ 260 ∷ 269 ∷ 397
    -- from slots 8, 8, 8, 10, 10, 11, 11, 12
    ∷ 513 ∷ 516 ∷ 525 ∷ 644 ∷ 653 ∷ 705 ∷ 717 ∷ 768
    ∷ []

-- so many numbers from n on
unfoldable pub count_up : (n many : ℕ) → List ℕ
count_up n zero = []
count_up n (suc many) = n ∷ count_up (suc n) many

-- the numbers that are no step of a job of two threads and three variables: execute steps 2 and 3; of threads 0 and 1 the flushes to variables 3 to 7; all
-- flushes of threads 2 and 3; and 36 to 255
unfoldable pub no_steps : List ℕ
no_steps = 2 ∷ 3 ∷ 7 ∷ 8 ∷ 9 ∷ 10 ∷ 11 ∷ count_up 15 241

-- slots, job, and what it pins
unfoldable pub pins : List Case
pins =
    -- The verdict, refusal 7 and `DeadCode` go by these fifteen, and name them by their places.
    -- SC and FENCED with flag 0: what a verdict goes by
    case 640 p9_sc (search_never 22)
    -- the same: the fence check
    ∷ case 640 p9_sc (fences_say fenced)
    -- SC and FENCED with flag 1
    ∷ case 640 p9_sc_drained (search_never 22)
    -- the same: the fence check
    ∷ case 640 p9_sc_drained (fences_say fenced)
    -- SC and OPEN with flag 1
    ∷ case 640 p2_drained (search_never 13)
    -- the same: the fence check
    ∷ case 640 p2_drained (fences_say (open_at 0 0 1))
    -- P9 with one slot less than it has states: unknown, though it is FENCED and no goal can be reached
    ∷ case 30 p9 search_unknown
    -- PSO, OPEN, flag 0: P4 under PSO
    ∷ case 640 (set p4 3 0x02) (search_never 5)
    -- TSO, OPEN, flag 1: P4 with flag 1
    ∷ case 640 (set p4 17 0x01) (search_never 5)
    -- SC, FENCED, flag 1, with one slot less than it has states: unknown
    ∷ case 21 p9_sc_drained search_unknown
    -- T to 4
    ∷ case 640 (set p1 5 0x05) (refuses 3 5)
    -- flag 2 is none
    ∷ case 640 (set p1 27 0x02) (refuses 5 27)
    -- request 4: SC, flag 1, and FENCED though a store and a load stand behind a JMP
    ∷ case 640 parked_store (search_never 63)
    -- the same: the fence check
    ∷ case 640 parked_store (fences_say fenced)
    -- version 0 is none
    ∷ case 640 (set p1 2 0x00) (refuses 2 2)
    -- The rest, in the order of the paper.
    -- a load takes the newest own store: 1 is not loaded once 2 is pending
    ∷ case 640 own_newest (search_never 9)
    -- the same under PSO
    ∷ case 640 (set own_newest 3 0x02) (search_never 9)
    -- under TSO the oldest store is the one made first, whatever its variable; ADD and JEQ do not wait
    ∷ case 640 waits_apart (replay_says (0x00 ∷ 0x00 ∷ 0x00 ∷ 0x00 ∷ 0x04 ∷ []) (stuck 4 NotTheOldest))
    -- a FENCE waits until no store is pending, not until one is flushed
    ∷ case 640 waits_apart (replay_says (0x00 ∷ 0x00 ∷ 0x00 ∷ 0x00 ∷ 0x05 ∷ 0x00 ∷ []) (stuck 5 BufferNotEmpty))
    -- C counts stores, not variables
    ∷ case 640 three_to_one (replay_says (0x00 ∷ 0x00 ∷ 0x00 ∷ []) (stuck 2 BufferFull))
    -- TSO: the ninth store waits at C 8, and none before it
    ∷ case 640 nine_stores (replay_says (0x00 ∷ 0x00 ∷ 0x00 ∷ 0x00 ∷ 0x00 ∷ 0x00 ∷ 0x00 ∷ 0x00 ∷ 0x00 ∷ []) (stuck 8 BufferFull))
    -- PSO likewise
    ∷ case 640 (set nine_stores 3 0x02) (replay_says (0x00 ∷ 0x00 ∷ 0x00 ∷ 0x00 ∷ 0x00 ∷ 0x00 ∷ 0x00 ∷ 0x00 ∷ 0x00 ∷ []) (stuck 8 BufferFull))
    -- a FENCE waits, and the flush is a step of its own
    ∷ case 640 fence_waits (search_reaches 4 (0x00 ∷ 0x04 ∷ 0x00 ∷ []))
    -- XCHG waits, with C 1, and both sides change
    ∷ case 640 exchange (search_reaches 5 (0x00 ∷ 0x00 ∷ 0x04 ∷ 0x00 ∷ []))
    -- XCHG waits for an empty buffer, not for room
    ∷ case 640 (set exchange 4 0x02) (search_reaches 5 (0x00 ∷ 0x00 ∷ 0x04 ∷ 0x00 ∷ []))
    -- a FENCE waits for its own buffer alone
    ∷ case 640 p9 (replay_says (0x00 ∷ 0x01 ∷ 0x04 ∷ 0x00 ∷ []) falls_short)
    -- JEQ goes to p where r = k
    ∷ case 640 jump_over (search_reaches 3 (0x00 ∷ 0x00 ∷ []))
    -- PSO: equal queues are one state, in whatever order the stores were made
    ∷ case 640 either_order (search_never 59)
    -- PSO: oldest first within a variable
    ∷ case 640 oldest_first (search_never 6)
    -- STORE carries its register
    ∷ case 640 stored_register (search_reaches 3 (0x00 ∷ 0x00 ∷ []))
    -- a clause of kind 3 reads memory, not a buffer, and the variable that it names
    ∷ case 640 in_memory (search_reaches 3 (0x00 ∷ 0x05 ∷ []))
    -- each operation and clause takes the register, variable and place that it names; initial values
    ∷ case 640 other_registers (search_reaches 7 (0x00 ∷ 0x00 ∷ 0x00 ∷ 0x00 ∷ 0x00 ∷ 0x00 ∷ []))
    -- JEQ goes to its p, not to the next place but one
    ∷ case 640 (set other_registers 28 0x07) (search_never 6)
    -- ADD is mod 256, not mod a smaller power of two
    ∷ case 640 (set (set p5 16 0xFF) 26 0xFE) (search_reaches 3 (0x00 ∷ 0x00 ∷ []))
    -- thread 3, its register 3, the last variables, values to 255; JEQ tests for equality; step 35
    ∷ case 640 last_of_all (search_reaches 8 (0x03 ∷ 0x03 ∷ 0x03 ∷ 0x03 ∷ 0x03 ∷ 0x03 ∷ 0x23 ∷ []))
    -- initial values, constants and clauses to 255
    ∷ case 640 highest_values (search_reaches 3 (0x00 ∷ 0x00 ∷ []))
    -- JEQ to 0, not taken; registers 1 and 3; JMP passed over
    ∷ case 640 round_to_zero (search_reaches 9 (0x00 ∷ 0x00 ∷ 0x00 ∷ 0x00 ∷ 0x00 ∷ 0x00 ∷ 0x00 ∷ 0x00 ∷ []))
    -- a goal that holds at the start: 0 steps, 1 state, though there are steps to take
    ∷ case 1 p10 (search_reaches 1 [])
    -- the flag asks for every buffer: thread 2's
    ∷ case 640 third_drains (search_reaches 3 (0x02 ∷ 0x14 ∷ []))
    -- replay falls short by the state at the end
    ∷ case 640 p1 (replay_says (0x00 ∷ 0x00 ∷ 0x01 ∷ []) falls_short)
    -- not by a goal on the way; "at place p" is not "at p or behind it"
    ∷ case 640 fullest (replay_says (0x00 ∷ []) falls_short)
    -- the first step that is stuck counts
    ∷ case 640 p10 (replay_says (0x00 ∷ 0x00 ∷ 0x00 ∷ []) (stuck 1 BufferFull))
    -- no number above 35 is a step where there is something to flush
    ∷ case 640 p10 (replay_says (0x00 ∷ 0x24 ∷ []) (stuck 1 NoSuchStep))
    -- an ended thread executes nothing
    ∷ case 640 p10 (replay_says (0x00 ∷ 0x04 ∷ 0x00 ∷ 0x00 ∷ []) (stuck 3 ThreadEnded))
    -- Request 5. Each reason under each model where it can come up, and of two that could both apply the earlier. "No such step": threads from T up,
    -- variables from V up of any thread, all numbers above 35. An absent thread, which is at place 0 and has no instructions, is not given as
    -- "ended", and its flushes not as "nothing to flush".
    ∷ case 640 each_reason (withheld_after [] no_steps NoSuchStep)
    -- under SC too
    ∷ case 640 each_reason_sc (withheld_after [] no_steps NoSuchStep)
    -- under PSO
    ∷ case 640 each_reason_pso (withheld_after [] no_steps NoSuchStep)
    -- where other steps are withheld for other reasons
    ∷ case 640 each_reason (withheld_after (0x00 ∷ 0x00 ∷ 0x01 ∷ []) no_steps NoSuchStep)
    -- the same under PSO
    ∷ case 640 each_reason_pso (withheld_after (0x00 ∷ 0x00 ∷ 0x01 ∷ []) no_steps NoSuchStep)
    -- one thread and one variable
    ∷ case 640 p10 (withheld_after [] ((1 ∷ 2 ∷ 3 ∷ []) ++ count_up 5 251) NoSuchStep)
    -- four threads and eight variables: the numbers above 35
    ∷ case 640 widest (withheld_after [] (count_up 36 220) NoSuchStep)
    -- and no other: each flush has nothing to flush
    ∷ case 640 widest (withheld_after [] (count_up 4 32) NothingToFlush)
    -- "thread ended": place n. TSO
    ∷ case 640 each_reason (withheld_after (0x01 ∷ 0x0E ∷ 0x01 ∷ []) (0x01 ∷ []) ThreadEnded)
    -- SC
    ∷ case 640 each_reason_sc (replay_says (0x01 ∷ 0x01 ∷ 0x01 ∷ []) (stuck 2 ThreadEnded))
    -- PSO
    ∷ case 640 each_reason_pso (withheld_after (0x01 ∷ 0x0E ∷ 0x01 ∷ []) (0x01 ∷ []) ThreadEnded)
    -- also with C stores pending: an ended thread waits for nothing
    ∷ case 640 each_reason (withheld_after (0x00 ∷ 0x00 ∷ 0x05 ∷ 0x00 ∷ []) (0x00 ∷ []) ThreadEnded)
    -- the same under PSO
    ∷ case 640 each_reason_pso (withheld_after (0x00 ∷ 0x00 ∷ 0x05 ∷ 0x00 ∷ []) (0x00 ∷ []) ThreadEnded)
    -- of a thread without instructions, at the start
    ∷ case 640 no_instruction (withheld_after [] (0x00 ∷ []) ThreadEnded)
    -- "buffer full": a store with C pending. TSO
    ∷ case 640 each_reason (withheld_after (0x00 ∷ 0x00 ∷ []) (0x00 ∷ []) BufferFull)
    -- PSO, with two variables pending
    ∷ case 640 each_reason_pso (withheld_after (0x00 ∷ 0x00 ∷ []) (0x00 ∷ []) BufferFull)
    -- a store of a register
    ∷ case 640 (set (set each_reason 19 0x04) 22 0x00) (withheld_after (0x00 ∷ 0x00 ∷ []) (0x00 ∷ []) BufferFull)
    -- never under SC: thread 0 comes to its end
    ∷ case 640 each_reason_sc (replay_says (0x00 ∷ 0x00 ∷ 0x00 ∷ []) falls_short)
    -- "buffer not empty": FENCE. TSO
    ∷ case 640 each_reason (withheld_after (0x01 ∷ []) (0x01 ∷ []) BufferNotEmpty)
    -- PSO
    ∷ case 640 each_reason_pso (withheld_after (0x01 ∷ []) (0x01 ∷ []) BufferNotEmpty)
    -- XCHG, with room left
    ∷ case 640 (set exchange 4 0x02) (withheld_after (0x00 ∷ 0x00 ∷ []) (0x00 ∷ []) BufferNotEmpty)
    -- XCHG under PSO
    ∷ case 640 (set (set exchange 3 0x02) 4 0x02) (withheld_after (0x00 ∷ 0x00 ∷ []) (0x00 ∷ []) BufferNotEmpty)
    -- neither waits for room: with C stores pending the buffer is "not empty", not "full". XCHG
    ∷ case 640 exchange (withheld_after (0x00 ∷ 0x00 ∷ []) (0x00 ∷ []) BufferNotEmpty)
    -- FENCE
    ∷ case 640 p9 (withheld_after (0x00 ∷ []) (0x00 ∷ []) BufferNotEmpty)
    -- FENCE under PSO
    ∷ case 640 (set p9 3 0x02) (withheld_after (0x00 ∷ []) (0x00 ∷ []) BufferNotEmpty)
    -- "nothing to flush": no store of t to v is pending, here none at all. TSO
    ∷ case 640 each_reason (replay_says (0x0D ∷ []) (stuck 0 NothingToFlush))
    -- every flush
    ∷ case 640 each_reason (withheld_after [] (0x04 ∷ 0x05 ∷ 0x06 ∷ 0x0C ∷ 0x0D ∷ 0x0E ∷ []) NothingToFlush)
    -- SC, always: after stores too
    ∷ case 640 each_reason_sc (withheld_after (0x00 ∷ 0x00 ∷ []) (0x04 ∷ 0x05 ∷ 0x06 ∷ 0x0C ∷ 0x0D ∷ 0x0E ∷ []) NothingToFlush)
    -- PSO
    ∷ case 640 each_reason_pso (withheld_after [] (0x04 ∷ 0x05 ∷ 0x06 ∷ 0x0C ∷ 0x0D ∷ 0x0E ∷ []) NothingToFlush)
    -- TSO, with y and x pending and none to z: not "not the oldest"; and what thread 0 has pending is not thread 1's
    ∷ case 640 each_reason (withheld_after (0x00 ∷ 0x00 ∷ []) (0x06 ∷ 0x0C ∷ 0x0D ∷ 0x0E ∷ []) NothingToFlush)
    -- PSO, the same
    ∷ case 640 each_reason_pso (withheld_after (0x00 ∷ 0x00 ∷ []) (0x06 ∷ 0x0C ∷ 0x0D ∷ 0x0E ∷ []) NothingToFlush)
    -- of a thread that waits at a FENCE with z pending, the flushes to x and y
    ∷ case 640 each_reason (withheld_after (0x01 ∷ []) (0x0C ∷ 0x0D ∷ []) NothingToFlush)
    -- an ended thread still flushes, so it is given as "nothing to flush" and not as "ended". TSO
    ∷ case 640 each_reason (withheld_after (0x01 ∷ 0x0E ∷ 0x01 ∷ []) (0x0C ∷ 0x0D ∷ 0x0E ∷ []) NothingToFlush)
    -- SC
    ∷ case 640 each_reason_sc (withheld_after (0x01 ∷ 0x01 ∷ []) (0x0C ∷ 0x0D ∷ 0x0E ∷ []) NothingToFlush)
    -- PSO
    ∷ case 640 each_reason_pso (withheld_after (0x01 ∷ 0x0E ∷ 0x01 ∷ []) (0x0C ∷ 0x0D ∷ 0x0E ∷ []) NothingToFlush)
    -- TSO, with others pending
    ∷ case 640 (set each_reason 4 0x03) (withheld_after (0x00 ∷ 0x00 ∷ 0x00 ∷ []) (0x06 ∷ []) NothingToFlush)
    -- "not the oldest": TSO, x is pending behind y. (That a thread or variable that the job doesn't have is pending behind another, no job comes to.)
    ∷ case 640 each_reason (withheld_after (0x00 ∷ 0x00 ∷ []) (0x04 ∷ []) NotTheOldest)
    -- also of a thread that has ended, x twice
    ∷ case 640 (set each_reason 4 0x03) (withheld_after (0x00 ∷ 0x00 ∷ 0x00 ∷ []) (0x04 ∷ []) NotTheOldest)
    -- y is the oldest, and stands again behind x: it may be flushed
    ∷ case 640 (set (set each_reason 4 0x03) 21 0x01) (enabled_after (0x00 ∷ 0x00 ∷ 0x00 ∷ []) (2 ^ 1 + 2 ^ 5))
    -- bit s is 0 exactly when step s has a reason. TSO: x behind y
    ∷ case 640 each_reason (enabled_after (0x00 ∷ 0x00 ∷ []) (2 ^ 1 + 2 ^ 5))
    -- PSO never has "not the oldest": both may be flushed
    ∷ case 640 each_reason_pso (enabled_after (0x00 ∷ 0x00 ∷ []) (2 ^ 1 + 2 ^ 4 + 2 ^ 5))
    -- SC: no flush, and no store waits
    ∷ case 640 each_reason_sc (enabled_after (0x00 ∷ 0x00 ∷ []) (2 ^ 0 + 2 ^ 1))
    -- the slot order: the R(d) counted states of a goal that can be reached
    ∷ case 640 p1 (slots_follow p1_schedules)
    -- "64 times the slot of the state before the last step of that schedule, plus that step"; link 0
    ∷ case 640 p1 (links_are p1_links)
    -- "for unknown the first N": slots
    ∷ case 5 p1 (slots_follow (take 5 p1_schedules))
    -- and links
    ∷ case 5 p1 (links_are (take 5 p1_links))
    -- no goal at the nearer distances: the slots of an unreachable goal hold every state
    ∷ case 640 p4 (slots_follow ([] ∷ (0x00 ∷ []) ∷ (0x00 ∷ 0x00 ∷ []) ∷ (0x00 ∷ 0x04 ∷ []) ∷ (0x00 ∷ 0x00 ∷ 0x04 ∷ []) ∷ []))
    -- unreachable with as many slots as states
    ∷ case 31 p9 (search_never 31)
    -- the same of P4
    ∷ case 5 p4 (search_never 5)
    -- and unknown with one less
    ∷ case 4 p4 search_unknown
    -- "bit s is set when step s may be taken": P1 at its start, steps 0 and 1
    ∷ case 640 p1 (enabled_after [] (2 ^ 0 + 2 ^ 1))
    -- after thread 0's store its flush too, step 4
    ∷ case 640 p1 (enabled_after (0x00 ∷ []) (2 ^ 0 + 2 ^ 1 + 2 ^ 4))
    -- the last of all steps
    ∷ case 640 last_of_all (enabled_after (0x03 ∷ 0x03 ∷ 0x03 ∷ 0x03 ∷ 0x03 ∷ 0x03 ∷ []) (2 ^ 35))
    -- the slot of the start: what a job does not use is 0
    ∷ case 640 p1 (slot_after [] (replicate 152 0))
    -- initial values stand from byte 36 on, two bytes each
    ∷ case 640 widest (slot_after [] (replicate 36 0 ++ (0 ∷ 1 ∷ 0 ∷ 2 ∷ 0 ∷ 3 ∷ 0 ∷ 4 ∷ 0 ∷ 5 ∷ 0 ∷ 6 ∷ 0 ∷ 7 ∷ 0 ∷ 8 ∷ []) ++ replicate 100 0))
    -- thread 0's place, and its buffer from byte 52 on: count, variable, value
    ∷ case 640 p1 (slot_after (0x00 ∷ []) ((1 ∷ []) ++ replicate 51 0 ++ (1 ∷ 0 ∷ 0 ∷ 1 ∷ []) ++ replicate 96 0))
    -- thread 1's, 25 bytes on
    ∷ case 640 p1 (slot_after (0x01 ∷ []) ((0 ∷ 1 ∷ []) ++ replicate 75 0 ++ (1 ∷ 1 ∷ 0 ∷ 1 ∷ []) ++ replicate 71 0))
    -- TSO: entries oldest first
    ∷ case 640 waits_apart (slot_after (0x00 ∷ 0x00 ∷ []) ((2 ∷ []) ++ replicate 51 0 ++ (2 ∷ 1 ∷ 0 ∷ 1 ∷ 0 ∷ 0 ∷ 1 ∷ []) ++ replicate 93 0))
    -- PSO: entries by variable number
    ∷ case 640 (set waits_apart 3 0x02) (slot_after (0x00 ∷ 0x00 ∷ []) ((2 ∷ []) ++ replicate 51 0 ++ (2 ∷ 0 ∷ 0 ∷ 1 ∷ 1 ∷ 0 ∷ 1 ∷ []) ++ replicate 93 0))
    -- fence check: XCHG between is a fence
    ∷ case 640 exchange_between (fences_say fenced)
    -- each operation that is no store, no load, no move past a fence
    ∷ case 640 ends_and_moves (fences_say fenced)
    -- a walk over each operation that is no fence, and back by a jump
    ∷ case 640 back_around (fences_say (open_at 0 1 0))
    -- the move on from a load is to the next place: the FENCE there ends the walk, so load 0 is not met
    ∷ case 640 past_a_load (fences_say (open_at 0 1 2))
    -- JEQ goes on to the next place too
    ∷ case 640 next_of_two (fences_say (open_at 0 0 2))
    -- JMP goes to its place, not on
    ∷ case 640 over_a_fence (fences_say (open_at 0 0 3))
    -- request 4, "a pair counts only if its store place can be reached": not over a JMP
    ∷ case 640 behind_a_jump (fences_say fenced)
    -- nor behind a loop that never ends
    ∷ case 640 (alone (jmp_to 0 ∷ store_x ∷ load_x ∷ [])) (fences_say fenced)
    -- nor behind a longer one with a FENCE
    ∷ case 640 (alone (set_0 ∷ fence ∷ jmp_to 0 ∷ store_x ∷ load_x ∷ [])) (fences_say fenced)
    -- nor in code that only dead code leads to: the next place, a JMP
    ∷ case 640 (alone (jmp_to 5 ∷ set_0 ∷ jmp_to 3 ∷ store_x ∷ load_x ∷ [])) (fences_say fenced)
    -- a JEQ
    ∷ case 640 (alone (jmp_to 6 ∷ jeq_to 4 ∷ set_0 ∷ jmp_to 6 ∷ store_x ∷ load_x ∷ [])) (fences_say fenced)
    -- a FENCE and an XCHG
    ∷ case 640 (alone (jmp_to 6 ∷ store_x ∷ xchg_x ∷ fence ∷ store_x ∷ load_x ∷ [])) (fences_say fenced)
    -- the store's own loop
    ∷ case 640 (alone (jmp_to 4 ∷ store_x ∷ load_x ∷ jmp_to 1 ∷ [])) (fences_say fenced)
    -- a JMP back revives it
    ∷ case 640 (alone (jmp_to 3 ∷ store_x ∷ load_x ∷ jmp_to 1 ∷ [])) (fences_say (open_at 0 1 2))
    -- the least store is named, not the one that is met first
    ∷ case 640 (alone (jmp_to 3 ∷ store_x ∷ load_x ∷ store_x ∷ jmp_to 1 ∷ [])) (fences_say (open_at 0 1 2))
    -- and a JEQ back
    ∷ case 640 (alone (jmp_to 3 ∷ store_x ∷ load_x ∷ jeq_to 1 ∷ [])) (fences_say (open_at 0 1 2))
    -- "by successor moves", whatever they lead through: a FENCE
    ∷ case 640 (alone (fence ∷ store_x ∷ load_x ∷ [])) (fences_say (open_at 0 1 2))
    -- an XCHG
    ∷ case 640 (alone (xchg_x ∷ store_x ∷ load_x ∷ [])) (fences_say (open_at 0 1 2))
    -- a FENCE, and a JMP back from it
    ∷ case 640 (alone (jmp_to 3 ∷ store_x ∷ load_x ∷ fence ∷ jmp_to 1 ∷ [])) (fences_say (open_at 0 1 2))
    -- a store, and the FENCE that ends its own walk
    ∷ case 640 (alone (store_x ∷ fence ∷ store_x ∷ load_x ∷ [])) (fences_say (open_at 0 2 3))
    -- each operation that goes on
    ∷ case 640 (alone (set_0 ∷ load_x ∷ add_0 ∷ store_r ∷ store_x ∷ fence ∷ xchg_x ∷ jeq_to 8 ∷ jmp_to 9 ∷ store_x ∷ load_x ∷ [])) (fences_say (open_at 0 9 10))
    -- behind a JEQ that in runs always jumps: moves decide, not runs
    ∷ case 640 (alone (jeq_to 3 ∷ store_x ∷ load_x ∷ [])) (fences_say (open_at 0 1 2))
    -- a JEQ back, so that in runs the loop never ends
    ∷ case 640 (alone (set_0 ∷ jeq_to 0 ∷ store_x ∷ load_x ∷ [])) (fences_say (open_at 0 2 3))
    -- a JEQ to its own place
    ∷ case 640 (alone (jeq_to 0 ∷ store_x ∷ load_x ∷ [])) (fences_say (open_at 0 1 2))
    -- a JEQ to the next place
    ∷ case 640 (alone (jeq_to 1 ∷ store_x ∷ load_x ∷ [])) (fences_say (open_at 0 1 2))
    -- a JEQ to place n revives nothing
    ∷ case 640 (alone (jeq_to 5 ∷ jmp_to 5 ∷ store_x ∷ load_x ∷ jmp_to 2 ∷ [])) (fences_say fenced)
    -- a load in dead code, to which no live store leads
    ∷ case 640 (alone (store_x ∷ jmp_to 3 ∷ load_x ∷ [])) (fences_say fenced)
    -- a live load, to which only a dead store leads
    ∷ case 640 (alone (jmp_to 2 ∷ store_x ∷ load_x ∷ [])) (fences_say fenced)
    -- the least among the pairs that count: a later store
    ∷ case 640 (alone (jmp_to 3 ∷ store_x ∷ load_x ∷ store_x ∷ load_x ∷ [])) (fences_say (open_at 0 3 4))
    -- a later thread
    ∷ case 640 (set (set two_threads_open 9 0x09) 11 0x03) (fences_say (open_at 1 0 1))
    -- "place 0 of its thread": P9, with a JMP over a store and a load in thread 1
    ∷ case 640 (set (set (set (set p9 23 0x09) 25 0x03) 26 0x00) 27 0x05) (fences_say fenced)
    -- its model makes no difference here: PSO
    ∷ case 640 (set behind_a_jump 3 0x02) (fences_say fenced)
    -- every instruction a jump
    ∷ case 640 (alone (jmp_to 2 ∷ jmp_to 0 ∷ jmp_to 1 ∷ [])) (fences_say fenced)
    -- no instruction at all
    ∷ case 640 no_instruction (fences_say fenced)
    -- jobs/parked-store-revived-sc: the JMP at place 10 leads to the parked store
    ∷ case 640 (set parked_store 52 0x01) (fences_say (open_at 0 1 2))
    -- the least store comes before the least load
    ∷ case 640 two_stores_open (fences_say (open_at 0 2 3))
    -- the least thread before the least store
    ∷ case 640 two_threads_open (fences_say (open_at 0 1 2))
    -- every thread is looked at; STORE is a store; PSO too
    ∷ case 640 last_thread_open (fences_say (open_at 3 0 1))
    -- "place 0 itself counts", with no move that leads to it; store and load of one variable are a pair too
    ∷ case 640 p4 (fences_say (open_at 0 0 1))
    -- T 4, V 8 and K 16 are accepted; each thread has its own step
    ∷ case 640 widest (search_reaches 16 (0x00 ∷ 0x01 ∷ 0x02 ∷ 0x03 ∷ []))
    -- n 0 is accepted
    ∷ case 640 no_instruction (search_reaches 1 [])
    -- n 64 is accepted, and a clause of place 64
    ∷ case 640 sixty_four (search_reaches 65 (replicate 64 0x00))
    -- the slot has place 64
    ∷ case 640 sixty_four (slot_after (replicate 64 0x00) ((64 ∷ []) ++ replicate 151 0))
    -- place 64 of thread 2 is its end, and not thread 3's place 0
    ∷ case 640 fullest (replay_says (replicate 65 0x02) (stuck 64 ThreadEnded))
    -- JMP to place 64
    ∷ case 640 (set (set sixty_four 9 0x09) 11 0x40) (search_reaches 2 (0x00 ∷ []))
    -- JEQ to place 64
    ∷ case 640 (set (set sixty_four 9 0x08) 11 0x40) (search_reaches 2 (0x00 ∷ []))
    -- JMP from the last place to place 64
    ∷ case 640 (set (set sixty_four 261 0x09) 263 0x40) (replay_says (replicate 64 0x00) reaches)
    -- n 51 is accepted, and a clause of place 51
    ∷ case 640 fifty_one (replay_says (replicate 51 0x00) reaches)
    -- JMP to place 51
    ∷ case 640 (set (set fifty_one 9 0x09) 11 0x33) (search_reaches 2 (0x00 ∷ []))
    -- a store at the last place but one, a load at the last
    ∷ case 640 (set (set sixty_four 257 0x05) 261 0x03) (fences_say (open_at 0 62 63))
    -- from the first place to the last
    ∷ case 640 (set (set sixty_four 9 0x05) 261 0x03) (fences_say (open_at 0 0 63))
    -- a FENCE at place 62 between them
    ∷ case 640 (set (set (set sixty_four 9 0x05) 257 0x06) 261 0x03) (fences_say fenced)
    -- JMP at the last place, to a load at the first
    ∷ case 640 (set (set (set sixty_four 257 0x05) 261 0x09) 9 0x03) (fences_say (open_at 0 62 0))
    -- and on from there: a load at place 1
    ∷ case 640 (set (set (set sixty_four 257 0x05) 261 0x09) 13 0x03) (fences_say (open_at 0 62 1))
    -- a store at place 62 to which no move leads
    ∷ case 640 down_the_stairs (fences_say fenced)
    -- a JEQ at place 0 to it, and a walk from it over all places but 0: up to the last, then down to a load at place 1
    ∷ case 640 (set (set (set down_the_stairs 9 0x08) 11 0x3E) 13 0x03) (fences_say (open_at 0 62 1))
    -- the other way: up to the last place, then down over all others to the store
    ∷ case 640 down_to_a_store (fences_say (open_at 0 1 2))
    -- a JMP over place 1, up over all others, and from the last back to a store there
    ∷ case 640 (set (set (set (set (set (set sixty_four 9 0x09) 11 0x02) 13 0x05) 17 0x03) 261 0x09) 263 0x01) (fences_say (open_at 0 1 2))
    -- a JMP over the last two places
    ∷ case 640 (set (set (set (set sixty_four 253 0x09) 255 0x40) 257 0x05) 261 0x03) (fences_say fenced)
    -- a pair in the middle
    ∷ case 640 (set (set sixty_four 137 0x05) 141 0x03) (fences_say (open_at 0 32 33))
    -- a FENCE at place 32
    ∷ case 640 (set (set (set sixty_four 9 0x05) 137 0x06) 261 0x03) (fences_say fenced)
    -- XCHG at place 62
    ∷ case 640 (set (set (set sixty_four 9 0x05) 257 0x07) 261 0x03) (fences_say fenced)
    -- place 64 holds no instruction, and is not place 0: a load there, a store at place 63
    ∷ case 640 (set (set sixty_four 261 0x05) 9 0x03) (fences_say fenced)
    -- a SET at place 63 behind the store
    ∷ case 640 (set (set sixty_four 257 0x05) 9 0x03) (fences_say fenced)
    -- JEQ there, to place 64
    ∷ case 640 (set (set (set (set sixty_four 257 0x05) 261 0x08) 263 0x40) 9 0x03) (fences_say fenced)
    -- JMP to place 64 behind the store
    ∷ case 640 (set (set (set (set sixty_four 9 0x03) 13 0x05) 17 0x09) 19 0x40) (fences_say fenced)
    -- nor is it place 63: a load there, JMP to place 64 behind the store
    ∷ case 640 (set (set (set (set sixty_four 9 0x05) 13 0x09) 15 0x40) 261 0x03) (fences_say fenced)
    -- JEQ to place 64, and a FENCE behind it
    ∷ case 640 (set (set (set (set (set sixty_four 9 0x05) 13 0x08) 15 0x40) 17 0x06) 261 0x03) (fences_say fenced)
    -- nor the next thread's place 0: a load there, a store at place 63
    ∷ case 640 (set next_door 261 0x05) (fences_say fenced)
    -- a clause of kind 1 asks for the n of its own thread
    ∷ case 640 two_lengths (search_reaches 5 (0x01 ∷ 0x01 ∷ []))
    -- not of another that is longer
    ∷ case 640 (set two_lengths 25 0x00) (refuses 5 24)
    -- not of the first
    ∷ case 640 lengths_turned (refuses 5 24)
    -- 1,109 bytes are accepted
    ∷ case 640 fullest (replay_says [] reaches)
    -- TSO with C 8 is accepted
    ∷ case 640 (set p1 4 0x08) (search_reaches 22 (0x00 ∷ 0x00 ∷ 0x01 ∷ 0x01 ∷ []))
    -- PSO with C 8 is accepted
    ∷ case 640 (set p6 4 0x08) (search_reaches 25 (0x00 ∷ 0x00 ∷ 0x05 ∷ 0x01 ∷ 0x01 ∷ []))
    -- two bytes are too few, whatever they say
    ∷ case 640 (0x00 ∷ 0x00 ∷ []) (refuses 1 0)
    -- 1,110 bytes are too many
    ∷ case 640 too_long (refuses 1 0)
    -- a length that is one too great
    ∷ case 640 (set p1 1 0x2C) (refuses 1 0)
    -- a length that is one too small
    ∷ case 640 (set p1 1 0x2A) (refuses 1 0)
    -- a length whose high byte is too great
    ∷ case 640 (set p1 0 0x01) (refuses 1 0)
    -- 1 is judged before 2
    ∷ case 640 (set (set p1 1 0x2C) 2 0x00) (refuses 1 0)
    -- P1 with version 2 is accepted (request 7)
    ∷ case 640 (set p1 2 0x02) (search_reaches 22 (0x00 ∷ 0x00 ∷ 0x01 ∷ 0x01 ∷ []))
    -- version 4 is none
    ∷ case 640 (set p1 2 0x04) (refuses 2 2)
    -- version 255 is none
    ∷ case 640 (set p1 2 0xFF) (refuses 2 2)
    -- model 3 is none
    ∷ case 640 (set p1 3 0x03) (refuses 3 3)
    -- model 17 is none
    ∷ case 640 (set p1 3 0x11) (refuses 3 3)
    -- model 255 is none
    ∷ case 640 (set p1 3 0xFF) (refuses 3 3)
    -- the model is judged before C
    ∷ case 640 (set (set p1 3 0x03) 4 0x09) (refuses 3 3)
    -- SC: C must be 0
    ∷ case 640 (set p2 4 0x01) (refuses 3 4)
    -- SC: C is not 2 either
    ∷ case 640 (set p2 4 0x02) (refuses 3 4)
    -- TSO: C from 1
    ∷ case 640 (set p1 4 0x00) (refuses 3 4)
    -- TSO: C to 8
    ∷ case 640 (set p1 4 0x09) (refuses 3 4)
    -- PSO: C from 1
    ∷ case 640 (set p6 4 0x00) (refuses 3 4)
    -- PSO: C to 8
    ∷ case 640 (set p6 4 0x09) (refuses 3 4)
    -- T from 1
    ∷ case 640 (set p1 5 0x00) (refuses 3 5)
    -- T is judged before V
    ∷ case 640 (set (set p1 5 0x05) 6 0x09) (refuses 3 5)
    -- V from 1
    ∷ case 640 (set p1 6 0x00) (refuses 3 6)
    -- V to 8
    ∷ case 640 (set p1 6 0x09) (refuses 3 6)
    -- n to 64
    ∷ case 640 sixty_five (refuses 4 8)
    -- n is not 128
    ∷ case 640 (set sixty_four 8 0x80) (refuses 4 8)
    -- n is judged before its instructions: none is there
    ∷ case 640 (set (set (take 9 sixty_five) 0 0x00) 1 0x07) (refuses 4 8)
    -- of thread 1 at its own offset
    ∷ case 640 (set fullest 272 0x41) (refuses 4 272)
    -- of thread 2
    ∷ case 640 (set fullest 529 0x41) (refuses 4 529)
    -- of thread 3
    ∷ case 640 (set fullest 786 0x41) (refuses 4 786)
    -- JMP to place 65
    ∷ case 640 (set (set sixty_four 9 0x09) 11 0x41) (refuses 4 9)
    -- JEQ to place 65
    ∷ case 640 (set (set sixty_four 9 0x08) 11 0x41) (refuses 4 9)
    -- JMP to place 65 from the last place
    ∷ case 640 (set (set sixty_four 261 0x09) 263 0x41) (refuses 4 261)
    -- a clause of place 65
    ∷ case 640 (set sixty_four 270 0x41) (refuses 5 267)
    -- with n 51 a JMP to place 52
    ∷ case 640 (set (set fifty_one 9 0x09) 11 0x34) (refuses 4 9)
    -- a JEQ to place 52
    ∷ case 640 (set (set fifty_one 9 0x08) 11 0x34) (refuses 4 9)
    -- a clause of place 52
    ∷ case 640 (set fifty_one 218 0x34) (refuses 5 215)
    -- operation 0, with an operand that is not 0, is none
    ∷ case 640 (set p1 10 0x00) (refuses 4 10)
    -- operation 255 likewise
    ∷ case 640 (set p1 10 0xFF) (refuses 4 10)
    -- operation 0 with three zero bytes is none
    ∷ case 640 (set p9 14 0x00) (refuses 4 14)
    -- operation 10 with three zero bytes is none
    ∷ case 640 (set p9 14 0x0A) (refuses 4 14)
    -- operation 11 with three zero bytes is none
    ∷ case 640 (set p9 14 0x0B) (refuses 4 14)
    -- operation 22 with three zero bytes is none
    ∷ case 640 (set p9 14 0x16) (refuses 4 14)
    -- operation 255 with three zero bytes is none
    ∷ case 640 (set p9 14 0xFF) (refuses 4 14)
    -- SET: r to 3
    ∷ case 640 (set other_registers 11 0x04) (refuses 4 10)
    -- SET: the zero byte
    ∷ case 640 (set other_registers 12 0x01) (refuses 4 10)
    -- ADD: r to 3
    ∷ case 640 (set other_registers 15 0x04) (refuses 4 14)
    -- ADD: the zero byte
    ∷ case 640 (set other_registers 16 0x01) (refuses 4 14)
    -- STORE: r to 3
    ∷ case 640 (set other_registers 19 0x04) (refuses 4 18)
    -- STORE: v below V
    ∷ case 640 (set other_registers 20 0x02) (refuses 4 18)
    -- STORE: the zero byte
    ∷ case 640 (set other_registers 21 0x01) (refuses 4 18)
    -- LOAD: r to 3
    ∷ case 640 (set other_registers 23 0x04) (refuses 4 22)
    -- LOAD: v below V
    ∷ case 640 (set other_registers 24 0x02) (refuses 4 22)
    -- LOAD: the zero byte
    ∷ case 640 (set other_registers 25 0x01) (refuses 4 22)
    -- JEQ: r to 3
    ∷ case 640 (set other_registers 27 0x04) (refuses 4 26)
    -- JEQ: p to n
    ∷ case 640 (set other_registers 28 0x08) (refuses 4 26)
    -- JMP: the first zero byte
    ∷ case 640 (set other_registers 31 0x01) (refuses 4 30)
    -- JMP: p to n
    ∷ case 640 (set other_registers 32 0x08) (refuses 4 30)
    -- JMP: the last zero byte
    ∷ case 640 (set other_registers 33 0x01) (refuses 4 30)
    -- XCHG: r to 3
    ∷ case 640 (set other_registers 35 0x04) (refuses 4 34)
    -- XCHG: v below V
    ∷ case 640 (set other_registers 36 0x02) (refuses 4 34)
    -- XCHG: the zero byte
    ∷ case 640 (set other_registers 37 0x01) (refuses 4 34)
    -- STOREK: the zero byte
    ∷ case 640 (set p1 11 0x01) (refuses 4 10)
    -- STOREK: v below V
    ∷ case 640 (set p1 12 0x02) (refuses 4 10)
    -- FENCE: the first zero byte
    ∷ case 640 (set p9 15 0x01) (refuses 4 14)
    -- FENCE: the second
    ∷ case 640 (set p9 16 0x01) (refuses 4 14)
    -- FENCE: the third
    ∷ case 640 (set p9 17 0x01) (refuses 4 14)
    -- a flag of 255 is none
    ∷ case 640 (set p1 27 0xFF) (refuses 5 27)
    -- the flag is judged before K
    ∷ case 640 (set (set p1 27 0x02) 28 0x11) (refuses 5 27)
    -- before a blank goal
    ∷ case 640 (set p12 27 0x02) (refuses 5 27)
    -- and before a K that is not there
    ∷ case 640 (set (set (take 28 p1) 1 26) 27 0x02) (refuses 5 27)
    -- K to 16
    ∷ case 640 (set p1 28 0x11) (refuses 5 28)
    -- a K of 255 is none
    ∷ case 640 (set p1 28 0xFF) (refuses 5 28)
    -- K from 1: a blank goal is refused before the bytes that are then left over
    ∷ case 640 (set p1 28 0x00) (refuses 5 28)
    -- with flag 1 too
    ∷ case 640 (set p3 28 0x00) (refuses 5 28)
    -- wherever K stands: SC, one thread of no instructions
    ∷ case 640 (set no_instruction 10 0x00) (refuses 5 10)
    -- clause kind 4 is none
    ∷ case 640 (set p1 29 0x04) (refuses 5 29)
    -- clause kind 0 is none
    ∷ case 640 (set other_registers 40 0x00) (refuses 5 40)
    -- clause kind 255 is none
    ∷ case 640 (set other_registers 40 0xFF) (refuses 5 40)
    -- clause kind 0 with three zero bytes is none
    ∷ case 640 (set p1 37 0x00) (refuses 5 37)
    -- clause kind 4 with three zero bytes is none
    ∷ case 640 (set p1 37 0x04) (refuses 5 37)
    -- clause kind 18 with three zero bytes is none
    ∷ case 640 (set p1 37 0x12) (refuses 5 37)
    -- kind 1: t below T
    ∷ case 640 (set no_instruction 12 0x01) (refuses 5 11)
    -- kind 1: the zero byte
    ∷ case 640 (set other_registers 42 0x01) (refuses 5 40)
    -- kind 1: p to n
    ∷ case 640 (set other_registers 43 0x08) (refuses 5 40)
    -- kind 2: t below T
    ∷ case 640 (set other_registers 45 0x01) (refuses 5 44)
    -- kind 2: r to 3
    ∷ case 640 (set other_registers 46 0x04) (refuses 5 44)
    -- kind 3: v below V
    ∷ case 640 (set other_registers 53 0x02) (refuses 5 52)
    -- kind 3: the zero byte
    ∷ case 640 (set other_registers 54 0x01) (refuses 5 52)
    -- an instruction cut off
    ∷ case 640 cut (refuses 6 10)
    -- is refused as such, whatever it holds
    ∷ case 640 cut_unknown (refuses 6 10)
    -- a bad operation before an instruction cut off wins
    ∷ case 640 (set (set (take 16 p1) 1 14) 10 0x0A) (refuses 4 10)
    -- a byte left over
    ∷ case 640 left_over (refuses 6 45)
    -- the first of two bytes left over
    ∷ case 640 (set (p1 ++ (0x00 ∷ 0x00 ∷ [])) 1 45) (refuses 6 45)
    -- a bad clause before a byte left over wins
    ∷ case 640 (set left_over 41 0x04) (refuses 5 41)
    -- V is not there
    ∷ case 640 (set (take 6 p1) 1 4) (refuses 6 6)
    -- an initial value is not there
    ∷ case 640 (set (take 8 p1) 1 6) (refuses 6 8)
    -- n of the second thread is not there
    ∷ case 640 (set (take 18 p1) 1 16) (refuses 6 18)
    -- the flag is not there
    ∷ case 640 (set (take 27 p1) 1 25) (refuses 6 27)
    -- K is not there
    ∷ case 640 (set (take 28 p1) 1 26) (refuses 6 28)
    -- with flag 1 too
    ∷ case 640 (set (take 28 p3) 1 26) (refuses 6 28)
    -- the first clause is not there, though K counts it
    ∷ case 640 (set (take 29 p1) 1 27) (refuses 6 29)
    -- a clause cut off
    ∷ case 640 (set (take 43 p1) 1 41) (refuses 6 41)
    -- a clause cut off is refused as such, whatever its kind
    ∷ case 640 (set (set (take 43 p1) 1 41) 41 0x04) (refuses 6 41)
    -- a bad clause before one cut off wins
    ∷ case 640 (set (set (take 43 p1) 1 41) 29 0x04) (refuses 5 29)
    -- and those of requests 7 and 10
    ∷ (group_pins ++ width_pins)

-- The numbers that 01 and requests 2 and 10 say outright.
pub numbers_are : (longest_thread ≡ 64) × (longest_file One ≡ 1109) × (longest_file Two ≡ 1389) × (slot_size ≡ 152) × (step_bound ≡ 36) × (most_slots ≡ 65536)
numbers_are = (refl, refl, refl, refl, refl, refl)

-- a state with another number in each part
unfoldable pub each_apart : State
each_apart =
    record {
      places = 1 ∷ 2 ∷ 3 ∷ 4 ∷ [];
      registers = 0x100A ∷ 11 ∷ 12 ∷ 13 ∷ 14 ∷ 15 ∷ 16 ∷ 17 ∷ 18 ∷ 19 ∷ 20 ∷ 21 ∷ 22 ∷ 23 ∷ 24 ∷ 25 ∷ [];
      memory = 30 ∷ 31 ∷ 32 ∷ 33 ∷ 34 ∷ 35 ∷ 36 ∷ 0xFF25 ∷ [];
      buffers = replicate 4 empty_buffer;
    }

-- "4 places, 32 register bytes, 16 memory bytes", registers thread by thread, values big-endian
pub parts_are :
    (register 1 2 each_apart ≡ 16)
    × (take 52 (slot_bytes each_apart)
    ≡ (1 ∷ 2 ∷ 3 ∷ 4 ∷ [])
    ++ (0x10 ∷ 0x0A ∷ 0 ∷ 11 ∷ 0 ∷ 12 ∷ 0 ∷ 13 ∷ 0 ∷ 14 ∷ 0 ∷ 15 ∷ 0 ∷ 16 ∷ 0 ∷ 17 ∷ 0 ∷ 18 ∷ 0 ∷ 19 ∷ 0 ∷ 20 ∷ 0 ∷ 21 ∷ 0 ∷ 22 ∷ 0 ∷ 23 ∷ 0 ∷ 24 ∷ 0 ∷ 25 ∷ [])
    ++ (0 ∷ 30 ∷ 0 ∷ 31 ∷ 0 ∷ 32 ∷ 0 ∷ 33 ∷ 0 ∷ 34 ∷ 0 ∷ 35 ∷ 0 ∷ 36 ∷ 0xFF ∷ 0x25 ∷ []))
unfolding each_apart register slot_bytes buffers_bytes buffer_bytes entry_bytes word_bytes
parts_are = (refl, refl)
