-- The worked cases of 01's bench list as one table under one statement about the definitions, P10 and P11 with request 5's reasons and P12 as
-- request 8 has it; and that the rows of `Pins` hold too.
use Rattle.std.specs.Prelude.{List, [], ◌∷◌, T, set}
use Rattle.reach.specs.Replay.{stuck, at_end, replay_from, replay}
use Rattle.reach.specs.Rows.{start_row, offer_of, offer, offers_below, offers, known, goal_row, keep, keep_new, put_unless, put, put_all}
use Rattle.reach.specs.Rows.{outcome, by_goal, by_rest, by_room, levels, find}
use Rattle.rules.specs.State.{place, register, variable, buffer, with_place, with_register, with_variable, with_buffer}
use Rattle.rules.specs.Job.{start}
use Rattle.rules.specs.Kinds.{control_of, wait_of, role_of}
use Rattle.rules.specs.Step.{newest, stands_before, in_its_place, newest_group, joined_group, lowered, counted, flushed_buffer, marked_buffer, grouped, is_in_oldest_group, oldest_to, without_oldest_to, is_empty, has_room, free, may_execute, is_pending_to}
use Rattle.rules.specs.Step.{is_oldest_to, may_flush, carried, stored, changed, place_after, executed, flushed, instruction_at}
use Rattle.rules.specs.Step.{flush_thread, flush_variable, has_thread, has_variable, may_execute_of, may_flush_of, may, after_execute, after, step, enabled_below, enabled}
use Rattle.rules.specs.Goal.{every, clause_holds, goal}
use Rattle.rules.specs.File.{read_on, ◌>>=◌, done, times, judged, byte, item, field, model_of, in_range, capacity_of, register_ok, zero_ok, from_second, value, initial_value}
use Rattle.rules.specs.File.{instruction_of, instruction, thread, flag_of, clause_of, clause, ended, fields, length_ok}
use Rattle.rules.specs.File.{decoded, decode}
use Rattle.rules.specs.Same.{same_list, same_pending, same_mark, same_buffer, same_state}
use Rattle.rules.specs.Fences.{onward, onward_at, successors, role_at, fenced, open_at}
use Rattle.rules.specs.FenceCheck.{role_number, same_role, passes, move, targets_below, landings, found, leads, or_else, first_below, store_test, load_test, open_loads, open_stores}
use Rattle.rules.specs.FenceCheck.{open_threads, fence_answer, fence_check}
use Rattle.rules.specs.Jobs.{p1, p2, p3, p4, p5, p6, p7, p8, p9, p10, p12, p12_drained, p9_sc, p9_sc_drained, p2_drained, no_instruction, waits_apart, three_to_one, own_newest, fence_waits, exchange, jump_over, either_order, oldest_first, stored_register, exchange_between, ends_and_moves, back_around, past_a_load, next_of_two, over_a_fence}
use Rattle.rules.specs.Jobs.{in_memory, other_registers, widest, eight_sets, sixty_four_sets, sixty_four, sixty_five, next_door, fifty_one, jumps_down, down_the_stairs, four_clauses, full_thread, fullest, too_long, cut, cut_unknown, left_over}
use Rattle.rules.specs.Jobs.{two_lengths, lengths_turned, nine_stores, behind_a_jump, down_to_a_store, parked_store, two_stores_open, two_threads_open, last_thread_open, last_of_all, third_drains, highest_values, round_to_zero, each_reason, each_reason_sc, each_reason_pso}
use Rattle.rules.specs.Slot.{word_bytes, entry_bytes, buffer_bytes, buffers_bytes, slot_bytes}
use Rattle.rules.specs.Jobs.{set_0, add_0, load_x, store_r, store_x, fence, xchg_x, jeq_to, jmp_to, one_after_another, alone}
use Rattle.rules.specs.Claims.{search_reaches, search_never, search_unknown, fences_say, replay_says, refuses, Case, case, answer_reaches, answer_never, answer_unknown, same_fenced, same_replayed, same_withheld, same_end, in_turn_test, after_test, claim_test, refusal_test, decoded_test, case_test}
use Rattle.rules.specs.GroupPins.{group_pins}
use Rattle.rules.specs.WidthPins.{width_pins}
use Rattle.rules.specs.WidthJobs.{wide, in_version_three, wide_sums, wide_stores, wide_jumps, wide_compares, wide_goal, one_wide, wide_thread, wide_fullest, blank_file}
use Rattle.rules.specs.GroupJobs.{store, cmpx, wfence, load, threads_of, filed, in_version_two, low_bytes, filled, wide_slot, alone_slot}
use Rattle.rules.specs.GroupJobs.{cmpx_twice, cmpx_zero, cmpx_of_others, cmpx_waits, cmpx_race, wfence_first, wfence_twice, wfence_between, wfence_outlives, wfence_sorted, three_groups, eight_groups, message_passing, wfence_no_fence, cmpx_fence, cmpx_no_store, cmpx_no_load, wfence_no_load, wfence_no_store}
use Rattle.rules.specs.Pins.{p1_schedules, p1_links, count_up, no_steps, pins}
use Rattle.rules.specs.declared.Reason.TheVariants.{NoSuchStep, BufferFull}

-- slots, job, and what 01's list says of it: all of the list but its last lines (RELEASE and HOLD are in `verdict`), and nothing else but the
-- reasons of P10 and P11, which request 5 adds, P12 as request 8 has it, and `00 01 02` as request 7 has it
unfoldable pub table : List Case
table =
    -- P1
    case 640 p1 (search_reaches 22 (0x00 ∷ 0x00 ∷ 0x01 ∷ 0x01 ∷ []))
    -- P1 with 22 slots: the same answer
    ∷ case 22 p1 (search_reaches 22 (0x00 ∷ 0x00 ∷ 0x01 ∷ 0x01 ∷ []))
    -- with 21: unknown
    ∷ case 21 p1 search_unknown
    -- OPEN 0 0 1
    ∷ case 640 p1 (fences_say (open_at 0 0 1))
    -- P2: unreachable, 13 states
    ∷ case 640 p2 (search_never 13)
    -- P3: 6 steps `00 00 01 01 04 0D`, 34 states
    ∷ case 640 p3 (search_reaches 34 (0x00 ∷ 0x00 ∷ 0x01 ∷ 0x01 ∷ 0x04 ∷ 0x0D ∷ []))
    -- P4: unreachable, 5 states
    ∷ case 640 p4 (search_never 5)
    -- P5: 2 steps, 3 states
    ∷ case 640 p5 (search_reaches 3 (0x00 ∷ 0x00 ∷ []))
    -- P6: `00 00 05 01 01`; here and up to P9 the counts (25, 20, 23, 31) are not 01's, but worked by a checker written apart
    ∷ case 640 p6 (search_reaches 25 (0x00 ∷ 0x00 ∷ 0x05 ∷ 0x01 ∷ 0x01 ∷ []))
    -- P7: unreachable
    ∷ case 640 p7 (search_never 20)
    -- P8: unreachable
    ∷ case 640 p8 (search_never 23)
    -- P9: FENCED, unreachable
    ∷ case 640 p9 (fences_say fenced)
    ∷ case 640 p9 (search_never 31)
    -- P10: replay `00 00` is stuck at 1; request 5 adds why, here and at P11
    ∷ case 640 p10 (replay_says (0x00 ∷ 0x00 ∷ []) (stuck 1 BufferFull))
    -- P11: replay `24` is stuck at 0
    ∷ case 640 p10 (replay_says (0x24 ∷ []) (stuck 0 NoSuchStep))
    -- P12: "K = 0 is refusal 5 at K's offset" (request 8)
    ∷ case 640 p12 (refuses 5 28)
    -- "whatever the flag": with flag 1
    ∷ case 640 p12_drained (refuses 5 28)
    -- Empty input: REFUSED 1 0
    ∷ case 640 [] (refuses 1 0)
    -- `00 01 02`: REFUSED 6 3 (request 7)
    ∷ case 640 (0x00 ∷ 0x01 ∷ 0x02 ∷ []) (refuses 6 3)
    -- `00 01 01`: REFUSED 6 3
    ∷ case 640 (0x00 ∷ 0x01 ∷ 0x01 ∷ []) (refuses 6 3)
    -- P1 with byte 10 set to 0A: REFUSED 4 10
    ∷ case 640 (set p1 10 0x0A) (refuses 4 10)
    ∷ []

-- both lists, computed
pub computed : T (every case_test table) × T (every case_test pins)
unfolding every case_test table pins group_pins width_pins wide_slot wide in_version_three wide_sums wide_stores wide_jumps wide_compares wide_goal one_wide wide_thread wide_fullest blank_file store cmpx wfence load threads_of filed in_version_two low_bytes filled alone_slot cmpx_twice cmpx_zero cmpx_of_others cmpx_waits cmpx_race wfence_first wfence_twice wfence_between wfence_outlives wfence_sorted three_groups eight_groups message_passing wfence_no_fence cmpx_fence cmpx_no_store cmpx_no_load wfence_no_load wfence_no_store p1_schedules p1_links p9_sc p9_sc_drained p2_drained no_instruction same_end in_turn_test after_test two_lengths lengths_turned nine_stores behind_a_jump down_to_a_store parked_store set_0 add_0 load_x store_r store_x fence xchg_x jeq_to jmp_to one_after_another alone two_stores_open two_threads_open last_thread_open last_of_all third_drains highest_values round_to_zero enabled_below enabled word_bytes entry_bytes buffer_bytes buffers_bytes slot_bytes p1 p2 p3 p4 p5 p6 p7 p8 p9 p10 p12 p12_drained waits_apart three_to_one own_newest fence_waits exchange jump_over either_order oldest_first stored_register exchange_between ends_and_moves back_around past_a_load next_of_two over_a_fence in_memory other_registers widest eight_sets sixty_four_sets sixty_four sixty_five next_door fifty_one jumps_down down_the_stairs four_clauses full_thread fullest too_long cut cut_unknown left_over decoded_test claim_test refusal_test answer_reaches answer_never answer_unknown same_fenced same_replayed place register variable buffer with_place with_register with_variable with_buffer same_list same_pending same_mark same_buffer same_state start control_of wait_of newest stands_before in_its_place newest_group joined_group lowered counted flushed_buffer marked_buffer grouped is_in_oldest_group oldest_to without_oldest_to is_empty has_room free may_execute is_pending_to is_oldest_to may_flush carried stored changed place_after executed flushed instruction_at flush_thread flush_variable has_thread has_variable may_execute_of may_flush_of may after_execute after step same_withheld count_up no_steps each_reason each_reason_sc each_reason_pso clause_holds goal start_row offer_of offer offers_below offers known goal_row keep keep_new put_unless put put_all outcome by_goal by_rest by_room levels find decode read_on ◌>>=◌ done times judged byte item field model_of in_range capacity_of register_ok zero_ok from_second value initial_value instruction_of instruction thread flag_of clause_of clause ended fields length_ok decoded onward onward_at successors role_of role_at role_number same_role passes move targets_below landings found leads or_else first_below store_test load_test open_loads open_stores open_threads fence_answer fence_check at_end replay_from replay
computed = (tt, tt)
