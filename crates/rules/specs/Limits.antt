-- The numbers of 01, as the requests that have landed have them, each named once.
use Rattle.std.specs.Prelude.{cond, ℕ, ◌+◌, ◌*◌, eqb}
use Rattle.rules.specs.declared.Width.{Width}
use Rattle.rules.specs.declared.Width.TheVariants.{One, Two}

-- "T threads (1 to 4), V shared variables (1 to 8), 4 registers a thread"
abbrev pub most_threads : ℕ
most_threads = 4

abbrev pub most_variables : ℕ
most_variables = 8

abbrev pub registers_each : ℕ
registers_each = 4

-- the values of a byte
abbrev pub byte_values : ℕ
byte_values = 256

-- n is 0 to 64: request 2, "Threads are too short", in place of 01's "A thread has n instructions (0 to 32)"
abbrev pub longest_thread : ℕ
longest_thread = 64

-- "TSO (model 1, C is 1 to 8)", "PSO (model 2, C is 1 to 8)"
abbrev pub most_pending : ℕ
most_pending = 8

-- K is 1 to 16: "K at most 16"; request 8, "A blank goal must be refused", in place of 01's "K = 0 is allowed"
abbrev pub fewest_clauses : ℕ
fewest_clauses = 1

abbrev pub most_clauses : ℕ
most_clauses = 16

-- "version | 1 | 1"; requests 7 and 10
abbrev pub first_version : ℕ
first_version = 1

-- the version that brought CMPX and WFENCE
abbrev pub second_version : ℕ
second_version = 2

-- request 10, "Job version 3"; "refusal 2 now means none of the three"
abbrev pub third_version : ℕ
third_version = 3

abbrev pub last_version : ℕ
last_version = third_version

-- Request 10: "The width is a property of the version (256 values or 65,536)". A byte that is no version has the width of the first two.
abbrev pub width_of : (version : ℕ) → Width
width_of version = cond (eqb version third_version) Two One

-- bytes of a value
abbrev pub value_size : Width → ℕ
value_size One = 1
value_size Two = 2

-- "all values 0 to 255", "ADD works mod 65,536"
abbrev pub values : Width → ℕ
values One = byte_values
values Two = byte_values * byte_values

-- bytes of an instruction or a clause: "op, a, b, then k"; "four bytes", in version 3 "five"
abbrev pub item_size : Width → ℕ
item_size w = 3 + value_size w

-- "Length first", then the version: "fewer than 3 bytes" are none of a job
abbrev pub length_size : ℕ
length_size = 2

abbrev pub shortest_file : ℕ
shortest_file = length_size + 1

-- length, version, and model, C, T, V: the initial values stand behind them
abbrev pub head_size : ℕ
head_size = shortest_file + 4

-- "The longest file of version 3 is 1,389 bytes", of the others 1,109: the head, the variables, the threads, flag, K, the clauses
abbrev pub longest_file : Width → ℕ
longest_file w =
    head_size + value_size w * most_variables + most_threads * (1 + item_size w * longest_thread) + 1 + 1 + item_size w * most_clauses

abbrev pub all_registers : ℕ
all_registers = most_threads * registers_each

-- request 7: "a pending store's variable byte gains 16 times its group number", "The count byte gains 128 while a WFENCE stands after the newest store"
abbrev pub group_unit : ℕ
group_unit = 16

abbrev pub mark_unit : ℕ
mark_unit = 128

-- Request 10: "The slot becomes 152 bytes for all versions: 4 places, 32 register bytes, 16 memory bytes, and 25 bytes a thread with three-byte pending
-- entries, values big-endian"
abbrev pub word_size : ℕ
word_size = value_size Two

abbrev pub registers_size : ℕ
registers_size = word_size * all_registers

abbrev pub memory_size : ℕ
memory_size = word_size * most_variables

abbrev pub entry_size : ℕ
entry_size = 1 + word_size

abbrev pub entries_size : ℕ
entries_size = entry_size * most_pending

abbrev pub buffer_size : ℕ
buffer_size = 1 + entries_size

abbrev pub slot_size : ℕ
slot_size = most_threads + registers_size + memory_size + most_threads * buffer_size

-- "t (0 to 3) executes one instruction of thread t; 4 + 8t + v flushes thread t's store to v": step numbers end before 36
abbrev pub step_bound : ℕ
step_bound = most_threads + most_threads * most_variables

-- "N is the smallest of table bytes / 152 rounded down, links, schedule bytes, and 65,536"
abbrev pub most_slots : ℕ
most_slots = 65536
