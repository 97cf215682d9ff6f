-- Jobs of version 2, for the rows of request 7, and the slots that they lead to.
use Rattle.std.specs.Prelude.{List, [], ◌∷◌, ◌++◌, ℕ, ◌-◌, ◌/◌, ◌%◌, length, replicate}
use Rattle.rules.specs.Jobs.{one_after_another}

-- STOREK k to v; CMPX (r, v, k); WFENCE; LOAD v into r
unfoldable pub store : (v k : ℕ) → List ℕ
store v k = 0x05 ∷ 0x00 ∷ v ∷ k ∷ []

unfoldable pub cmpx : (r v k : ℕ) → List ℕ
cmpx r v k = 0x0A ∷ r ∷ v ∷ k ∷ []

unfoldable pub wfence : List ℕ
wfence = 0x0B ∷ 0x00 ∷ 0x00 ∷ 0x00 ∷ []

unfoldable pub load : (r v : ℕ) → List ℕ
load r v = 0x03 ∷ r ∷ v ∷ 0x00 ∷ []

unfoldable pub threads_of : List (List (List ℕ)) → List ℕ
threads_of [] = []
threads_of (code ∷ rest) = (length code ∷ []) ++ one_after_another code ++ threads_of rest

-- a file from its version to its initial values, its threads, and its goal: the length counts them
unfoldable pub filed : List ℕ → List (List (List ℕ)) → List ℕ → List ℕ
filed head threads goal =
    (length (head ++ threads_of threads ++ goal) / 256 ∷ length (head ++ threads_of threads ++ goal) % 256 ∷ [])
    ++ head
    ++ threads_of threads
    ++ goal

-- version 2, this model, C and initial values: one thread of these; goal thread 0 at place 0
unfoldable pub in_version_two : (model capacity : ℕ) → (initial : List ℕ) → List (List ℕ) → List ℕ
in_version_two model capacity initial code =
    filed ((0x02 ∷ model ∷ capacity ∷ 0x01 ∷ length initial ∷ []) ++ initial) (code ∷ []) (0x00 ∷ 0x01 ∷ 0x01 ∷ 0x00 ∷ 0x00 ∷ 0x00 ∷ [])

-- values below 256, two bytes each
unfoldable pub low_bytes : List ℕ → List ℕ
low_bytes [] = []
low_bytes (k ∷ l) = 0 ∷ k ∷ low_bytes l

-- bytes, and 0 behind them as far as there is room
unfoldable pub filled : ℕ → List ℕ → List ℕ
filled n l = l ++ replicate (n - length l) 0

-- the slot of thread 0 alone at this place: the bytes of its registers, of memory and of its buffer, all as far as they are not 0
unfoldable pub wide_slot : (place : ℕ) → (registers memory buffer : List ℕ) → List ℕ
wide_slot place registers memory buffer =
    (place ∷ 0 ∷ 0 ∷ 0 ∷ []) ++ filled 32 registers ++ filled 16 memory ++ filled 25 buffer ++ replicate 75 0

-- the same with registers and memory below 256
unfoldable pub alone_slot : (place : ℕ) → (registers memory buffer : List ℕ) → List ℕ
alone_slot place registers memory buffer = wide_slot place (low_bytes registers) (low_bytes memory) buffer

-- SC, x is 5: CMPX of register 0, which is 0, then of register 0, which is 5
unfoldable pub cmpx_twice : List ℕ
cmpx_twice =
    in_version_two 0x00 0x00 (0x05 ∷ []) (cmpx 0x00 0x00 0x07 ∷ cmpx 0x00 0x00 0x09 ∷ [])

-- SC, x is 0: CMPX of register 0, which is 0
unfoldable pub cmpx_zero : List ℕ
cmpx_zero =
    in_version_two 0x00 0x00 (0x00 ∷ []) (cmpx 0x00 0x00 0x07 ∷ [])

-- SC, y is 3: SET register 2 to 3, CMPX of register 2 with y to 255
unfoldable pub cmpx_of_others : List ℕ
cmpx_of_others =
    in_version_two 0x00 0x00 (0x00 ∷ 0x03 ∷ []) ((0x01 ∷ 0x02 ∷ 0x00 ∷ 0x03 ∷ []) ∷ cmpx 0x02 0x01 0xFF ∷ [])

-- TSO, C 1, y is 4: x=1, CMPX of register 0 with y to 9, which does not match
unfoldable pub cmpx_waits : List ℕ
cmpx_waits =
    in_version_two 0x01 0x01 (0x00 ∷ 0x04 ∷ []) (store 0x00 0x01 ∷ cmpx 0x00 0x01 0x09 ∷ [])

-- SC: threads 0 and 1 CMPX x from 0, to 1 and to 2; goal both at place 1, x = 2 and register 0 of thread 0 is 0
unfoldable pub cmpx_race : List ℕ
cmpx_race =
    filed (0x02 ∷ 0x00 ∷ 0x00 ∷ 0x02 ∷ 0x01 ∷ 0x00 ∷ []) ((cmpx 0x00 0x00 0x01 ∷ []) ∷ (cmpx 0x00 0x00 0x02 ∷ []) ∷ []) (0x00 ∷ 0x04 ∷ 0x01 ∷ 0x00 ∷ 0x00 ∷ 0x01 ∷ 0x01 ∷ 0x01 ∷ 0x00 ∷ 0x01 ∷ 0x03 ∷ 0x00 ∷ 0x00 ∷ 0x02 ∷ 0x02 ∷ 0x00 ∷ 0x00 ∷ 0x00 ∷ [])

-- PSO, C 1: WFENCE, x=7
unfoldable pub wfence_first : List ℕ
wfence_first =
    in_version_two 0x02 0x01 (0x00 ∷ []) (wfence ∷ store 0x00 0x07 ∷ [])

-- PSO, C 2, 3 variables: x=1, WFENCE, WFENCE, y=2
unfoldable pub wfence_twice : List ℕ
wfence_twice =
    in_version_two 0x02 0x02 (0x00 ∷ 0x00 ∷ 0x00 ∷ []) (store 0x00 0x01 ∷ wfence ∷ wfence ∷ store 0x01 0x02 ∷ [])

-- PSO, C 2: x=1, WFENCE, y=2
unfoldable pub wfence_between : List ℕ
wfence_between =
    in_version_two 0x02 0x02 (0x00 ∷ 0x00 ∷ []) (store 0x00 0x01 ∷ wfence ∷ store 0x01 0x02 ∷ [])

-- PSO, C 2: x=1, y=2, WFENCE, y=3
unfoldable pub wfence_outlives : List ℕ
wfence_outlives =
    in_version_two 0x02 0x02 (0x00 ∷ 0x00 ∷ []) (store 0x00 0x01 ∷ store 0x01 0x02 ∷ wfence ∷ store 0x01 0x03 ∷ [])

-- PSO, C 3: x=1, WFENCE, y=2, x=3
unfoldable pub wfence_sorted : List ℕ
wfence_sorted =
    in_version_two 0x02 0x03 (0x00 ∷ 0x00 ∷ []) (store 0x00 0x01 ∷ wfence ∷ store 0x01 0x02 ∷ store 0x00 0x03 ∷ [])

-- PSO, C 4, 3 variables: y=1, x=2, WFENCE, x=3, WFENCE, z=4, load x into register 0
unfoldable pub three_groups : List ℕ
three_groups =
    in_version_two 0x02 0x04 (0x00 ∷ 0x00 ∷ 0x00 ∷ []) (store 0x01 0x01 ∷ store 0x00 0x02 ∷ wfence ∷ store 0x00 0x03 ∷ wfence ∷ store 0x02 0x04 ∷ load 0x00 0x00 ∷ [])

-- PSO, C 8, 8 variables: each gets its number plus 1, a WFENCE behind each
unfoldable pub eight_groups : List ℕ
eight_groups =
    in_version_two 0x02 0x08 (0x00 ∷ 0x00 ∷ 0x00 ∷ 0x00 ∷ 0x00 ∷ 0x00 ∷ 0x00 ∷ 0x00 ∷ []) (store 0x00 0x01 ∷ wfence ∷ store 0x01 0x02 ∷ wfence ∷ store 0x02 0x03 ∷ wfence ∷ store 0x03 0x04 ∷ wfence ∷ store 0x04 0x05 ∷ wfence ∷ store 0x05 0x06 ∷ wfence ∷ store 0x06 0x07 ∷ wfence ∷ store 0x07 0x08 ∷ wfence ∷ [])

-- PSO, C 2: P6 with a WFENCE between the stores
unfoldable pub message_passing : List ℕ
message_passing =
    0x00 ∷ 0x2B ∷ 0x02 ∷ 0x02 ∷ 0x02 ∷ 0x02 ∷ 0x02 ∷ 0x00 ∷ 0x00
    -- thread 0: x=1, WFENCE, y=1
    ∷ 0x03 ∷ 0x05 ∷ 0x00 ∷ 0x00 ∷ 0x01 ∷ 0x0B ∷ 0x00 ∷ 0x00 ∷ 0x00 ∷ 0x05 ∷ 0x00 ∷ 0x01 ∷ 0x01
    -- thread 1: load y, load x
    ∷ 0x02 ∷ 0x03 ∷ 0x00 ∷ 0x01 ∷ 0x00 ∷ 0x03 ∷ 0x01 ∷ 0x00 ∷ 0x00
    -- any buffers, 3 clauses
    ∷ 0x00 ∷ 0x03 ∷ 0x01 ∷ 0x01 ∷ 0x00 ∷ 0x02 ∷ 0x02 ∷ 0x01 ∷ 0x00 ∷ 0x01 ∷ 0x02 ∷ 0x01 ∷ 0x01 ∷ 0x00
    ∷ []

-- TSO, C 1: x=1, WFENCE, load y
unfoldable pub wfence_no_fence : List ℕ
wfence_no_fence =
    in_version_two 0x01 0x01 (0x00 ∷ 0x00 ∷ []) (store 0x00 0x01 ∷ wfence ∷ load 0x00 0x01 ∷ [])

-- TSO, C 1: x=1, CMPX, load y
unfoldable pub cmpx_fence : List ℕ
cmpx_fence =
    in_version_two 0x01 0x01 (0x00 ∷ 0x00 ∷ []) (store 0x00 0x01 ∷ cmpx 0x00 0x00 0x01 ∷ load 0x00 0x01 ∷ [])

-- TSO, C 1: CMPX, load y
unfoldable pub cmpx_no_store : List ℕ
cmpx_no_store =
    in_version_two 0x01 0x01 (0x00 ∷ 0x00 ∷ []) (cmpx 0x00 0x00 0x01 ∷ load 0x00 0x01 ∷ [])

-- TSO, C 1: x=1, CMPX
unfoldable pub cmpx_no_load : List ℕ
cmpx_no_load =
    in_version_two 0x01 0x01 (0x00 ∷ 0x00 ∷ []) (store 0x00 0x01 ∷ cmpx 0x00 0x00 0x01 ∷ [])

-- TSO, C 1: x=1, WFENCE
unfoldable pub wfence_no_load : List ℕ
wfence_no_load =
    in_version_two 0x01 0x01 (0x00 ∷ 0x00 ∷ []) (store 0x00 0x01 ∷ wfence ∷ [])

-- TSO, C 1: WFENCE, load y
unfoldable pub wfence_no_store : List ℕ
wfence_no_store =
    in_version_two 0x01 0x01 (0x00 ∷ 0x00 ∷ []) (wfence ∷ load 0x00 0x01 ∷ [])
