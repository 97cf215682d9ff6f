-- The bytes of a slot stand for one state: as many as a slot has, each a byte, and two well-formed states with the same bytes are equal.
use Rattle.std.specs.Prelude.{◌≡◌, refl, Bool, true, false, ℕ, ◌+◌, ◌-◌, ◌*◌, ◌≤◌, ◌<◌, replicate}
use Rattle.std.proofs.Math.Path.{sym}
use Rattle.std.proofs.Common.{ap₂, subst, ◌∙◌, arith}
use mathlib.Core.List.{List, [], ◌∷◌, ◌++◌, append_assoc}
use Rattle.std.proofs.Math.ListN.{length, length-append}
use Rattle.std.proofs.lemmas.List.{length-replicate}
use Rattle.reach.specs.Lists.{All}
use Rattle.reach.specs.ListLaws.{all_imp, all_append, all_replicate, all_get_or, append_equal, all_by_get_or}
use Rattle.rules.specs.Limits.{byte_values, word_size, entry_size, most_pending, group_unit, mark_unit, entries_size, buffer_size, slot_size, longest_thread}
use Rattle.rules.specs.State.{Pending, Buffer, State, place}
use Rattle.rules.specs.Job.{Job, width}
use Rattle.rules.specs.Slot.{variable_byte, high, low, word_bytes, entry_bytes, mark_byte, buffer_bytes, buffers_bytes, slot_bytes}
use Rattle.rules.specs.Sound.{Value, JobIn, InOrder, BufferIn, WellFormed}
use Rattle.rules.specs.Step.{newest_group, joined_group}
use Rattle.rules.specs.BufferLaws.{joined_most, groups_most}
use Rattle.rules.specs.Keeps.{Fits, buffer_fits, buffers_fit}
use Rattle.rules.specs.declared.Width.{Width}
use Rattle.rules.specs.declared.Width.TheVariants.{One, Two}
use Rattle.rules.specs.declared.Model.{Model}
use Rattle.rules.specs.declared.Model.TheVariants.{Sc, Tso, Pso}

-- a byte of a slot
abbrev pub Byte : ℕ → Type 0
Byte k = k < byte_values

-- a value of any width has two bytes
wide : (w : Width) (k : ℕ) → Value w k → k < byte_values * byte_values
wide One k h = omega arith
wide Two k h = omega arith

-- two bytes are one value
value_equal : (k l : ℕ) → high k ≡ high l → low k ≡ low l → k ≡ l
value_equal k l h e = omega arith

-- Registers and memory, two bytes each.

pub word_bytes_number : (l : List ℕ) → length (word_bytes l) ≡ word_size * length l
unfolding word_bytes
word_bytes_number [] = refl
word_bytes_number (k ∷ l) = omega (arith, word_bytes_number l)

words_long : (l m : List ℕ) → length l ≡ length m → length (word_bytes l) ≡ length (word_bytes m)
words_long l m e = omega (arith, word_bytes_number l, word_bytes_number m)

word_bytes_equal : (l m : List ℕ) → length l ≡ length m → word_bytes l ≡ word_bytes m → l ≡ m
unfolding word_bytes
word_bytes_equal [] [] n e = refl
word_bytes_equal [] (k ∷ m) n e = absurd (omega arith)
word_bytes_equal (k ∷ l) [] n e = absurd (omega arith)
word_bytes_equal (k ∷ l) (o ∷ m) n e =
    let h : high k ≡ high o = cc in
    let f : low k ≡ low o = cc in
    let r : l ≡ m = word_bytes_equal l m (omega arith) (cc) in
    ap₂ {C = List ℕ} ◌∷◌ (value_equal k o h f) r

word_bytes_values : (w : Width) (l : List ℕ) → All (Value w) l → All Byte (word_bytes l)
unfolding word_bytes
word_bytes_values w [] h = tt
word_bytes_values w (k ∷ l) h = (omega (arith, wide w k h.0), (omega arith, word_bytes_values w l h.1))

-- Equal bytes, equal buffers: the count comes first, and says how many entries follow.

entry_bytes_number : (b : List Pending) → length (entry_bytes b) ≡ entry_size * length b
unfolding entry_bytes
entry_bytes_number [] = refl
entry_bytes_number (p ∷ b) = omega (arith, entry_bytes_number b)

-- a variable byte is group and variable, as long as there are no more variables than a group has room for
abbrev pub Named : Pending → Type 0
Named p = p.variable < group_unit

entry_bytes_equal : (b c : List Pending) → All Named b → All Named c → length b ≡ length c → entry_bytes b ≡ entry_bytes c → b ≡ c
unfolding entry_bytes
entry_bytes_equal [] [] h k n e = refl
entry_bytes_equal [] (q ∷ c) h k n e = absurd (omega arith)
entry_bytes_equal (p ∷ b) [] h k n e = absurd (omega arith)
entry_bytes_equal (p ∷ b) (q ∷ c) h k n e =
    let byte : variable_byte p ≡ variable_byte q = cc in
    let g : p.group ≡ q.group = omega (arith, byte, h.0, k.0) in
    let v : p.variable ≡ q.variable = omega (arith, byte, h.0, k.0) in
    let h_value : high p.value ≡ high q.value = cc in
    let l_value : low p.value ≡ low q.value = cc in
    let value : p.value ≡ q.value = value_equal p.value q.value h_value l_value in
    let r : b ≡ c = entry_bytes_equal b c h.1 k.1 (omega arith) (cc) in
    λ i. record { group = g i; variable = v i; value = value i } ∷ r i

abbrev unused_entries : List Pending → List ℕ
unused_entries b = replicate (entries_size - length (entry_bytes b)) 0

-- a count byte is mark and count, as long as there are no more stores than entries
count_bytes_equal : (m n : Bool) (k l : ℕ) → k ≤ most_pending → l ≤ most_pending → mark_byte m + k ≡ mark_byte n + l → (m ≡ n) × (k ≡ l)
count_bytes_equal true true k l h i e = (refl, omega arith)
count_bytes_equal true false k l h i e = absurd (omega arith)
count_bytes_equal false true k l h i e = absurd (omega arith)
count_bytes_equal false false k l h i e = (refl, omega arith)

-- no more stores than entries, and each to one of the variables
pub record Writable (b : Buffer) : Type 0 where
  pub fits : Fits b
  pub named : All Named b.pending

buffer_bytes_equal : (b c : Buffer) → Writable b → Writable c → buffer_bytes b ≡ buffer_bytes c → b ≡ c
unfolding buffer_bytes
buffer_bytes_equal b c h k e =
    let byte : mark_byte b.marked + length b.pending ≡ mark_byte c.marked + length c.pending = cc in
    let pairs : entry_bytes b.pending ++ unused_entries b.pending ≡ entry_bytes c.pending ++ unused_entries c.pending = cc in
    let count = count_bytes_equal b.marked c.marked (length b.pending) (length c.pending) h.fits k.fits byte in
    let number : length (entry_bytes b.pending) ≡ length (entry_bytes c.pending) =
    omega (arith, count.1, entry_bytes_number b.pending, entry_bytes_number c.pending) in
    let stores =
    entry_bytes_equal b.pending c.pending h.named k.named count.1
    (append_equal (entry_bytes b.pending) (entry_bytes c.pending) (unused_entries b.pending) (unused_entries c.pending) number pairs).0 in
    λ i. record { pending = stores i; marked = count.0 i }

buffer_bytes_number : (b : Buffer) → Fits b → length (buffer_bytes b) ≡ buffer_size
unfolding buffer_bytes
buffer_bytes_number b h =
    let padded = length-append (entry_bytes b.pending) (unused_entries b.pending) in
    omega (arith, padded, length-replicate {A = ℕ} (entries_size - length (entry_bytes b.pending)) 0, entry_bytes_number b.pending)

buffers_bytes_number : (l : List Buffer) → All Fits l → length (buffers_bytes l) ≡ buffer_size * length l
unfolding buffers_bytes
buffers_bytes_number [] h = refl
buffers_bytes_number (b ∷ l) h = simp length-append (omega (arith, buffer_bytes_number b h.0, buffers_bytes_number l h.1))

buffers_bytes_equal : (l m : List Buffer)
    → length l ≡ length m → All Writable l → All Writable m → buffers_bytes l ≡ buffers_bytes m → l ≡ m
unfolding buffers_bytes
buffers_bytes_equal [] [] n h k e = refl
buffers_bytes_equal [] (c ∷ m) n h k e = absurd (omega arith)
buffers_bytes_equal (b ∷ l) [] n h k e = absurd (omega arith)
buffers_bytes_equal (b ∷ l) (c ∷ m) n h k e =
    let number = buffer_bytes_number b h.0.fits ∙ sym (buffer_bytes_number c k.0.fits) in
    let parts = append_equal (buffer_bytes b) (buffer_bytes c) (buffers_bytes l) (buffers_bytes m) number e in
    ap₂ {C = List Buffer} ◌∷◌ (buffer_bytes_equal b c h.0 k.0 parts.0) (buffers_bytes_equal l m (omega arith) h.1 k.1 parts.1)

entry_bytes_values : (w : Width) (b : List Pending) → All (λ p. Byte (variable_byte p)) b → All (λ p. Value w p.value) b → All Byte (entry_bytes b)
unfolding entry_bytes
entry_bytes_values w [] h k = tt
entry_bytes_values w (p ∷ b) h k =
    (h.0, (omega (arith, wide w p.value k.0), (omega arith, entry_bytes_values w b h.1 k.1)))

-- groups are counted from 0, so there are no more than stores
pub groups_few : (m : Model) (b : List Pending) → InOrder m b → length b ≤ most_pending → All (λ p. p.group < most_pending) b
groups_few Sc b h few = subst (All (λ p. p.group < most_pending)) (sym h) tt
groups_few Tso b h few = all_imp _ _ (λ p e. omega (arith, e)) b h
groups_few Pso b h few = all_imp _ _ (λ p l. omega (arith, l, few)) b (groups_most 0 b h.1)

both_all : {A : Type 0} (P Q R : A → Type 0) → ((a : A) → P a → Q a → R a) → (l : List A) → All P l → All Q l → All R l
both_all P Q R f [] h k = tt
both_all P Q R f (a ∷ l) h k = (f a h.0 k.0, both_all P Q R f l h.1 k.1)

newest_few : (n g : ℕ) (b : List Pending) → g < n → All (λ p. p.group < n) b → newest_group g b < n
unfolding newest_group
newest_few n g [] low h = low
newest_few n g (p ∷ b) low h = newest_few n p.group b h.0 h.1

mark_byte_most : (m : Bool) → mark_byte m ≤ mark_unit
mark_byte_most true = omega arith
mark_byte_most false = omega arith

module _ (j : Job) (ok : JobIn j) where
  pub buffer_writable : (b : Buffer) → BufferIn j b → Writable b
  buffer_writable b h =
      record {
        fits = buffer_fits j ok b h;
        named = all_imp _ _ (λ p k. omega (arith, k, ok.variables_most)) b.pending h.variables;
      }

  -- so the group that a store joins has room in its byte
  pub group_fits : (b : Buffer) → BufferIn j b → joined_group b < group_unit
  group_fits b h =
      let newest =
      newest_few most_pending 0 b.pending (omega arith) (groups_few j.model b.pending h.order (buffer_fits j ok b h)) in
      omega (arith, newest, (joined_most b).1)

  pub buffers_writable : (x : State) → WellFormed j x → All Writable x.buffers
  buffers_writable x w = all_imp (BufferIn j) Writable buffer_writable x.buffers w.buffers

  buffer_bytes_values : (b : Buffer) → BufferIn j b → All Byte (buffer_bytes b)
  unfolding buffer_bytes
  buffer_bytes_values b h =
      let few = groups_few j.model b.pending h.order (buffer_fits j ok b h) in
      let bytes =
      both_all _ _ (λ p. Byte (variable_byte p)) (λ p g v. omega (arith, g, v, ok.variables_most)) b.pending few h.variables in (
        omega (arith, buffer_fits j ok b h, mark_byte_most b.marked),
        all_append Byte (entry_bytes b.pending) _
            (entry_bytes_values (width j) b.pending bytes h.values_in)
            (all_replicate Byte (entries_size - length (entry_bytes b.pending)) 0 (omega arith)),
      )

  buffers_bytes_values : (l : List Buffer) → All (BufferIn j) l → All Byte (buffers_bytes l)
  unfolding buffers_bytes
  buffers_bytes_values [] h = tt
  buffers_bytes_values (b ∷ l) h =
      all_append Byte (buffer_bytes b) (buffers_bytes l) (buffer_bytes_values b h.0) (buffers_bytes_values l h.1)

  pub slot_bytes_number : (x : State) → WellFormed j x → length (slot_bytes x) ≡ slot_size
  unfolding slot_bytes
  slot_bytes_number x w =
      simp length-append
      (omega (arith, word_bytes_number x.registers, word_bytes_number x.memory, buffers_bytes_number x.buffers (buffers_fit j ok x w)))

  place_value : (x : State) → WellFormed j x → (t : ℕ) → Byte (place t x)
  place_value x w t =
      let short = all_get_or (λ code. length code ≤ longest_thread) j.threads t [] ok.lengths (omega arith) in
      omega (arith, w.places t)

  pub slot_bytes_values : (x : State) → WellFormed j x → All Byte (slot_bytes x)
  unfolding slot_bytes place
  slot_bytes_values x w =
      let registers = word_bytes_values (width j) x.registers w.registers in
      let memory = word_bytes_values (width j) x.memory w.memory in
      let front = all_append Byte x.places (word_bytes x.registers) (all_by_get_or Byte x.places 0 (place_value x w)) registers in
      let cells = all_append Byte (x.places ++ word_bytes x.registers) (word_bytes x.memory) front memory in
      let buffers = buffers_bytes_values x.buffers w.buffers in
      all_append Byte (x.places ++ word_bytes x.registers ++ word_bytes x.memory) (buffers_bytes x.buffers) cells buffers

  pub slot_bytes_equal : (x y : State) → WellFormed j x → WellFormed j y → slot_bytes x ≡ slot_bytes y → x ≡ y
  unfolding slot_bytes
  slot_bytes_equal x y u w e =
      let p = append_equal x.places y.places _ _ (u.places_number ∙ sym w.places_number) (simp append_assoc at e) in
      let registers_long = u.registers_number ∙ sym w.registers_number in
      let memory_long = u.memory_number ∙ sym w.memory_number in
      let r = append_equal (word_bytes x.registers) (word_bytes y.registers) _ _ (words_long _ _ registers_long) p.1 in
      let m = append_equal (word_bytes x.memory) (word_bytes y.memory) _ _ (words_long _ _ memory_long) r.1 in
      let registers = word_bytes_equal x.registers y.registers registers_long r.0 in
      let memory = word_bytes_equal x.memory y.memory memory_long m.0 in
      let n = u.buffers_number ∙ sym w.buffers_number in
      let b = buffers_bytes_equal x.buffers y.buffers n (buffers_writable x u) (buffers_writable y w) m.1 in
      λ i. record { places = p.0 i; registers = registers i; memory = memory i; buffers = b i }
