-- Along a chain, and the index with one slot more.
use Rattle.std.specs.Prelude.{◌≡◌, List, ◌++◌, ℕ, suc, ◌+◌, ◌*◌, ◌≤◌, ◌<◌, length, get_or, set, take}
use Rattle.std.proofs.Math.Path.{sym, ap}
use Rattle.std.proofs.Common.{subst, ◌∙◌, append_assoc, arith, mul-suc, mul-le-mul_left, length-set, get_or-set_same, get_or-set_other, take-add}
use Rattle.std.proofs.Math.Decide.{ℕ_discrete}
use Rattle.std.proofs.Math.ListN.{drop}
use Rattle.std.proofs.Math.Seq.{length-take-le, take_at, drop_at, take-take}
use Rattle.reach.specs.ListLaws.{append_equal}
use Rattle.lent.specs.Parts.{slot_at, with_slot}
use Rattle.chains.specs.Sums.{chain_of, chain_below}
use Rattle.chains.specs.Chains.{On, here, behind, Indexed, entered, Cleared}

-- a slot that is counted lies in the table
pub slot_room : (size i count n : ℕ) → i < count → size * count ≤ n → size * i + size ≤ n
slot_room size i count n below fits = omega (arith, mul-suc size i, mul-le-mul_left size below)

-- a slot written behind the counted ones leaves them as they were
module _ (size : ℕ) (table : List ℕ) (count : ℕ) (bytes : List ℕ) (sized : length bytes ≡ size) (room : size * count + size ≤ length table) where
  front : List ℕ
  front = take (size * count) table

  front_number : length front ≡ size * count
  unfolding front
  front_number = length-take-le (size * count) table (omega arith)

  pub slot_here : slot_at size (with_slot size table count bytes) count ≡ bytes
  unfolding with_slot front
  slot_here =
      ap (take size) (ap (drop (size * count)) (append_assoc front bytes (drop (size * count + size) table)) ∙ drop_at front (bytes ++ drop (size * count + size) table) (size * count) front_number)
      ∙ take_at bytes (drop (size * count + size) table) size sized

  same_front : (n : ℕ) → n ≤ size * count → take n (with_slot size table count bytes) ≡ take n table
  unfolding with_slot front
  same_front n h =
      let all = with_slot size table count bytes in
      sym (take-take n (size * count) all h)
      ∙ ap (take n) (ap (take (size * count)) (append_assoc front bytes (drop (size * count + size) table)) ∙ take_at front (bytes ++ drop (size * count + size) table) (size * count) front_number)
      ∙ take-take n (size * count) table h

  pub slot_before : (i : ℕ) → i < count → slot_at size (with_slot size table count bytes) i ≡ slot_at size table i
  slot_before i below =
      let all = with_slot size table count bytes in
      let within = slot_room size i count (size * count) below (omega arith) in
      let fronts = same_front (size * i) (omega (arith, within)) in
      let both = sym (take-add (size * i) size all) ∙ same_front (size * i + size) within ∙ take-add (size * i) size table in
      (append_equal (take (size * i) all) (take (size * i) table) (take size (drop (size * i) all)) (take size (drop (size * i) table)) (ap length fronts) both).1

-- none is on the chain behind 0
pub none_on : (index : List ℕ) (width i : ℕ) → On index width i 0 → ⊥
none_on index width i (here n e) = absurd (omega (arith, e))
none_on index width i (behind n k e on) = absurd (omega (arith, e))

-- what is on the chain of slot k and is another slot is on the rest
pub on_behind : (index : List ℕ) (width k i : ℕ) → On index width i (suc k) → ¬ (i ≡ k) → On index width i (get_or index (width + k) 0)
on_behind index width k i (here number e) other = absurd (other (omega (arith, e)))
on_behind index width k i (behind number j e on) other =
    let same : j ≡ k = omega (arith, e) in
    subst (λ n. On index width i (get_or index (width + n) 0)) same on

-- an index of no slot
pub indexed_none : (size : ℕ) (table index : List ℕ) (width : ℕ) → Cleared index width → Indexed size table index width 0
indexed_none size table index width cleared =
    record {
      firsts = λ c h. omega (arith, cleared c h);
      befores = λ k h. absurd (omega arith);
      found = λ i h. absurd (omega arith);
    }

module _ (size : ℕ) (table index : List ℕ) (width count c : ℕ) (h : Indexed size table index width count) (below : c < width) (room : width + count < length index) where
  abbrev more : List ℕ
  more = entered index width c count

  -- what the new index holds: the newest slot at its chain, the one before it behind, and else what stood there
  more_first : get_or more c 0 ≡ suc count
  more_first = get_or-set_same (set index (width + count) (get_or index c 0)) c (suc count) 0 (omega (arith, length-set index (width + count) (get_or index c 0)))

  more_before : get_or more (width + count) 0 ≡ get_or index c 0
  more_before =
      get_or-set_other (set index (width + count) (get_or index c 0)) c (width + count) (suc count) 0 (λ e. omega (arith, e, below))
      ∙ get_or-set_same index (width + count) (get_or index c 0) 0 room

  more_other : (p : ℕ) → ¬ (p ≡ c) → ¬ (p ≡ width + count) → get_or more p 0 ≡ get_or index p 0
  more_other p n m =
      get_or-set_other (set index (width + count) (get_or index c 0)) c p (suc count) 0 n
      ∙ get_or-set_other index (width + count) p (get_or index c 0) 0 m

  -- slots that were on a chain still are
  on_more : (i number : ℕ) → number ≤ count → On index width i number → On more width i number
  on_more i number few (here n e) = here number e
  on_more i number few (behind n k e on) =
      let same = more_other (width + k) (λ q. omega (arith, q, below)) (λ q. omega (arith, q, e)) in
      behind number k e
      (subst (On more width i) (sym same) (on_more i (get_or index (width + k) 0) (omega (arith, h.befores k (omega (arith, e)), e)) on))

  -- on whatever chain
  on_chain : (d i : ℕ) → d < width → On index width i (get_or index d 0) → On more width i (get_or more d 0)
  on_chain d i inside on = which (ℕ_discrete d c)
    where
      on' : On more width i (get_or index d 0)
      on' = on_more i (get_or index d 0) (h.firsts d inside) on

      which : Dec (d ≡ c) → On more width i (get_or more d 0)
      which (yes e) =
          behind (get_or more d 0) count (ap (λ z. get_or more z 0) e ∙ more_first)
          (subst (On more width i) (sym (more_before ∙ ap (λ z. get_or index z 0) (sym e))) on')
      which (no n) = subst (On more width i) (sym (more_other d n (λ q. omega (arith, q, inside)))) on'

  -- one slot more in the table, and on its chain
  pub indexed_more :
      (bytes t' : List ℕ) → length bytes ≡ size → size * count + size ≤ length table → t' ≡ with_slot size table count bytes →
      c ≡ chain_of bytes width → Indexed size t' more width (suc count)
  indexed_more bytes t' sized fits is chain =
      record {
        firsts = λ d inside. first d inside (ℕ_discrete d c);
        befores = λ k few. before k few (ℕ_discrete k count);
        found = λ i few. find i few (ℕ_discrete i count);
      }
    where
      first : (d : ℕ) → d < width → Dec (d ≡ c) → get_or more d 0 ≤ suc count
      first d inside (yes e) = omega (arith, ap (λ z. get_or more z 0) e ∙ more_first)
      first d inside (no n) = omega (arith, more_other d n (λ q. omega (arith, q, inside)), h.firsts d inside)

      before : (k : ℕ) → k < suc count → Dec (k ≡ count) → get_or more (width + k) 0 ≤ k
      before k few (yes e) = omega (arith, ap (λ z. get_or more (width + z) 0) e ∙ more_before, h.firsts c below, e)
      before k few (no n) =
          let known : k < count = omega (arith, few, n) in
          omega (arith, more_other (width + k) (λ q. omega (arith, q, below)) (λ q. n (omega (arith, q))), h.befores k known)

      find : (i : ℕ) → i < suc count → Dec (i ≡ count) → On more width i (get_or more (chain_of (slot_at size t' i) width) 0)
      find i few (yes e) =
          let there : slot_at size t' i ≡ bytes = ap (λ z. slot_at size z i) is ∙ ap (slot_at size (with_slot size table count bytes)) e ∙ slot_here size table count bytes sized fits in
          here (get_or more (chain_of (slot_at size t' i) width) 0) (ap (λ z. get_or more (chain_of z width) 0) there ∙ ap (λ z. get_or more z 0) (sym chain) ∙ more_first ∙ ap suc (sym e))
      find i few (no n) =
          let known : i < count = omega (arith, few, n) in
          let there : slot_at size t' i ≡ slot_at size table i = ap (λ z. slot_at size z i) is ∙ slot_before size table count bytes sized fits i known in
          subst (λ z. On more width i (get_or more (chain_of z width) 0)) (sym there)
          (on_chain (chain_of (slot_at size table i) width) i (chain_below (slot_at size table i) width (omega (arith, below))) (h.found i known))
