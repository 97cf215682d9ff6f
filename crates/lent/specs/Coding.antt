-- A coding of a system's states into slots of one size, and the few laws that a search needs of it.
use Rattle.std.specs.Prelude.{◌≡◌, List, ℕ, ◌≤◌, length}
use Rattle.reach.specs.System.{System}
use Rattle.reach.specs.Searchable.{Searchable}
use Rattle.reach.specs.Meaning.{Reached}

pub record Coding : Type 1 where
  pub searched : Searchable
  pub size : ℕ
  pub bytes : searched.system.State → List ℕ

abbrev pub system : Coding → System
system C = C.searched.system

-- every state that can be reached has as many bytes as a slot, two of them with equal bytes are equal, and a link has room for each step
pub record Faithful (C : Coding) : Type 0 where
  pub sized : (x : (system C).State) → Reached (system C) x → length (C.bytes x) ≡ C.size
  pub apart : (x y : (system C).State) → Reached (system C) x → Reached (system C) y → C.bytes x ≡ C.bytes y → x ≡ y
  pub few_steps : C.searched.bound ≤ 64
