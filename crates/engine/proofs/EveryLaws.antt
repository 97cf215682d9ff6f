-- A test of every element, made from the front on: what is left to test decides while all before it passed.
use mathlib.Core.Path.{◌≡◌, refl, ap}
use mathlib.Core.Bool.{Bool, true, ◌&&◌}
use mathlib.Core.List.{List, [], ◌∷◌, map}
use mathlib.Core.Option.{some}
use Prim.Native.Nat.{ℕ, ◌+◌, ◌≤◌, ◌<◌}
use native.Mathlib.Numerals.{add-one}
use lib.ListN.{length, drop, get_elem?, drop_of_length-le}
use lib.Seq.{drop-cons}
use Rattle.std.specs.List.{list_all}
use Rattle.reach.specs.ListLaws.{at_below, at_get_or}
use Rattle.rules.specs.Goal.{every}

module _ {A : Type 0} (f : A → Bool) (l : List A) (i : ℕ) where
  module _ (x : A) (at : get_elem? l i ≡ some x) where
    first_left : drop i l ≡ x ∷ drop (i + 1) l
    first_left =
        let h : i < length l = at_below l i x at in
        rw (add-one, drop-cons l i x h, at_get_or l i x x at)

    pub test_first : {b : Bool} → f x ≡ b → every f (drop i l) ≡ (b && every f (drop (i + 1) l))
    unfolding every
    test_first e = rw (first_left, e)

  pub tests_end : length l ≤ i → every f (drop i l) ≡ true
  unfolding every
  tests_end h = rw (drop_of_length-le l h)

-- a test of each value that is held, made of what holds it
pub every_held : {A B : Type 0} (f : B → Bool) (g : A → B) (l : List A) → list_all (λ a. f (g a)) l ≡ every f (map g l)
unfolding every
every_held f g [] = refl
every_held f g (a ∷ l) = ap (λ b. f (g a) && b) (every_held f g l)
