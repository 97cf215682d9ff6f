-- The bound: rows put one by one while slots are left are the first N of those that would be added.
use Rattle.std.specs.Prelude.{◌≡◌, refl, Bool, ℕ, ◌≤◌, ◌<◌, leb, ltb, take}
use Rattle.std.proofs.Math.Path.{sym}
use Rattle.std.proofs.Common.{◌∙◌, leb-true, leb-false, le-ltb, lt-ltb, take_all, take_at}
use Rattle.std.proofs.Math.Bool.{true, false}
use mathlib.Core.List.{List, [], ◌∷◌, ◌++◌, append_assoc, append-nil}
use native.Mathlib.Omega.{arith}
use Rattle.std.proofs.Math.ListN.{length, length-append}
use Rattle.reach.specs.Searchable.{Searchable}
use Rattle.reach.specs.Rows.{Row, Met, known, keep, keep_new, put_unless, put, put_all}
use Rattle.reach.proofs.PutLaws.{put_all_full}
use Rattle.reach.specs.Growth.{add_unless, add, add_all}

module _ (E : Searchable) where
  -- what is added stands behind what was there
  add_behind : (rows cs : List (Row E.system.State)) → (more : List (Row E.system.State)) × (add_all E rows cs ≡ rows ++ more)
  unfolding add_all add add_unless
  add_behind rows [] = ([], sym (append-nil rows))
  add_behind rows (c ∷ cs) = one (known E c.state rows) (λ l. add_behind l cs)
    where
      one :
          (b : Bool) → ((l : List (Row E.system.State)) → (more : List (Row E.system.State)) × (add_all E l cs ≡ l ++ more)) →
          (more : List (Row E.system.State)) × (add_all E (add_unless E.system c rows b) cs ≡ rows ++ more)
      one true again = again rows
      one false again = let r = again (rows ++ (c ∷ [])) in ((c ∷ []) ++ r.0, r.1 ∙ append_assoc rows (c ∷ []) r.0)

module _ (E : Searchable) (N : ℕ) where
  -- the rows are the first N, and one was left out exactly when there are more
  abbrev Kept : List (Row E.system.State) → Met E.system.State
  Kept rows = record { rows = take N rows; full = ltb N (length rows) }

  kept_all : (rows : List (Row E.system.State)) → length rows ≤ N → record { rows = rows; full = false } ≡ Kept rows
  kept_all rows h = λ i. record { rows = sym (take_all N rows h) i; full = sym (le-ltb N (length rows) h) i }

  pub put_all_kept :
      (rows cs : List (Row E.system.State)) → length rows ≤ N →
      put_all E N (record { rows = rows; full = false }) cs ≡ record { rows = take N (add_all E rows cs); full = ltb N (length (add_all E rows cs)) }
  unfolding put_all put put_unless keep keep_new add_all add add_unless
  put_all_kept rows [] h = kept_all rows h
  put_all_kept rows (c ∷ cs) h = one (known E c.state rows) (λ l. put_all_kept l cs)
    where
      full : N ≤ length rows → record { rows = rows; full = true } ≡ Kept (add_all E (rows ++ (c ∷ [])) cs)
      full n =
          let r = add_behind E (rows ++ (c ∷ [])) cs in
          let e : length rows ≡ N = omega arith in
          let a : add_all E (rows ++ (c ∷ [])) cs ≡ rows ++ ((c ∷ []) ++ r.0) = r.1 ∙ append_assoc rows (c ∷ []) r.0 in
          let more : N < length (rows ++ ((c ∷ []) ++ r.0)) = omega (arith, length-append rows ((c ∷ []) ++ r.0)) in
          rw a (λ i. record { rows = sym (take_at rows ((c ∷ []) ++ r.0) N e) i; full = sym (lt-ltb N (length (rows ++ ((c ∷ []) ++ r.0))) more) i })

      room :
          (b : Bool) → leb N (length rows) ≡ b →
          ((l : List (Row E.system.State)) → length l ≤ N → put_all E N (record { rows = l; full = false }) cs ≡ Kept (add_all E l cs)) →
          put_all E N (keep E.system N c rows b) cs ≡ Kept (add_all E (rows ++ (c ∷ [])) cs)
      room true e again = put_all_full E N (record { rows = rows; full = true }) cs refl ∙ full (leb-true N (length rows) e)
      room false e again =
          again (rows ++ (c ∷ [])) (omega (arith, leb-false N (length rows) e, length-append rows (c ∷ [])))

      one :
          (b : Bool) →
          ((l : List (Row E.system.State)) → length l ≤ N → put_all E N (record { rows = l; full = false }) cs ≡ Kept (add_all E l cs)) →
          put_all E N (keep_new E.system N c rows b) cs ≡ Kept (add_all E (add_unless E.system c rows b) cs)
      one true again = again rows h
      one false again = room (leb N (length rows)) refl again
