-- The search on lists as loops see it: one row put, the steps of one state, the states of one level, the first goal.
use Rattle.std.specs.Prelude.{◌≡◌, Bool, leb}
use Rattle.std.proofs.Math.Path.{refl}
use Rattle.std.proofs.Math.Bool.{true, false}
use mathlib.Core.List.{List, [], ◌∷◌}
use Rattle.std.proofs.Math.Option.{some}
use Prim.Native.Nat.{ℕ}
use Rattle.std.proofs.Math.ListN.{length, get_elem?}
use Rattle.reach.specs.ListLaws.{at_left}
use Rattle.reach.specs.Searchable.{Searchable}
use Rattle.reach.specs.Rows.{Row, known, Met, keep, keep_new, put_unless, put, put_all}
use Rattle.reach.specs.PutLaws.{put_when_full}

module _ (E : Searchable) (N : ℕ) where
  -- once a row was left out, nothing changes
  pub put_all_full : (m : Met E.system.State) (cs : List (Row E.system.State)) → m.full ≡ true → put_all E N m cs ≡ m
  unfolding put_all
  put_all_full m [] e = refl
  put_all_full m (c ∷ cs) e = rw (put_when_full E N m c e, put_all_full m cs e)

  -- what was met stays where it is
  put_keeps : (m : Met E.system.State) (c : Row E.system.State) (i : ℕ) (r : Row E.system.State) → get_elem? m.rows i ≡ some r → get_elem? (put E N m c).rows i ≡ some r
  unfolding put put_unless keep_new keep
  put_keeps m c i r e = full m.full
    where
      room : (b : Bool) → get_elem? (keep E.system N c m.rows b).rows i ≡ some r
      room true = e
      room false = at_left m.rows (c ∷ []) i r e

      new : (b : Bool) → get_elem? (keep_new E.system N c m.rows b).rows i ≡ some r
      new true = e
      new false = room (leb N (length m.rows))

      full : (b : Bool) → get_elem? (put_unless E N c m.rows b).rows i ≡ some r
      full true = e
      full false = new (known E c.state m.rows)

  pub put_all_keeps :
      (m : Met E.system.State) (cs : List (Row E.system.State)) (i : ℕ) (r : Row E.system.State) →
      get_elem? m.rows i ≡ some r → get_elem? (put_all E N m cs).rows i ≡ some r
  unfolding put_all
  put_all_keeps m [] i r e = e
  put_all_keeps m (c ∷ cs) i r e = put_all_keeps (put E N m c) cs i r (put_keeps m c i r e)
