-- The calls of a step, one after the other.
use Rattle.std.proofs.Common.{◌≡◌, ℕ, zero, suc, ◌+◌, ◌-◌, ◌<◌, ◌≤◌, List, length, Some, Result, Err, IsTrue, inl, inr, sym, ap, subst, ◌∙◌, arith}
use Rattle.std.proofs.lemmas.Bool.{cases_eq}
use Rattle.trap_model.specs.Image.{IsImage}
use Rattle.trap_model.specs.declared.numbers.Geometry.{Geometry}
use Rattle.trap_bank.specs.Disks.{Contents, View, Within, Differs, Torn}
use Rattle.trap_bank.specs.Called.{CalledTimes, TakesCalls}
use Rattle.trap_bank.specs.Steps.{Moves, Same, OnlyReads, Always}
use Rattle.trap_bank.proofs.Called.{called_then}
use Rattle.trap_bank.proofs.Moves.{Settled, moves_then, moves_wider, moves_mono, moves_again, moves_same, torn_again, torn_mono}
use Rattle.trap_format.specs.MemberDisk.{row_at}
use Rattle.trap_stage.specs.Staged.{Staged}
use Rattle.trap_raid.specs.Condition.{Condition}
use Rattle.trap_raid.specs.Members.{HoldImage, MembersHold, member_place}
use Rattle.trap_raid.specs.Draining.{place_area}
use Rattle.trap_raid.specs.Standing.{reads_of}
use Rattle.trap_raid.proofs.CostLemmas.{called_are, takes_then, takes_failed}
use Rattle.trap_rebuild.specs.Rebuilding.{InNextRows, AreRebuilt, AreOfTable, Rebuilds, RebuildsRows, row_calls}
use Rattle.trap_rebuild.proofs.RowLemmas.{row_among, rebuilt_on, rebuilt_table, mark_raised, own_stays, all_raised}

-- a place is read for, and then written
pub read_then_write : (g : Geometry) (row m at : ℕ) (bytes : List ℕ) (a b c : View) → at ≡ row_at g row → length bytes ≡ g.block → OnlyReads a b
    → Moves b c (Differs (Within (m + 1) at (length bytes))) (Differs (Within (m + 1) at (length bytes))) → Moves a c (Differs (place_area g row m)) (Differs (place_area g row m))
read_then_write g row m at bytes a b c is_at is_size reads wrote =
    moves_again (place_area g row m) a b c (moves_same (place_area g row m) a b reads.moves)
    (moves_wider (m + 1) at (length bytes) (row_at g row) g.block b c (omega (arith, is_at)) (omega (arith, is_at, is_size)) wrote)

module _ (c : Condition) (writes : List Staged) (m : ℕ) (lost : c.lost ≡ Some m) where
  -- ---- one row after the other
  -- stopped within a row, after those before it
  pub rows_then : (upto row : ℕ) (x y z : View) → c.rebuilt ≤ row → row < upto → Moves x y (Differs (InNextRows c upto)) (Differs (InNextRows c upto))
      → Moves y z (Differs (place_area c.g row m)) (Differs (place_area c.g row m)) → Moves x z (Differs (InNextRows c upto)) (Differs (InNextRows c upto))
  rows_then upto row x y z low high before next =
      moves_again (InNextRows c upto) x y z before (moves_mono (place_area c.g row m) (InNextRows c upto) y z (row_among c writes m lost upto row low high) next)

  -- what a read gives then
  pub rows_torn : (upto row : ℕ) (x y z : View) → c.rebuilt ≤ row → row < upto → y.tells ≡ x.tells → (IsTrue x.tells → Torn (InNextRows c upto) x.now y.now)
      → (IsTrue y.tells → Torn (place_area c.g row m) y.now z.now) → IsTrue x.tells → Torn (InNextRows c upto) x.now z.now
  rows_torn upto row x y z low high tells before next =
      torn_again (InNextRows c upto) x y z tells before (λ told. torn_mono (place_area c.g row m) (InNextRows c upto) y.now z.now (row_among c writes m lost upto row low high) (next told))

  -- ---- how often the bank is called
  calls_next : (row : ℕ) → c.rebuilt ≤ row → row_calls c writes m (row - c.rebuilt) + (reads_of c.g c.lost writes row m + 1) ≡ row_calls c writes m (row + 1 - c.rebuilt)
  calls_next row low =
      ap (λ (r : ℕ). row_calls c writes m (row - c.rebuilt) + (reads_of c.g c.lost writes r m + 1)) (again row low)
      ∙ sym (ap (λ (n : ℕ). row_calls c writes m n) (further row low))
    where
      again : (row : ℕ) → c.rebuilt ≤ row → row ≡ c.rebuilt + (row - c.rebuilt)
      again row low = omega arith

      further : (row : ℕ) → c.rebuilt ≤ row → row + 1 - c.rebuilt ≡ suc (row - c.rebuilt)
      further row low = omega arith

  pub rows_called : (row : ℕ) (x y z : View) → c.rebuilt ≤ row → CalledTimes (row_calls c writes m (row - c.rebuilt)) x y → CalledTimes (reads_of c.g c.lost writes row m + 1) y z
      → CalledTimes (row_calls c writes m (row + 1 - c.rebuilt)) x z
  rows_called row x y z low before next =
      called_are (row_calls c writes m (row - c.rebuilt) + (reads_of c.g c.lost writes row m + 1)) (row_calls c writes m (row + 1 - c.rebuilt)) x z (calls_next row low)
      (called_then (row_calls c writes m (row - c.rebuilt)) (reads_of c.g c.lost writes row m + 1) x y z before next)

  -- of more rows there are no fewer
  calls_grow : (n k : ℕ) → n ≤ k → row_calls c writes m n ≤ row_calls c writes m k
  calls_grow n zero below = let same = ap (λ (i : ℕ). row_calls c writes m i) (none n below) in omega (arith, same)
    where
      none : (n : ℕ) → n ≤ 0 → n ≡ 0
      none n low = omega arith
  calls_grow n (suc k) below =
      elim (cases_eq n (suc k)) [
        | inl e ↦ let same = ap (λ (i : ℕ). row_calls c writes m i) e in omega (arith, same)
        | inr h ↦ let front = calls_grow n k (omega arith) in omega (arith, front)
      ]

  pub rows_failed : {T E U F : Type 0} (upto row : ℕ) (part : Result T E) (result : Result U F) (why : F) (x y z : View) → c.rebuilt ≤ row → row < upto → Err why ≡ result
      → CalledTimes (row_calls c writes m (row - c.rebuilt)) x y → TakesCalls (reads_of c.g c.lost writes row m + 1) part y z
      → TakesCalls (row_calls c writes m (upto - c.rebuilt)) result x z
  rows_failed upto row part result why x y z low high is before next =
      let whole = calls_grow (row + 1 - c.rebuilt) (upto - c.rebuilt) (omega arith) in
      let these = calls_next row low in
      takes_failed (row_calls c writes m (row - c.rebuilt) + (reads_of c.g c.lost writes row m + 1)) (row_calls c writes m (upto - c.rebuilt)) part result why x z (omega (arith, whole, these)) is
      (takes_then (row_calls c writes m (row - c.rebuilt)) (reads_of c.g c.lost writes row m + 1) part x y z before next)

  -- ---- and then the sync
  -- the rows are written, and their disk was synced
  module _ (upto : ℕ) (x y z : View) (most : upto ≤ c.g.rows) (inside : m < c.g.members) (wrote : Moves x y (Differs (InNextRows c upto)) (Differs (InNextRows c upto)))
      (there : IsTrue x.tells → AreRebuilt c writes (member_place c.g x.now.disks) upto y.now.disks) (settles : Moves y z Same (Settled z (m + 1))) (same : IsTrue y.tells → z.now ≡ y.now) where
    pub settled_rows : Moves x z (Differs (InNextRows c upto)) (Rebuilds c writes (member_place c.g x.now.disks) upto)
    settled_rows =
        moves_then x y z (Differs (InNextRows c upto)) (Differs (InNextRows c upto)) Same (Settled z (m + 1)) (Differs (InNextRows c upto)) (Rebuilds c writes (member_place c.g x.now.disks) upto)
        wrote settles
        (λ u v was torn. torn)
        (λ u v w was torn mid still. subst (Differs (InNextRows c upto) u.disks) (sym still) torn)
        (λ u v w was torn mid at_rest. record {
          differs = subst (Differs (InNextRows c upto) u.disks) (sym at_rest.same) torn;
          rows = rebuilt_on c writes m lost (member_place c.g x.now.disks) upto y.now.disks w.disks
              (at_rest.read ∙ ap (λ (n : Contents). n.disks (m + 1)) (same mid.told)) (there was.told);
        })

    table_after : (image : List (List ℕ)) → IsImage c.g image → HoldImage c.g c.lost writes (member_place c.g x.now.disks) image → Always z (AreOfTable c image upto)
    table_after image is_image stands w left =
        let from = settled_rows.now w left in
        rebuilt_table c writes m lost (member_place c.g x.now.disks) image upto w.disks is_image stands most inside from.by.disks.rows

    held_after : (image : List (List ℕ)) → IsImage c.g image → HoldImage c.g c.lost writes (member_place c.g x.now.disks) image
        → Always x (MembersHold c.g c.lost c.rebuilt writes image) → Always z (MembersHold c.g c.lost upto writes image)
    held_after image is_image stands held w left =
        let from = settled_rows.now w left in
        mark_raised c writes m lost image upto from.origin.disks w.disks x.now.disks from.by.disks.differs (table_after image is_image stands w left)
        stands (held from.origin from.was)

    pub rows_rebuilt : RebuildsRows c writes upto x z
    rows_rebuilt = record {
      moves = settled_rows;
      image = λ image is_image stands. record {
        table = table_after image is_image stands;
        holds = held_after image is_image stands;
        whole = λ all own held w left.
            let from = settled_rows.now w left in
            all_raised c writes m lost image upto w.disks all (own_stays c writes m lost upto from.origin.disks w.disks from.by.disks.differs (own m lost from.origin from.was))
            (held_after image is_image stands held w left);
      };
    }
