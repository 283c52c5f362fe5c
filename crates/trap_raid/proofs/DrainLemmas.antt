-- What a drain's writes do to the members' places.
use Rattle.std.proofs.Common.{◌≡◌, ℕ, ◌+◌, ◌-◌, ◌*◌, ◌<◌, ◌≤◌, List, [], ◌∷◌, ◌++◌, Option, Some, None, inl, inr, refl, sym, ap, subst, ◌∙◌, arith}
use Rattle.std.specs.Option.{option_or}
use Rattle.std.proofs.lemmas.Bool.{cases_eq}
use Rattle.trap_model.specs.Image.{volume}
use Rattle.trap_model.specs.declared.numbers.Geometry.{Geometry}
use Rattle.trap_bank.specs.Disks.{Disks, Differs}
use Rattle.trap_bank.proofs.Regions.{region_apart, differs_mono, differs_again}
use Rattle.trap_map.proofs.TableLemmas.{parity_member-lt}
use Rattle.trap_format.specs.MemberDisk.{row_at}
use Rattle.trap_map.specs.Layout.{parity_member, block_place}
use Rattle.trap_map.proofs.PlaceLemmas.{member_within, row_of-within, block_is_not_parity}
use Rattle.trap_stage.proofs.Overlays.{staged_at_block, staged_at_parity, staged_at_other, staged_at_row, newest_at-append}
use Rattle.trap_stage.specs.Staged.{Staged, staged_at, newest_at}
use Rattle.trap_raid.specs.Members.{Counts, Covered, member_place}
use Rattle.trap_raid.specs.Draining.{Drains, InDrained, InCounted, PlaceWritten, place_area}
use Rattle.trap_raid.proofs.OptionLemmas.{some_or_none, not_both}

-- ---- places and their positions
same_row : (size row other i : ℕ) → row * size ≤ i → i < row * size + size → other * size ≤ i → i < other * size + size → row ≡ other
same_row size row other i low high from to = grind arith

-- a position is of one place
pub one_place : (g : Geometry) (row member other one e i : ℕ) → place_area g row member e i → place_area g other one e i → (row ≡ other) × (member ≡ one)
one_place g row member other one e i a b =
    (same_row g.block row other (i - 16) (omega (arith, a.from)) (omega (arith, a.from, a.to)) (omega (arith, b.from)) (omega (arith, b.from, b.to)), omega (arith, a.disk, b.disk))

-- a place apart from what changed keeps its bytes
pub place_beside : (g : Geometry) (row member other one : ℕ) (x y : Disks) → Differs (place_area g other one) x y → ((row ≡ other) → (member ≡ one) → ⊥)
    → member_place g y row member ≡ member_place g x row member
place_beside g row member other one x y differs apart =
    region_apart (place_area g other one) x y (member + 1) (row_at g row) g.block differs
    (λ i low high within. let same = one_place g row member other one (member + 1) i (record { disk = refl; from = low; to = high }) within in apart same.0 same.1)

-- a place that these writes don't cover keeps its bytes where covered places change
pub bare_stays : (g : Geometry) (writes : List Staged) (x y : Disks) → Differs (Covered g writes) x y → (row member : ℕ) → newest_at g writes row member ≡ None
    → member_place g y row member ≡ member_place g x row member
bare_stays g writes x y differs row member none =
    region_apart (Covered g writes) x y (member + 1) (row_at g row) g.block differs
    (λ i low high covered.
    let same = one_place g row member covered.row covered.member (member + 1) i (record { disk = refl; from = low; to = high }) covered.within in
    not_both (newest_at g writes row member) covered.bytes none
    (ap (λ r. newest_at g writes r member) same.0 ∙ ap (λ m. newest_at g writes covered.row m) same.1 ∙ covered.newest))

-- ---- newer writes and older ones
-- what newer writes cover, they cover together with older ones
pub covered_newer : (g : Geometry) (newer older : List Staged) (e i : ℕ) → Covered g newer e i → Covered g (newer ++ older) e i
covered_newer g newer older e i covered = record {
  row = covered.row;
  member = covered.member;
  in_rows = covered.in_rows;
  inside = covered.inside;
  bytes = covered.bytes;
  newest = newest_at-append g newer older covered.row covered.member ∙ ap (λ o. option_or o (newest_at g older covered.row covered.member)) covered.newest;
  within = covered.within;
}

-- what older writes cover, newer ones cover together with them
pub covered_older : (g : Geometry) (newer older : List Staged) (e i : ℕ) → Covered g older e i → Covered g (newer ++ older) e i
covered_older g newer older e i covered =
    let over = still_some (newest_at g newer covered.row covered.member) covered.bytes in
    record {
      row = covered.row;
      member = covered.member;
      in_rows = covered.in_rows;
      inside = covered.inside;
      bytes = over.0;
      newest = newest_at-append g newer older covered.row covered.member ∙ ap (λ o. option_or (newest_at g newer covered.row covered.member) o) covered.newest ∙ over.1;
      within = covered.within;
    }
  where
    still_some : (o : Option (List ℕ)) (bytes : List ℕ) → (more : List ℕ) × (option_or o (Some bytes) ≡ Some more)
    still_some None bytes = (bytes, refl)
    still_some (Some more) bytes = (more, refl)

-- so of what of it counts
pub drained_newer : (g : Geometry) (lost : Option ℕ) (rebuilt : ℕ) (newer older : List Staged) (e i : ℕ) → InDrained g lost rebuilt newer e i → InDrained g lost rebuilt (newer ++ older) e i
unfolding covered_newer
drained_newer g lost rebuilt newer older e i drained = record { covered = covered_newer g newer older e i drained.covered; counts = drained.counts }

pub drained_older : (g : Geometry) (lost : Option ℕ) (rebuilt : ℕ) (newer older : List Staged) (e i : ℕ) → InDrained g lost rebuilt older e i → InDrained g lost rebuilt (newer ++ older) e i
unfolding covered_older
drained_older g lost rebuilt newer older e i drained = record { covered = covered_older g newer older e i drained.covered; counts = drained.counts }

-- newer writes drained after older ones
pub drains_then : (g : Geometry) (lost : Option ℕ) (rebuilt : ℕ) (newer older : List Staged) (x y z : Disks) → Drains g lost rebuilt older x y
    → Drains g lost rebuilt newer y z → Drains g lost rebuilt (newer ++ older) x z
drains_then g lost rebuilt newer older x y z first second = record {
  differs = differs_again (InDrained g lost rebuilt (newer ++ older)) x y z
      (differs_mono (InDrained g lost rebuilt older) (InDrained g lost rebuilt (newer ++ older)) x y (drained_older g lost rebuilt newer older) first.differs)
      (differs_mono (InDrained g lost rebuilt newer) (InDrained g lost rebuilt (newer ++ older)) y z (drained_newer g lost rebuilt newer older) second.differs);
  there = λ row m bytes below inside counts found.
      let found_in = sym (newest_at-append g newer older row m) ∙ found in
      elim (some_or_none (newest_at g newer row m)) [
        | inl none ↦
            bare_stays g newer y z (differs_mono (InDrained g lost rebuilt newer) (Covered g newer) y z (λ e i drained. drained.covered) second.differs) row m none
            ∙ first.there row m bytes below inside counts (passed (newest_at g newer row m) (newest_at g older row m) bytes none found_in)
        | inr some ↦ second.there row m bytes below inside counts (kept (newest_at g newer row m) (newest_at g older row m) some.0 bytes some.1 found_in)
      ];
}
  where
    passed : (o rest : Option (List ℕ)) (bytes : List ℕ) → o ≡ None → option_or o rest ≡ Some bytes → rest ≡ Some bytes
    passed None rest bytes none found = found
    passed (Some b) rest bytes none found = cc

    kept : (o rest : Option (List ℕ)) (b bytes : List ℕ) → o ≡ Some b → option_or o rest ≡ Some bytes → o ≡ Some bytes
    kept None rest b bytes some found = cc
    kept (Some c) rest b bytes some found = found

-- nothing is drained
pub drains_none : (g : Geometry) (lost : Option ℕ) (rebuilt : ℕ) (x : Disks) → Drains g lost rebuilt [] x x
drains_none g lost rebuilt x = record {
  differs = record { sizes = λ e. refl; bytes = λ e i apart. refl };
  there = λ row m bytes below inside counts found. absurd (cc);
}

-- ---- one write's two places
-- its block's place is covered
pub block_covered : (g : Geometry) (staged : Staged) (e i : ℕ) → staged.block < volume g → place_area g (block_place g staged.block).row
    (block_place g staged.block).member e i → Covered g (staged ∷ []) e i
block_covered g staged e i below within =
    let here = block_place g staged.block in
    record {
      row = here.row;
      member = here.member;
      in_rows = row_of-within g staged.block below;
      inside = member_within g staged.block;
      bytes = staged.bytes;
      newest = ap (λ o. option_or o None) (staged_at_block g staged here.row here.member refl refl);
      within = within;
    }

-- and that of its row's parity
pub parity_covered : (g : Geometry) (staged : Staged) (e i : ℕ) → staged.block < volume g → place_area g (block_place g staged.block).row
    (parity_member g (block_place g staged.block).row) e i → Covered g (staged ∷ []) e i
parity_covered g staged e i below within =
    let here = block_place g staged.block in
    record {
      row = here.row;
      member = parity_member g here.row;
      in_rows = row_of-within g staged.block below;
      inside = parity_member-lt g here.row;
      bytes = staged.parity;
      newest = ap (λ o. option_or o None) (staged_at_parity g staged here.row (parity_member g here.row) refl (λ e. block_is_not_parity g staged.block (sym e)) refl);
      within = within;
    }

-- so where they count
pub block_drained : (g : Geometry) (lost : Option ℕ) (rebuilt : ℕ) (staged : Staged) (e i : ℕ) → staged.block < volume g
    → InCounted g lost rebuilt (block_place g staged.block).row (block_place g staged.block).member e i → InDrained g lost rebuilt (staged ∷ []) e i
unfolding block_covered
block_drained g lost rebuilt staged e i below counted = record { covered = block_covered g staged e i below counted.within; counts = counted.counts }

pub parity_drained : (g : Geometry) (lost : Option ℕ) (rebuilt : ℕ) (staged : Staged) (e i : ℕ) → staged.block < volume g
    → InCounted g lost rebuilt (block_place g staged.block).row (parity_member g (block_place g staged.block).row) e i → InDrained g lost rebuilt (staged ∷ []) e i
unfolding parity_covered
parity_drained g lost rebuilt staged e i below counted = record { covered = parity_covered g staged e i below counted.within; counts = counted.counts }

-- a write whose two places were written is drained
pub both_written : (g : Geometry) (lost : Option ℕ) (rebuilt : ℕ) (staged : Staged) (x y z : Disks) → staged.block < volume g
    → PlaceWritten g lost rebuilt (block_place g staged.block).row (block_place g staged.block).member staged.bytes x y
    → PlaceWritten g lost rebuilt (block_place g staged.block).row (parity_member g (block_place g staged.block).row) staged.parity y z
    → Drains g lost rebuilt (staged ∷ []) x z
both_written g lost rebuilt staged x y z below block parity =
    let here = block_place g staged.block in
    let at_parity = parity_member g here.row in
    record {
      differs = differs_again (InDrained g lost rebuilt (staged ∷ [])) x y z
          (differs_mono (InCounted g lost rebuilt here.row here.member) (InDrained g lost rebuilt (staged ∷ [])) x y (λ e i. block_drained g lost rebuilt staged e i below) block.differs)
          (differs_mono (InCounted g lost rebuilt here.row at_parity) (InDrained g lost rebuilt (staged ∷ [])) y z (λ e i. parity_drained g lost rebuilt staged e i below) parity.differs);
      there = λ row m bytes in_rows inside counts found.
          elim (cases_eq row here.row) [
            | inl e ↦ elim (cases_eq m here.member) [
              | inl f ↦
                  let counts_here = subst (λ r. Counts lost rebuilt r here.member) e (subst (λ k. Counts lost rebuilt row k) f counts) in
                  ap (λ r. member_place g z r m) e ∙ ap (λ k. member_place g z here.row k) f
                  ∙ place_beside g here.row here.member here.row at_parity y z (differs_mono (InCounted g lost rebuilt here.row at_parity)
                  (place_area g here.row at_parity) y z (λ e i counted. counted.within) parity.differs) (λ same apart. block_is_not_parity g staged.block apart)
                  ∙ block.there counts_here ∙ is_it (staged_at g staged row m) staged.bytes bytes (staged_at_block g staged row m e f) found
              | inr h ↦ elim (cases_eq m (parity_member g row)) [
                | inl f ↦
                    let at : m ≡ at_parity = f ∙ ap (λ r. parity_member g r) e in
                    let counts_here = subst (λ r. Counts lost rebuilt r at_parity) e (subst (λ k. Counts lost rebuilt row k) at counts) in
                    ap (λ r. member_place g z r m) e ∙ ap (λ k. member_place g z here.row k) at
                    ∙ parity.there counts_here ∙ is_it (staged_at g staged row m) staged.parity bytes (staged_at_parity g staged row m e h f) found
                | inr k ↦ absurd (is_none (staged_at g staged row m) bytes (staged_at_other g staged row m e h k) found)
              ]
            ]
            | inr h ↦ absurd (is_none (staged_at g staged row m) bytes (staged_at_row g staged row m h) found)
          ];
    }
  where
    is_it : (o : Option (List ℕ)) (b bytes : List ℕ) → o ≡ Some b → option_or o None ≡ Some bytes → b ≡ bytes
    is_it None b bytes e found = cc
    is_it (Some c) b bytes e found = cc

    is_none : (o : Option (List ℕ)) (bytes : List ℕ) → o ≡ None → option_or o None ≡ Some bytes → ⊥
    is_none None bytes e found = cc
    is_none (Some c) bytes e found = cc
