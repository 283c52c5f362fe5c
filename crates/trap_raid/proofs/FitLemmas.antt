-- Places fit on disks that have all rows.
use Rattle.std.proofs.Common.{◌≡◌, ◌≢◌, ℕ, ◌+◌, ◌*◌, ◌/◌, ◌<◌, ◌≤◌, List, [], ◌∷◌, ◌++◌, Option, Some, None, refl, sym, ap, subst, ◌∙◌, arith}
use Rattle.std.specs.Option.{option_or}
use Rattle.trap_format.specs.MemberDisk.{row_at, member_size}
use Rattle.trap_model.specs.Image.{volume}
use Rattle.trap_model.specs.declared.numbers.Geometry.{Geometry}
use Rattle.trap_bank.specs.Disks.{View}
use Rattle.trap_bank.specs.Calls.{Fits}
use Rattle.trap_stage.specs.Staged.{Staged, newest_at}
use Rattle.trap_stage.proofs.Overlays.{staged_at_block, staged_at_parity, newest_at-append}
use Rattle.trap_map.specs.declared.places.Place.{Place}
use Rattle.trap_map.specs.Layout.{parity_member, block_place}
use Rattle.trap_map.proofs.LeftLemmas.{parity_in-lt}
use Rattle.trap_map.proofs.PlaceLemmas.{member_within, row_of-within, block_is_not_parity}
use Rattle.trap_raid.specs.Members.{Counts, RowFits, PlaceFits, BlockFits, MembersFit, DrainFits}

row_end : (size row rows : ℕ) → row < rows → row * size + size ≤ rows * size
row_end size row rows below = grind arith

pub row_within : (g : Geometry) (row : ℕ) → row < g.rows → row_at g row + g.block ≤ row_at g g.rows
row_within g row below = let h = row_end g.block row g.rows below in omega arith

in_row : (g : Geometry) (v : View) (row member : ℕ) → row < g.rows → Fits v (member + 1) (row_at g g.rows) → RowFits g v row member
in_row g v row member below whole = let h = row_within g row below in (whole.0, whole.1, omega (arith, whole.2))

-- a member that isn't lost counts in each row
pub others_count : (lost : Option ℕ) (rebuilt row member : ℕ) → lost ≢ Some member → Counts lost rebuilt row member
others_count lost rebuilt row member apart = λ gone. absurd (apart gone)

-- with nothing rebuilt, only a member that isn't lost counts
pub not_lost : (lost : Option ℕ) (row member : ℕ) → Counts lost 0 row member → lost ≢ Some member
not_lost lost row member counts = λ gone. let below = counts gone in omega arith

-- a member of which some row counts has one that is rebuilt
pub counts_first : (lost : Option ℕ) (rebuilt row member : ℕ) → Counts lost rebuilt row member → Counts lost rebuilt 0 member
counts_first lost rebuilt row member counts = λ gone. let below = counts gone in omega arith

-- a place that counts fits where the members that count have all rows
pub row_fits : (g : Geometry) (lost : Option ℕ) (rebuilt : ℕ) (v : View) (row member : ℕ) → MembersFit g lost rebuilt v → row < g.rows → member < g.members
    → Counts lost rebuilt row member → RowFits g v row member
row_fits g lost rebuilt v row member fit below inside counts =
    in_row g v row member below (fit member inside (counts_first lost rebuilt row member counts))

-- so do the disks that stand for any place
pub place_fits : (g : Geometry) (lost : Option ℕ) (rebuilt : ℕ) (writes : List Staged) (v : View) (row member : ℕ) → MembersFit g lost rebuilt v → row < g.rows
    → member < g.members → PlaceFits g lost writes v row member
place_fits g lost rebuilt writes v row member fit below inside = record {
  own = λ apart bare. row_fits g lost rebuilt v row member fit below inside (others_count lost rebuilt row member apart);
  others = λ gone none m less other bare. row_fits g lost rebuilt v row m fit below less (others_count lost rebuilt row m (λ e. other (same_lost m e gone)));
}
  where
    same_lost : (m : ℕ) → lost ≡ Some m → lost ≡ Some member → m ≡ member
    same_lost m e gone = cc

-- and for a block's place and the parity of its row
pub block_fits : (g : Geometry) (lost : Option ℕ) (rebuilt : ℕ) (writes : List Staged) (v : View) (block : ℕ) → MembersFit g lost rebuilt v → block < volume g → BlockFits g lost writes v block
block_fits g lost rebuilt writes v block fit below =
    let row = (block_place g block).row in
    let in_rows = row_of-within g block below in
    record {
      place = place_fits g lost rebuilt writes v row (block_place g block).member fit in_rows (member_within g block);
      parity = place_fits g lost rebuilt writes v row (parity_member g row) fit in_rows (parity_in-lt g.members (row / g.chunk) (omega arith));
    }

-- members that are long enough have all rows
pub fits_from_sizes : (g : Geometry) (lost : Option ℕ) (rebuilt : ℕ) (v : View) → ((m : ℕ) → m < g.members → Counts lost rebuilt 0 m → Fits v (m + 1) (member_size g)) → MembersFit g lost rebuilt v
fits_from_sizes g lost rebuilt v sizes member inside counts = let there = sizes member inside counts in (there.0, there.1, omega (arith, there.2))

-- a call that keeps the sizes leaves them so
pub fit_along : (g : Geometry) (lost : Option ℕ) (rebuilt : ℕ) (old new : View) → ((e : ℕ) → new.sizes e ≡ old.sizes e) → MembersFit g lost rebuilt old → MembersFit g lost rebuilt new
fit_along g lost rebuilt old new sizes fit member inside counts =
    let there = fit member inside counts in
    (there.0, sizes (member + 1) ∙ there.1, there.2)

-- ---- the disks of a drain
-- members that have all rows
pub drain_fits : (g : Geometry) (lost : Option ℕ) (rebuilt : ℕ) (writes : List Staged) (v : View) → MembersFit g lost rebuilt v → DrainFits g lost rebuilt writes v
drain_fits g lost rebuilt writes v fit row m bytes below inside counts found = row_fits g lost rebuilt v row m fit below inside counts

-- a call that keeps the sizes leaves them so
pub drain_fits_along : (g : Geometry) (lost : Option ℕ) (rebuilt : ℕ) (writes : List Staged) (old new : View) → ((e : ℕ) → new.sizes e ≡ old.sizes e)
    → DrainFits g lost rebuilt writes old → DrainFits g lost rebuilt writes new
drain_fits_along g lost rebuilt writes old new sizes fits row m bytes below inside counts found =
    let there = fits row m bytes below inside counts found in
    (there.0, sizes (m + 1) ∙ there.1, there.2)

-- of some writes, the newer ones and the older ones
pub fits_newer : (g : Geometry) (lost : Option ℕ) (rebuilt : ℕ) (newer older : List Staged) (v : View) → DrainFits g lost rebuilt (newer ++ older) v → DrainFits g lost rebuilt newer v
fits_newer g lost rebuilt newer older v fits row m bytes below inside counts found =
    fits row m bytes below inside counts (newest_at-append g newer older row m ∙ ap (λ (o : Option (List ℕ)). option_or o (newest_at g older row m)) found)

pub fits_older : (g : Geometry) (lost : Option ℕ) (rebuilt : ℕ) (newer older : List Staged) (v : View) → DrainFits g lost rebuilt (newer ++ older) v → DrainFits g lost rebuilt older v
fits_older g lost rebuilt newer older v fits row m bytes below inside counts found =
    let over = still_some (newest_at g newer row m) in
    fits row m over.0 below inside counts (newest_at-append g newer older row m ∙ ap (λ (o : Option (List ℕ)). option_or (newest_at g newer row m) o) found ∙ over.1)
  where
    still_some : (o : Option (List ℕ)) → (more : List ℕ) × (option_or o (Some bytes) ≡ Some more)
    still_some None = (bytes, refl)
    still_some (Some more) = (more, refl)

-- the two places of a write
pub block_place_fits : (g : Geometry) (lost : Option ℕ) (rebuilt : ℕ) (staged : Staged) (place : Place) (v : View) → staged.block < volume g
    → place ≡ block_place g staged.block → DrainFits g lost rebuilt (staged ∷ []) v → Counts lost rebuilt place.row place.member → RowFits g v place.row place.member
block_place_fits g lost rebuilt staged place v below is_place fits =
    let here = block_place g staged.block in
    subst (λ (p : Place). Counts lost rebuilt p.row p.member → RowFits g v p.row p.member) (sym is_place)
    (λ counts. fits here.row here.member staged.bytes (row_of-within g staged.block below) (member_within g staged.block) counts
    (ap (λ (o : Option (List ℕ)). option_or o None) (staged_at_block g staged here.row here.member refl refl)))

pub parity_place_fits : (g : Geometry) (lost : Option ℕ) (rebuilt : ℕ) (staged : Staged) (place : Place) (at_parity : ℕ) (v : View) → staged.block < volume g
    → place ≡ block_place g staged.block → at_parity ≡ parity_member g place.row → DrainFits g lost rebuilt (staged ∷ []) v → Counts lost rebuilt place.row at_parity → RowFits g v place.row at_parity
parity_place_fits g lost rebuilt staged place at_parity v below is_place is_parity fits =
    let here = block_place g staged.block in
    let there : Counts lost rebuilt here.row (parity_member g here.row) → RowFits g v here.row (parity_member g here.row) =
    λ counts. fits here.row (parity_member g here.row) staged.parity (row_of-within g staged.block below) (parity_in-lt g.members (here.row / g.chunk) (omega arith)) counts
    (ap (λ (o : Option (List ℕ)). option_or o None) (staged_at_parity g staged here.row (parity_member g here.row) refl (λ e. block_is_not_parity g staged.block (sym e)) refl)) in
    subst (λ (m : ℕ). Counts lost rebuilt place.row m → RowFits g v place.row m) (sym is_parity)
    (subst (λ (p : Place). Counts lost rebuilt p.row (parity_member g p.row) → RowFits g v p.row (parity_member g p.row)) (sym is_place) there)
