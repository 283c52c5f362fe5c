-- What a drain does to the members.
use Rattle.std.specs.Prelude.{◌≡◌, ℕ, ◌+◌, ◌-◌, ◌<◌, List, [], ◌∷◌, drop, Option, Some, None, ◌&&◌}
use Rattle.std.specs.Prelude.{◌==◌, nat_le, if◌then◌else◌}
use Rattle.trap_model.specs.declared.numbers.Geometry.{Geometry}
use Rattle.trap_bank.specs.Disks.{Disks, Area, Within, Differs}
use Rattle.trap_format.specs.MemberDisk.{row_at}
use Rattle.trap_map.specs.Layout.{parity_member, block_place}
use Rattle.trap_stage.specs.Staged.{Staged, newest_at}
use Rattle.trap_stage.specs.Slots.{Stage, last_of}
use Rattle.trap_raid.specs.Members.{Counts, Covered, member_place}

-- the pending writes up to a number
abbrev pub writes_to : Stage → ℕ → List Staged
writes_to stage upto = drop (last_of stage - upto) stage.pending

-- each place that counts and that these writes cover holds the newest of their bytes
abbrev pub AreDrained : Geometry → Option ℕ → ℕ → List Staged → Disks → Type 0
AreDrained g lost rebuilt writes disks = (row m : ℕ) (bytes : List ℕ) → row < g.rows → m < g.members
    → Counts lost rebuilt row m → newest_at g writes row m ≡ Some bytes
    → member_place g disks row m ≡ bytes

-- the positions of the places that count and that these writes cover
pub record InDrained (g : Geometry) (lost : Option ℕ) (rebuilt : ℕ) (writes : List Staged)
    (e i : ℕ) : Type 0 where
  pub covered : Covered g writes e i
  pub counts : Counts lost rebuilt covered.row covered.member

-- no byte changed but in the places that count and that these writes cover, and each of those holds
-- the newest bytes
pub record Drains (g : Geometry) (lost : Option ℕ) (rebuilt : ℕ) (writes : List Staged)
    (old new : Disks) : Type 0 where
  pub differs : Differs (InDrained g lost rebuilt writes) old new
  pub there : AreDrained g lost rebuilt writes new

-- the positions of a place
abbrev pub place_area : Geometry → ℕ → ℕ → Area
place_area g row member = Within (member + 1) (row_at g row) g.block

-- the positions of a place that counts
pub record InCounted (g : Geometry) (lost : Option ℕ) (rebuilt row member e i : ℕ) : Type 0 where
  pub counts : Counts lost rebuilt row member
  pub within : place_area g row member e i

-- where this place counts it holds these bytes, and no other byte changed
pub record PlaceWritten (g : Geometry) (lost : Option ℕ) (rebuilt row member : ℕ)
    (bytes : List ℕ) (old new : Disks) : Type 0 where
  pub differs : Differs (InCounted g lost rebuilt row member) old new
  pub there : Counts lost rebuilt row member → member_place g new row member ≡ bytes

-- a place of the member counts, and these writes cover it
pub record IsDrainedTo (g : Geometry) (lost : Option ℕ) (rebuilt : ℕ) (writes : List Staged)
    (member : ℕ) : Type 0 where
  pub at : ℕ
  pub place : InDrained g lost rebuilt writes (member + 1) at

-- the calls for a place: where it counts, a write and a sync
abbrev pub place_calls : Option ℕ → ℕ → ℕ → ℕ → ℕ
place_calls None rebuilt row member = 2
place_calls (Some gone) rebuilt row member = if (gone == member) && nat_le rebuilt row then 0 else 2

-- for a write: those for its block's place and for the parity of its row
abbrev pub write_calls : Geometry → Option ℕ → ℕ → Staged → ℕ
write_calls g lost rebuilt staged =
    let place = block_place g staged.block in
    place_calls lost rebuilt place.row place.member
    + place_calls lost rebuilt place.row (parity_member g place.row)

-- for these writes together
abbrev pub drain_calls : Geometry → Option ℕ → ℕ → List Staged → ℕ
drain_calls g lost rebuilt [] = 0
drain_calls g lost rebuilt (staged ∷ older) =
    write_calls g lost rebuilt staged + drain_calls g lost rebuilt older
