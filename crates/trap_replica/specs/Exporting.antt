-- Saying a replica's image on the port, block after block.
use Rattle.std.specs.Prelude.{ℕ, ◌+◌, ◌-◌, ◌*◌, ◌≤◌, List, flat_map, Result, Ok, Err, OnOk}
use Rattle.trap_bank.specs.Called.{TakesCalls}
use Rattle.trap_bank.specs.Disks.{Contents, View}
use Rattle.trap_bank.specs.Faults.{Rose}
use Rattle.trap_bank.specs.Steps.{Spoke, SpokePart}
use Rattle.trap_format.specs.declared.shape.Shape.{Shape}
use Rattle.trap_replica.specs.Loading.{image_size}
use Rattle.trap_replica.specs.declared.exporting.ExportFault.{ExportFault}
use Rattle.trap_replica.specs.declared.exporting.ExportFault.TheVariants.{Disk, Port}

-- the bytes of an image, its blocks one after the other
abbrev pub image_bytes : List (List ℕ) → List ℕ
image_bytes image = flat_map (λ block. block) image

-- the whole image was said, or a first part of its bytes after a fault
abbrev pub HasSaidImage : {T : Type 0} → List (List ℕ) → Result T ExportFault → Contents
    → Contents → Type 0
HasSaidImage image (Ok value) old new = Spoke (image_bytes image) old new
HasSaidImage image (Err why) old new = SpokePart (image_bytes image) old new

-- what failed, by its count
abbrev pub IsExportFault : View → View → ExportFault → Type 0
IsExportFault old new Disk = Rose (old.faults 17) (new.faults 17)
IsExportFault old new Port = Rose old.port_faults new.port_faults

-- Each block but the one in the cell is read once. The last call says what waits at the end. There
-- are no more others than the image fills a room of this size but for less than a block.
pub record SaysInPieces {T E : Type 0} (s : Shape) (room : ℕ) (result : Result T E)
    (old new : View) : Type 0 where
  pub says : ℕ
  pub pieces : says * (room + 1 - s.block) ≤ image_size s
  -- and no fewer than rooms that the image takes
  pub most : OnOk result (image_size s ≤ (says + 1) * room)
  pub calls : TakesCalls (s.volume + says) result old new
