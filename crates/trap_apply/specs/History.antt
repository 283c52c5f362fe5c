-- The frames of a primary's entries, and the images that they lead to.
use Rattle.std.specs.Prelude.{◌≡◌, ℕ, ◌+◌, ◌-◌, ◌≤◌, List, ◌∷◌, ◌++◌, length, take, drop}
use Rattle.trap_bank.specs.Disks.{Disks}
use Rattle.trap_format.specs.declared.shape.Shape.{Shape}
use Rattle.trap_model.specs.Image.{image_after, entry_parity}
use Rattle.trap_model.specs.Receiver.{Receiver}
use Rattle.trap_model.specs.State.{time_after}
use Rattle.trap_model.specs.declared.arrival.Arrival.{Arrival}
use Rattle.trap_model.specs.declared.history.Entry.{Entry}
use Rattle.trap_replica.specs.OnDisk.{ReplicaHolds}
use Rattle.trap_replica.specs.World.{World, primary}

-- the frame is that of an entry of the primary: its number, its time, its block and its parity
pub record IsFrameOf (w : World) (f : Arrival) : Type 0 where
  pub before : List Entry
  pub entry : Entry
  pub later : List Entry
  pub parts : w.all ≡ before ++ entry ∷ later
  pub seq : f.seq ≡ length before + 1
  pub time : f.time ≡ entry.time
  pub block : f.block ≡ entry.block
  pub parity : f.parity ≡ entry_parity (image_after w.start before) entry

-- the time of the primary's entry with this number; where the receiver began with that number, the
-- time that it began with
abbrev pub passed_time : World → ℕ → ℕ → ℕ
passed_time w begun n = time_after begun (take (n - w.number) (drop w.number w.all))

-- the receiver is the primary as it was after as many entries as its number says, no fewer than on
-- entry
pub record IsPrimary (w : World) (begun : ℕ) (r : Receiver) : Type 0 where
  pub least : w.number ≤ r.number
  pub most : r.number ≤ length w.all
  pub image : r.image ≡ primary w r.number
  pub time : r.time ≡ passed_time w begun r.number

-- the disk holds the primary's image after a number between these, with the time of that entry
pub record HoldsPrimary (s : Shape) (w : World) (begun least most : ℕ) (disks : Disks)
    : Type 0 where
  pub number : ℕ
  pub holds : ReplicaHolds s number (passed_time w begun number) (primary w number) disks
  pub above : least ≤ number
  pub below : number ≤ most
