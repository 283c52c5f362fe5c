-- A replica of an array that gets the frames that are sent of the array's state.
use Rattle.std.specs.Prelude.{◌≡◌, ℕ, ◌-◌, ◌≤◌, List, ◌++◌, length, take}
use Rattle.trap_bank.specs.Disks.{Disks}
use Rattle.trap_format.specs.declared.shape.Shape.{Shape}
use Rattle.trap_model.specs.State.{above, image_at, last, time_after}
use Rattle.trap_model.specs.declared.history.Entry.{Entry}
use Rattle.trap_model.specs.declared.history.State.{State}
use Rattle.trap_model.specs.Receiver.{Receiver}
use Rattle.trap_replica.specs.OnDisk.{ReplicaHolds}
use Rattle.trap_replica.specs.World.{World, primary}

-- the primary is in this state: the first of its entries are dropped, and the base image is the one
-- after them; the others are retained
pub record IsStateOf (w : World) (s : State) : Type 0 where
  pub dropped : List Entry
  pub parts : w.all ≡ dropped ++ s.entries
  pub count : length dropped ≡ s.first
  pub base : primary w s.first ≡ s.base

-- the time of the state's entry with number k; where the replica began with that number, the time
-- that it began with
abbrev pub copied_time : State → ℕ → ℕ → ℕ → ℕ
copied_time s first begun k = time_after begun (take (k - first) (above s first))

-- the receiver has the state's image after this number, with the time of that entry
pub record HasCopy (s : State) (begun least k : ℕ) (r : Receiver) : Type 0 where
  pub number : r.number ≡ k
  pub time : r.time ≡ copied_time s least begun k
  pub image : r.image ≡ image_at s k
  pub above : least ≤ k
  pub below : k ≤ last s

-- the disk holds the state's image after a number between these, with the time of that entry
pub record HoldsCopy (sh : Shape) (s : State) (begun least most : ℕ) (disks : Disks)
    : Type 0 where
  pub number : ℕ
  pub holds : ReplicaHolds sh number (copied_time s least begun number) (image_at s number) disks
  pub above : least ≤ number
  pub below : number ≤ most
