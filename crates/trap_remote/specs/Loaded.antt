-- What `replica-load` says of an input, and what it leaves on disk 17.
use Rattle.std.specs.Prelude.{◌≡◌, ◌⊎◌, ℕ, ◌*◌, ◌<◌, List, length, None}
use Rattle.trap_bank.specs.Disks.{Contents, Disks, View, Quiet}
use Rattle.trap_bank.specs.Steps.{Same}
use Rattle.trap_format.specs.declared.shape.Shape.{Shape}
use Rattle.trap_replica.specs.Applying.{Elsewhere}
use Rattle.trap_replica.specs.Creating.{IsReplicaGateOff}
use Rattle.trap_replica.specs.Loading.{image_of}
use Rattle.trap_replica.specs.declared.fault.ReplicaFault.{ReplicaFault}
use Rattle.trap_replica.specs.declared.fault.ReplicaFault.TheVariants.{Exists, DiskFault, ReadFault}
use Rattle.trap_replica.specs.declared.fault.ReplicaFault.TheVariants.{ShortImage, LongImage}
use Rattle.trap_replica.specs.declared.fault.ReplicaFault.TheVariants.{OutOfMemory}
use Rattle.trap_remote.specs.Ended.{loaded_line}
use Rattle.trap_remote.specs.Found.{LeftSaid}
use Rattle.trap_remote.specs.Making.{first_broken_in}
use Rattle.trap_remote.specs.Making.{SaysMade, CutsMade, MakesAsked, LeavesMade}
use Rattle.trap_remote.specs.declared.outcome.AskedReplica.{AskedReplica}
use Rattle.trap_remote.specs.declared.outcome.Start.{Start}
use Rattle.trap_remote.specs.declared.outcome.ReplicaEnd.{ReplicaEnd}
use Rattle.trap_remote.specs.declared.outcome.ReplicaEnd.TheVariants.{Done, Memory, Port}
use Rattle.trap_remote.specs.declared.outcome.ReplicaEnd.TheVariants.{BadGeometry, NoReplica}
use Rattle.trap_remote.specs.declared.outcome.ReplicaEnd.TheVariants.{NotMade, NotApplied}
use Rattle.trap_remote.specs.declared.outcome.ReplicaEnd.TheVariants.{NotExported}

-- the image that the input is, in the shape asked for
abbrev pub input_image : List ℕ → Shape → List (List ℕ)
input_image input s = image_of s input

-- the gate of disk 17 is off, so that it is no replica; nothing was said
pub record LeavesGateOff (old new : Contents) : Type 0 where
  pub others : Elsewhere old.disks new.disks
  pub gate : IsReplicaGateOff new.disks
  pub said : new.said ≡ old.said

-- the input has as many bytes as the image
abbrev pub HasImageSize : AskedReplica → List ℕ → Type 0
HasImageSize asked input = length input ≡ asked.volume * asked.block

-- what a load of this input that failed said and left
abbrev pub NotLoadedEnds : AskedReplica → Start → List ℕ → ReplicaFault → Contents → Contents
    → Type 0
NotLoadedEnds asked start input (Exists disk) old new = Quiet Same old new
NotLoadedEnds asked start input OutOfMemory old new = Quiet Same old new
NotLoadedEnds asked start input DiskFault old new =
    MakesAsked asked start.seq start.time (input_image input) old new
    × (IsReplicaGateOff new.disks ⊎ HasImageSize asked input)
NotLoadedEnds asked start input ReadFault old new = LeavesGateOff old new
NotLoadedEnds asked start input (ShortImage at) old new =
    LeavesGateOff old new × (at ≡ length input) × (at < asked.volume * asked.block)
NotLoadedEnds asked start input (LongImage at) old new =
    LeavesGateOff old new × (at ≡ asked.volume * asked.block) × (at < length input)
NotLoadedEnds asked start input other old new = ⊥

-- what `replica-load` of this input said and left
abbrev pub LoadEnds : AskedReplica → Start → List ℕ → ReplicaEnd → Contents → Contents → Type 0
LoadEnds asked start input Done old new = HasImageSize asked input
    × SaysMade asked start.seq start.time (input_image input) (loaded_line start.seq) old new
LoadEnds asked start input Memory old new = ⊥
LoadEnds asked start input Port old new = HasImageSize asked input
    × CutsMade asked start.seq start.time (input_image input) (loaded_line start.seq) old new
LoadEnds asked start input (BadGeometry field) old new = Quiet Same old new
LoadEnds asked start input (NoReplica why) old new = ⊥
LoadEnds asked start input (NotMade why) old new = NotLoadedEnds asked start input why old new
LoadEnds asked start input (NotApplied why) old new = ⊥
LoadEnds asked start input NotExported old new = ⊥

-- Where a first part of the line was said: what a crash leaves of any replica that is made. But the
-- gate of disk 17 is off, unless the input has as many bytes as the image.
pub record LeavesLoaded (asked : AskedReplica) (start : Start) (input : List ℕ) (old : View)
    (part : List ℕ) (disks : Disks) : Type 0 where
  pub made : LeavesMade asked start.seq start.time (input_image input) (loaded_line start.seq)
      old part disks
  pub whole : first_broken_in asked start.seq ≡ None → old.sizes 17 ≡ None
      → IsReplicaGateOff disks ⊎ HasImageSize asked input

-- a crash while it runs leaves this
abbrev pub LoadLeaves : AskedReplica → Start → List ℕ → View → Contents → Contents → Type 0
LoadLeaves asked start input old x y = LeftSaid (LeavesLoaded asked start input old) x.said y
