-- The command `replica-export`: why it ends, what it says, and what a crash leaves.
use Rattle.std.specs.Prelude.{◌≡◌, ◌⊎◌, ℕ, ◌+◌, List, ◌++◌, IsTrue, Result, Ok, Err, IfErr}
use Rattle.std.specs.Prelude.{true, false}
use Rattle.trap_bank.specs.Called.{CalledTimes, CalledAtMost}
use Rattle.trap_bank.specs.Disks.{Contents, View, Quiet}
use Rattle.trap_bank.specs.Faults.{Rose}
use Rattle.trap_bank.specs.Steps.{Steps, Same, OnlyReads, Spoke, SpokePart}
use Rattle.trap_format.specs.declared.shape.Shape.{Shape}
use Rattle.trap_port.specs.Outgoing.{KeepsDisks}
use Rattle.trap_replica.specs.Exporting.{image_bytes, HasSaidImage, IsExportFault, SaysInPieces}
use Rattle.trap_replica.specs.Mounted.{MountedReplica}
use Rattle.trap_replica.specs.Mounting.{MountsReplica}
use Rattle.trap_replica.specs.OnDisk.{ReplicaHolds}
use Rattle.trap_replica.specs.Standing.{Mirrors}
use Rattle.trap_replica.specs.declared.exporting.ExportFault.{ExportFault}
use Rattle.trap_replica.specs.declared.exporting.ExportFault.TheVariants as Fault
use Rattle.trap_replica.specs.declared.fault.ReplicaFault.TheVariants.{OutOfMemory}
use Rattle.trap_remote.specs.Ended.{changes_no_disk}
use Rattle.trap_remote.specs.Found.{FindsReplica, NoReplicaCause, IsNoRefusal, MountFirst}
use Rattle.trap_remote.specs.Found.{ChangesNothing, IsSilent}
use Rattle.trap_remote.specs.declared.outcome.ReplicaEnd.{ReplicaEnd}
use Rattle.trap_remote.specs.declared.outcome.ReplicaEnd.TheVariants.{Done, Memory, Port}
use Rattle.trap_remote.specs.declared.outcome.ReplicaEnd.TheVariants.{BadGeometry, NoReplica}
use Rattle.trap_remote.specs.declared.outcome.ReplicaEnd.TheVariants.{NotMade, NotApplied}
use Rattle.trap_remote.specs.declared.outcome.ReplicaEnd.TheVariants.{NotExported}

-- why `replica-export` ends so
abbrev pub ExportCause : ReplicaEnd → View → View → Type 0
ExportCause Done old new = (s : Shape) × FindsReplica s old
ExportCause Memory old new = (s : Shape) × FindsReplica s old
ExportCause Port old new =
    (s : Shape) × FindsReplica s old × Rose old.port_faults new.port_faults
ExportCause (BadGeometry field) old new = ⊥
ExportCause (NoReplica why) old new = NoReplicaCause why old new
ExportCause (NotMade why) old new = ⊥
ExportCause (NotApplied why) old new = ⊥
ExportCause NotExported old new =
    (s : Shape) × FindsReplica s old × Rose (old.faults 17) (new.faults 17)

-- What `replica-export` said, over a disk that held this image: the whole of it, or a first part
-- where the disk or the port failed. The disks are the same.
abbrev pub ExportEnds : List (List ℕ) → ReplicaEnd → Contents → Contents → Type 0
ExportEnds image Done old new = Spoke (image_bytes image) old new
ExportEnds image Memory old new = Quiet Same old new
ExportEnds image Port old new = SpokePart (image_bytes image) old new
ExportEnds image (BadGeometry field) old new = ⊥
ExportEnds image (NoReplica why) old new = IsNoRefusal why × Quiet Same old new
ExportEnds image (NotMade why) old new = ⊥
ExportEnds image (NotApplied why) old new = ⊥
ExportEnds image NotExported old new = SpokePart (image_bytes image) old new

-- so it is, where the bank tells and disk 17 held an image on entry
abbrev pub OfImage : (List (List ℕ) → Type 0) → View → Type 0
OfImage has old = (s : Shape) (number time : ℕ) (image : List (List ℕ)) → IsTrue old.tells
    → ReplicaHolds s number time image old.now.disks → has image

-- a crash while it runs leaves the disks as one on entry might have, and a first part was said
abbrev pub ExportLeavesNow : View → Contents → Contents → Type 0
ExportLeavesNow old x y = OfImage (λ image. SpokePart (image_bytes image) x y) old

-- and one at its end this
abbrev pub ExportSaid : ReplicaEnd → View → Contents → Contents → Type 0
ExportSaid ended old x y = OfImage (λ image. ExportEnds image ended x y) old

-- the bytes were said; or there was no memory
abbrev pub IsExported : ReplicaEnd → List ℕ → View → View → Type 0
IsExported ended bytes old new = ((ended ≡ Done) × (new.now.said ≡ old.now.said ++ bytes))
    ⊎ ((ended ≡ Memory) ⊎ (ended ≡ NoReplica OutOfMemory))

-- over an image, where neither the disk nor the port fails, its bytes are said
abbrev pub ExportCompletes : ReplicaEnd → View → View → Type 0
ExportCompletes ended old new = (Rose (old.faults 17) (new.faults 17) → ⊥)
    → (Rose old.port_faults new.port_faults → ⊥)
    → OfImage (λ image. IsExported ended (image_bytes image) old new) old

-- how it ends by what became of the image
abbrev pub exported : {T : Type 0} → Result T ExportFault → ReplicaEnd
exported (Ok value) = Done
exported (Err Fault.Disk) = NotExported
exported (Err Fault.Port) = Port

-- the most bytes that wait for the port, over blocks of a size
abbrev pub export_room : ℕ → ℕ
export_room size = 32768 + size

-- The image was said over the replica that was mounted, in pieces of at least 32 KiB but for the
-- last.
pub record SaysImage (a : MountedReplica) (ended : ReplicaEnd) (old new : View) : Type 0 where
  pub result : Result (Unit {0}) ExportFault
  pub is : ended ≡ exported result
  pub steps : (image : List (List ℕ)) → Mirrors a.store old image
      → Steps old new (SpokePart (image_bytes image)) (HasSaidImage image result)
  pub disks : KeepsDisks old new
  pub cause : IfErr result (IsExportFault old new)
  pub calls : SaysInPieces a.store.shape (export_room a.store.shape.block) result old new

-- a replica was mounted in five calls of the bank, and then its image was said
pub record ExportsMounted {B : Type 0} (view : B → View) (ended : ReplicaEnd) (first last : B)
    : Type 0 where
  pub a : MountedReplica
  pub mounted : B
  pub mounts : MountsReplica a (view first) (view mounted)
  pub reads : OnlyReads (view first) (view mounted)
  pub called : CalledTimes 5 (view first) (view mounted)
  pub says : SaysImage a ended (view mounted) (view last)

-- where bytes of the image were to be said
abbrev pub GoesByImage : {B : Type 0} → (B → View) → ReplicaEnd → B → B → Type 0
GoesByImage view ended first last =
    changes_no_disk ended ≡ false → ExportsMounted view ended first last

-- What `replica-export` does. What is said of bytes and of disks holds where the bank tells them.
pub record ExportOutcome (ended : ReplicaEnd) (old new : View) : Type 0 where
  pub cause : ExportCause ended old new
  pub first : MountFirst ended old
  pub said : ExportSaid ended old old.now new.now
  pub silent : IsSilent ended old new
  pub changes : ChangesNothing old new
  pub steps : Steps old new (ExportLeavesNow old) (ExportSaid ended old)
  pub completes : ExportCompletes ended old new
  -- where it ended before it read the image, the bank was called by the mount alone
  pub calls : changes_no_disk ended ≡ true → CalledAtMost 5 old new
