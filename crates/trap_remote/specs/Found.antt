-- What the commands of a replica have in common: what stands on disk 17 before them, and what they
-- may change, take and say.
use Rattle.std.specs.Prelude.{◌≡◌, ◌≢◌, ◌⊎◌, ℕ, ◌+◌, ◌^◌, ◌<◌, ◌≤◌, List, ◌++◌, length}
use Rattle.std.specs.Prelude.{Some, None, IsTrue, true, false}
use Rattle.std.specs.Io.KnownBytes.{Consumes}
use Rattle.trap_bank.specs.Disks.{Contents, Disks, View}
use Rattle.trap_bank.specs.Faults.{Rose}
use Rattle.trap_bank.specs.Steps.{Steps, Same}
use Rattle.trap_bank.specs.Stream.{Stream}
use Rattle.trap_format.specs.ReplicaDisk.{replica_size}
use Rattle.trap_format.specs.declared.shape.Shape.{Shape}
use Rattle.trap_replica.specs.Applying.{Elsewhere}
use Rattle.trap_replica.specs.Mounting.{HasReplicaHeader, IsMountFault, IsRefusedAs}
use Rattle.trap_replica.specs.declared.fault.ReplicaFault.{ReplicaFault}
use Rattle.trap_replica.specs.declared.fault.ReplicaFault.TheVariants.{NotAReplica, DiskFault}
use Rattle.trap_replica.specs.declared.fault.ReplicaFault.TheVariants.{OutOfMemory}
use Rattle.trap_remote.specs.Ended.{changes_no_disk, reads_source, ends_unspoken}
use Rattle.trap_remote.specs.declared.outcome.ReplicaEnd.{ReplicaEnd}
use Rattle.trap_remote.specs.declared.outcome.ReplicaEnd.TheVariants.{NoReplica}

-- disk 17 has the size of a replica of this shape and, where the bank tells, its header
pub record FindsReplica (s : Shape) (old : View) : Type 0 where
  pub size : old.sizes 17 ≡ Some (replica_size s)
  pub header : IsTrue old.tells → HasReplicaHeader s old.now.disks

-- why no replica was mounted: what disk 17 holds; or that it failed, so that its count rose
pub record NoReplicaCause (why : ReplicaFault) (old new : View) : Type 0 where
  pub kind : IsMountFault why
  pub refused : IsTrue old.tells → IsRefusedAs old.now.disks why
  pub failed : why ≡ DiskFault → Rose (old.faults 17) (new.faults 17)

-- over a disk that holds an image, mounting ends so only where the disk fails or memory is wanting
abbrev pub IsNoRefusal : ReplicaFault → Type 0
IsNoRefusal why = (why ≡ DiskFault) ⊎ (why ≡ OutOfMemory)

-- disk 17 is absent, or has fewer bytes than a header
abbrev pub LacksHeader : View → Type 0
LacksHeader v = (n : ℕ) → v.sizes 17 ≡ Some n → n < 32

-- whatever the bank tells: such a disk is no replica
abbrev pub MountFirst : ReplicaEnd → View → Type 0
MountFirst ended old = LacksHeader old → ended ≡ NoReplica NotAReplica

-- by this step of the disks, whatever was said
abbrev pub ByDisks : (Disks → Disks → Type 0) → Contents → Contents → Type 0
ByDisks step old new = step old.disks new.disks

-- The disks changed by this step alone: as a read gives them, and as a crash at any moment leaves
-- them.
pub record ChangesBy (step : Disks → Disks → Type 0) (old new : View) : Type 0 where
  pub now : IsTrue old.tells → step old.now.disks new.now.disks
  pub any_moment : Steps old new (ByDisks step) (ByDisks step)

-- no disk changed, nor its size
pub record ChangesNothing (old new : View) : Type 0 where
  pub sizes : (e : ℕ) → new.sizes e ≡ old.sizes e
  pub changes : ChangesBy Same old new

-- no disk but 17 changed, nor its size; where the command ended before that, 17 didn't either
pub record ChangesReplica (ended : ReplicaEnd) (old new : View) : Type 0 where
  pub sizes : (e : ℕ) → e ≢ 17 → new.sizes e ≡ old.sizes e
  pub elsewhere : ChangesBy Elsewhere old new
  pub unchanged : changes_no_disk ended ≡ true → ChangesNothing old new

-- these bytes were taken of the source, and no more than 2^40
pub record TookBytes (from to : Stream) : Type 0 where
  pub bytes : List ℕ
  pub taken : Consumes from.left to.left bytes
  pub given : to.given ≡ from.given + length bytes
  pub most : length bytes ≤ 2 ^ 40
  pub faults : from.faults ≤ to.faults
  -- a source that doesn't tell its bytes never begins to
  pub untold : from.left ≡ None → to.left ≡ None

-- the bytes taken are the next of the source's; where the command ended before that, none was taken
pub record ReadsSource (ended : ReplicaEnd) (from to : Stream) : Type 0 where
  pub took : TookBytes from to
  pub unread : reads_source ended ≡ false → to ≡ from

-- where the command ended before it said anything, nothing was said
abbrev pub IsSilent : ReplicaEnd → View → View → Type 0
IsSilent ended old new =
    ends_unspoken ended ≡ true → IsTrue old.tells → new.now.said ≡ old.now.said

-- some bytes were said since these, and the disks are as those bytes tell
pub record LeftSaid (Has : List ℕ → Disks → Type 0) (before : List ℕ) (c : Contents) : Type 0 where
  pub part : List ℕ
  pub said : c.said ≡ before ++ part
  pub leaves : Has part c.disks

-- a first part of a text
abbrev pub IsFirstPart : List ℕ → List ℕ → Type 0
IsFirstPart part text = (rest : List ℕ) × (part ++ rest ≡ text)

-- no count of disk 17, of the port or of the source rose
pub record NoFaultRose (old new : View) (from to : Stream) : Type 0 where
  pub disk : Rose (old.faults 17) (new.faults 17) → ⊥
  pub port : Rose old.port_faults new.port_faults → ⊥
  pub source : Rose from.faults to.faults → ⊥
