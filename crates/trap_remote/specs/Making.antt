-- What `replica-create` and `replica-load` have in common: whether a replica may be made, and what
-- disk 17 holds once one is being made.
use Rattle.std.specs.Prelude.{◌≡◌, ◌≢◌, ◌⊎◌, ℕ, List, ◌++◌, Option, Some, None}
use Rattle.trap_bank.specs.Calls.{SaysPart}
use Rattle.trap_bank.specs.Disks.{Contents, Disks, View, Differs, Quiet}
use Rattle.trap_format.specs.ReplicaDisk.{first_broken_shape, HasShape, replica_size}
use Rattle.trap_format.specs.declared.limits.Field.{Field}
use Rattle.trap_format.specs.declared.shape.Shape.{Shape}
use Rattle.trap_replica.specs.Creating.{MakesReplica, HasMade, IsReplicaGateOff}
use Rattle.trap_replica.specs.OnDisk.{ReplicaHolds}
use Rattle.trap_replica.specs.declared.fault.ReplicaFault.TheVariants.{Exists}
use Rattle.trap_remote.specs.Found.{IsFirstPart}
use Rattle.trap_remote.specs.declared.outcome.AskedReplica.{AskedReplica}
use Rattle.trap_remote.specs.declared.outcome.ReplicaEnd.{ReplicaEnd}
use Rattle.trap_remote.specs.declared.outcome.ReplicaEnd.TheVariants.{BadGeometry, NotMade}

-- the first of the numbers that breaks its limit, where one does; the image begins with this number
abbrev pub first_broken_in : AskedReplica → ℕ → Option Field
first_broken_in asked seq = first_broken_shape asked.block asked.volume seq

-- the shape has the numbers that were asked for
abbrev pub HasAskedNumbers : AskedReplica → Shape → Type 0
HasAskedNumbers asked s = HasShape s asked.id asked.block asked.volume

-- the numbers keep their limits, and disk 17 isn't there
pub record MayMake (asked : AskedReplica) (seq : ℕ) (old : View) : Type 0 where
  pub kept : first_broken_in asked seq ≡ None
  pub shape : Shape
  pub asked_ : HasAskedNumbers asked shape
  pub none : old.sizes 17 ≡ None

-- and then disk 17 has the size of the replica
abbrev pub HasMadeDisk : AskedReplica → ℕ → View → View → Type 0
HasMadeDisk asked seq old new =
    (may : MayMake asked seq old) × (new.sizes 17 ≡ Some (replica_size may.shape))

-- the disk that is there already, though the numbers keep their limits
pub record IsThereAlready (asked : AskedReplica) (seq disk : ℕ) (old : View) : Type 0 where
  pub kept : first_broken_in asked seq ≡ None
  pub is : disk ≡ 17
  pub there : old.sizes 17 ≢ None

-- whatever the bank tells: a number that breaks its limit comes first, then a disk 17 that is there
pub record MakeFirst (asked : AskedReplica) (seq : ℕ) (ended : ReplicaEnd) (old : View)
    : Type 0 where
  pub broken : (field : Field) → first_broken_in asked seq ≡ Some field → ended ≡ BadGeometry field
  pub there : first_broken_in asked seq ≡ None → old.sizes 17 ≢ None
      → ended ≡ NotMade (Exists 17)

-- a replica of the numbers asked for was made, which holds this image, and the line was said
pub record SaysMade (asked : AskedReplica) (number time : ℕ) (image : Shape → List (List ℕ))
    (line : List ℕ) (old new : Contents) : Type 0 where
  pub shape : Shape
  pub asked_ : HasAskedNumbers asked shape
  pub made : HasMade shape number time (image shape) old.disks new.disks
  pub said : new.said ≡ old.said ++ line

-- it was made, and the port failed in the line
pub record CutsMade (asked : AskedReplica) (number time : ℕ) (image : Shape → List (List ℕ))
    (line : List ℕ) (old new : Contents) : Type 0 where
  pub shape : Shape
  pub asked_ : HasAskedNumbers asked shape
  pub made : HasMade shape number time (image shape) old.disks new.disks
  pub part : SaysPart line old new

-- Disk 17 failed, or what it was to hold didn't come: its gate is off, or it holds this image.
-- Nothing was said.
pub record MakesAsked (asked : AskedReplica) (number time : ℕ) (image : Shape → List (List ℕ))
    (old new : Contents) : Type 0 where
  pub shape : Shape
  pub asked_ : HasAskedNumbers asked shape
  pub makes : Quiet (MakesReplica shape number time (image shape)) old new

-- disk 17 holds this image, in the shape that was asked for
abbrev pub HoldsAsked : AskedReplica → ℕ → ℕ → (Shape → List (List ℕ)) → Disks → Type 0
HoldsAsked asked number time image disks =
    (s : Shape) × HasAskedNumbers asked s × ReplicaHolds s number time (image s) disks

-- Where a first part of the line was said: no disk changed where a number breaks its limit, or disk
-- 17 was there. Otherwise the gate of disk 17 is off, or it holds the image; it holds it where the
-- whole line was said.
pub record LeavesMade (asked : AskedReplica) (number time : ℕ) (image : Shape → List (List ℕ))
    (line : List ℕ) (old : View) (part : List ℕ) (disks : Disks) : Type 0 where
  pub front : IsFirstPart part line
  pub broken : (field : Field) → first_broken_in asked number ≡ Some field
      → Differs old.unsynced old.now.disks disks
  pub there : old.sizes 17 ≢ None → Differs old.unsynced old.now.disks disks
  pub made : first_broken_in asked number ≡ None → old.sizes 17 ≡ None
      → IsReplicaGateOff disks ⊎ HoldsAsked asked number time image disks
  pub whole : part ≡ line → HoldsAsked asked number time image disks
