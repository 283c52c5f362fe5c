-- Mounting a replica: what is found on disk 17, and why it is refused.
use Rattle.std.specs.Prelude.{◌≡◌, ◌⊎◌, ℕ, ◌^◌, ◌<◌, ◌≤◌, List, [], Some, IsTrue, false}
use Rattle.trap_bank.specs.Disks.{Disks, View, region, size_of}
use Rattle.trap_bank.specs.Steps.{Always}
use Rattle.trap_cell.specs.Slots.{cell_value}
use Rattle.trap_format.specs.ReplicaDisk.{replica_size, replica_header}
use Rattle.trap_format.specs.declared.shape.Shape.{Shape}
use Rattle.trap_replica.specs.OnDisk.{cell_place, value_bytes, ReplicaHolds}
use Rattle.trap_replica.specs.Creating.{BeginsReplica, IsNoReplica}
use Rattle.trap_replica.specs.Standing.{IsStoreReady, Mirrors}
use Rattle.trap_replica.specs.Mounted.{MountedReplica}
use Rattle.trap_replica.specs.declared.fault.ReplicaFault.{ReplicaFault}
use Rattle.trap_replica.specs.declared.fault.ReplicaFault.TheVariants.{Exists, NotAReplica, Damaged}
use Rattle.trap_replica.specs.declared.fault.ReplicaFault.TheVariants.{DiskFault, ReadFault}
use Rattle.trap_replica.specs.declared.fault.ReplicaFault.TheVariants.{ShortImage, LongImage}
use Rattle.trap_replica.specs.declared.fault.ReplicaFault.TheVariants.{Stranger, NoBlock, Stopped}
use Rattle.trap_replica.specs.declared.fault.ReplicaFault.TheVariants.{OutOfMemory}
use Rattle.trap_replica.specs.declared.store.Store.{Store}

-- disk 17 has the header of this shape, and its size
pub record HasReplicaHeader (s : Shape) (disks : Disks) : Type 0 where
  pub id : s.id < 2 ^ 64
  pub header : region disks 17 0 32 ≡ replica_header s
  pub size : size_of (disks 17) ≡ Some (replica_size s)

-- disk 17 begins as a replica, but has no header with its size
pub record IsHeaderDamaged (disks : Disks) : Type 0 where
  pub begins : BeginsReplica disks
  pub none : (s : Shape) → ¬ HasReplicaHeader s disks

-- the bytes are no value of the cell: the number is above 2^40, or the block isn't one
abbrev pub IsNoValue : Shape → List ℕ → Type 0
IsNoValue s bytes = (number time block : ℕ) (contents : List ℕ)
    → bytes ≡ value_bytes number time block contents → number ≤ 2 ^ 40 → ¬ (block < s.volume)

-- the header stands, but the cell has no value
pub record IsCellDamaged (disks : Disks) : Type 0 where
  pub shape : Shape
  pub has : HasReplicaHeader shape disks
  pub none : (bytes : List ℕ) → cell_value (cell_place shape) disks ≡ Some bytes
      → IsNoValue shape bytes

-- why mounting refuses these disks, faults apart
abbrev pub IsRefusedAs : Disks → ReplicaFault → Type 0
IsRefusedAs disks (Exists disk) = ⊥
IsRefusedAs disks NotAReplica = IsNoReplica disks
IsRefusedAs disks (Damaged offset) = ((offset ≡ 0) × IsHeaderDamaged disks)
    ⊎ ((offset ≡ 32) × IsCellDamaged disks)
IsRefusedAs disks DiskFault = Unit {0}
IsRefusedAs disks ReadFault = ⊥
IsRefusedAs disks (ShortImage at) = ⊥
IsRefusedAs disks (LongImage at) = ⊥
IsRefusedAs disks (Stranger id) = ⊥
IsRefusedAs disks (NoBlock block) = ⊥
IsRefusedAs disks Stopped = ⊥
IsRefusedAs disks OutOfMemory = Unit {0}

-- the answers of a mount that isn't done
abbrev pub IsMountFault : ReplicaFault → Type 0
IsMountFault (Exists disk) = ⊥
IsMountFault NotAReplica = Unit {0}
IsMountFault (Damaged offset) = (offset ≡ 0) ⊎ (offset ≡ 32)
IsMountFault DiskFault = Unit {0}
IsMountFault ReadFault = ⊥
IsMountFault (ShortImage at) = ⊥
IsMountFault (LongImage at) = ⊥
IsMountFault (Stranger id) = ⊥
IsMountFault (NoBlock block) = ⊥
IsMountFault Stopped = ⊥
IsMountFault OutOfMemory = Unit {0}

-- every crash leaves of disk 17 what a read gives
abbrev pub IsReplicaStable : View → Type 0
IsReplicaStable v = Always v (λ disks. disks 17 ≡ v.now.disks 17)

-- the header of this shape was read, and its disk synced
pub record ReadsReplicaHeader (s : Shape) (old new : View) : Type 0 where
  pub id : s.id < 2 ^ 64
  pub size : old.sizes 17 ≡ Some (replica_size s)
  pub has : IsTrue old.tells → HasReplicaHeader s old.now.disks
  pub stable : IsReplicaStable new

-- what is known of the disk is what stands there
pub record IsStoreFound (p : Store) (disks : Disks) : Type 0 where
  pub has : HasReplicaHeader p.shape disks
  pub value : cell_value (cell_place p.shape) disks
      ≡ Some (value_bytes p.number p.time p.block p.contents.items)

-- what is known is this replica's number and time, and every crash leaves its image
pub record Knows (p : Store) (v : View) (s : Shape) (n t : ℕ) (image : List (List ℕ))
    : Type 0 where
  pub shape : p.shape ≡ s
  pub number : p.number ≡ n
  pub time : p.time ≡ t
  pub mirrors : Mirrors p v image

-- the replica was found on the disk, whichever it holds
pub record Opens (p : Store) (old new : View) : Type 0 where
  pub ready : IsStoreReady p new
  pub found : IsTrue old.tells → IsStoreFound p old.now.disks
  pub fits : p.time < 2 ^ 64
  pub knows : (s : Shape) (number time : ℕ) (image : List (List ℕ)) → IsTrue old.tells
      → ReplicaHolds s number time image old.now.disks → Knows p new s number time image

-- it is mounted: the disk had its size and held an image, and no frame waits
pub record MountsReplica (r : MountedReplica) (old new : View) : Type 0 where
  pub opens : Opens r.store old new
  pub exact : old.sizes 17 ≡ Some (replica_size r.store.shape)
  pub holds : IsTrue old.tells → (image : List (List ℕ))
      × ReplicaHolds r.store.shape r.store.number r.store.time image old.now.disks
  pub held : r.held.frames ≡ []
  pub running : r.is_stopped ≡ false
