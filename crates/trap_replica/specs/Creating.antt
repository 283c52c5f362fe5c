-- Making a replica on a disk that isn't there.
use Rattle.std.specs.Prelude.{◌≡◌, ◌≢◌, ◌⊎◌, ℕ, ◌+◌, ◌<◌, ◌≤◌, List, replicate, take, drop, Some}
use Rattle.std.specs.Prelude.{IsTrue, Result, OnOk}
use Rattle.trap_bank.specs.Disks.{Disks, View, Area, Within, Differs, Quiet, byte, region, size_of}
use Rattle.trap_model.specs.Image.{block_of}
use Rattle.trap_model.specs.Limits.{open_gate}
use Rattle.trap_cell.specs.Slots.{Stands, begun, cell_len, cell_value}
use Rattle.trap_format.specs.ReplicaDisk.{replica_start, replica_size, replica_header, home_at}
use Rattle.trap_format.specs.declared.shape.Shape.{Shape}
use Rattle.trap_replica.specs.OnDisk.{cell_place, value_bytes, ReplicaHolds}
use Rattle.trap_replica.specs.Applying.{Elsewhere}

-- disk 17 is there with at least 32 bytes, and begins with an open gate and the magic bytes
pub record BeginsReplica (disks : Disks) : Type 0 where
  pub bytes : ℕ
  pub there : size_of (disks 17) ≡ Some bytes
  pub least : 32 ≤ bytes
  pub start : take 5 (region disks 17 0 32) ≡ replica_start

-- disk 17 is no replica, so that mounting refuses it
abbrev pub IsNoReplica : Disks → Type 0
IsNoReplica disks = ¬ BeginsReplica disks

-- zero blocks
abbrev pub zero_blocks : Shape → List (List ℕ)
zero_blocks s = replicate s.volume (replicate s.block 0)

-- the gate of disk 17 is off, or the disk is absent
abbrev pub IsReplicaGateOff : Disks → Type 0
IsReplicaGateOff disks = byte disks 17 0 ≢ open_gate

-- while a replica is made: the gate of disk 17 is off, or the disk holds the image
pub record MakesReplica (s : Shape) (number time : ℕ) (image : List (List ℕ)) (old new : Disks)
    : Type 0 where
  pub others : Elsewhere old new
  pub disk : IsReplicaGateOff new ⊎ ReplicaHolds s number time image new

-- a new replica: its cell is begun and names block 0, and each block is at home
pub record IsNewReplica (s : Shape) (number time : ℕ) (image : List (List ℕ)) (disks : Disks)
    : Type 0 where
  pub header : region disks 17 0 32 ≡ replica_header s
  pub size : size_of (disks 17) ≡ Some (replica_size s)
  pub cell : Stands (begun (cell_place s)) disks
  pub value : cell_value (cell_place s) disks
      ≡ Some (value_bytes number time 0 (block_of image 0))
  pub homes : (b : ℕ) → b < s.volume → region disks 17 (home_at s b) s.block ≡ block_of image b

-- and when it is made
pub record HasMade (s : Shape) (number time : ℕ) (image : List (List ℕ)) (old new : Disks)
    : Type 0 where
  pub others : Elsewhere old new
  pub holds : ReplicaHolds s number time image new
  pub fresh : IsNewReplica s number time image new

-- disk 17 is a new replica but for its gate, which is off
pub record IsShutReplica (s : Shape) (number time : ℕ) (image : List (List ℕ)) (disks : Disks)
    : Type 0 where
  pub gate : IsReplicaGateOff disks
  pub size : size_of (disks 17) ≡ Some (replica_size s)
  pub rest : region disks 17 1 31 ≡ drop 1 (replica_header s)
  pub cell : Stands (begun (cell_place s)) disks
  pub value : cell_value (cell_place s) disks
      ≡ Some (value_bytes number time 0 (block_of image 0))
  pub homes : (b : ℕ) → b < s.volume → region disks 17 (home_at s b) s.block ≡ block_of image b

-- the header after its gate, and the cell
abbrev pub front : Shape → Area
front s = Within 17 1 (31 + cell_len (cell_place s))

-- the header after its gate, and the cell with its first value; a crash leaves both as a read gives
-- them
pub record BeginsShut (v : View) (s : Shape) (value_ : List ℕ) (old new : Disks) : Type 0 where
  pub differs : Differs (front s) old new
  pub rest : region new 17 1 31 ≡ drop 1 (replica_header s)
  pub cell : Stands (begun (cell_place s)) new
  pub value : cell_value (cell_place s) new ≡ Some value_
  pub read : new 17 ≡ v.now.disks 17

-- while the gate of the replica that is made is off
pub record ShutsReplica (old new : Disks) : Type 0 where
  pub others : Elsewhere old new
  pub disk : (new 17 ≡ old 17) ⊎ IsReplicaGateOff new

-- and when it is made, with the gate off
pub record HasShutReplica (s : Shape) (number time : ℕ) (image : List (List ℕ)) (old new : Disks)
    : Type 0 where
  pub others : Elsewhere old new
  pub replica : IsShutReplica s number time image new

-- disk 17 alone is made, with the replica's size
pub record MakesDisk {T E : Type 0} (s : Shape) (result : Result T E) (old new : View)
    : Type 0 where
  pub size : OnOk result (new.sizes 17 ≡ Some (replica_size s))
  pub sizes : (e : ℕ) → e ≢ 17 → new.sizes e ≡ old.sizes e
  pub touches : IsTrue old.tells → Quiet Elsewhere old.now new.now
