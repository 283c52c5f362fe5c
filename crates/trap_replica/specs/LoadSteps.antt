-- The steps of loading a replica: block after block, the end of the input, and all but the gate.
use Rattle.std.specs.Prelude.{◌≡◌, ◌≢◌, ◌⊎◌, ℕ, ◌+◌, ◌*◌, ◌<◌, ◌≤◌, List, [], length, take, drop}
use Rattle.std.specs.Prelude.{IsTrue, Result, OnOk, IfErr}
use Rattle.trap_bank.specs.Disks.{View, Disks, Differs, Torn, region}
use Rattle.trap_bank.specs.Faults.{Rose}
use Rattle.trap_bank.specs.Filling.{CountsBytes, IsInputEnd}
use Rattle.trap_bank.specs.Steps.{Moves}
use Rattle.trap_bank.specs.Stream.{Stream}
use Rattle.trap_format.specs.ReplicaDisk.{home_at}
use Rattle.trap_format.specs.declared.shape.Shape.{Shape}
use Rattle.trap_replica.specs.Creating.{ShutsReplica, HasShutReplica}
use Rattle.trap_replica.specs.Loading.{image_size, image_of, image_area, IsLoadFault}
use Rattle.trap_replica.specs.OnDisk.{home}
use Rattle.trap_replica.specs.declared.fault.ReplicaFault.{ReplicaFault}
use Rattle.trap_replica.specs.declared.fault.ReplicaFault.TheVariants.{ReadFault, ShortImage}
use Rattle.trap_replica.specs.declared.fault.ReplicaFault.TheVariants.{LongImage, OutOfMemory}

-- the next bytes of an image fill a block, or the input ended before, or the source failed
pub record TakesBlock {T : Type 0} (bytes : List ℕ) (result : Result T ReplicaFault)
    (block : List ℕ) (used used' : ℕ) (from to : Stream) : Type 0 where
  pub took : CountsBytes bytes used used' from to
  pub whole : OnOk result (block ≡ bytes)
  pub most : length bytes ≤ length block
  pub refused : IfErr result (λ why. (length bytes < length block)
      × (((why ≡ ReadFault) × Rose from.faults to.faults)
      ⊎ ((why ≡ ShortImage used') × IsInputEnd to)))

-- a block was filled from the source and written home, or why not
pub record WritesBlock {T : Type 0} (s : Shape) (b : ℕ) (bytes : List ℕ)
    (result : Result T ReplicaFault) (used used' : ℕ) (old new : View) (from to : Stream)
    : Type 0 where
  pub took : CountsBytes bytes used used' from to
  pub whole : OnOk result (length bytes ≡ s.block)
  pub refused : IfErr result (λ why. (why ≢ OutOfMemory) × IsLoadFault s used' old new from to why)
  pub there : IsTrue old.tells
      → OnOk result (region new.now.disks 17 (home_at s b) s.block ≡ bytes)
  pub contents : IsTrue old.tells → Torn (home s b) old.now new.now
  pub moves : Moves old new (Differs (home s b)) (Differs (home s b))

-- after a whole image nothing is left; else one byte more was taken, or the source failed
pub record EndsImage {T : Type 0} (bytes : List ℕ) (result : Result T ReplicaFault)
    (used : ℕ) (from to : Stream) : Type 0 where
  pub took : CountsBytes bytes used (used + length bytes) from to
  pub ends : OnOk result ((bytes ≡ []) × IsInputEnd to)
  pub refused : IfErr result (λ why. ((why ≡ ReadFault) × (bytes ≡ []) × Rose from.faults to.faults)
      ⊎ ((why ≡ LongImage used) × (length bytes ≡ 1)))

-- the first blocks of the bytes are at home
abbrev pub HasHomes : Shape → ℕ → List ℕ → Disks → Type 0
HasHomes s count bytes disks = (b : ℕ) → b < count
    → region disks 17 (home_at s b) s.block ≡ take s.block (drop (b * s.block) bytes)

-- the image area was written with these bytes, or why not; nothing is synced
pub record WritesImage {T : Type 0} (s : Shape) (bytes : List ℕ) (result : Result T ReplicaFault)
    (old new : View) (from to : Stream) : Type 0 where
  pub took : CountsBytes bytes 0 (length bytes) from to
  pub whole : OnOk result ((length bytes ≡ image_size s) × IsInputEnd to)
  pub refused : IfErr result (λ why. (why ≢ OutOfMemory)
      × IsLoadFault s (length bytes) old new from to why)
  pub homes : IsTrue old.tells → OnOk result (HasHomes s s.volume bytes new.now.disks)
  pub contents : IsTrue old.tells → Torn (image_area s) old.now new.now
  pub moves : Moves old new (Differs (image_area s)) (Differs (image_area s))

-- the replica of these bytes was made but for its gate, or why not
pub record LoadsShut {T : Type 0} (s : Shape) (number time : ℕ) (bytes : List ℕ)
    (result : Result T ReplicaFault) (old new : View) (from to : Stream) : Type 0 where
  pub took : CountsBytes bytes 0 (length bytes) from to
  pub whole : OnOk result ((length bytes ≡ image_size s) × IsInputEnd to)
  pub shut : OnOk result (Moves old new ShutsReplica
      (HasShutReplica s number time (image_of s bytes)))
  pub refused : IfErr result (λ why. (why ≢ OutOfMemory)
      × IsLoadFault s (length bytes) old new from to why)
  pub any_moment : Moves old new ShutsReplica ShutsReplica
