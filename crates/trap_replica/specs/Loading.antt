-- Loading a replica's image from a source.
use Rattle.std.specs.Prelude.{◌≡◌, ◌⊎◌, ℕ, zero, suc, ◌+◌, ◌*◌, ◌<◌, ◌≤◌, List, [], ◌∷◌, length}
use Rattle.std.specs.Prelude.{take, drop, Result, OnOk, IfErr}
use Rattle.trap_bank.specs.Disks.{View, Area, Within}
use Rattle.trap_bank.specs.Faults.{Rose}
use Rattle.trap_bank.specs.Filling.{CountsBytes, IsInputEnd}
use Rattle.trap_bank.specs.Steps.{Moves}
use Rattle.trap_bank.specs.Stream.{Stream}
use Rattle.trap_format.specs.ReplicaDisk.{home_at}
use Rattle.trap_format.specs.declared.shape.Shape.{Shape}
use Rattle.trap_replica.specs.Creating.{ShutsReplica, MakesReplica, HasMade}
use Rattle.trap_replica.specs.declared.fault.ReplicaFault.{ReplicaFault}
use Rattle.trap_replica.specs.declared.fault.ReplicaFault.TheVariants.{Exists, NotAReplica, Damaged}
use Rattle.trap_replica.specs.declared.fault.ReplicaFault.TheVariants.{DiskFault, ReadFault}
use Rattle.trap_replica.specs.declared.fault.ReplicaFault.TheVariants.{ShortImage, LongImage}
use Rattle.trap_replica.specs.declared.fault.ReplicaFault.TheVariants.{Stranger, NoBlock, Stopped}
use Rattle.trap_replica.specs.declared.fault.ReplicaFault.TheVariants.{OutOfMemory}

-- the bytes cut into that many blocks
abbrev pub cut_blocks : ℕ → ℕ → List ℕ → List (List ℕ)
cut_blocks size zero bytes = []
cut_blocks size (suc n) bytes = take size bytes ∷ cut_blocks size n (drop size bytes)

-- how many bytes an image has
abbrev pub image_size : Shape → ℕ
image_size s = s.volume * s.block

-- the image of these bytes
abbrev pub image_of : Shape → List ℕ → List (List ℕ)
image_of s bytes = cut_blocks s.block s.volume bytes

-- the positions of all blocks in the image area
abbrev pub image_area : Shape → Area
image_area s = Within 17 (home_at s 0) (image_size s)

-- why no image was loaded, or only in part, after that many bytes of the source were taken
abbrev pub IsLoadFault : Shape → ℕ → View → View → Stream → Stream → ReplicaFault → Type 0
IsLoadFault s taken old new from to (Exists disk) = ⊥
IsLoadFault s taken old new from to NotAReplica = ⊥
IsLoadFault s taken old new from to (Damaged offset) = ⊥
IsLoadFault s taken old new from to DiskFault =
    (taken ≤ image_size s) × Rose (old.faults 17) (new.faults 17)
IsLoadFault s taken old new from to ReadFault =
    (taken ≤ image_size s) × Rose from.faults to.faults
IsLoadFault s taken old new from to (ShortImage at) =
    (at ≡ taken) × (taken < image_size s) × IsInputEnd to
IsLoadFault s taken old new from to (LongImage at) =
    (at ≡ image_size s) × (taken ≡ image_size s + 1)
IsLoadFault s taken old new from to (Stranger id) = ⊥
IsLoadFault s taken old new from to (NoBlock block) = ⊥
IsLoadFault s taken old new from to Stopped = ⊥
IsLoadFault s taken old new from to OutOfMemory = taken ≡ 0

-- These bytes were taken of the source. After Ok they are the whole input and an image of this
-- shape, and every crash leaves the new replica that holds it. Stopped at any moment, the gate of
-- disk 17 is off, or the disk holds the image of these bytes.
pub record Loads {T : Type 0} (s : Shape) (number time : ℕ) (bytes : List ℕ)
    (result : Result T ReplicaFault) (old new : View) (from to : Stream) : Type 0 where
  pub took : CountsBytes bytes 0 (length bytes) from to
  pub whole : OnOk result ((length bytes ≡ image_size s) × IsInputEnd to)
  pub made : OnOk result (Moves old new (MakesReplica s number time (image_of s bytes))
      (HasMade s number time (image_of s bytes)))
  pub refused : IfErr result (IsLoadFault s (length bytes) old new from to)
  -- refused before the gate, it was off all the time; else the gate failed, and the whole input
  -- was seen before it
  pub shut : IfErr result (λ why. Moves old new ShutsReplica ShutsReplica
      ⊎ ((why ≡ DiskFault) × (length bytes ≡ image_size s) × IsInputEnd to))
  pub any_moment : Moves old new (MakesReplica s number time (image_of s bytes))
      (MakesReplica s number time (image_of s bytes))
