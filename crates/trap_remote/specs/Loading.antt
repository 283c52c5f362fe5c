-- The command `replica-load`: why it ends, what it takes, and what its input makes of disk 17.
pub use Rattle.trap_remote.specs.Loaded.{input_image, HasImageSize, LoadEnds}
pub use Rattle.trap_remote.specs.Loaded.{LeavesLoaded, LoadLeaves}
use Rattle.std.specs.Prelude.{◌≡◌, ◌⊎◌, ℕ, ◌+◌, List, ◌++◌, length, None, Some, IsTrue}
use Rattle.trap_bank.specs.Called.{CalledAtMost}
use Rattle.trap_bank.specs.Disks.{Contents, View}
use Rattle.trap_bank.specs.Faults.{Rose}
use Rattle.trap_bank.specs.Filling.{CountsBytes, IsInputEnd}
use Rattle.trap_bank.specs.Steps.{Steps}
use Rattle.trap_bank.specs.Stream.{Stream}
use Rattle.trap_format.specs.ReplicaDisk.{replica_size}
use Rattle.trap_replica.specs.Loading.{image_size, IsLoadFault}
use Rattle.trap_replica.specs.declared.fault.ReplicaFault.{ReplicaFault}
use Rattle.trap_replica.specs.declared.fault.ReplicaFault.TheVariants.{Exists}
use Rattle.trap_replica.specs.declared.fault.ReplicaFault.TheVariants.{OutOfMemory}
use Rattle.trap_remote.specs.Ended.{loaded_line}
use Rattle.trap_remote.specs.Found.{ChangesReplica, ReadsSource, IsSilent, NoFaultRose}
use Rattle.trap_remote.specs.Making.{first_broken_in, MayMake, IsThereAlready, MakeFirst}
use Rattle.trap_remote.specs.declared.outcome.AskedReplica.{AskedReplica}
use Rattle.trap_remote.specs.declared.outcome.Start.{Start}
use Rattle.trap_remote.specs.declared.outcome.ReplicaEnd.{ReplicaEnd}
use Rattle.trap_remote.specs.declared.outcome.ReplicaEnd.TheVariants.{Done, Memory, Port}
use Rattle.trap_remote.specs.declared.outcome.ReplicaEnd.TheVariants.{BadGeometry, NoReplica}
use Rattle.trap_remote.specs.declared.outcome.ReplicaEnd.TheVariants.{NotMade, NotApplied}
use Rattle.trap_remote.specs.declared.outcome.ReplicaEnd.TheVariants.{NotExported}

-- The numbers keep their limits, disk 17 wasn't there, and now it has the replica's size. The
-- source was read to its end, and gave as many bytes as the image has.
pub record HasLoadedDisk (asked : AskedReplica) (start : Start) (old new : View)
    (from to : Stream) : Type 0 where
  pub may : MayMake asked start.seq old
  pub size : new.sizes 17 ≡ Some (replica_size may.shape)
  pub bytes : List ℕ
  pub took : CountsBytes bytes 0 (length bytes) from to
  pub long : length bytes ≡ image_size may.shape
  pub ended : IsInputEnd to

-- why no image was loaded, after these bytes of the source
pub record FailsLoading (asked : AskedReplica) (start : Start) (why : ReplicaFault)
    (old new : View) (from to : Stream) : Type 0 where
  pub may : MayMake asked start.seq old
  pub bytes : List ℕ
  pub took : CountsBytes bytes 0 (length bytes) from to
  pub fault : IsLoadFault may.shape (length bytes) old new from to why

abbrev pub NotLoadedCause : AskedReplica → Start → ReplicaFault → View → View → Stream → Stream
    → Type 0
NotLoadedCause asked start (Exists disk) old new from to = IsThereAlready asked start.seq disk old
NotLoadedCause asked start why old new from to = FailsLoading asked start why old new from to

-- why `replica-load` ends so
abbrev pub LoadCause : AskedReplica → Start → ReplicaEnd → View → View → Stream → Stream → Type 0
LoadCause asked start Done old new from to = HasLoadedDisk asked start old new from to
LoadCause asked start Memory old new from to = ⊥
LoadCause asked start Port old new from to =
    HasLoadedDisk asked start old new from to × Rose old.port_faults new.port_faults
LoadCause asked start (BadGeometry field) old new from to =
    first_broken_in asked start.seq ≡ Some field
LoadCause asked start (NoReplica why) old new from to = ⊥
LoadCause asked start (NotMade why) old new from to =
    NotLoadedCause asked start why old new from to
LoadCause asked start (NotApplied why) old new from to = ⊥
LoadCause asked start NotExported old new from to = ⊥

-- a crash while it runs leaves this, where the source told its input
abbrev pub LoadLeavesNow : AskedReplica → Start → View → Stream → Contents → Contents → Type 0
LoadLeavesNow asked start old from x y =
    (input : List ℕ) → from.left ≡ Some input → LoadLeaves asked start input old x y

-- and one at its end this
abbrev pub LoadSaid : AskedReplica → Start → ReplicaEnd → Stream → Contents → Contents → Type 0
LoadSaid asked start ended from x y = (input : List ℕ) → from.left ≡ Some input
    → LoadEnds asked start input ended x y

-- the line was said; or there was no memory
abbrev pub IsImageLoaded : ReplicaEnd → List ℕ → View → View → Type 0
IsImageLoaded ended line old new =
    ((ended ≡ Done) × (IsTrue old.tells → new.now.said ≡ old.now.said ++ line))
    ⊎ (ended ≡ NotMade OutOfMemory)

-- within the limits, over no disk 17, where nothing fails an input of the image's size is loaded
abbrev pub LoadCompletes : AskedReplica → Start → ReplicaEnd → View → View → Stream → Stream
    → Type 0
LoadCompletes asked start ended old new from to = (input : List ℕ)
    → first_broken_in asked start.seq ≡ None → old.sizes 17 ≡ None → from.left ≡ Some input
    → HasImageSize asked input → NoFaultRose old new from to
    → IsImageLoaded ended (loaded_line start.seq) old new

-- Whether or not the source tells its input: this was said and left, by the bytes that were taken,
-- and at any moment a crash left this.
pub record LoadTaken (asked : AskedReplica) (start : Start) (ended : ReplicaEnd)
    (old new : View) (from to : Stream) : Type 0 where
  pub bytes : List ℕ
  pub took : CountsBytes bytes 0 (length bytes) from to
  pub said : IsTrue old.tells → LoadEnds asked start bytes ended old.now new.now
  pub steps : Steps old new (LoadLeaves asked start bytes old) (LoadEnds asked start bytes ended)

-- What `replica-load` does. What is said of bytes and of disks holds where the bank tells them.
pub record LoadOutcome (asked : AskedReplica) (start : Start) (ended : ReplicaEnd)
    (old new : View) (from to : Stream) : Type 0 where
  pub cause : LoadCause asked start ended old new from to
  pub first : MakeFirst asked start.seq ended old
  pub said : IsTrue old.tells → LoadSaid asked start ended from old.now new.now
  pub silent : IsSilent ended old new
  pub changes : ChangesReplica ended old new
  pub source : ReadsSource ended from to
  pub steps : Steps old new (LoadLeavesNow asked start old from) (LoadSaid asked start ended from)
  pub taken : LoadTaken asked start ended old new from to
  pub completes : LoadCompletes asked start ended old new from to
  pub calls : CalledAtMost (asked.volume + 11) old new
