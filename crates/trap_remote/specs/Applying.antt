-- The command `apply`: why it ends, what it says, what disk 17 holds then, and what a crash leaves.
use Rattle.std.specs.Prelude.{◌≡◌, ◌≢◌, ◌⊎◌, ℕ, ◌^◌, ◌<◌, List, [], ◌++◌, length, Option}
use Rattle.std.specs.Prelude.{Some, None, IsTrue, true}
use Rattle.trap_bank.specs.Called.{CalledAtMost}
use Rattle.trap_bank.specs.Disks.{Contents, Disks, View, Differs, Quiet}
use Rattle.trap_bank.specs.Faults.{Rose}
use Rattle.trap_bank.specs.Steps.{Steps, Same}
use Rattle.trap_bank.specs.Stream.{Stream}
use Rattle.trap_format.specs.declared.shape.Shape.{Shape}
use Rattle.trap_model.specs.Frame.{Sent, AreFrames}
use Rattle.trap_model.specs.Frame.Ending.{AtEnd}
use Rattle.trap_model.specs.Receiver.{Receiver, starting}
use Rattle.trap_replica.specs.OnDisk.{ReplicaHolds}
use Rattle.trap_apply.specs.declared.outcome.ApplyFault.{ApplyFault}
use Rattle.trap_apply.specs.declared.outcome.ApplyFault.TheVariants.{Stream as InStream}
use Rattle.trap_apply.specs.declared.outcome.ApplyFault.TheVariants.{Replica as InReplica}
use Rattle.trap_replica.specs.declared.fault.ReplicaFault.TheVariants.{DiskFault, OutOfMemory}
use Rattle.trap_remote.specs.Ended.{changes_no_disk}
use Rattle.trap_remote.specs.Found.{FindsReplica, NoReplicaCause, IsNoRefusal, MountFirst}
use Rattle.trap_remote.specs.Found.{ChangesReplica, ReadsSource, IsSilent, LeftSaid, NoFaultRose}
use Rattle.trap_remote.specs.Stream.{AreFor, ReadsStream}
use Rattle.trap_remote.specs.Receiving.{received_line, SaysSummary, CutsSummary, FailsApplying}
use Rattle.trap_remote.specs.Receiving.{LeavesApplied}
use Rattle.trap_remote.specs.declared.outcome.ReplicaEnd.{ReplicaEnd}
use Rattle.trap_remote.specs.declared.outcome.ReplicaEnd.TheVariants.{Done, Memory, Port}
use Rattle.trap_remote.specs.declared.outcome.ReplicaEnd.TheVariants.{BadGeometry, NoReplica}
use Rattle.trap_remote.specs.declared.outcome.ReplicaEnd.TheVariants.{NotMade, NotApplied}
use Rattle.trap_remote.specs.declared.outcome.ReplicaEnd.TheVariants.{NotExported}

-- a replica was mounted, and the frames of the source were read up to this fault, or to their end
pub record FindsAndReads (fault : Option ApplyFault) (old : View) (from to : Stream)
    : Type 0 where
  pub shape : Shape
  pub found : FindsReplica shape old
  pub frames : List Sent
  pub reads : ReadsStream shape frames fault from to

-- why `apply` ends so
abbrev pub ApplyCause : ReplicaEnd → View → View → Stream → Stream → Type 0
ApplyCause Done old new from to = FindsAndReads None old from to
ApplyCause Memory old new from to = (s : Shape) × FindsReplica s old
ApplyCause Port old new from to = (fault : Option ApplyFault)
    × (fault ≢ Some (InReplica DiskFault)) × FindsAndReads fault old from to
    × Rose old.port_faults new.port_faults
ApplyCause (BadGeometry field) old new from to = ⊥
ApplyCause (NoReplica why) old new from to = NoReplicaCause why old new
ApplyCause (NotMade why) old new from to = ⊥
ApplyCause (NotApplied why) old new from to = FindsAndReads (Some why) old from to
    × (why ≡ InReplica DiskFault → Rose (old.faults 17) (new.faults 17))
ApplyCause NotExported old new from to = ⊥

-- What `apply` said and left, over a disk that held the receiver's image, and an input that the
-- source told. With a failing disk nothing was said.
abbrev pub ApplyEnds : Shape → Receiver → List ℕ → ReplicaEnd → Contents → Contents → Stream
    → Stream → Type 0
ApplyEnds s r input Done old new from to = SaysSummary s r input None old new from to
ApplyEnds s r input Memory old new from to = Quiet Same old new
ApplyEnds s r input Port old new from to = CutsSummary s r input old new from to
ApplyEnds s r input (BadGeometry field) old new from to = ⊥
ApplyEnds s r input (NoReplica why) old new from to = IsNoRefusal why × Quiet Same old new
ApplyEnds s r input (NotMade why) old new from to = ⊥
ApplyEnds s r input (NotApplied (InStream fault)) old new from to =
    SaysSummary s r input (Some (InStream fault)) old new from to
ApplyEnds s r input (NotApplied (InReplica DiskFault)) old new from to =
    FailsApplying s r input old new
ApplyEnds s r input (NotApplied (InReplica why)) old new from to =
    SaysSummary s r input (Some (InReplica why)) old new from to
ApplyEnds s r input NotExported old new from to = ⊥

-- while it runs: nothing was said, and a crash on entry might have left the disks; or this
abbrev pub LeavesWhileApplying : Shape → Receiver → List ℕ → View → List ℕ → Disks → Type 0
LeavesWhileApplying s r input old part disks =
    ((part ≡ []) × Differs old.unsynced old.now.disks disks) ⊎ LeavesApplied s r input part disks

-- so it is, where the bank tells and disk 17 held an image on entry, and the source tells its bytes
abbrev pub OverImage : (Shape → Receiver → List ℕ → Type 0) → View → Stream → Type 0
OverImage has old from = (s : Shape) (number time : ℕ) (image : List (List ℕ)) (input : List ℕ)
    → IsTrue old.tells → ReplicaHolds s number time image old.now.disks → from.left ≡ Some input
    → has s (starting number time image) input

-- a crash while it runs leaves this
abbrev pub ApplyLeavesNow : View → Stream → Contents → Contents → Type 0
ApplyLeavesNow old from x y =
    OverImage (λ s r input. LeftSaid (LeavesWhileApplying s r input old) x.said y) old from

-- and one at its end this
abbrev pub ApplySaid : ReplicaEnd → View → Stream → Stream → Contents → Contents → Type 0
ApplySaid ended old from to x y =
    OverImage (λ s r input. ApplyEnds s r input ended x y from to) old from

-- the summary was said; or there was no memory
abbrev pub IsApplied : ReplicaEnd → List ℕ → View → View → Type 0
IsApplied ended line old new = ((ended ≡ Done) × (new.now.said ≡ old.now.said ++ line))
    ⊎ ((ended ≡ Memory) ⊎ (ended ≡ NoReplica OutOfMemory))

-- Over an image, where nothing fails, frames for the replica up to the end of an input of fewer
-- than 2^40 bytes are applied.
abbrev pub ApplyCompletes : ReplicaEnd → View → View → Stream → Stream → Type 0
ApplyCompletes ended old new from to = OverImage (λ s r input. (frames : List Sent)
    → length input < 2 ^ 40 → AreFrames s.block input frames AtEnd → AreFor s frames
    → NoFaultRose old new from to → IsApplied ended (received_line r frames) old new) old from

-- What `apply` does. What is said of bytes and of disks holds where the bank tells them.
pub record ApplyOutcome (ended : ReplicaEnd) (old new : View) (from to : Stream) : Type 0 where
  pub cause : ApplyCause ended old new from to
  pub first : MountFirst ended old
  pub said : ApplySaid ended old from to old.now new.now
  pub silent : IsSilent ended old new
  pub changes : ChangesReplica ended old new
  pub sizes : (e : ℕ) → new.sizes e ≡ old.sizes e
  pub source : ReadsSource ended from to
  pub steps : Steps old new (ApplyLeavesNow old from) (ApplySaid ended old from to)
  pub completes : ApplyCompletes ended old new from to
  -- where it ended before it took a frame, the bank was called by the mount alone
  pub calls : changes_no_disk ended ≡ true → CalledAtMost 5 old new
