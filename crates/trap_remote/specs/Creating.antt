-- The command `replica-create`: why it ends, what it says, and what disk 17 holds.
use Rattle.std.specs.Prelude.{◌≡◌, ◌++◌, Some, None, IsTrue}
use Rattle.trap_bank.specs.Called.{CalledAtMost}
use Rattle.trap_bank.specs.Disks.{Contents, View, Quiet}
use Rattle.trap_bank.specs.Faults.{Rose}
use Rattle.trap_bank.specs.Steps.{Steps, Same}
use Rattle.trap_replica.specs.Creating.{zero_blocks}
use Rattle.trap_replica.specs.declared.fault.ReplicaFault.{ReplicaFault}
use Rattle.trap_replica.specs.declared.fault.ReplicaFault.TheVariants.{Exists, DiskFault}
use Rattle.trap_remote.specs.Ended.{created_line}
use Rattle.trap_remote.specs.Found.{ChangesReplica, IsSilent, LeftSaid}
use Rattle.trap_remote.specs.Making.{first_broken_in, MayMake, HasMadeDisk, IsThereAlready}
use Rattle.trap_remote.specs.Making.{MakeFirst, SaysMade, CutsMade, MakesAsked, LeavesMade}
use Rattle.trap_remote.specs.declared.outcome.AskedReplica.{AskedReplica}
use Rattle.trap_remote.specs.declared.outcome.ReplicaEnd.{ReplicaEnd}
use Rattle.trap_remote.specs.declared.outcome.ReplicaEnd.TheVariants.{Done, Memory, Port}
use Rattle.trap_remote.specs.declared.outcome.ReplicaEnd.TheVariants.{BadGeometry, NoReplica}
use Rattle.trap_remote.specs.declared.outcome.ReplicaEnd.TheVariants.{NotMade, NotApplied}
use Rattle.trap_remote.specs.declared.outcome.ReplicaEnd.TheVariants.{NotExported}

-- why no replica was made: disk 17 is there, or it failed
abbrev pub NotCreatedCause : AskedReplica → ReplicaFault → View → View → Type 0
NotCreatedCause asked (Exists disk) old new = IsThereAlready asked 0 disk old
NotCreatedCause asked DiskFault old new =
    MayMake asked 0 old × Rose (old.faults 17) (new.faults 17)
NotCreatedCause asked other old new = ⊥

-- why `replica-create` ends so
abbrev pub ReplicaCreateCause : AskedReplica → ReplicaEnd → View → View → Type 0
ReplicaCreateCause asked Done old new = HasMadeDisk asked 0 old new
ReplicaCreateCause asked Memory old new = ⊥
ReplicaCreateCause asked Port old new =
    HasMadeDisk asked 0 old new × Rose old.port_faults new.port_faults
ReplicaCreateCause asked (BadGeometry field) old new = first_broken_in asked 0 ≡ Some field
ReplicaCreateCause asked (NoReplica why) old new = ⊥
ReplicaCreateCause asked (NotMade why) old new = NotCreatedCause asked why old new
ReplicaCreateCause asked (NotApplied why) old new = ⊥
ReplicaCreateCause asked NotExported old new = ⊥

-- nothing was made where disk 17 was there; else it failed
abbrev pub NotCreatedEnds : AskedReplica → ReplicaFault → Contents → Contents → Type 0
NotCreatedEnds asked (Exists disk) old new = Quiet Same old new
NotCreatedEnds asked DiskFault old new = MakesAsked asked 0 0 zero_blocks old new
NotCreatedEnds asked other old new = ⊥

-- What `replica-create` said and left.
abbrev pub CreateEnds : AskedReplica → ReplicaEnd → Contents → Contents → Type 0
CreateEnds asked Done old new =
    SaysMade asked 0 0 zero_blocks (created_line asked.id) old new
CreateEnds asked Memory old new = ⊥
CreateEnds asked Port old new = CutsMade asked 0 0 zero_blocks (created_line asked.id) old new
CreateEnds asked (BadGeometry field) old new = Quiet Same old new
CreateEnds asked (NoReplica why) old new = ⊥
CreateEnds asked (NotMade why) old new = NotCreatedEnds asked why old new
CreateEnds asked (NotApplied why) old new = ⊥
CreateEnds asked NotExported old new = ⊥

-- a crash while it runs leaves this
abbrev pub CreateLeavesNow : AskedReplica → View → Contents → Contents → Type 0
CreateLeavesNow asked old x y =
    LeftSaid (LeavesMade asked 0 0 zero_blocks (created_line asked.id) old) x.said y

-- within the limits, over no disk 17, where nothing fails the replica is made and its line is said
abbrev pub CreateCompletes : AskedReplica → ReplicaEnd → View → View → Type 0
CreateCompletes asked ended old new = first_broken_in asked 0 ≡ None → old.sizes 17 ≡ None
    → (Rose (old.faults 17) (new.faults 17) → ⊥) → (Rose old.port_faults new.port_faults → ⊥)
    → (ended ≡ Done)
    × (IsTrue old.tells → new.now.said ≡ old.now.said ++ created_line asked.id)

-- What `replica-create` does. What is said of bytes and of disks holds where the bank tells them.
pub record CreateOutcome (asked : AskedReplica) (ended : ReplicaEnd) (old new : View)
    : Type 0 where
  pub cause : ReplicaCreateCause asked ended old new
  pub first : MakeFirst asked 0 ended old
  pub said : IsTrue old.tells → CreateEnds asked ended old.now new.now
  pub silent : IsSilent ended old new
  pub changes : ChangesReplica ended old new
  pub steps : Steps old new (CreateLeavesNow asked old) (CreateEnds asked ended)
  pub completes : CreateCompletes asked ended old new
  pub calls : CalledAtMost 10 old new
