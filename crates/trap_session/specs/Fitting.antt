-- Which requests ask for a block, and which faults a request may end in.
use Rattle.std.specs.Prelude.{◌≡◌, ◌≢◌, ℕ, ◌<◌, Some}
use Rattle.trap_model.specs.Image.{volume}
use Rattle.trap_model.specs.declared.numbers.Geometry.{Geometry}
use Rattle.trap_model.specs.declared.request.Request.{Request}
use Rattle.trap_model.specs.declared.request.Request.TheVariants.{Write, Read, At, By}
use Rattle.trap_model.specs.declared.request.Request.TheVariants.{Quit as Q}
use Rattle.trap_array.specs.Calls.{Mounted}
use Rattle.trap_array.specs.declared.fault.Denied.TheVariants.{LogFault, MemberFault, Damaged}
use Rattle.trap_session.specs.declared.outcome.SessionFault.{SessionFault}
use Rattle.trap_session.specs.declared.outcome.SessionFault.TheVariants.{Array, WriteFault}

-- the request is one of a block that the array has
abbrev pub AsksBlock : Geometry → Request → Type 0
AsksBlock g (Write time block bytes) = block < volume g
AsksBlock g (Read block) = block < volume g
AsksBlock g (At seq block) = block < volume g
AsksBlock g (By time block) = block < volume g
AsksBlock g other = ⊥

-- a read fails by no lost member, whose places it never reads
abbrev pub FailsReading : Mounted → SessionFault → Type 0
FailsReading a fault =
    (first second : ℕ) → fault ≡ Array (MemberFault first second) → a.head.lost ≢ Some second

-- Which faults a request may end in. Only a read of an earlier instant reads records again, and a
-- read of the present uses disk 0 for nothing. Where a request asks for no block, only the port
-- fails, and a `Q` has no fault.
abbrev pub FaultFits : Mounted → Request → SessionFault → Type 0
FaultFits a (Write time block bytes) fault = (offset : ℕ) → fault ≢ Array (Damaged offset)
FaultFits a (Read block) fault = FailsReading a fault
    × ((offset : ℕ) → fault ≢ Array (Damaged offset)) × (fault ≢ Array LogFault)
FaultFits a (At seq block) fault = FailsReading a fault
FaultFits a (By time block) fault = FailsReading a fault
FaultFits a Q fault = ⊥
FaultFits a other fault = fault ≡ WriteFault
