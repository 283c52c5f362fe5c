-- Why a call answers no value.
use Rattle.std.specs.Prelude.{ℕ}
use Rattle.trap_bank.specs.Disks.{View}
use Rattle.trap_bank.specs.Faults.{Rose}
use Rattle.trap_model.specs.declared.request.Refusal.{Refusal}
use Rattle.trap_log.specs.declared.fault.DrainFault.{DrainFault}
use Rattle.trap_log.specs.declared.fault.DrainFault.TheVariants as drain
use Rattle.trap_array.specs.declared.fault.Denied.{Denied}
use Rattle.trap_array.specs.declared.fault.Denied.TheVariants.{Refused, LogFault, MemberFault}
use Rattle.trap_array.specs.declared.fault.Denied.TheVariants.{Damaged, Stopped}

-- it refuses for such a reason, or such a member failed, or such a record is damaged; or the log's
-- disk failed, and its count of faults rose
abbrev pub EndsBy : (Refusal → Type 0) → (ℕ → ℕ → Type 0) → (ℕ → Type 0) → View → View → Denied
    → Type 0
EndsBy refuses fails damages old new (Refused why) = refuses why
EndsBy refuses fails damages old new LogFault = Rose (old.faults 0) (new.faults 0)
EndsBy refuses fails damages old new (MemberFault first second) = fails first second
EndsBy refuses fails damages old new (Damaged offset) = damages offset
EndsBy refuses fails damages old new Stopped = ⊥

-- what a call answers where a drain failed
abbrev pub denied_by : DrainFault → Denied
denied_by drain.LogFault = LogFault
denied_by (drain.MemberFault member) = MemberFault member member
