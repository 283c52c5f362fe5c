use Rattle.trap_apply.proofs.Followed.{history_stopped, history_received, history_delivers}
use Rattle.trap_apply.proofs.laws.history.Goals as goal

pub returns-clause-stopped : goal.returns-clause-stopped
returns-clause-stopped c = λ s w time frames disks follows each. history_stopped s w time frames follows each disks

pub returns-clause-received : goal.returns-clause-received
returns-clause-received c = history_received

pub returns-clause-delivers : goal.returns-clause-delivers
returns-clause-delivers c = λ s w time frames disks follows each. history_delivers s w time frames follows each disks
