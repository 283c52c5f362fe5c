use Rattle.trap_send.proofs.Copies.{sent_copied, copied, copied_all}
use Rattle.trap_send.proofs.laws.copied.Goals as goal

pub returns-clause-primary : goal.returns-clause-primary
returns-clause-primary c = λ sh id p time s w frames disks is. sent_copied s w is sh id p time frames disks

pub returns-clause-state : goal.returns-clause-state
returns-clause-state c = λ g sh id p n time s frames disks valid blocks size low high. copied g sh s n valid blocks size low high id p time frames disks

pub returns-clause-received : goal.returns-clause-received
returns-clause-received c = λ g sh id p n time s frames valid blocks size low high. copied_all g sh s n valid blocks size low high id p time frames
