use Rattle.trap_pool.proofs.Leases.{keeps_none, keeps_then, keeps_lent, leases_kept}
use Rattle.trap_pool.proofs.laws.keeps.Goals as goal

pub returns : goal.returns
returns c = record { none = keeps_none; then = keeps_then; lent = keeps_lent; leases = leases_kept }
