use Rattle.trap_bank.proofs.Moves.{read_is_left}
use Rattle.trap_model.specs.State.{image_at}
use Rattle.trap_cli.proofs.Following.{follows_stopped, follows_all, sends_frames, applies_frames}
use Rattle.trap_cli.proofs.laws.replica_follows.Goals as goal

pub returns-clause-sent : goal.returns-clause-sent
returns-clause-sent g c entry exit array s p from to told holds runs =
    sends_frames array s p (g.B.Bank.view entry) (g.B.Bank.view exit) from to runs.ended told holds runs.ends

pub returns-clause-stopped : goal.returns-clause-stopped
returns-clause-stopped g c entry array s sh n time p frames input said left begins brings leaves =
    follows_stopped array s sh n time (g.B.Bank.view entry) begins p frames input brings said left leaves

pub returns-clause-applied : goal.returns-clause-applied
returns-clause-applied g c entry exit array s sh n time p frames input from to begins brings are known runs =
    let old = g.B.Bank.view entry in
    let new = g.B.Bank.view exit in
    let took = applies_frames sh n time (image_at s n) input old new from to runs.ended begins.tells (begins.holds old.now (read_is_left old begins.tells)) known runs.ends in
    follows_all array s sh n time old begins p frames input brings took.0 new.now.disks are took.1 took.2
