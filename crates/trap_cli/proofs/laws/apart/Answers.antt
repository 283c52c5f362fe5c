use Rattle.trap_cli.proofs.LeftApart.{leaves_apart}
use Rattle.trap_cli.proofs.laws.apart.Goals as goal

pub returns : goal.returns
returns g c command entry exit frame = leaves_apart command (g.B.Bank.view entry) (g.B.Bank.view exit) frame
