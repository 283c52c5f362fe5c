use Rattle.std.proofs.lemmas.Bool.{false≢true}
use Rattle.trap_raid.proofs.own_disk.is_header.Goals as goal

pub returns-in-None : goal.returns-in-None
returns-in-None c = (λ e. absurd (false≢true e), λ is. absurd (c.in-None.ensures.none c.args.id c.args.member is))
