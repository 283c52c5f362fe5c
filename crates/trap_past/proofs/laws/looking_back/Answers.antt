use Rattle.trap_past.proofs.Later.{later, older}
use Rattle.trap_past.proofs.laws.looking_back.Goals as goal

pub returns-clause-later : goal.returns-clause-later
returns-clause-later c i block seq k is low few = later i block seq is low k few

pub returns-clause-older : goal.returns-clause-older
returns-clause-older c i block seq k is low few = older i block seq is low k few
