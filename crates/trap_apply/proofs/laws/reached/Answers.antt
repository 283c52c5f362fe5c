use Rattle.trap_apply.proofs.Bounds.{reached_between, reached_gapless, gapless_longer}
use Rattle.trap_apply.proofs.Timed.{reached_timed}
use Rattle.trap_apply.proofs.Whole.{reached_whole}
use Rattle.trap_apply.proofs.laws.reached.Goals as goal

pub returns-clause-between : goal.returns-clause-between
returns-clause-between c = reached_between

pub returns-clause-gapless : goal.returns-clause-gapless
returns-clause-gapless c = reached_gapless

pub returns-clause-longer : goal.returns-clause-longer
returns-clause-longer c = gapless_longer

pub returns-clause-timed : goal.returns-clause-timed
returns-clause-timed c = λ s number time image frames disks. reached_timed s number time image frames disks

pub returns-clause-whole : goal.returns-clause-whole
returns-clause-whole c = reached_whole
