use Rattle.std.proofs.Common.{◌∙◌, ◌+◌, ◌/◌, ◌%◌, replicate}
use Rattle.std.proofs.Math.Nat.{mod-lt}
use Rattle.std.proofs.lemmas.List.{length-set, length-replicate}
use Rattle.trap_drill.specs.Drilled.{number}
use Rattle.trap_drill.proofs.Numbers.{volume_positive}
use Rattle.trap_drill.proofs.laws.requests.Goals as goal

pub returns-clause-block : goal.returns-clause-block
returns-clause-block c = λ g seed k. mod-lt (number seed k / 65536) (volume_positive g)

pub returns-clause-size : goal.returns-clause-size
returns-clause-size c = λ g seed k. length-set (replicate g.block 0) (number seed k / 256 % g.block) (1 + k % 255) ∙ length-replicate g.block 0
