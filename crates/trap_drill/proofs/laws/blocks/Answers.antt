use Rattle.trap_drill.proofs.Blocks.{each_named, only_named, once_named, first_named}
use Rattle.trap_drill.proofs.laws.blocks.Goals as goal

pub returns-clause-named : goal.returns-clause-named
returns-clause-named c = λ g seed n k low high. each_named g seed n k low high

pub returns-clause-only : goal.returns-clause-only
returns-clause-only c = λ g seed n block is. only_named g seed n block is

pub returns-clause-once : goal.returns-clause-once
returns-clause-once c = λ g seed n. once_named g seed n

pub returns-clause-order : goal.returns-clause-order
returns-clause-order c = first_named
