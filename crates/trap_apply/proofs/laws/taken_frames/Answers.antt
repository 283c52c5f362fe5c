use Rattle.trap_apply.proofs.Streams.{taken_end, taken_cut, taken_bad, taken_failed, taken_long, brought}
use Rattle.trap_apply.proofs.laws.taken_frames.Goals as goal

pub returns-clause-end : goal.returns-clause-end
returns-clause-end c = taken_end

pub returns-clause-cut : goal.returns-clause-cut
returns-clause-cut c = λ size used used' at input frames s t u known taken finds. taken_cut size used used' input frames s t u known taken at finds

pub returns-clause-bad : goal.returns-clause-bad
returns-clause-bad c = λ size used used' at input frames s t u known taken finds. taken_bad size used used' input frames s t u known taken at finds

pub returns-clause-read_fault : goal.returns-clause-read_fault
returns-clause-read_fault c = taken_failed

pub returns-clause-too_long : goal.returns-clause-too_long
returns-clause-too_long c = taken_long

pub returns-clause-begins : goal.returns-clause-begins
returns-clause-begins c = brought
