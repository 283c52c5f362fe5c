use Rattle.trap_send.proofs.Telling.{frames_told, part_told, whole_told}
use Rattle.trap_send.proofs.laws.told.Goals as goal

pub returns-clause-frames : goal.returns-clause-frames
returns-clause-frames g c a s p k text = frames_told a (g.B.Bank.view c.args.bank.now) s p k text

pub returns-clause-part : goal.returns-clause-part
returns-clause-part g c a s p x y = part_told a (g.B.Bank.view c.args.bank.now) s p x y

pub returns-clause-whole : goal.returns-clause-whole
returns-clause-whole g c a s p x y = whole_told a (g.B.Bank.view c.args.bank.now) s p x y
