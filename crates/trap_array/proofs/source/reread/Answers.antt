use Rattle.std.proofs.Common.{ℕ, ◌+◌, ◌↔◌, IsTrue, length, sym, subst, arith}
use Rattle.trap_bank.specs.Calls.{Fits}
use Rattle.trap_record.specs.Reading.{IsWhole}
use Rattle.trap_ring.specs.Ring.{RingPlace}
use Rattle.trap_array.proofs.LookingBack.{ring_reads}
use Rattle.trap_array.proofs.source.reread.Goals as goal

pub read-requires-clause-there : goal.read-requires-clause-there
read-requires-clause-there g c =
    let v = g.B.Bank.view c.args.bank.now in
    let there = c.requires.disk in
    subst (λ (r : RingPlace). Fits v r.disk (r.at + r.len)) (sym c.ring.ensures) (there.0, there.1, omega (arith, there.2))

pub returns-in_err-read-clause-calls : goal.returns-in_err-read-clause-calls
returns-in_err-read-clause-calls g c = ring_reads c.ring.result c.args.off _ _ (g.B.Bank.view c.args.bank.now) (g.B.Bank.view c.read.new.bank) c.read.ensures.calls

pub returns-clause-calls : goal.returns-clause-calls
returns-clause-calls g c = ring_reads c.ring.result c.args.off _ _ (g.B.Bank.view c.args.bank.now) (g.B.Bank.view c.read.new.bank) c.read.ensures.calls

pub returns-clause-whole : goal.returns-clause-whole
returns-clause-whole g c =
    subst (λ (size : ℕ). IsTrue c.read_part.result ↔ IsWhole size c.args.rec.now (length c.read.new.buf) c.read.new.buf) c.requires.size c.read_part.ensures.whole
