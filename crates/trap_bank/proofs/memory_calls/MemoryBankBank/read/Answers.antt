use Rattle.std.proofs.Common.{◌≡◌, length, ap, subst, sym, ◌∙◌, refl, Err, Ok}
use Rattle.trap_bank.specs.declared.disks.Failed.{Failed}
use Rattle.trap_bank.specs.Disks.{region}
use Rattle.trap_bank.specs.Calls.{Reads}
use Rattle.trap_bank.specs.Counts.{one_more}
use Rattle.trap_bank.specs.Memory.{Memory, view_of}
use Rattle.trap_bank.specs.MemorySteps.{counted_on, passed, blamed}
use Rattle.trap_bank.proofs.MemoryCalls.{fails_reading, reads, has_one_on}
use Rattle.trap_bank.proofs.memory_calls.MemoryBankBank.read.Goals as goal

pub returns-then-struck-clause-call : goal.returns-then-struck-clause-call
returns-then-struck-clause-call c =
    let m : Memory = c.args.self.now in
    let new : c.blame.new.self ≡ blamed (passed (counted_on m c.args.d)) c.args.d =
    c.blame.ensures ∙ ap (λ (n : Memory). blamed n c.args.d) (c.pass.ensures ∙ ap passed c.count_on.ensures) in
    subst (λ (n : Memory). Reads {T = Unit {0}} {E = Failed} c.args.d c.args.at c.args.buf.now c.args.buf.now (Err c.blame.result) (view_of m) (view_of n)) (sym new)
    (fails_reading c.blame.result m c.args.d c.args.at c.args.buf.now c.args.buf.now (one_more m.moment) m.starved c.is_struck_on-struck.ensures.sound c.requires.disk refl)

pub returns-clause-call : goal.returns-clause-call
returns-clause-call c =
    let m : Memory = c.args.self.now in
    subst (λ (n : Memory). Reads {T = Unit {0}} {E = Failed} c.args.d c.args.at c.args.buf.now c.copy_out.new.buf (Ok tt) (view_of m) (view_of n))
    (sym (c.pass-2.ensures ∙ ap passed c.count_on.ensures))
    (reads tt m c.args.d c.args.at c.args.buf.now c.copy_out.new.buf c.is_struck_on-struck.ensures.sound
    (has_one_on m c.args.d c.is_struck_on-struck.result c.if-struck.false c.is_struck_on-struck.ensures.struck.1)
    (subst (λ (n : Memory). c.copy_out.new.buf ≡ region (view_of n).now.disks c.args.d c.args.at (length c.args.buf.now)) c.count_on.ensures c.copy_out.ensures))
