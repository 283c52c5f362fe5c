use Rattle.std.proofs.Common.{◌≡◌, ◌+◌, ap, subst, sym, ◌∙◌, Err, Ok}
use Rattle.trap_bank.specs.declared.disks.Failed.{Failed}
use Rattle.trap_bank.specs.Calls.{Says}
use Rattle.trap_bank.specs.Memory.{Memory, view_of}
use Rattle.trap_bank.specs.MemorySteps.{passed, found_no_memory, port_blamed}
use Rattle.trap_bank.proofs.MemoryCalls.{fails_saying, has_a_number}
use Rattle.trap_bank.proofs.MemorySyncs.{says}
use Rattle.trap_bank.proofs.memory_calls.MemoryBankBank.say.Goals as goal

pub returns-then-is_struck-clause-call : goal.returns-then-is_struck-clause-call
returns-then-is_struck-clause-call c =
    let m : Memory = c.args.self.now in
    let new : c.blame_port.new.self ≡ port_blamed (passed m) = c.blame_port.ensures ∙ ap port_blamed c.pass.ensures in
    subst (λ (n : Memory). Says {T = Unit {0}} {E = Failed} c.args.bytes.now (Err c.blame_port.result) (view_of m) (view_of n)) (sym new)
    (fails_saying c.blame_port.result m c.args.bytes.now m.starved c.is_struck.ensures.sound)

pub returns-in-Ok-clause-call : goal.returns-in-Ok-clause-call
returns-in-Ok-clause-call c =
    let m : Memory = c.args.self.now in
    subst (λ (n : Memory). Says {T = Unit {0}} {E = Failed} c.args.bytes.now (Ok tt) (view_of m) (view_of n)) (sym c.in-Ok.ensures.ok)
    (says tt m c.args.bytes.now c.is_struck.ensures.sound
    (has_a_number m c.is_struck.result c.if-is_struck.false c.is_struck.ensures.struck.1))

pub returns-in-Err-clause-call : goal.returns-in-Err-clause-call
returns-in-Err-clause-call c =
    let m : Memory = c.args.self.now in
    let new : c.blame_port-in-Err.new.self ≡ port_blamed (found_no_memory m) =
    c.blame_port-in-Err.ensures ∙ ap port_blamed (c.starve.ensures ∙ ap found_no_memory c.in-Err.ensures.err) in
    subst (λ (n : Memory). Says {T = Unit {0}} {E = Failed} c.args.bytes.now (Err c.blame_port-in-Err.result) (view_of m) (view_of n)) (sym new)
    (fails_saying c.blame_port-in-Err.result m c.args.bytes.now (m.starved + 1) c.is_struck.ensures.sound)
