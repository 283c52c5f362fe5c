use Rattle.std.proofs.Common.{◌≡◌, ◌+◌, ap, subst, sym, ◌∙◌, refl, Err, Ok}
use Rattle.trap_bank.specs.declared.disks.Failed.{Failed}
use Rattle.trap_bank.specs.Calls.{Makes}
use Rattle.trap_bank.specs.Counts.{one_more}
use Rattle.trap_bank.specs.Memory.{Memory, view_of}
use Rattle.trap_bank.specs.MemorySteps.{counted_on, passed, found_no_memory, blamed, made}
use Rattle.trap_bank.proofs.MemoryCalls.{fails_making, has_one_on}
use Rattle.trap_bank.proofs.MemoryMakes.{makes}
use Rattle.trap_bank.proofs.memory_calls.MemoryBankBank.make.Goals as goal

pub returns-then-struck-clause-call : goal.returns-then-struck-clause-call
returns-then-struck-clause-call c =
    let m : Memory = c.args.self.now in
    let new : c.blame.new.self ≡ blamed (passed (counted_on m c.args.d)) c.args.d =
    c.blame.ensures ∙ ap (λ (n : Memory). blamed n c.args.d) (c.pass.ensures ∙ ap passed c.count_on.ensures) in
    subst (λ (n : Memory). Makes {T = Unit {0}} {E = Failed} c.args.d c.args.len (Err c.blame.result) (view_of m) (view_of n)) (sym new)
    (fails_making c.blame.result m c.args.d c.args.len (one_more m.moment) m.starved c.is_struck_on-struck.ensures.sound c.requires refl)

pub returns-in-Ok-clause-call : goal.returns-in-Ok-clause-call
returns-in-Ok-clause-call c =
    let m : Memory = c.args.self.now in
    subst (λ (n : Memory). Makes {T = Unit {0}} {E = Failed} c.args.d c.args.len (Ok tt) (view_of m) (view_of n))
    (sym (c.in-Ok.ensures.ok ∙ ap (λ (n : Memory). made n c.args.d c.args.len) c.count_on.ensures))
    (makes tt m c.args.d c.args.len c.is_struck_on-struck.ensures.sound
    (has_one_on m c.args.d c.is_struck_on-struck.result c.if-struck.false c.is_struck_on-struck.ensures.struck.1) c.requires)

pub returns-in-Err-clause-call : goal.returns-in-Err-clause-call
returns-in-Err-clause-call c =
    let m : Memory = c.args.self.now in
    let new : c.blame-in-Err.new.self ≡ blamed (found_no_memory (counted_on m c.args.d)) c.args.d =
    c.blame-in-Err.ensures ∙ ap (λ (n : Memory). blamed n c.args.d) (c.starve.ensures ∙ ap found_no_memory (c.in-Err.ensures.err ∙ c.count_on.ensures)) in
    subst (λ (n : Memory). Makes {T = Unit {0}} {E = Failed} c.args.d c.args.len (Err c.blame-in-Err.result) (view_of m) (view_of n)) (sym new)
    (fails_making c.blame-in-Err.result m c.args.d c.args.len (one_more m.moment) (m.starved + 1) c.is_struck_on-struck.ensures.sound c.requires refl)
