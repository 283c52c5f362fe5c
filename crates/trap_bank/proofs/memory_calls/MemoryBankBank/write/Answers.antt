use Rattle.std.proofs.Common.{◌≡◌, ℕ, ◌+◌, ap, subst, sym, ◌∙◌, refl, arith, le_refl, Err, Ok}
use Rattle.trap_bank.specs.declared.disks.Failed.{Failed}
use Rattle.trap_bank.specs.Calls.{Writes}
use Rattle.trap_bank.specs.Memory.{Memory, view_of}
use Rattle.trap_bank.specs.MemorySteps.{counted_on, found_no_memory, blamed, overwritten}
use Rattle.trap_bank.specs.Counts.{one_more, with_raised}
use Rattle.trap_bank.proofs.MemoryTime.{raised, none_falls}
use Rattle.trap_bank.proofs.MemoryCalls.{on_disk, counted, fits_bytes, fails_writing, not_used_up, used_up, worn_before, worn_after}
use Rattle.trap_bank.proofs.MemoryWrites.{writes, written_region}
use Rattle.trap_bank.proofs.memory_calls.MemoryBankBank.write.Goals as goal

pub returns-then-is_worn-clause-call : goal.returns-then-is_worn-clause-call
returns-then-is_worn-clause-call c =
    let m : Memory = c.args.self.now in
    subst (λ (n : Memory). Writes {T = Unit {0}} {E = Failed} c.args.d c.args.at c.args.bytes.now (Err c.blame.result) (view_of m) (view_of n))
    (sym (c.blame.ensures ∙ ap (λ (n : Memory). blamed n c.args.d) c.count_on.ensures))
    (fails_writing c.blame.result m c.args.d c.args.at c.args.bytes.now m.moment m.starved c.is_struck_on-struck.ensures.sound c.requires.disk
    (used_up m (worn_before m c.args.d c.count_on.new.self c.count_on.ensures (c.is_worn.ensures.worn.0 c.if-is_worn.true))))

pub returns-then-struck-clause-call : goal.returns-then-struck-clause-call
returns-then-struck-clause-call c =
    let m : Memory = c.args.self.now in
    let d : ℕ = c.args.d in
    let new : c.blame-then-struck.new.self ≡ blamed (overwritten (counted_on m d) d c.args.at c.args.bytes.now) d =
    c.blame-then-struck.ensures ∙ ap (λ (n : Memory). blamed n d) (c.in-Ok.ensures.ok ∙ ap (λ (n : Memory). overwritten n d c.args.at c.args.bytes.now) c.count_on.ensures) in
    subst (λ (n : Memory). Writes {T = Unit {0}} {E = Failed} c.args.d c.args.at c.args.bytes.now (Err c.blame-then-struck.result) (view_of m) (view_of n)) (sym new)
    (writes (Err c.blame-then-struck.result) m c.args.d c.args.at c.args.bytes.now (with_raised m.faults d) c.is_struck_on-struck.ensures.sound
    (not_used_up m c.is_worn.result c.if-is_worn.false (λ worn. c.is_worn.ensures.worn.1 (worn_after m c.args.d c.count_on.new.self c.count_on.ensures worn)))
    c.requires.disk (fits_bytes m d _ c.requires.room)
    tt (λ e. none_falls m.faults d e (counted m d c.is_struck_on-struck.ensures.sound c.requires.disk)) (raised m.faults d (counted m d c.is_struck_on-struck.ensures.sound c.requires.disk)) tt)

pub returns-else-struck-clause-call : goal.returns-else-struck-clause-call
returns-else-struck-clause-call c =
    let m : Memory = c.args.self.now in
    let d : ℕ = c.args.d in
    subst (λ (n : Memory). Writes {T = Unit {0}} {E = Failed} c.args.d c.args.at c.args.bytes.now (Ok tt) (view_of m) (view_of n))
    (sym (c.in-Ok.ensures.ok ∙ ap (λ (n : Memory). overwritten n d c.args.at c.args.bytes.now) c.count_on.ensures))
    (writes (Ok tt) m c.args.d c.args.at c.args.bytes.now m.faults c.is_struck_on-struck.ensures.sound
    (not_used_up m c.is_worn.result c.if-is_worn.false (λ worn. c.is_worn.ensures.worn.1 (worn_after m c.args.d c.count_on.new.self c.count_on.ensures worn)))
    c.requires.disk (fits_bytes m d _ c.requires.room)
    (omega arith) (λ e. le_refl _) tt (written_region m c.args.d c.args.at c.args.bytes.now m.faults (on_disk m d c.is_struck_on-struck.ensures.sound c.requires.disk)
    (fits_bytes m d _ c.requires.room)))

pub returns-in-Err-clause-call : goal.returns-in-Err-clause-call
returns-in-Err-clause-call c =
    let m : Memory = c.args.self.now in
    let new : c.blame-in-Err.new.self ≡ blamed (found_no_memory (counted_on m c.args.d)) c.args.d =
    c.blame-in-Err.ensures ∙ ap (λ (n : Memory). blamed n c.args.d) (c.starve.ensures ∙ ap found_no_memory (c.in-Err.ensures.err ∙ c.count_on.ensures)) in
    subst (λ (n : Memory). Writes {T = Unit {0}} {E = Failed} c.args.d c.args.at c.args.bytes.now (Err c.blame-in-Err.result) (view_of m) (view_of n)) (sym new)
    (fails_writing c.blame-in-Err.result m c.args.d c.args.at c.args.bytes.now (one_more m.moment) (m.starved + 1) c.is_struck_on-struck.ensures.sound c.requires.disk refl)
