use Rattle.std.proofs.Common.{◌≡◌, ◌+◌, ◌≤◌, subst, arith}
use Rattle.std.specs.Prelude.{IsErrOf}
use Rattle.std.proofs.lemmas.Result.{err_from_is_err_and}
use Rattle.trap_bank.proofs.OnlyReads.{reads_then}
use Rattle.trap_stage.specs.declared.fault.StageFault.TheVariants.{Damaged}
use Rattle.trap_stage.specs.Held.{AllSpell}
use Rattle.trap_stage.proofs.Mounts.{ReadsOne, reads_more, damaged_next}
use Rattle.trap_stage.proofs.disk.read_slots.Goals as goal

pub returns-in_err-read_slot-clause-damaged : goal.returns-in_err-read_slot-clause-damaged
returns-in_err-read_slot-clause-damaged g c offset is told =
    let below : c.loop-older.older + 1 ≤ c.args.last = omega arith in
    let above : c.args.drained ≤ c.loop-older.older = omega arith in
    let out = err_from_is_err_and c.from_residual.result c.from_residual.ensures.1 in
    let err = out.1 in
    let gives = out.2 in
    let was = c.in_err-read_slot.was in
    let same : IsErrOf c.read_slot.result (Damaged offset) = cc in
    damaged_next c.args.g.now c.args.drained c.loop-older.older c.args.last _ _ _ offset above below c.loop-older.invariant told (c.read_slot.ensures.damaged offset same)

pub returns-in_err-read_slot-clause-reads : goal.returns-in_err-read_slot-clause-reads
returns-in_err-read_slot-clause-reads g c = reads_then _ _ _ c.loop-older.invariant.reads c.read_slot.ensures.reads

pub loop-older-preserved : goal.loop-older-preserved
loop-older-preserved g c =
    let one : ReadsOne c.args.g.now (c.loop-older.older + 1) (g.B.Bank.view c.loop-older.bank) (g.B.Bank.view c.read_slot.new.bank) c.loop-older.slots c.read_slot.new.slots =
    record {
      spelled = c.in_ok-read_slot.ensures.spelled;
      block = c.in_ok-read_slot.ensures.block;
      read = c.in_ok-read_slot.ensures.read;
      others = c.read_slot.ensures.others;
      reads = c.read_slot.ensures.reads;
      calls = c.read_slot.ensures.calls;
    } in
    reads_more c.args.g.now c.args.drained c.loop-older.older _ _ _ _ _ (omega arith) c.loop-older.invariant one

pub returns-clause-spelled : goal.returns-clause-spelled
returns-clause-spelled g c =
    let end : c.loop-older.older ≡ c.args.last = omega arith in
    subst (λ n. AllSpell c.args.g.now c.loop-older.slots c.args.drained n) end c.loop-older.invariant.spelled
