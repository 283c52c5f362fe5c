use Rattle.std.proofs.Common.{refl, ap, sym, ◌∙◌, arith, w64}
use Rattle.std.specs.Int.{to_be_bytes}
use Rattle.trap_stage.proofs.HeldSpellings.{spelled_where}
use Rattle.trap_stage.proofs.slots.is_spelled.Goals as goal

pub returns-then-get_u64-seq-clause-spelled : goal.returns-then-get_u64-seq-clause-spelled
returns-then-get_u64-seq-clause-spelled c =
    spelled_where c.args.g.now c.args.slot.now c.args.seq c.get_u32.result c.get_u32.result c.volume.result c.requires (omega arith)
    (ap (λ n. to_be_bytes w64 n) (sym c.if-get_u64-seq.true) ∙ c.get_u64.ensures)
    c.get_u32.ensures
    refl
    c.volume.ensures.is
