use Rattle.std.proofs.Common.{ℕ, [], ◌∷◌, ap, ◌∙◌, arith}
use Rattle.trap_block.specs.Fields.{put_over}
use Rattle.trap_format.proofs.Heads.{first_written, head_written}
use Rattle.trap_format.proofs.head_value.spell_head.Goals as goal

pub returns : goal.returns
returns c =
    let h = c.args.h.now in
    let lost = c.put_byte-2.ensures ∙ ap (λ (byte : ℕ). put_over 1 (byte ∷ []) c.put_byte.new.out) c.byte_of.ensures in
    head_written h c.put_u64-2.new.bytes _ _ _ _ _
    (first_written h c.args.out.now _ _ _ _ _ (omega arith) c.put_byte.ensures lost c.put_u32.ensures c.put_u64.ensures c.put_u64-2.ensures)
    c.put_u64-3.ensures c.put_u64-4.ensures c.put_u64-5.ensures c.put_u64-6.ensures c.put_u64-7.ensures
