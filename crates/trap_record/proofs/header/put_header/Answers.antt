use Rattle.std.proofs.Common.{List, ℕ, set, ◌∙◌, ap, w16, w32, w64}
use Rattle.std.specs.Int.{to_be_bytes}
use Rattle.trap_block.specs.Fields.{put_over}
use Rattle.trap_record.proofs.Putting.{flag-byte, header-put}
use Rattle.trap_record.proofs.header.put_header.Goals as goal

pub returns-clause-spelled : goal.returns-clause-spelled
returns-clause-spelled c =
    let r = c.args.rec.now in
    c.put_u16-2.ensures ∙ ap (λ (l : List ℕ). put_over 24 (to_be_bytes w16 r.slen) l)
    (c.put_u16.ensures ∙ ap (λ (l : List ℕ). put_over 22 (to_be_bytes w16 r.plen) l)
    (c.put_u32.ensures ∙ ap (λ (l : List ℕ). put_over 18 (to_be_bytes w32 r.block) l)
    (c.put_u64-2.ensures ∙ ap (λ (l : List ℕ). put_over 10 (to_be_bytes w64 r.time) l)
    (c.put_u64.ensures ∙ ap (λ (m : ℕ). put_over 2 (to_be_bytes w64 r.seq) (set (set c.args.out.now 0 1) 1 m)) (c.from.ensures ∙ flag-byte r.snap)))))
    ∙ header-put r c.args.out.now c.requires
