use Rattle.trap_frame.proofs.Headers.{frame_header-put}
use Rattle.trap_frame.proofs.header.put_header.Goals as goal

pub returns-clause-spelled : goal.returns-clause-spelled
returns-clause-spelled c = frame_header-put c.args.frame.now c.args.out.now _ _ _ _ _ _ c.put_magic.ensures c.put_u64.ensures c.put_u64-2.ensures c.put_u64-3.ensures
    c.put_u32.ensures c.put_u16.ensures
