use Rattle.std.proofs.Common.{arith}
use Rattle.trap_format.proofs.LogHeaders.{first_written, log_written}
use Rattle.trap_format.proofs.log_disk.spell_log.Goals as goal

pub returns : goal.returns
returns c =
    let g = c.args.g.now in
    log_written g c.put_u16.new.bytes _ _ _ _ _ _
    (first_written g c.args.out.now _ _ _ _ _ (omega arith) c.put_bytes.ensures c.put_u64.ensures c.put_byte.ensures c.put_byte-2.ensures c.put_u16.ensures)
    c.put_u32.ensures c.put_byte-3.ensures c.put_byte-4.ensures c.put_u32-2.ensures c.put_u64-2.ensures c.put_bytes-2.ensures
