use Rattle.std.proofs.Common.{drop}
use Rattle.trap_record.proofs.header.read_header.Goals as goal

pub returns-in_default-clause-none : goal.returns-in_default-clause-none
returns-in_default-clause-none c = λ rec begins. c.in_default.ensures.none rec (drop 26 c.args.bytes.now) begins.spelled
