use Rattle.std.proofs.Common.{length}
use Rattle.trap_session.proofs.FormLemmas.{asked_line}
use Rattle.trap_session.proofs.buffers.Buffers.one.Goals as goal

pub answer-requires-clause-form : goal.answer-requires-clause-form
answer-requires-clause-form g c =
    asked_line (length c.as_mut_slice.result.now) c.args.line.now c.read_line-line.result c.read_line-line.new.fresh c.read_line-line.ensures.request
