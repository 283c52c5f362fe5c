use Rattle.trap_send.proofs.SentFrames.{length-sent, sent_at, sent_stream}
use Rattle.trap_send.proofs.laws.sending.Goals as goal

pub returns-clause-count : goal.returns-clause-count
returns-clause-count c = length-sent

pub returns-clause-entry : goal.returns-clause-entry
returns-clause-entry c = sent_at

pub returns-clause-stream : goal.returns-clause-stream
returns-clause-stream c = sent_stream
