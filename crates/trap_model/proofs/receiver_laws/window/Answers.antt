use Rattle.trap_model.proofs.Windows.{gapless-longest, none-beyond, receive-number}
use Rattle.std.proofs.Common.{arith}
use Rattle.trap_model.specs.Receiver.{starting}
use Rattle.trap_model.proofs.receiver_laws.window.Goals as goal

pub returns-clause-longest : goal.returns-clause-longest
returns-clause-longest c = gapless-longest

pub returns-clause-none_beyond : goal.returns-clause-none_beyond
returns-clause-none_beyond c = λ n time image frames all. none-beyond n (starting n time image) frames (omega arith) all

pub returns-clause-number : goal.returns-clause-number
returns-clause-number c = receive-number
