use Rattle.trap_scan.proofs.Windows.{window_some, window_one}
use Rattle.trap_scan.proofs.laws.one_window.Goals as goal

pub returns : goal.returns
returns c = record { some = window_some; one = window_one }
