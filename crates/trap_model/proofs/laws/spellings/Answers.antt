use Rattle.trap_model.proofs.ZeroRuns.{ZeroRun-same, ZeroRun-length, ZeroRun-apart}
use Rattle.trap_model.proofs.Splits.{spelling-some}
use Rattle.trap_model.proofs.LogRecords.{LogRecord-apart}
use Rattle.trap_model.proofs.laws.spellings.Goals as goal

pub returns-clause-some : goal.returns-clause-some
returns-clause-some c = spelling-some

pub returns-clause-one : goal.returns-clause-one
returns-clause-one c = ZeroRun-same

pub returns-clause-len : goal.returns-clause-len
returns-clause-len c = ZeroRun-length

pub returns-clause-codes : goal.returns-clause-codes
returns-clause-codes c = ZeroRun-apart

pub returns-clause-records : goal.returns-clause-records
returns-clause-records c = LogRecord-apart
