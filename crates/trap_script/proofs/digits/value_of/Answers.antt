use Rattle.trap_script.proofs.DigitLemmas.{table_at}
use Rattle.trap_script.proofs.digits.value_of.Goals as goal

pub returns : goal.returns
returns c = table_at c.args.digit c.ranges.digit.fits
