use Rattle.trap_index.proofs.Dropped.{last-dropped, last_record_time-dropped, bytes-dropped, item-dropped, newest-dropped}
use Rattle.trap_index.proofs.laws.drops.Goals as goal

pub returns : goal.returns
returns c = record { last = last-dropped; time = last_record_time-dropped; end = bytes-dropped; item = item-dropped; newest = newest-dropped }
