use Rattle.trap_index.proofs.Describing.{last_told, time_told, bytes_told, item_told, newest_is_last}
use Rattle.trap_index.proofs.laws.tells.Goals as goal

pub returns : goal.returns
returns c = record { last = last_told; time = time_told; bytes = bytes_told; item = item_told; newest = newest_is_last }
