-- The frames that a receiver answered, counted.
use Rattle.std.specs.Prelude.{◌≡◌, List, length, count_by}
use Rattle.trap_model.specs.Receiver.{Receiver, answers}
use Rattle.trap_model.specs.declared.arrival.Arrival.{Arrival}
use Rattle.trap_apply.specs.Summary.{is_repeat, is_beyond_window}
use Rattle.trap_apply.specs.declared.counting.Counts.{Counts}

-- the receiver answered these frames, and these are the counts
pub record AreCounts (r : Receiver) (frames : List Arrival) (c : Counts) : Type 0 where
  pub count : c.frames ≡ length frames
  pub repeats : c.repeats ≡ count_by is_repeat (answers r frames)
  pub beyond : c.beyond ≡ count_by is_beyond_window (answers r frames)
