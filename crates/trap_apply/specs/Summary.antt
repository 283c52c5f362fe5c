-- What a run says of itself, by what became of its frames.
use Rattle.std.specs.Prelude.{◌≡◌, ℕ, List, ◌++◌, length, count_by, codes, decimal, Bool, true}
use Rattle.std.specs.Prelude.{false}
use Rattle.trap_model.specs.Receiver.{Receiver, receive, answers}
use Rattle.trap_model.specs.declared.arrival.Arrival.{Arrival}
use Rattle.trap_model.specs.declared.arrival.Taken.{Taken}
use Rattle.trap_model.specs.declared.arrival.Taken.TheVariants.{Applied, Held, Repeat, Beyond}
use Rattle.trap_replica.specs.Mounted.{MountedReplica}
use Rattle.trap_apply.specs.declared.summary.Summary.{Summary}

-- a word and a number
abbrev pub field : List ℕ → ℕ → List ℕ
field word number = word ++ decimal number

-- the line of a summary
abbrev pub summary_line : Summary → List ℕ
summary_line s = field (codes "applied ") s.applied ++ field (codes " frames ") s.frames
    ++ field (codes " held ") s.held ++ field (codes " repeats ") s.repeats
    ++ field (codes " beyond ") s.beyond ++ codes "\n"

-- whether a frame was applied or held before
abbrev pub is_repeat : Taken → Bool
is_repeat (Applied upto) = false
is_repeat Held = false
is_repeat Repeat = true
is_repeat Beyond = false

-- whether a frame lay beyond the window
abbrev pub is_beyond_window : Taken → Bool
is_beyond_window (Applied upto) = false
is_beyond_window Held = false
is_beyond_window Repeat = false
is_beyond_window Beyond = true

-- the receiver answered these frames, and the replica is as it is now
pub record IsSummary (now : MountedReplica) (r : Receiver) (frames : List Arrival) (s : Summary)
    : Type 0 where
  pub applied : s.applied ≡ now.store.number
  pub count : s.frames ≡ length frames
  pub held : s.held ≡ length now.held.frames
  pub repeats : s.repeats ≡ count_by is_repeat (answers r frames)
  pub beyond : s.beyond ≡ count_by is_beyond_window (answers r frames)

-- what a run says of a receiver that takes these frames
abbrev pub summary_of : Receiver → List Arrival → Summary
summary_of r frames = record {
  applied = (receive r frames).number;
  frames = length frames;
  held = length (receive r frames).held;
  repeats = count_by is_repeat (answers r frames);
  beyond = count_by is_beyond_window (answers r frames);
}
