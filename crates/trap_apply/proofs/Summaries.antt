-- What a run says, and what the receiver would say.
use Rattle.std.proofs.Common.{◌≡◌, ℕ, List, length, ap, ◌∙◌}
use Rattle.std.specs.Prelude.{count_by}
use Rattle.trap_model.specs.Receiver.{Receiver, receive, answers}
use Rattle.trap_model.specs.declared.arrival.Arrival.{Arrival}
use Rattle.trap_replica.specs.Mounted.{MountedReplica, receiver}
use Rattle.trap_apply.specs.Summary.{IsSummary, summary_of, is_repeat, is_beyond_window}
use Rattle.trap_apply.specs.declared.summary.Summary.{Summary}

abbrev numbers : ℕ → ℕ → ℕ → ℕ → ℕ → Summary
numbers applied frames held repeats beyond = record { applied = applied; frames = frames; held = held; repeats = repeats; beyond = beyond }

-- a summary by its numbers
numbers_same : (a b c d e a' b' c' d' e' : ℕ) → a ≡ a' → b ≡ b' → c ≡ c' → d ≡ d' → e ≡ e' → numbers a b c d e ≡ numbers a' b' c' d' e'
numbers_same a b c d e a' b' c' d' e' one two three four five = cc (one, two, three, four, five)

pub summarised : (r : Receiver) (frames : List Arrival) (b : MountedReplica) (image : List (List ℕ)) (s : Summary) → IsSummary b r frames s → receiver b image ≡ receive r frames
    → s ≡ summary_of r frames
summarised r frames b image s is same =
    numbers_same s.applied s.frames s.held s.repeats s.beyond (receive r frames).number (length frames) (length (receive r frames).held) (count_by is_repeat (answers r frames))
    (count_by is_beyond_window (answers r frames))
    (is.applied ∙ ap (λ (t : Receiver). t.number) same) is.count (is.held ∙ ap (λ (t : Receiver). length t.held) same) is.repeats is.beyond
