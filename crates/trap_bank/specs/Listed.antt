-- Turns from a list, and turns that go round.
use Rattle.std.specs.Prelude.{ℕ, ◌%◌, List, [], ◌∷◌, get_or}
use Rattle.trap_bank.specs.declared.turning.Turn.{Turn}
use Rattle.trap_bank.specs.declared.turning.Turn.TheVariants.{Rest, Drain, Rebuild}
use Rattle.trap_bank.specs.Schedule.{Schedule}

-- the answers of the list, and then Rest
abbrev pub listed : List Turn → ℕ → Schedule
listed list asked = record { asked = asked; answer = λ k. get_or list k Rest }

-- Rest, Drain, Rest, Rebuild, over and over
abbrev pub steady : ℕ → Schedule
steady asked =
    record { asked = asked; answer = λ k. get_or (Rest ∷ Drain ∷ Rest ∷ Rebuild ∷ []) (k % 4) Rest }
