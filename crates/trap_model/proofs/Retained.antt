-- What stays of a history where its first entries are dropped.
use Rattle.std.proofs.Common.{◌≡◌, ℕ, ◌+◌, ◌-◌, ◌<◌, ◌≤◌, List, ◌++◌, length, get_or, drop, sym, ap, ◌∙◌, arith, length-drop}
use Rattle.std.proofs.lemmas.List.{take-append-drop, get_or-drop, length-take-le}
use Rattle.trap_model.specs.declared.history.Entry.{Entry}
use Rattle.trap_model.specs.declared.history.State.{State}
use Rattle.trap_model.specs.Image.{image_after}
use Rattle.trap_model.specs.Size.{size_over}
use Rattle.trap_model.specs.State.{last, last_time, image, image_at, up_to, time_after, kept}
use Rattle.trap_model.specs.ArrayStep.{kept_from}
use Rattle.trap_model.specs.Records.{no_entry, entry_at, records_from, records}
use Rattle.trap_model.proofs.Histories.{size_over-append}
use Rattle.trap_model.proofs.Dropping.{image_after-append, time_after-append, kept_from-twice}
use Rattle.trap_model.proofs.Records.{records_from-append}

pub last-kept : (s : State) (q : ℕ) → s.first ≤ q → q ≤ last s → last (kept_from s q) ≡ last s
last-kept s q low high =
    let rest = length-drop (q - s.first) s.entries in
    omega arith

pub last_time-kept : (s : State) (q : ℕ) → last_time (kept_from s q) ≡ last_time s
last_time-kept s q =
    sym (time_after-append s.base_time (up_to s q) (drop (q - s.first) s.entries)) ∙ ap (time_after s.base_time) (take-append-drop (q - s.first) s.entries)

pub image-kept : (s : State) (q : ℕ) → image (kept_from s q) ≡ image s
image-kept s q =
    sym (image_after-append s.base (up_to s q) (drop (q - s.first) s.entries)) ∙ ap (image_after s.base) (take-append-drop (q - s.first) s.entries)

-- the image and the entry of a number that stays
pub image_at-kept : (s : State) (q n : ℕ) → s.first ≤ q → q ≤ n → image_at (kept_from s q) n ≡ image_at s n
image_at-kept s q n low high = ap (λ (t : State). t.base) (kept_from-twice s q n low high)

pub entry_at-kept : (s : State) (q n : ℕ) → s.first ≤ q → q < n → entry_at (kept_from s q) n ≡ entry_at s n
entry_at-kept s q n low high =
    let at : q - s.first + (n - (q + 1)) ≡ n - (s.first + 1) = omega arith in
    get_or-drop (q - s.first) s.entries (n - (q + 1)) no_entry ∙ ap (λ (i : ℕ). get_or s.entries i no_entry) at

-- the records that go stand before those that stay
pub records-kept : (s : State) (q : ℕ) → s.first ≤ q → q ≤ last s → records s ≡ records_from s.base s.first (up_to s q) ++ records (kept_from s q)
records-kept s q low high =
    let some : length (up_to s q) ≡ q - s.first = length-take-le (q - s.first) s.entries (omega arith) in
    ap (λ (es : List Entry). records_from s.base s.first es) (sym (take-append-drop (q - s.first) s.entries))
    ∙ records_from-append s.base s.first q (up_to s q) (drop (q - s.first) s.entries) (omega arith)

pub kept-kept : (s : State) (q : ℕ) → kept s ≡ size_over s.base (up_to s q) + kept (kept_from s q)
kept-kept s q =
    ap (λ (es : List Entry). size_over s.base es) (sym (take-append-drop (q - s.first) s.entries))
    ∙ size_over-append s.base (up_to s q) (drop (q - s.first) s.entries)
