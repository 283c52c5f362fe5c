-- A further entry, and what stays of the ones before it.
use Rattle.std.proofs.Common.{◌≡◌, ℕ, ◌+◌, ◌-◌, ◌<◌, ◌≤◌, List, [], ◌∷◌, ◌++◌, length, get_or, take, refl, ap, ◌∙◌, arith, length-append, append-nil}
use Rattle.std.proofs.lemmas.List.{get_or_append_left, take-append-le, take_all}
use Rattle.std.proofs.lemmas.List.Elements.{All-get_or, All-take}
use Rattle.trap_model.specs.declared.numbers.Geometry.{Geometry}
use Rattle.trap_model.specs.declared.history.Entry.{Entry}
use Rattle.trap_model.specs.declared.history.State.{State}
use Rattle.trap_model.specs.Image.{IsImage, block_of, written, image_after}
use Rattle.trap_model.specs.State.{last, last_time, image, image_at, kept, IsEntry, IsValid}
use Rattle.trap_model.specs.ArrayStep.{added}
use Rattle.trap_model.specs.Records.{no_entry, entry_at, records, next_record}
use Rattle.trap_model.proofs.Images.{image_after-push, image_after_more}
use Rattle.trap_model.proofs.Histories.{time_after-push, size_over-push}
use Rattle.trap_model.proofs.Validity.{image_after_is_image}
use Rattle.trap_model.proofs.Records.{length-record_of, records_from-append}

pub last-added : (s : State) (e : Entry) → last (added s e) ≡ last s + 1
last-added s e =
    let long : length (s.entries ++ e ∷ []) ≡ length s.entries + 1 = length-append s.entries (e ∷ []) in
    omega arith

pub last_time-added : (s : State) (e : Entry) → last_time (added s e) ≡ e.time
last_time-added s e = time_after-push s.base_time s.entries e

pub image-added : (s : State) (e : Entry) → image (added s e) ≡ written (image s) e
image-added s e = image_after-push s.base s.entries e

pub records-added : (s : State) (e : Entry) → records (added s e) ≡ records s ++ next_record s e
records-added s e =
    records_from-append s.base s.first (last s) s.entries (e ∷ []) refl
    ∙ ap (λ (bytes : List ℕ). records s ++ bytes) (append-nil (next_record s e))

pub kept-added : (s : State) (e : Entry) → kept (added s e) ≡ kept s + length (next_record s e)
kept-added s e =
    let more = size_over-push s.base s.entries e in
    let one = length-record_of (last s + 1) (block_of (image s) e.block) e in
    omega arith

-- the image and the entry of a number that was there before
pub image_at-added : (s : State) (e : Entry) (q : ℕ) → q ≤ last s → image_at (added s e) q ≡ image_at s q
image_at-added s e q most =
    ap (image_after s.base) (take-append-le (q - s.first) s.entries (e ∷ []) (omega arith))

pub entry_at-added : (s : State) (e : Entry) (q : ℕ) → s.first < q → q ≤ last s → entry_at (added s e) q ≡ entry_at s q
entry_at-added s e q low most = get_or_append_left s.entries (e ∷ []) no_entry (q - (s.first + 1)) (omega arith)

-- the further entry has the next number
pub entry_at_last : (s : State) (e : Entry) (q : ℕ) → q ≡ last s + 1 → entry_at (added s e) q ≡ e
entry_at_last s e q is =
    let at : q - (s.first + 1) ≡ length s.entries = omega arith in
    ap (λ (k : ℕ). get_or (s.entries ++ e ∷ []) k no_entry) at ∙ at_end s.entries
  where
    at_end : (xs : List Entry) → get_or (xs ++ e ∷ []) (length xs) no_entry ≡ e
    at_end [] = refl
    at_end (x ∷ xs) = at_end xs

-- the image after one entry more
pub image_at-next : (s : State) (q : ℕ) → s.first ≤ q → q < last s → image_at s (q + 1) ≡ written (image_at s q) (entry_at s (q + 1))
image_at-next s q low most =
    let next : q + 1 - s.first ≡ (q - s.first) + 1 = omega arith in
    let here : q - s.first ≡ q + 1 - (s.first + 1) = omega arith in
    ap (λ (k : ℕ). image_after s.base (take k s.entries)) next
    ∙ image_after_more s.base s.entries (q - s.first) no_entry (omega arith)
    ∙ ap (λ (k : ℕ). written (image_at s q) (get_or s.entries k no_entry)) here

-- the image after the last entry is the present one
pub image_at-last : (s : State) → image_at s (last s) ≡ image s
image_at-last s = ap (image_after s.base) (take_all (last s - s.first) s.entries (omega arith))

-- and the image before the first is the base
pub image_at-first : (s : State) → image_at s s.first ≡ s.base
image_at-first s =
    let none : s.first - s.first ≡ 0 = omega arith in
    rw none refl

pub image_at_is_image : (g : Geometry) (s : State) (q : ℕ) → IsValid g s → IsImage g (image_at s q)
image_at_is_image g s q valid = image_after_is_image g s.base (take (q - s.first) s.entries) valid.base (All-take (IsEntry g) (q - s.first) s.entries valid.entries)

pub image_is_image : (g : Geometry) (s : State) → IsValid g s → IsImage g (image s)
image_is_image g s valid = image_after_is_image g s.base s.entries valid.base valid.entries

pub entry_at_is_entry : (g : Geometry) (s : State) (q : ℕ) → IsValid g s → s.first < q → q ≤ last s → IsEntry g (entry_at s q)
entry_at_is_entry g s q valid low most = All-get_or (IsEntry g) s.entries (q - (s.first + 1)) no_entry (omega arith) valid.entries
