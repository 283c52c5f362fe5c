-- What the slots of a disk are found to hold, or which is the first damaged one, is one answer.
use Rattle.std.proofs.Common.{◌≡◌, ℕ, ◌+◌, ◌<◌, ◌≤◌, List, [], ◌∷◌, length, ap, sym, ◌∙◌, subst, ⊎_elim, arith}
use Rattle.std.specs.Prelude.{All}
use Rattle.std.proofs.lemmas.Bool.{cases_eq, cases_order}
use Rattle.std.proofs.lemmas.List.Elements.{All-head, All-tail}
use Rattle.trap_bank.specs.Disks.{Disks}
use Rattle.trap_model.specs.declared.numbers.Geometry.{Geometry}
use Rattle.trap_stage.specs.Staged.{Staged, IsStaged}
use Rattle.trap_stage.specs.Slots.{Stage, slot_start, SlotHas, SlotsAre}
use Rattle.trap_stage.specs.Found.{IsSlot, IsDamagedSlot, IsFound}
use Rattle.trap_stage.proofs.SlotSpellings.{slots_same, stage_with}

-- slots that hold writes of the array are sound, each of them
pub each_is_slot : (g : Geometry) (drained : ℕ) (xs : List Staged) (disks : Disks) → All (IsStaged g) xs → SlotsAre g drained xs disks → (q : ℕ) → drained < q
    → q ≤ drained + length xs → IsSlot g q disks
each_is_slot g drained [] disks all are q low high = absurd (omega arith)
each_is_slot g drained (x ∷ xs) disks all are q low high = ⊎_elim
    (λ (newest : q ≡ drained + length xs + 1). (x, All-head (IsStaged g) x xs all, subst (λ n. SlotHas g n x disks) (sym newest) are.0))
    (λ (other : q ≡ drained + length xs + 1 → ⊥). each_is_slot g drained xs disks (All-tail (IsStaged g) x xs all) are.1 q low (omega (arith, other)))
    (cases_eq q (drained + length xs + 1))

-- where a stage is found no slot is damaged
pub found_not_damaged : (g : Geometry) (drained last : ℕ) (disks : Disks) (stage : Stage) (offset : ℕ) → All (IsStaged g) stage.pending
    → IsFound g drained last disks stage → IsDamagedSlot g drained last disks offset → ⊥
found_not_damaged g drained last disks stage offset all found damaged =
    let low = damaged.low in
    let high = damaged.high in
    let is_drained = found.drained_ in
    let is_last = found.last_ in
    damaged.broken (each_is_slot g drained stage.pending disks all found.slots damaged.number low (omega arith))

-- and no other stage is
pub found_same : (g : Geometry) (drained last : ℕ) (disks : Disks) (a b : Stage) → All (IsStaged g) a.pending → All (IsStaged g) b.pending
    → IsFound g drained last disks a → IsFound g drained last disks b → a ≡ b
found_same g drained last disks a b all_a all_b found_a found_b =
    let geometry : a.g ≡ b.g = found_a.g_ ∙ sym found_b.g_ in
    let number : a.drained ≡ b.drained = found_a.drained_ ∙ sym found_b.drained_ in
    let len_a = found_a.last_ in
    let len_b = found_b.last_ in
    let pending : a.pending ≡ b.pending = slots_same g drained a.pending b.pending disks (omega arith) all_a all_b found_a.slots found_b.slots in
    ap (λ k. stage_with k a.drained a.pending) geometry ∙ ap (λ n. stage_with b.g n a.pending) number ∙ ap (λ ws. stage_with b.g b.drained ws) pending

-- one slot is the first that is damaged
pub first_damaged : (g : Geometry) (drained last : ℕ) (disks : Disks) (a b : ℕ) → IsDamagedSlot g drained last disks a → IsDamagedSlot g drained last disks b → a ≡ b
first_damaged g drained last disks a b first second = ⊎_elim
    (λ (same : first.number ≡ second.number). first.place ∙ ap (λ (n : ℕ). slot_start g n) same ∙ sym second.place)
    (λ apart. ⊎_elim
    (λ (less : first.number < second.number). absurd (first.broken (second.sound first.number first.low less)))
    (λ (more : second.number < first.number). absurd (second.broken (first.sound second.number second.low more)))
    apart)
    (cases_order first.number second.number)
