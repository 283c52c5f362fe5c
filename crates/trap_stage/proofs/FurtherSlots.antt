-- The slots that a state's pending writes have: after a further write, after a drain, and with entries dropped.
use Rattle.std.proofs.Common.{◌≡◌, ℕ, zero, suc, ◌+◌, ◌-◌, ◌/◌, ◌<◌, ◌≤◌, ◌∷◌, length, refl, sym, ap, ◌∙◌, subst, ⊎_elim, arith}
use Rattle.std.specs.Prelude.{All}
use Rattle.std.proofs.lemmas.Bool.{cases_eq}
use Rattle.std.proofs.lemmas.List.Elements.{All-nil, All-cons}
use Rattle.trap_bank.specs.Disks.{Disks}
use Rattle.trap_model.specs.State.{last, image, image_at, IsValid}
use Rattle.trap_model.specs.ArrayStep.{added, kept_from}
use Rattle.trap_model.specs.Records.{entry_at}
use Rattle.trap_model.specs.declared.numbers.Geometry.{Geometry}
use Rattle.trap_model.specs.declared.history.Entry.{Entry}
use Rattle.trap_model.specs.declared.history.State.{State}
use Rattle.trap_model.proofs.Further.{last-added, image_at_is_image, entry_at_is_entry}
use Rattle.trap_model.proofs.Retained.{last-kept, image_at-kept, entry_at-kept}
use Rattle.trap_map.specs.Layout.{parity_member, block_place}
use Rattle.trap_map.proofs.LeftLemmas.{parity_in-lt}
use Rattle.trap_map.proofs.PlaceLemmas.{row_of-within}
use Rattle.trap_map.proofs.TableLemmas.{table_at_parity, table_sized}
use Rattle.trap_stage.specs.Staged.{Staged, IsStaged}
use Rattle.trap_stage.specs.Pending.{staged_in, staged_of, staged_above, pending}
use Rattle.trap_stage.specs.Slots.{Stage, SlotHas, SlotsHold}
use Rattle.trap_stage.specs.Found.{IsFound, IsStage}
use Rattle.trap_stage.proofs.PendingWrites.{staged_of-added, staged_of_last, length-pending}
use Rattle.trap_stage.proofs.SlotSpellings.{slots_are_pending, slots_same}

-- ---- what the slots hold
-- a further write's slot beside those before it
pub slots_hold-added : (g : Geometry) (s : State) (e : Entry) (drained : ℕ) (disks : Disks) → s.first ≤ drained → SlotsHold g s drained disks
    → SlotHas g (last s + 1) (staged_in g (image (added s e)) e) disks → SlotsHold g (added s e) drained disks
slots_hold-added g s e drained disks retained hold has q low high = ⊎_elim
    (λ (newest : q ≡ last s + 1).
    subst (λ (w : Staged). SlotHas g q w disks) (sym (staged_of_last g s e q newest))
    (subst (λ (n : ℕ). SlotHas g n (staged_in g (image (added s e)) e) disks) (sym newest) has))
    (λ (other : q ≡ last s + 1 → ⊥).
    let most : q ≤ last s = omega (arith, last-added s e, other) in
    subst (λ (w : Staged). SlotHas g q w disks) (sym (staged_of-added g s e q (omega arith) most)) (hold q low most))
    (cases_eq q (last s + 1))

-- with more writes drained, fewer slots are asked for
pub slots_hold-drained : (g : Geometry) (s : State) (drained upto : ℕ) (disks : Disks) → drained ≤ upto → SlotsHold g s drained disks → SlotsHold g s upto disks
slots_hold-drained g s drained upto disks more hold q low high = hold q (omega arith) high

-- ---- entries dropped
pub staged_of-kept : (g : Geometry) (s : State) (q n : ℕ) → s.first ≤ q → q < n → staged_of g (kept_from s q) n ≡ staged_of g s n
staged_of-kept g s q n low high =
    ap (λ im. staged_in g im (entry_at (kept_from s q) n)) (image_at-kept s q n low (omega arith))
    ∙ ap (λ en. staged_in g (image_at s n) en) (entry_at-kept s q n low high)

pub staged_above-kept : (g : Geometry) (s : State) (q drained k : ℕ) → s.first ≤ q → q ≤ drained → staged_above g (kept_from s q) drained k ≡ staged_above g s drained k
staged_above-kept g s q drained zero low high = refl
staged_above-kept g s q drained (suc k) low high =
    ap (λ w. w ∷ staged_above g (kept_from s q) drained k) (staged_of-kept g s q (drained + suc k) low (omega arith))
    ∙ ap (λ ws. staged_of g s (drained + suc k) ∷ ws) (staged_above-kept g s q drained k low high)

pub pending-kept : (g : Geometry) (s : State) (q drained : ℕ) → s.first ≤ q → q ≤ drained → q ≤ last s → pending g (kept_from s q) drained ≡ pending g s drained
pending-kept g s q drained low high most =
    ap (λ n. staged_above g (kept_from s q) drained (n - drained)) (last-kept s q low most)
    ∙ staged_above-kept g s q drained (last s - drained) low high

pub slots_hold-kept : (g : Geometry) (s : State) (q drained : ℕ) (disks : Disks) → s.first ≤ q → q ≤ drained → q ≤ last s → SlotsHold g s drained disks → SlotsHold g (kept_from s q) drained disks
slots_hold-kept g s q drained disks low high most hold n above below =
    subst (λ (w : Staged). SlotHas g n w disks) (sym (staged_of-kept g s q n low (omega arith)))
    (hold n above (omega (arith, last-kept s q low most)))

-- ---- the pending writes are writes of the array
pub staged_of_sound : (g : Geometry) (s : State) (q : ℕ) → IsValid g s → s.first < q → q ≤ last s → IsStaged g (staged_of g s q)
staged_of_sound g s q valid low high =
    let entry = entry_at_is_entry g s q valid low high in
    let im = image_at s q in
    let row = (block_place g (entry_at s q).block).row in
    let member = parity_member g row in
    let inside = parity_in-lt g.members (row / g.chunk) (omega (arith, g.within.members_least)) in
    record {
      block = entry.block;
      bytes = entry.size;
      parity = ap length (sym (table_at_parity g im row member refl)) ∙ table_sized g im (image_at_is_image g s q valid) row (row_of-within g (entry_at s q).block entry.block) member inside;
    }

pub above_sound : (g : Geometry) (s : State) (drained k : ℕ) → IsValid g s → s.first ≤ drained → drained + k ≤ last s → All (IsStaged g) (staged_above g s drained k)
above_sound g s drained zero valid low high = All-nil (IsStaged g)
above_sound g s drained (suc k) valid low high =
    All-cons (IsStaged g) (staged_of g s (drained + suc k)) (staged_above g s drained k) (staged_of_sound g s (drained + suc k) valid (omega arith) high)
    (above_sound g s drained k valid low (omega arith))

pub pending_sound : (g : Geometry) (s : State) (drained : ℕ) → IsValid g s → s.first ≤ drained → drained ≤ last s → All (IsStaged g) (pending g s drained)
pending_sound g s drained valid low high = above_sound g s drained (last s - drained) valid low (omega arith)

-- so a stage that is found on the disks of a state has its pending writes
pub found_pending : (g : Geometry) (s : State) (drained : ℕ) (disks : Disks) (stage : Stage) → IsValid g s → s.first ≤ drained → drained ≤ last s
    → SlotsHold g s drained disks → IsStage stage → IsFound g drained (last s) disks stage → stage.pending ≡ pending g s drained
found_pending g s drained disks stage valid low high hold sound found =
    let number = found.drained_ in
    let end = found.last_ in
    let writes = subst (λ (k : Geometry). All (IsStaged k) stage.pending) found.g_ sound.writes in
    slots_same g drained stage.pending (pending g s drained) disks (omega (arith, length-pending g s drained)) writes (pending_sound g s drained valid low high)
    found.slots (slots_are_pending g s drained disks high hold)
