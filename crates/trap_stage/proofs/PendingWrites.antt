-- The pending writes of a state, by their numbers.
use Rattle.std.proofs.Common.{◌≡◌, ℕ, zero, suc, ◌+◌, ◌-◌, ◌<◌, ◌≤◌, ◌∷◌, ◌++◌, length, take, drop, refl, ap, sym, ◌∙◌, arith, take_at, drop_at}
use Rattle.trap_model.specs.State.{last, image, image_at, IsValid}
use Rattle.trap_model.specs.ArrayStep.{added}
use Rattle.trap_model.specs.Image.{written}
use Rattle.trap_model.specs.Records.{entry_at}
use Rattle.trap_model.specs.declared.numbers.Geometry.{Geometry}
use Rattle.trap_model.specs.declared.history.Entry.{Entry}
use Rattle.trap_model.specs.declared.history.State.{State}
use Rattle.trap_map.specs.Layout.{block_place}
use Rattle.trap_map.specs.Table.{row_parity}
use Rattle.trap_model.proofs.Further.{last-added, image_at-added, entry_at-added, entry_at_last, image_at-next, image_at-last, entry_at_is_entry}
use Rattle.trap_stage.specs.Staged.{image_after_writes, AreWrites}
use Rattle.trap_stage.specs.Pending.{staged_in, staged_of, staged_above, pending}

-- ---- a further entry
pub staged_of-added : (g : Geometry) (s : State) (e : Entry) (q : ℕ) → s.first < q → q ≤ last s → staged_of g (added s e) q ≡ staged_of g s q
staged_of-added g s e q low high =
    ap (λ im. staged_in g im (entry_at (added s e) q)) (image_at-added s e q high)
    ∙ ap (λ en. staged_in g (image_at s q) en) (entry_at-added s e q low high)

pub staged_of_last : (g : Geometry) (s : State) (e : Entry) (q : ℕ) → q ≡ last s + 1 → staged_of g (added s e) q ≡ staged_in g (image (added s e)) e
staged_of_last g s e q is =
    let end : q ≡ last (added s e) = is ∙ sym (last-added s e) in
    ap (λ en. staged_in g (image_at (added s e) q) en) (entry_at_last s e q is)
    ∙ ap (λ im. staged_in g im e) (ap (λ n. image_at (added s e) n) end ∙ image_at-last (added s e))

pub staged_above-added : (g : Geometry) (s : State) (e : Entry) (drained k : ℕ) → s.first ≤ drained → drained + k ≤ last s → staged_above g (added s e) drained k ≡ staged_above g s drained k
staged_above-added g s e drained zero low high = refl
staged_above-added g s e drained (suc k) low high =
    ap (λ w. w ∷ staged_above g (added s e) drained k) (staged_of-added g s e (drained + suc k) (omega arith) high)
    ∙ ap (λ ws. staged_of g s (drained + suc k) ∷ ws) (staged_above-added g s e drained k low (omega arith))

pub pending-added : (g : Geometry) (s : State) (e : Entry) (drained : ℕ) → s.first ≤ drained → drained ≤ last s
    → pending g (added s e) drained ≡ staged_in g (image (added s e)) e ∷ pending g s drained
pending-added g s e drained low high =
    let more : last (added s e) - drained ≡ suc (last s - drained) = omega (arith, last-added s e) in
    let number : drained + suc (last s - drained) ≡ last s + 1 = omega arith in
    ap (λ k. staged_above g (added s e) drained k) more
    ∙ ap (λ w. w ∷ staged_above g (added s e) drained (last s - drained)) (staged_of_last g s e (drained + suc (last s - drained)) number)
    ∙ ap (λ ws. staged_in g (image (added s e)) e ∷ ws) (staged_above-added g s e drained (last s - drained) low (omega arith))

-- ---- how many there are, and the newer ones before the older ones
pub length-staged_above : (g : Geometry) (s : State) (drained k : ℕ) → length (staged_above g s drained k) ≡ k
length-staged_above g s drained zero = refl
length-staged_above g s drained (suc k) = ap suc (length-staged_above g s drained k)

pub length-pending : (g : Geometry) (s : State) (drained : ℕ) → length (pending g s drained) ≡ last s - drained
length-pending g s drained = length-staged_above g s drained (last s - drained)

pub staged_above-split : (g : Geometry) (s : State) (drained upto newer older k : ℕ) → upto ≡ drained + older → k ≡ newer + older
    → staged_above g s drained k ≡ staged_above g s upto newer ++ staged_above g s drained older
staged_above-split g s drained upto zero older k is sum = ap (λ n. staged_above g s drained n) (let same : k ≡ older = omega arith in same)
staged_above-split g s drained upto (suc newer) older k is sum =
    let count : k ≡ suc (newer + older) = omega arith in
    let number : drained + suc (newer + older) ≡ upto + suc newer = omega arith in
    ap (λ n. staged_above g s drained n) count
    ∙ ap (λ q. staged_of g s q ∷ staged_above g s drained (newer + older)) number
    ∙ ap (λ ws. staged_of g s (upto + suc newer) ∷ ws) (staged_above-split g s drained upto newer older (newer + older) is refl)

pub pending-parts : (g : Geometry) (s : State) (drained upto : ℕ) → drained ≤ upto → upto ≤ last s → pending g s drained ≡ pending g s upto ++ staged_above g s drained (upto - drained)
pending-parts g s drained upto low high = staged_above-split g s drained upto (last s - upto) (upto - drained) (last s - drained) (omega arith) (omega arith)

-- the writes above a number are the first of the pending ones
pub pending-take : (g : Geometry) (s : State) (drained upto : ℕ) → drained ≤ upto → upto ≤ last s → take (last s - upto) (pending g s drained) ≡ pending g s upto
pending-take g s drained upto low high =
    ap (λ ws. take (last s - upto) ws) (pending-parts g s drained upto low high)
    ∙ take_at (pending g s upto) (staged_above g s drained (upto - drained)) (last s - upto) (length-pending g s upto)

-- and those up to it are the rest
pub pending-drop : (g : Geometry) (s : State) (drained upto : ℕ) → drained ≤ upto → upto ≤ last s → drop (last s - upto) (pending g s drained) ≡ staged_above g s drained (upto - drained)
pending-drop g s drained upto low high =
    ap (λ ws. drop (last s - upto) ws) (pending-parts g s drained upto low high)
    ∙ drop_at (pending g s upto) (staged_above g s drained (upto - drained)) (last s - upto) (length-pending g s upto)

pub pending-split : (g : Geometry) (s : State) (drained upto : ℕ) → drained ≤ upto → upto ≤ last s → pending g s drained ≡ pending g s upto ++ drop (last s - upto) (pending g s drained)
pending-split g s drained upto low high =
    pending-parts g s drained upto low high ∙ ap (λ ws. pending g s upto ++ ws) (sym (pending-drop g s drained upto low high))

-- ---- the pending writes lead from the image at the drained number to the present one
abbrev Lead : Geometry → State → ℕ → ℕ → Type 0
Lead g s drained k = (image_after_writes (image_at s drained) (staged_above g s drained k) ≡ image_at s (drained + k)) × AreWrites g (image_at s drained) (staged_above g s drained k)

pub above_are_writes : (g : Geometry) (s : State) (drained k : ℕ) → IsValid g s → s.first ≤ drained → drained + k ≤ last s → Lead g s drained k
above_are_writes g s drained zero valid low high = (ap (λ n. image_at s n) (let same : drained ≡ drained + 0 = omega arith in same), tt)
above_are_writes g s drained (suc k) valid low high =
    let before = above_are_writes g s drained k valid low (omega arith) in
    let q = drained + suc k in
    let number : drained + k + 1 ≡ q = omega arith in
    let entry = entry_at_is_entry g s q valid (omega arith) high in
    let next : image_after_writes (image_at s drained) (staged_above g s drained (suc k)) ≡ image_at s q =
    ap (λ im. written im (entry_at s q)) before.0
    ∙ ap (λ n. written (image_at s (drained + k)) (entry_at s n)) (sym number)
    ∙ sym (image_at-next s (drained + k) (omega arith) (omega arith))
    ∙ ap (λ n. image_at s n) number in
    (next, (entry.block, entry.size, ap (λ im. row_parity g im (block_place g (entry_at s q).block).row) (sym next), before.1))

pub pending_are_writes : (g : Geometry) (s : State) (drained : ℕ) → IsValid g s → s.first ≤ drained → drained ≤ last s
    → (image_after_writes (image_at s drained) (pending g s drained) ≡ image s) × AreWrites g (image_at s drained) (pending g s drained)
pending_are_writes g s drained valid low high =
    let lead = above_are_writes g s drained (last s - drained) valid low (omega arith) in
    let end : drained + (last s - drained) ≡ last s = omega arith in
    (lead.0 ∙ ap (λ n. image_at s n) end ∙ image_at-last s, lead.1)
