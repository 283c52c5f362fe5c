-- A slot's spelling has one write, and the slots of a state are those of its pending writes.
use Rattle.std.proofs.Common.{◌≡◌, ℕ, zero, suc, ◌+◌, ◌-◌, ◌^◌, ◌<◌, ◌≤◌, List, [], ◌∷◌, ◌++◌, length, take, drop, refl, ap, sym, ◌∙◌, subst, arith}
use Rattle.std.specs.Prelude.{All}
use Rattle.std.proofs.lemmas.List.Elements.{All-head, All-tail}
use Rattle.trap_bank.specs.Disks.{Disks}
use Rattle.trap_format.proofs.BigEndian.{same_of_4}
use Rattle.trap_model.specs.State.{last}
use Rattle.trap_model.specs.declared.numbers.Geometry.{Geometry}
use Rattle.trap_model.specs.declared.history.State.{State}
use Rattle.trap_model.proofs.LogRecords.{front-same}
use Rattle.trap_stage.specs.Staged.{Staged, IsStaged}
use Rattle.trap_stage.specs.Pending.{staged_of, staged_above, pending}
use Rattle.trap_stage.specs.Slots.{Stage, slot_bytes, SlotHas, SlotsHold, SlotsAre}
use Rattle.trap_stage.proofs.PendingWrites.{length-staged_above}

-- a write from its three parts
abbrev pub staged_with : ℕ → List ℕ → List ℕ → Staged
staged_with block bytes parity = record { block = block; bytes = bytes; parity = parity }

-- and a stage from its three
abbrev pub stage_with : Geometry → ℕ → List Staged → Stage
stage_with g drained pending = record { g = g; drained = drained; pending = pending }

pub same_staged : (a b : Staged) → a.block ≡ b.block → a.bytes ≡ b.bytes → a.parity ≡ b.parity → a ≡ b
same_staged a b block bytes parity =
    ap (λ n. staged_with n a.bytes a.parity) block ∙ ap (λ xs. staged_with b.block xs a.parity) bytes ∙ ap (λ xs. staged_with b.block b.bytes xs) parity

-- a block's number fits its four bytes
pub block_fits : (g : Geometry) (staged : Staged) → IsStaged g staged → staged.block < 2 ^ 32
block_fits g staged is = omega (arith, is.block, g.within.volume_most)

-- one spelling, one write
pub slot_same : (g : Geometry) (q : ℕ) (a b : Staged) → IsStaged g a → IsStaged g b → slot_bytes q a ≡ slot_bytes q b → a ≡ b
slot_same g q a b is_a is_b e =
    let block : a.block ≡ b.block = same_of_4 a.block b.block (block_fits g a is_a) (block_fits g b is_b) (ap (λ (l : List ℕ). take 4 (drop 8 l)) e) in
    let rest : a.bytes ++ a.parity ≡ b.bytes ++ b.parity = ap (λ (l : List ℕ). drop 12 l) e in
    let parts = front-same a.bytes b.bytes a.parity b.parity (is_a.bytes ∙ sym is_b.bytes) rest in
    same_staged a b block parts.0 parts.1

-- so the slots of the same disks hold one list of so many writes
pub slots_same : (g : Geometry) (drained : ℕ) (xs ys : List Staged) (disks : Disks) → length xs ≡ length ys → All (IsStaged g) xs → All (IsStaged g) ys
    → SlotsAre g drained xs disks → SlotsAre g drained ys disks → xs ≡ ys
slots_same g drained [] [] disks len all_x all_y are_x are_y = refl
slots_same g drained [] (y ∷ ys) disks len all_x all_y are_x are_y = cc
slots_same g drained (x ∷ xs) [] disks len all_x all_y are_x are_y = cc
slots_same g drained (x ∷ xs) (y ∷ ys) disks len all_x all_y are_x are_y =
    let count : length xs ≡ length ys = omega arith in
    let number : drained + length xs + 1 ≡ drained + length ys + 1 = omega arith in
    let there : SlotHas g (drained + length xs + 1) y disks = subst (λ q. SlotHas g q y disks) (sym number) are_y.0 in
    let first : x ≡ y = slot_same g (drained + length xs + 1) x y (All-head (IsStaged g) x xs all_x) (All-head (IsStaged g) y ys all_y) (sym are_x.0 ∙ there) in
    let rest : xs ≡ ys = slots_same g drained xs ys disks count (All-tail (IsStaged g) x xs all_x) (All-tail (IsStaged g) y ys all_y) are_x.1 are_y.1 in
    ap (λ w. w ∷ xs) first ∙ ap (λ ws. y ∷ ws) rest

-- the slots of a state hold its pending writes
above_are : (g : Geometry) (s : State) (drained k : ℕ) (disks : Disks) → drained + k ≤ last s → SlotsHold g s drained disks → SlotsAre g drained (staged_above g s drained k) disks
above_are g s drained zero disks high hold = tt
above_are g s drained (suc k) disks high hold =
    let count : length (staged_above g s drained k) ≡ k = length-staged_above g s drained k in
    let number : drained + suc k ≡ drained + length (staged_above g s drained k) + 1 = omega arith in (
      subst (λ q. SlotHas g q (staged_of g s (drained + suc k)) disks) number (hold (drained + suc k) (omega arith) high),
      above_are g s drained k disks (omega arith) hold,
    )

pub slots_are_pending : (g : Geometry) (s : State) (drained : ℕ) (disks : Disks) → drained ≤ last s → SlotsHold g s drained disks → SlotsAre g drained (pending g s drained) disks
slots_are_pending g s drained disks low hold = above_are g s drained (last s - drained) disks (omega arith) hold
