-- A slot that is filled: the write to disk 0 stays within it, and the writes in memory are one more.
use Rattle.std.proofs.Common.{◌≡◌, ℕ, suc, ◌+◌, ◌-◌, ◌^◌, ◌<◌, ◌≤◌, List, ◌∷◌, length, Result, IsTrue, ap, sym, ◌∙◌, subst, ⊎_elim, arith}
use Rattle.std.proofs.lemmas.Bool.{cases_eq}
use Rattle.trap_bank.specs.Disks.{Disks, View, Differs, Torn, region}
use Rattle.trap_bank.specs.Calls.{Writes}
use Rattle.trap_bank.specs.Steps.{Moves}
use Rattle.trap_bank.proofs.Moves.{write_steps, moves_wider, torn_wider}
use Rattle.trap_format.specs.LogDisk.{slot_len}
use Rattle.trap_model.specs.Image.{volume}
use Rattle.trap_model.specs.declared.numbers.Geometry.{Geometry}
use Rattle.trap_stage.specs.Staged.{Staged, IsStaged}
use Rattle.trap_stage.specs.Slots.{slot_start, slot_area, slot_bytes}
use Rattle.trap_stage.specs.Held.{slot_held, staged_from, staged_held, writes_held, HoldsWrites}
use Rattle.trap_stage.specs.Mounting.{OthersStay}
use Rattle.trap_stage.proofs.SlotAreas.{round_apart}
use Rattle.trap_stage.proofs.HeldSlots.{writes_same}
use Rattle.trap_stage.proofs.HeldSpellings.{staged_again}

-- ---- on disk 0
pub fill_moves : {T E : Type 0} (result : Result T E) (a b : View) (g : Geometry) (q at : ℕ) (slot : List ℕ) → at ≡ slot_start g q → length slot ≡ slot_len g
    → Writes 0 at slot result a b → Moves a b (Differs (slot_area g q)) (Differs (slot_area g q))
fill_moves result a b g q at slot place len call =
    moves_wider 0 at (length slot) (slot_start g q) (slot_len g) a b (omega arith) (omega arith) (write_steps result a b 0 at slot call)

pub fill_torn : {T E : Type 0} (result : Result T E) (a b : View) (g : Geometry) (q at : ℕ) (slot : List ℕ) → at ≡ slot_start g q → length slot ≡ slot_len g
    → Writes 0 at slot result a b → IsTrue a.tells → Torn (slot_area g q) a.now b.now
fill_torn result a b g q at slot place len call told =
    torn_wider 0 at (length slot) (slot_start g q) (slot_len g) a.now b.now (omega arith) (omega arith) (call.torn told)

pub fill_there : (disks : Disks) (g : Geometry) (q at : ℕ) (slot bytes : List ℕ) → at ≡ slot_start g q → length slot ≡ slot_len g → slot ≡ bytes
    → region disks 0 at (length slot) ≡ slot → region disks 0 (slot_start g q) (slot_len g) ≡ bytes
fill_there disks g q at slot bytes place len is there =
    ap (λ (i : ℕ). region disks 0 i (slot_len g)) (sym place) ∙ ap (λ (n : ℕ). region disks 0 at n) (sym len) ∙ there ∙ is

-- ---- in memory
-- the slot of the number after the last one is free
pub others_held : (g : Geometry) (drained last q : ℕ) (old new : List ℕ) → q ≡ last + 1 → last < drained + g.slots → OthersStay g q old new → (p : ℕ) → drained < p
    → p ≤ last → slot_held g new p ≡ slot_held g old p
others_held g drained last q old new next free others p low high =
    let some : 0 < g.slots = omega (arith, g.within.slots_least) in
    others p (round_apart p q g.slots some (omega arith) (omega arith))

-- whatever stands in it, the pending writes stay
pub still_held : (g : Geometry) (drained last q : ℕ) (old new : List ℕ) → q ≡ last + 1 → last < drained + g.slots → length new ≡ length old → OthersStay g q old new
    → HoldsWrites g drained last old → HoldsWrites g drained last new
still_held g drained last q old new next free len others held = record {
  order = held.order;
  most = held.most;
  last_most = held.last_most;
  size = len ∙ held.size;
  blocks = λ p low high.
      subst (λ (l : List ℕ). (staged_from g l).block < volume g) (sym (others_held g drained last q old new next free others p low high)) (held.blocks p low high);
}

pub still_writes : (g : Geometry) (drained last q : ℕ) (old new : List ℕ) → drained ≤ last → q ≡ last + 1 → last < drained + g.slots → OthersStay g q old new
    → writes_held g new drained (last - drained) ≡ writes_held g old drained (last - drained)
still_writes g drained last q old new order next free others =
    writes_same g old new drained (last - drained) (λ p low high. others_held g drained last q old new next free others p low (omega arith))

-- with a write spelled into it there is one more
pub more_held : (g : Geometry) (drained last q : ℕ) (old new : List ℕ) (staged : Staged) → q ≡ last + 1 → q < 2 ^ 64 → last < drained + g.slots → length new ≡ length old
    → OthersStay g q old new → slot_held g new q ≡ slot_bytes q staged → IsStaged g staged → HoldsWrites g drained last old → HoldsWrites g drained q new
more_held g drained last q old new staged next fits free len others filled sound held =
    let order = held.order in
    let again : staged_held g new q ≡ staged = ap (λ (l : List ℕ). staged_from g l) filled ∙ staged_again g q staged sound in
    let still = still_held g drained last q old new next free len others held in
    record {
      order = omega arith;
      most = omega arith;
      last_most = fits;
      size = still.size;
      blocks = λ p low high. ⊎_elim
          (λ (newest : p ≡ q). subst (λ n. (staged_held g new n).block < volume g) (sym newest) (subst (λ (w : Staged). w.block < volume g) (sym again) sound.block))
          (λ (other : p ≡ q → ⊥). still.blocks p low (omega (arith, other)))
          (cases_eq p q);
    }

pub more_writes : (g : Geometry) (drained last q : ℕ) (old new : List ℕ) (staged : Staged) → drained ≤ last → q ≡ last + 1 → last < drained + g.slots
    → OthersStay g q old new → slot_held g new q ≡ slot_bytes q staged → IsStaged g staged → writes_held g new drained (q - drained) ≡ staged ∷ writes_held g old drained (last - drained)
more_writes g drained last q old new staged order next free others filled sound =
    let again : staged_held g new q ≡ staged = ap (λ (l : List ℕ). staged_from g l) filled ∙ staged_again g q staged sound in
    let count : q - drained ≡ suc (last - drained) = omega arith in
    let number : drained + suc (last - drained) ≡ q = omega arith in
    ap (λ (n : ℕ). writes_held g new drained n) count
    ∙ ap (λ (n : ℕ). staged_held g new n ∷ writes_held g new drained (last - drained)) number
    ∙ ap (λ (w : Staged). w ∷ writes_held g new drained (last - drained)) again
    ∙ ap (λ (ws : List Staged). staged ∷ ws) (still_writes g drained last q old new order next free others)
