-- A stage by its slots in memory.
use Rattle.std.proofs.Common.{◌≡◌, ℕ, ◌+◌, ◌-◌, ◌<◌, ◌≤◌, List, length, take, ◌⊎◌, inl, inr, refl, ap, sym, ◌∙◌, arith}
use Rattle.std.specs.Prelude.{max, get_or}
use Rattle.std.proofs.lemmas.Bool.{cases_lt}
use Rattle.std.proofs.lemmas.List.{take_all}
use Rattle.trap_bank.specs.Disks.{Disks}
use Rattle.trap_model.specs.declared.numbers.Geometry.{Geometry}
use Rattle.trap_stage.specs.Slots.{Stage, last_of}
use Rattle.trap_stage.specs.Held.{staged_held, writes_held, HoldsWrites, AllSpell}
use Rattle.trap_stage.specs.Mounting.{AreSlotsRead}
use Rattle.trap_stage.specs.Found.{IsFound, IsStage, no_write, staged_numbered}
use Rattle.trap_stage.proofs.HeldSlots.{length-writes_held, all_sound, held_sound, write_numbered, writes_later}
use Rattle.trap_stage.proofs.Mounts.{are_held}

-- the stage whose writes are those in the slots
abbrev pub stage_held : Geometry → ℕ → ℕ → List ℕ → Stage
stage_held g drained last slots = record { g = g; drained = drained; pending = writes_held g slots drained (last - drained) }

pub last_held : (g : Geometry) (drained last : ℕ) (slots : List ℕ) → drained ≤ last → last_of (stage_held g drained last slots) ≡ last
last_held g drained last slots order = let count = length-writes_held g slots drained (last - drained) in omega arith

pub stage_sound : (g : Geometry) (drained last : ℕ) (slots : List ℕ) → HoldsWrites g drained last slots → IsStage (stage_held g drained last slots)
stage_sound g drained last slots held =
    let order = held.order in
    let most = held.most in
    let count = length-writes_held g slots drained (last - drained) in
    let last_most = held.last_most in
    record {
      writes = all_sound g slots drained (last - drained) (λ q low high. held_sound g drained last slots q held low (omega arith));
      most = omega arith;
      last_most = omega arith;
    }

pub numbered_held : (g : Geometry) (drained last : ℕ) (slots : List ℕ) (q : ℕ) → drained ≤ last → drained < q → q ≤ last → staged_numbered (stage_held g drained last slots) q ≡ staged_held g slots q
numbered_held g drained last slots q order low high =
    let count = length-writes_held g slots drained (last - drained) in
    let at : last_of (stage_held g drained last slots) - q ≡ drained + (last - drained) - q = omega arith in
    ap (λ (n : ℕ). get_or (writes_held g slots drained (last - drained)) n no_write) at
    ∙ write_numbered g slots drained (last - drained) q low (omega arith)

-- the writes up to a number are forgotten
pub forgotten : (g : Geometry) (drained last drained_to last_to q : ℕ) (slots : List ℕ) → drained ≤ last → drained_to ≡ max drained q → last_to ≡ max last q
    → writes_held g slots drained_to (last_to - drained_to) ≡ take (last_of (stage_held g drained last slots) - q) (writes_held g slots drained (last - drained))
forgotten g drained last drained_to last_to q slots order to end =
    let count = length-writes_held g slots drained (last - drained) in
    let newer : last_of (stage_held g drained last slots) - q ≡ last - q = omega arith in
    sym (ap (λ (n : ℕ). take n (writes_held g slots drained (last - drained))) newer ∙ by (cases_lt q drained) (cases_lt last q))
  where
    by : (q < drained) ⊎ (drained ≤ q) → (last < q) ⊎ (q ≤ last) → take (last - q) (writes_held g slots drained (last - drained)) ≡ writes_held g slots drained_to (last_to - drained_to)
    by (inl below) past =
        let same : drained_to ≡ drained = omega arith in
        let still : last_to ≡ last = omega arith in
        let all = length-writes_held g slots drained (last - drained) in
        take_all (last - q) (writes_held g slots drained (last - drained)) (omega arith)
        ∙ ap (λ (n : ℕ). writes_held g slots n (last - n)) (sym same)
        ∙ ap (λ (n : ℕ). writes_held g slots drained_to (n - drained_to)) (sym still)
    by (inr above) (inl past) =
        let none : last - q ≡ 0 = omega arith in
        let empty : last_to - drained_to ≡ 0 = omega arith in
        ap (λ (n : ℕ). take n (writes_held g slots drained (last - drained))) none ∙ ap (λ (n : ℕ). writes_held g slots drained_to n) (sym empty)
    by (inr above) (inr within) =
        let same : drained_to ≡ q = omega arith in
        let still : last_to - drained_to ≡ last - q = omega arith in
        writes_later g slots drained q (last - q) (q - drained) (last - drained) (omega arith) (omega arith)
        ∙ ap (λ (n : ℕ). writes_held g slots n (last - q)) (sym same)
        ∙ ap (λ (n : ℕ). writes_held g slots drained_to n) (sym still)

-- a stage whose slots were read is found
pub held_found : (g : Geometry) (drained last : ℕ) (slots : List ℕ) (disks : Disks) → drained ≤ last → AllSpell g slots drained last
    → AreSlotsRead g slots drained last disks → IsFound g drained last disks (stage_held g drained last slots)
held_found g drained last slots disks order spell read = record {
  g_ = refl;
  drained_ = refl;
  last_ = last_held g drained last slots order;
  slots = are_held g slots drained (last - drained) last disks (omega arith) spell read;
}

-- the number of a further write is the next one, and its slot is free
pub fill_next : (g : Geometry) (drained last q : ℕ) (slots : List ℕ) → drained ≤ last → q ≡ last_of (stage_held g drained last slots) + 1
    → length (writes_held g slots drained (last - drained)) < g.slots → (q ≡ last + 1) × (last < drained + g.slots)
fill_next g drained last q slots order next free =
    let count = length-writes_held g slots drained (last - drained) in
    (omega arith, omega arith)
