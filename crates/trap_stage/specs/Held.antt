-- The slots in memory: one after the other, as on disk 0.
use Rattle.std.specs.Prelude.{◌≡◌, ℕ, zero, suc, ◌+◌, ◌*◌, ◌%◌, ◌^◌, ◌<◌, ◌≤◌, List, [], ◌∷◌}
use Rattle.std.specs.Prelude.{length, take, drop}
use Rattle.std.specs.Int.{w32, from_be_bytes}
use Rattle.trap_format.specs.LogDisk.{slot_len}
use Rattle.trap_model.specs.Image.{volume}
use Rattle.trap_model.specs.declared.numbers.Geometry.{Geometry}
use Rattle.trap_stage.specs.Staged.{Staged, IsStaged}
use Rattle.trap_stage.specs.Slots.{slot_bytes}

-- where the slot of a write's number begins among them
abbrev pub slot_offset : Geometry → ℕ → ℕ
slot_offset g q = q % g.slots * slot_len g

-- the bytes of that slot
abbrev pub slot_held : Geometry → List ℕ → ℕ → List ℕ
slot_held g slots q = take (slot_len g) (drop (slot_offset g q) slots)

-- the write whose block, bytes and parity a slot holds
abbrev pub staged_from : Geometry → List ℕ → Staged
staged_from g slot = record {
  block = from_be_bytes w32 (take 4 (drop 8 slot));
  bytes = take g.block (drop 12 slot);
  parity = drop (12 + g.block) slot;
}

-- the write in the slot of a number
abbrev pub staged_held : Geometry → List ℕ → ℕ → Staged
staged_held g slots q = staged_from g (slot_held g slots q)

-- those of that many numbers above one, the newest first
abbrev pub writes_held : Geometry → List ℕ → ℕ → ℕ → List Staged
writes_held g slots drained zero = []
writes_held g slots drained (suc k) =
    staged_held g slots (drained + suc k) ∷ writes_held g slots drained k

-- that many slots, and a write of the array in each of the numbers above `drained` and up to `last`
pub record HoldsWrites (g : Geometry) (drained last : ℕ) (slots : List ℕ) : Type 0 where
  pub order : drained ≤ last
  pub most : last ≤ drained + g.slots
  pub last_most : last < 2 ^ 64
  pub size : length slots ≡ g.slots * slot_len g
  pub blocks : (q : ℕ) → drained < q → q ≤ last → (staged_held g slots q).block < volume g

-- the bytes are the spelling of some write of the array with this number
abbrev pub SpellsNumber : Geometry → ℕ → List ℕ → Type 0
SpellsNumber g q slot = (staged : Staged) × IsStaged g staged × (slot ≡ slot_bytes q staged)

-- the slots of the numbers above one and up to another are such spellings
abbrev pub AllSpell : Geometry → List ℕ → ℕ → ℕ → Type 0
AllSpell g slots drained upto = (q : ℕ) → drained < q → q ≤ upto
    → SpellsNumber g q (slot_held g slots q)
