-- What a mount finds.
use Rattle.std.proofs.Common.{◌≡◌, ℕ, ◌+◌, List, Bool, true, false, not, ◌==◌, if◌then◌else◌, Option, Some, None, IsTrue, Result, Err, sym, ap, ap₂, subst, ◌∙◌, arith}
use Rattle.trap_bank.specs.Disks.{Contents, View, Disks, region}
use Rattle.trap_bank.specs.Steps.{Moves, Same, Always}
use Rattle.trap_bank.proofs.Regions.{byte_of_region}
use Rattle.trap_bank.proofs.Moves.{always_same}
use Rattle.trap_cell.specs.declared.fault.CellFault.{CellFault}
use Rattle.trap_cell.specs.declared.fault.CellFault.TheVariants.{NoValue, DiskFault}
use Rattle.trap_cell.specs.declared.heads.Heads.{Heads}
use Rattle.trap_cell.specs.Heads.{AreAt}
use Rattle.trap_cell.specs.Slots.{current, Place, Stands, slot_at, gate_of, turn_of, value_at, current_slot, cell_value, cell_len}
use Rattle.trap_cell.proofs.Gates.{value_of}

-- a mount that found no value is no failed call
pub no_disk_fault : {T : Type 0} (fault : CellFault) → fault ≡ NoValue → ◌≡◌ {A = Result T CellFault} (Err fault) (Err DiskFault) → ⊥
no_disk_fault fault is e = cc

-- which slot is current, from what was read
pub found_current : (h : Heads) (p : Place) (w : Disks) → AreAt h p w → current_slot p w ≡ current h.first.gate h.first.turn h.second.gate h.second.turn
found_current h p w are = ap (λ (g : ℕ). current g (turn_of p false w) (gate_of p true w) (turn_of p true w)) (sym are.gate0)
    ∙ ap (λ (t : ℕ). current h.first.gate t (gate_of p true w) (turn_of p true w)) (sym are.turn0)
    ∙ ap (λ (g : ℕ). current h.first.gate h.first.turn g (turn_of p true w)) (sym are.gate1)
    ∙ ap (λ (t : ℕ). current h.first.gate h.first.turn h.second.gate t) (sym are.turn1)

-- what was read stands too where every byte of the cell is the same
pub found_again : (h : Heads) (p : Place) (x y : Disks) → region y p.disk p.at (cell_len p) ≡ region x p.disk p.at (cell_len p) → AreAt h p x → AreAt h p y
found_again h p x y same are = record {
  gate0 = are.gate0 ∙ sym (byte_of_region x y p.disk p.at (cell_len p) p.at same (omega arith) (omega arith));
  turn0 = are.turn0 ∙ sym (byte_of_region x y p.disk p.at (cell_len p) (p.at + 1) same (omega arith) (omega arith));
  gate1 = are.gate1 ∙ sym (byte_of_region x y p.disk p.at (cell_len p) (p.at + (2 + p.size)) same (omega arith) (omega arith));
  turn1 = are.turn1 ∙ sym (byte_of_region x y p.disk p.at (cell_len p) (p.at + (2 + p.size) + 1) same (omega arith) (omega arith));
}

-- a cell stands as it was found
pub found_stands : (h : Heads) (p : Place) (second : Bool) (turn : ℕ) (other_open : Bool) (w : Disks) → AreAt h p w
    → Some second ≡ current h.first.gate h.first.turn h.second.gate h.second.turn
    → turn ≡ (if second then h.second.turn else h.first.turn)
    → other_open ≡ ((if second then h.first.gate else h.second.gate) == 165)
    → Stands (record { place = p; second = second; turn = turn; other_open = other_open }) w
found_stands h p second turn other_open w are is turned open_ = record { current = found_current h p w are ∙ sym is; turn = turn_in second ∙ sym turned; gate = gate_in second ∙ sym open_ }
  where
    turn_in : (b : Bool) → turn_of p b w ≡ (if b then h.second.turn else h.first.turn)
    turn_in true = sym are.turn1
    turn_in false = sym are.turn0

    gate_in : (b : Bool) → (gate_of p (not b) w == 165) ≡ ((if b then h.first.gate else h.second.gate) == 165)
    gate_in true = ap (λ (g : ℕ). g == 165) (sym are.gate0)
    gate_in false = ap (λ (g : ℕ). g == 165) (sym are.gate1)

-- every crash leaves a cell as it was found
pub mount_stands : (h : Heads) (p : Place) (second : Bool) (turn : ℕ) (other_open : Bool) (a b : View)
    → Always a (λ disks. region disks p.disk p.at (cell_len p) ≡ region a.now.disks p.disk p.at (cell_len p))
    → (IsTrue a.tells → AreAt h p a.now.disks)
    → Some second ≡ current h.first.gate h.first.turn h.second.gate h.second.turn
    → turn ≡ (if second then h.second.turn else h.first.turn)
    → other_open ≡ ((if second then h.first.gate else h.second.gate) == 165)
    → Moves a b Same Same
    → Always b (Stands (record { place = p; second = second; turn = turn; other_open = other_open }))
mount_stands h p second turn other_open a b stable are is turned open_ moves = always_same a b (Stands (record { place = p; second = second; turn = turn; other_open = other_open })) moves
    (λ c was. found_stands h p second turn other_open c.disks (found_again h p a.now.disks c.disks (stable c was) (are was.told)) is turned open_)

-- the value that was read is the cell's
pub mount_value : (h : Heads) (p : Place) (second : Bool) (a b : View) (start : ℕ) (bytes : List ℕ)
    → (IsTrue a.tells → AreAt h p a.now.disks)
    → (IsTrue a.tells → b.now ≡ a.now)
    → b.tells ≡ a.tells
    → Some second ≡ current h.first.gate h.first.turn h.second.gate h.second.turn
    → start ≡ slot_at p second
    → (IsTrue b.tells → bytes ≡ region b.now.disks p.disk (start + 2) p.size)
    → IsTrue a.tells → cell_value p a.now.disks ≡ Some bytes
mount_value h p second a b start bytes are same tells is place read told = value_of p second a.now.disks (found_current h p a.now.disks (are told) ∙ sym is)
    ∙ ap {B = Option (List ℕ)} Some (sym (read (subst IsTrue (sym tells) told) ∙ ap₂ (λ (c : Contents) (i : ℕ). region c.disks p.disk (i + 2) p.size) (same told) place))

-- a cell with no slot on has no value
pub mount_none : (h : Heads) (p : Place) (w : Disks) → AreAt h p w → current h.first.gate h.first.turn h.second.gate h.second.turn ≡ None → cell_value p w ≡ None
mount_none h p w are is = ap (λ (c : Option Bool). value_at c p w) (found_current h p w are ∙ is)
