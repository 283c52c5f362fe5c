-- What a mount has read of a cell.
use Rattle.std.specs.Prelude.{◌≡◌, true, false}
use Rattle.trap_bank.specs.Disks.{Disks}
use Rattle.trap_cell.specs.declared.heads.Heads.{Heads}
use Rattle.trap_cell.specs.Slots.{Place, gate_of, turn_of}

-- these are the gates and turns of the cell's slots
pub record AreAt (h : Heads) (p : Place) (disks : Disks) : Type 0 where
  pub gate0 : h.first.gate ≡ gate_of p false disks
  pub turn0 : h.first.turn ≡ turn_of p false disks
  pub gate1 : h.second.gate ≡ gate_of p true disks
  pub turn1 : h.second.turn ≡ turn_of p true disks
