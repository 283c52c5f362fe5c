-- How the log is made: its cell and its header, and then its gate.
use Rattle.std.proofs.Common.{◌≡◌, ◌≢◌, ℕ, ◌^◌, ◌<◌, ◌≤◌, List, [], ◌∷◌, length, take, drop, replicate, get_or, Option, Some, None, IsTrue, inl, inr, ⊎_elim, refl, sym, ap, subst, ◌∙◌, arith}
use Rattle.std.proofs.lemmas.Bool.{cases_eq}
use Rattle.std.proofs.lemmas.List.{length-replicate, length-drop, length-take-le, take_all, get_or-take}
use Rattle.trap_bank.specs.Disks.{View, Disks, Area, Within, Torn, Differs, byte, bytes_of, size_of, region}
use Rattle.trap_bank.specs.Steps.{Moves, PlacedThrough}
use Rattle.trap_bank.proofs.Regions.{disk_apart, disk_beside, region_byte, region_beside, byte_in_region, zero_byte, size_length}
use Rattle.trap_bank.proofs.Moves.{moves_then, moves_weaken, RemadeDisk, MadeDisk}
use Rattle.trap_cell.specs.Slots.{Place, Slots, Stands, begun, place_of, cell_value, cell_area}
use Rattle.trap_cell.specs.Steps.{IsFirst}
use Rattle.trap_cell.proofs.Beside.{range_apart, cell_beside, stands_beside}
use Rattle.trap_format.specs.LogDisk.{log_size, log_header}
use Rattle.trap_format.specs.HeadValue.{head_value}
use Rattle.trap_model.specs.declared.numbers.Geometry.{Geometry}
use Rattle.trap_mount.specs.Holding.{head_place}
use Rattle.trap_mount.specs.Refusing.{RefusesAs}
use Rattle.trap_mount.specs.declared.fault.MountFault.{MountFault}
use Rattle.trap_mount.specs.Creating.{OnlyDisk, fresh_head, IsLogGateOff, IsShutLog, IsNewLog, ShutsLog, HasShutLog, MakesLog, HasNewLog}
use Rattle.trap_raid.proofs.OwnDisks.{only_then}

-- a disk whose gate is off is no log
pub off_no_array : (x : Disks) → IsLogGateOff x → RefusesAs x MountFault.NotAnArray
off_no_array x off begins = off (sym first ∙ ap (λ (l : List ℕ). get_or l 0 0) begins.start)
  where
    first : get_or (take 5 (region x 0 0 64)) 0 0 ≡ byte x 0 0
    first = get_or-take 5 (region x 0 0 64) 0 0 (omega arith) ∙ region_byte x 0 0 64 0 (omega arith)

-- a byte of 0 is no open gate
shut_by_zero : (x : Disks) → byte x 0 0 ≡ 0 → IsLogGateOff x
shut_by_zero x zero on = omega (arith, zero, on)

-- an absent disk's gate is off
pub absent_off : (x : Disks) → x 0 ≡ None → IsLogGateOff x
absent_off x is = shut_by_zero x (ap (λ (disk : Option (List ℕ)). get_or (bytes_of disk) 0 0) is)

-- and so is that of a disk of zeros
zeros_off : (x : Disks) (n : ℕ) → x 0 ≡ Some (replicate n 0) → IsLogGateOff x
zeros_off x n is = shut_by_zero x (ap (λ (disk : Option (List ℕ)). get_or (bytes_of disk) 0 0) is ∙ zero_byte n 0)

-- while disk 0 is made
shuts_remade : (n : ℕ) (x y : Disks) → RemadeDisk 0 n x y → ShutsLog x y
shuts_remade n x y step = record {
  others = step.others;
  disk = ⊎_elim inl (λ rest. inr (⊎_elim (λ (none : y 0 ≡ None). absent_off y none) (λ zeros. zeros_off y zeros.0 zeros.2) rest)) step.disk;
}

pub make_part : (n : ℕ) (a b : View) → Moves a b (RemadeDisk 0 n) (RemadeDisk 0 n) → Moves a b ShutsLog ShutsLog
make_part n a b moves = moves_weaken a b (RemadeDisk 0 n) (RemadeDisk 0 n) ShutsLog ShutsLog moves
    (λ x y was step. shuts_remade n x.disks y.disks step)
    (λ x y was left step. shuts_remade n x.disks y.disks step)

-- the gate is off, and no other disk changed
pub record KeepsOff (old new : Disks) : Type 0 where
  pub others : OnlyDisk 0 old new
  pub gate : IsLogGateOff new

keeps_shuts : (x y : Disks) → KeepsOff x y → ShutsLog x y
keeps_shuts x y keeps = record { others = keeps.others; disk = inr keeps.gate }

-- a change on disk 0 after the gate
keeps_after : (area : Area) (x y z : Disks) → ((e i : ℕ) → area e i → (e ≡ 0) × (0 < i)) → KeepsOff x y → Differs area y z → KeepsOff x z
keeps_after area x y z behind keeps differs = record {
  others = only_then 0 x y z keeps.others (λ e other. disk_apart area y z e differs (λ i within. other (behind e i within).0));
  gate = λ on. keeps.gate (sym (differs.bytes 0 0 (λ within. absurd (omega (arith, (behind 0 0 within).1)))) ∙ on);
}

made_off : (n : ℕ) (x y : Disks) → MadeDisk 0 n x y → KeepsOff x y
made_off n x y made = record { others = made.others; gate = zeros_off y n made.disk }

cell_after : (e i : ℕ) → cell_area head_place e i → (e ≡ 0) × (0 < i)
cell_after e i within = (within.disk, omega (arith, within.from))

range_after : (n e i : ℕ) → Within 0 1 n e i → (e ≡ 0) × (0 < i)
range_after n e i within = (within.disk, omega (arith, within.from))

-- the log is made but for its header
pub record HasCell (g : Geometry) (old new : Disks) : Type 0 where
  pub keeps : KeepsOff old new
  pub size : size_of (new 0) ≡ Some (log_size g)
  pub value : cell_value head_place new ≡ Some (head_value fresh_head)
  pub cell : Stands (begun head_place) new

-- the cell's place, by the length of its value
at_place : (k : ℕ) (b c : View) (after : Disks → Disks → Type 0) → k ≡ 62 → Moves b c (Differs (cell_area (place_of 0 64 k))) after → Moves b c (Differs (cell_area head_place)) after
at_place k b c after long moves = subst (λ (n : ℕ). Moves b c (Differs (cell_area (place_of 0 64 n))) after) long moves

both_at_place : (k : ℕ) (b c : View) → k ≡ 62 → Moves b c (Differs (cell_area (place_of 0 64 k))) (Differs (cell_area (place_of 0 64 k)))
    → Moves b c (Differs (cell_area head_place)) (Differs (cell_area head_place))
both_at_place k b c long moves = subst (λ (n : ℕ). Moves b c (Differs (cell_area (place_of 0 64 n))) (Differs (cell_area (place_of 0 64 n)))) long moves

-- while the cell begins
pub cell_part : (n k : ℕ) (a b c : View) → k ≡ 62 → Moves a b (RemadeDisk 0 n) (MadeDisk 0 n) → Moves b c (Differs (cell_area (place_of 0 64 k))) (Differs (cell_area (place_of 0 64 k)))
    → Moves a c ShutsLog ShutsLog
cell_part n k a b c long made first =
    moves_then a b c (RemadeDisk 0 n) (MadeDisk 0 n) (Differs (cell_area head_place)) (Differs (cell_area head_place)) ShutsLog ShutsLog made (both_at_place k b c long first)
    (λ x y was step. shuts_remade n x.disks y.disks step)
    (λ x y z was step mid differs. keeps_shuts x.disks z.disks (keeps_after (cell_area head_place) x.disks y.disks z.disks cell_after (made_off n x.disks y.disks step) differs))
    (λ x y z was step mid differs. keeps_shuts x.disks z.disks (keeps_after (cell_area head_place) x.disks y.disks z.disks cell_after (made_off n x.disks y.disks step) differs))

-- and when it has begun
pub cell_done : (g : Geometry) (n k : ℕ) (s : Slots) (head : List ℕ) (a b c : View) → n ≡ log_size g → k ≡ 62 → s ≡ begun (place_of 0 64 k) → head ≡ head_value fresh_head
    → Moves a b (RemadeDisk 0 n) (MadeDisk 0 n)
    → Moves b c (Differs (cell_area (place_of 0 64 k))) (IsFirst c s head) → Moves a c ShutsLog (HasCell g)
cell_done g n k s head a b c size long at is made first =
    moves_then a b c (RemadeDisk 0 n) (MadeDisk 0 n) (Differs (cell_area head_place)) (IsFirst c s head) ShutsLog (HasCell g) made (at_place k b c (IsFirst c s head) long first)
    (λ x y was step. shuts_remade n x.disks y.disks step)
    (λ x y z was step mid differs. keeps_shuts x.disks z.disks (keeps_after (cell_area head_place) x.disks y.disks z.disks cell_after (made_off n x.disks y.disks step) differs))
    (λ x y z was step mid first. done x.disks y.disks z.disks step first)
  where
    cell : s ≡ begun head_place
    cell = at ∙ ap (λ (j : ℕ). begun (place_of 0 64 j)) long

    place : s.place ≡ head_place
    place = ap (λ (slots : Slots). slots.place) cell

    done : (x y z : Disks) → MadeDisk 0 n x y → IsFirst c s head y z → HasCell g x z
    done x y z made first =
        let differs = subst (λ (p : Place). Differs (cell_area p) y z) place first.differs in
        record {
          keeps = keeps_after (cell_area head_place) x y z cell_after (made_off n x y made) differs;
          size = differs.sizes 0 ∙ ap size_of made.disk ∙ ap {B = Option ℕ} Some (length-replicate n 0 ∙ size);
          value = subst (λ (p : Place). cell_value p z ≡ Some head) place first.value ∙ ap {B = Option (List ℕ)} Some is;
          cell = subst (λ (slots : Slots). Stands slots z) cell first.stands;
        }

-- a header's bytes after the gate
pub header_rest : (g : Geometry) (header : List ℕ) → length header ≡ 64 → header ≡ log_header g → take 63 (drop 1 header) ≡ drop 1 (log_header g)
header_rest g header long is = take_all 63 (drop 1 header) (omega (arith, length-drop 1 header, long)) ∙ ap (λ (l : List ℕ). drop 1 l) is

pub header_rest_length : (header : List ℕ) → length header ≡ 64 → length (take 63 (drop 1 header)) ≡ 63
header_rest_length header long = length-take-le 63 (drop 1 header) (omega (arith, length-drop 1 header, long))

-- while the header's other bytes are written
pub header_part : (g : Geometry) (n : ℕ) (a b c : View) → Moves a b ShutsLog (HasCell g) → Moves b c (Differs (Within 0 1 n)) (Differs (Within 0 1 n)) → Moves a c ShutsLog ShutsLog
header_part g n a b c cell written = moves_then a b c ShutsLog (HasCell g) (Differs (Within 0 1 n)) (Differs (Within 0 1 n)) ShutsLog ShutsLog cell written
    (λ x y was step. step)
    (λ x y z was step mid differs. keeps_shuts x.disks z.disks (keeps_after (Within 0 1 n) x.disks y.disks z.disks (range_after n) step.keeps differs))
    (λ x y z was step mid differs. keeps_shuts x.disks z.disks (keeps_after (Within 0 1 n) x.disks y.disks z.disks (range_after n) step.keeps differs))

-- and when they are written
pub header_done : (g : Geometry) (rest : List ℕ) (a b c : View) → length rest ≡ 63 → rest ≡ drop 1 (log_header g) → Moves a b ShutsLog (HasCell g)
    → Moves b c (Differs (Within 0 1 (length rest))) (PlacedThrough c 0 1 rest) → Moves a c ShutsLog (HasShutLog g)
header_done g rest a b c long is cell written =
    moves_then a b c ShutsLog (HasCell g) (Differs (Within 0 1 (length rest))) (PlacedThrough c 0 1 rest) ShutsLog (HasShutLog g) cell written
    (λ x y was step. step)
    (λ x y z was step mid differs. keeps_shuts x.disks z.disks (keeps_after (Within 0 1 (length rest)) x.disks y.disks z.disks (range_after (length rest)) step.keeps differs))
    (λ x y z was step mid placed. done x.disks y.disks z.disks step placed)
  where
    done : (x y z : Disks) → HasCell g x y → PlacedThrough c 0 1 rest y z → HasShutLog g x z
    done x y z has placed =
        let differs = placed.placed.differs in
        let keeps = keeps_after (Within 0 1 (length rest)) x y z (range_after (length rest)) has.keeps differs in
        let apart = range_apart head_place 1 (length rest) (inl (omega (arith, long))) in
        record {
          others = keeps.others;
          log = record {
            gate = keeps.gate;
            size = differs.sizes 0 ∙ has.size;
            rest = ap (λ (n : ℕ). region z 0 1 n) (sym long) ∙ placed.placed.there ∙ is;
            value = cell_beside head_place (Within 0 1 (length rest)) y z differs apart ∙ has.value;
            cell = stands_beside (begun head_place) (Within 0 1 (length rest)) y z differs apart has.cell;
          };
        }

-- a gate before a header's other bytes
joined : (bytes rest : List ℕ) → 64 ≤ length bytes → get_or bytes 0 0 ≡ 165 → take 63 (drop 1 bytes) ≡ rest → take 64 bytes ≡ 165 ∷ rest
joined [] rest long gate is = absurd (omega (arith, long))
joined (b ∷ bytes) rest long gate is = cc

-- a new log whose gate is open now
opened : (g : Geometry) (y z : Disks) → g.slots ≡ 1 → g.id < 2 ^ 64 → IsShutLog g y → Differs (Within 0 0 1) y z → byte z 0 0 ≡ 165 → IsNewLog g z
opened g y z one_slot id shut differs on = record {
  log = record {
    size = size;
    header = record {
      one_slot = one_slot;
      spelled = joined (bytes_of (z 0)) (drop 1 (log_header g)) (omega (arith, size_length (z 0) (log_size g) size)) on (region_beside 0 0 1 y z 1 63 differs (inr (omega arith)) ∙ shut.rest);
    };
    id = id;
  };
  value = cell_beside head_place (Within 0 0 1) y z differs (range_apart head_place 0 1 (inl (omega arith))) ∙ shut.value;
  cell = stands_beside (begun head_place) (Within 0 0 1) y z differs (range_apart head_place 0 1 (inl (omega arith))) shut.cell;
}
  where
    size : size_of (z 0) ≡ Some (log_size g)
    size = differs.sizes 0 ∙ shut.size

module _ (g : Geometry) (one_slot : g.slots ≡ 1) (id : g.id < 2 ^ 64) where
  shuts_makes : (x y : Disks) → ShutsLog x y → MakesLog g x y
  shuts_makes x y shuts = record { others = shuts.others; disk = ⊎_elim inl (λ off. inr (inl off)) shuts.disk }

  pub shut_part : (a b : View) → Moves a b ShutsLog ShutsLog → Moves a b (MakesLog g) (MakesLog g)
  shut_part a b moves = moves_weaken a b ShutsLog ShutsLog (MakesLog g) (MakesLog g) moves
      (λ x y was step. shuts_makes x.disks y.disks step)
      (λ x y was left step. shuts_makes x.disks y.disks step)

  -- while the gate is written it holds any byte
  gate_makes : (x y z : Disks) → HasShutLog g x y → Differs (Within 0 0 1) y z → MakesLog g x z
  gate_makes x y z made differs = record {
    others = only_then 0 x y z made.others (λ e other. disk_beside 0 0 1 y z e differs other);
    disk = inr (⊎_elim (λ (on : byte z 0 0 ≡ 165). inr (opened g y z one_slot id made.log differs on)) (λ (off : byte z 0 0 ≢ 165). inl off) (cases_eq (byte z 0 0) 165));
  }

  pub gate_part : (a b c : View) → Moves a b ShutsLog (HasShutLog g) → Moves b c (Differs (Within 0 0 1)) (Differs (Within 0 0 1)) → Moves a c (MakesLog g) (MakesLog g)
  gate_part a b c shut gate = moves_then a b c ShutsLog (HasShutLog g) (Differs (Within 0 0 1)) (Differs (Within 0 0 1)) (MakesLog g) (MakesLog g) shut gate
      (λ x y was step. shuts_makes x.disks y.disks step)
      (λ x y z was step mid differs. gate_makes x.disks y.disks z.disks step differs)
      (λ x y z was step mid differs. gate_makes x.disks y.disks z.disks step differs)

  -- and when it is stable, it is open
  pub gate_done : (a b c : View) → Moves a b ShutsLog (HasShutLog g) → Moves b c (Differs (Within 0 0 1)) (PlacedThrough c 0 0 (165 ∷ [])) → Moves a c (MakesLog g) (HasNewLog g)
  gate_done a b c shut gate = moves_then a b c ShutsLog (HasShutLog g) (Differs (Within 0 0 1)) (PlacedThrough c 0 0 (165 ∷ [])) (MakesLog g) (HasNewLog g) shut gate
      (λ x y was step. shuts_makes x.disks y.disks step)
      (λ x y z was step mid differs. gate_makes x.disks y.disks z.disks step differs)
      (λ x y z was step mid placed. record {
        others = only_then 0 x.disks y.disks z.disks step.others (λ e other. disk_beside 0 0 1 y.disks z.disks e placed.placed.differs other);
        log = opened g y.disks z.disks one_slot id step.log placed.placed.differs (byte_in_region z.disks 0 0 1 0 0 (165 ∷ []) refl placed.placed.there (omega arith));
      })

-- what a read gives of the other disks
pub cell_touches : (k : ℕ) (a b c : View) → b.tells ≡ a.tells → (IsTrue a.tells → OnlyDisk 0 a.now.disks b.now.disks) → (IsTrue b.tells → Torn (cell_area (place_of 0 64 k)) b.now c.now)
    → IsTrue a.tells → OnlyDisk 0 a.now.disks c.now.disks
cell_touches k a b c tells first second told e other =
    disk_apart (cell_area (place_of 0 64 k)) b.now.disks c.now.disks e (second (subst IsTrue (sym tells) told)).disks (λ i within. other within.disk) ∙ first told e other
