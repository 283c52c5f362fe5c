-- How a replica is made: its cell and its header, and then its gate.
use Rattle.std.proofs.Common.{◌≡◌, ◌≢◌, ℕ, zero, suc, ◌+◌, ◌-◌, ◌^◌, ◌<◌, ◌≤◌, List, [], ◌∷◌, ◌++◌, length, take, drop, replicate, get_or, Option, Some, None, IsTrue, inl, inr, ⊎_elim, refl, sym, ap, subst, ◌∙◌, arith}
use Rattle.std.proofs.lemmas.Bool.{cases_eq}
use Rattle.std.proofs.lemmas.List.{length-replicate, length-drop, length-take-le, take_all, get_or-take, get_or-replicate, take-replicate, drop-replicate}
use Rattle.trap_bank.specs.Disks.{View, Disks, Contents, Area, Within, Torn, Differs, byte, bytes_of, size_of, region}
use Rattle.trap_bank.specs.Calls.{IsLawful, MayLeave, Remade}
use Rattle.trap_bank.specs.Steps.{Moves, PlacedThrough}
use Rattle.trap_bank.proofs.Regions.{absent_disk, size_length, zero_byte, disk_apart, disk_beside, region_byte, region_beside, region_of_disk, byte_in_region, differs_again, differs_wider}
use Rattle.trap_bank.proofs.Moves.{moves_then, moves_weaken, RemadeDisk, MadeDisk}
use Rattle.trap_cell.specs.Slots.{Slots, Stands, begun, place_of, cell_value, cell_area, cell_len}
use Rattle.trap_cell.specs.Steps.{IsFirst}
use Rattle.trap_cell.proofs.Beside.{range_apart, cell_beside, stands_beside}
use Rattle.trap_format.specs.ReplicaDisk.{replica_size, replica_header, replica_value_len, home_at}
use Rattle.trap_format.specs.declared.shape.Shape.{Shape}
use Rattle.trap_model.specs.Image.{block_of}
use Rattle.trap_replica.specs.OnDisk.{cell_place, value_bytes, HoldsImageBy}
use Rattle.trap_replica.specs.Applying.{Elsewhere}
use Rattle.trap_replica.proofs.OneFrame.{Touches, block_inside, else_apart}
use Rattle.trap_replica.specs.Creating.{IsNoReplica, zero_blocks, IsNewReplica, MakesReplica, HasMade, IsReplicaGateOff, front, BeginsShut, IsShutReplica, ShutsReplica, HasShutReplica}

-- a disk whose gate is off is no replica
pub off_no_replica : (x : Disks) → IsReplicaGateOff x → IsNoReplica x
off_no_replica x off begins = off (sym first ∙ ap (λ (l : List ℕ). get_or l 0 0) begins.start)
  where
    first : get_or (take 5 (region x 17 0 32)) 0 0 ≡ byte x 17 0
    first = get_or-take 5 (region x 17 0 32) 0 0 (omega arith) ∙ region_byte x 17 0 32 0 (omega arith)

-- a byte of 0 is no open gate
shut_by_zero : (x : Disks) → byte x 17 0 ≡ 0 → IsReplicaGateOff x
shut_by_zero x is on = omega (arith, is, on)

pub absent_off : (x : Disks) → x 17 ≡ None → IsReplicaGateOff x
absent_off x is = shut_by_zero x (ap (λ (disk : Option (List ℕ)). get_or (bytes_of disk) 0 0) is)

zeros_off : (x : Disks) (n : ℕ) → x 17 ≡ Some (replicate n 0) → IsReplicaGateOff x
zeros_off x n is = shut_by_zero x (ap (λ (disk : Option (List ℕ)). get_or (bytes_of disk) 0 0) is ∙ zero_byte n 0)

-- while disk 17 is made
shuts_remade : (n : ℕ) (x y : Disks) → RemadeDisk 17 n x y → ShutsReplica x y
shuts_remade n x y step = record {
  others = step.others;
  disk = ⊎_elim inl (λ rest. inr (⊎_elim (λ (none : y 17 ≡ None). absent_off y none) (λ zeros. zeros_off y zeros.0 zeros.2) rest)) step.disk;
}

pub make_part : (n : ℕ) (a b : View) → Moves a b (RemadeDisk 17 n) (RemadeDisk 17 n) → Moves a b ShutsReplica ShutsReplica
make_part n a b moves = moves_weaken a b (RemadeDisk 17 n) (RemadeDisk 17 n) ShutsReplica ShutsReplica moves
    (λ x y was step. shuts_remade n x.disks y.disks step)
    (λ x y was left step. shuts_remade n x.disks y.disks step)

-- the gate is off, and no other disk changed
pub record KeepsOff (old new : Disks) : Type 0 where
  pub others : Elsewhere old new
  pub gate : IsReplicaGateOff new

pub keeps_shuts : (x y : Disks) → KeepsOff x y → ShutsReplica x y
keeps_shuts x y keeps = record { others = keeps.others; disk = inr keeps.gate }

-- a change on disk 17 after the gate
pub keeps_after : (area : Area) (x y z : Disks) → ((e i : ℕ) → area e i → (e ≡ 17) × (0 < i)) → KeepsOff x y → Differs area y z → KeepsOff x z
keeps_after area x y z behind keeps differs = record {
  others = λ e other. disk_apart area y z e differs (λ i within. other (behind e i within).0) ∙ keeps.others e other;
  gate = λ on. keeps.gate (sym (differs.bytes 17 0 (λ within. absurd (omega (arith, (behind 17 0 within).1)))) ∙ on);
}

pub made_off : (n : ℕ) (x y : Disks) → MadeDisk 17 n x y → KeepsOff x y
made_off n x y made = record { others = made.others; gate = zeros_off y n made.disk }

rep_add : (a b : ℕ) → replicate {A = ℕ} (a + b) 0 ≡ replicate {A = ℕ} a 0 ++ replicate {A = ℕ} b 0
rep_add zero b = let e : 0 + b ≡ b = omega arith in ap (λ (k : ℕ). replicate {A = ℕ} k 0) e
rep_add (suc a) b = let e : suc a + b ≡ suc (a + b) = omega arith in ap (λ (k : ℕ). replicate {A = ℕ} k 0) e ∙ ap (λ (l : List ℕ). 0 ∷ l) (rep_add a b)

-- the first value of the cell is all zeros
pub fresh_is : (n b : ℕ) (zeros : List ℕ) → zeros ≡ replicate n 0 → 20 + b ≤ n → take (20 + b) zeros ≡ value_bytes 0 0 0 (replicate b 0)
fresh_is n b zeros is room = ap (take (20 + b)) is ∙ take-replicate (20 + b) n 0 room ∙ rep_add 20 b

pub fresh_length : (s : Shape) (value : List ℕ) → value ≡ value_bytes 0 0 0 (replicate s.block 0) → length value ≡ replica_value_len s
fresh_length s value is = ap length is ∙ (let e : length (replicate {A = ℕ} s.block 0) ≡ s.block = length-replicate s.block 0 in omega arith)

-- what a read gives of the other disks while disk 17 is made
pub touch_made : (n : ℕ) (a b : View) → (IsTrue a.tells → Remade 17 n a.now b.now) → Touches a b
touch_made n a b step told = let made = step told in record { disks = made.others; said = made.said }

-- each block of a new disk is zero
zero_home : (s : Shape) (n b : ℕ) (x : Disks) → n ≡ replica_size s → b < s.volume → x 17 ≡ Some (replicate n 0) → region x 17 (home_at s b) s.block ≡ replicate s.block 0
zero_home s n b x size below is =
    let within = block_inside b s.volume s.block below in
    ap (λ (disk : Option (List ℕ)). take s.block (drop (home_at s b) (bytes_of disk))) is
    ∙ ap (take s.block) (drop-replicate (home_at s b) n 0)
    ∙ take-replicate s.block (n - home_at s b) 0 (omega (arith, within, size))

-- a header's bytes after the gate
pub header_rest : (s : Shape) (header : List ℕ) → length header ≡ 32 → header ≡ replica_header s → take 31 (drop 1 header) ≡ drop 1 (replica_header s)
header_rest s header long is = take_all 31 (drop 1 header) (omega (arith, length-drop 1 header, long)) ∙ ap (λ (l : List ℕ). drop 1 l) is

pub header_rest_length : (header : List ℕ) → length header ≡ 32 → length (take 31 (drop 1 header)) ≡ 31
header_rest_length header long = length-take-le 31 (drop 1 header) (omega (arith, length-drop 1 header, long))

-- a block of the zero image
pub zero_block : (s : Shape) (b : ℕ) → b < s.volume → block_of (zero_blocks s) b ≡ replicate s.block 0
zero_block s b below = get_or-replicate s.volume b (replicate s.block 0) [] below

-- what comes after the gate, before the image area
front_after : (s : Shape) (e i : ℕ) → front s e i → (e ≡ 17) × (0 < i)
front_after s e i within = (within.disk, omega (arith, within.from))

in_front : (s : Shape) (at n : ℕ) (x y : Disks) → 1 ≤ at → at + n ≤ 32 + cell_len (cell_place s) → Differs (Within 17 at n) x y → Differs (front s) x y
in_front s at n x y least most differs = differs_wider 17 at n 1 (31 + cell_len (cell_place s)) x y least (omega arith) differs

module _ (s : Shape) (value : List ℕ) (long : length value ≡ replica_value_len s) where
  cell_front : (x y : Disks) → Differs (cell_area (place_of 17 32 (length value))) x y → Differs (front s) x y
  cell_front x y differs = in_front s 32 (cell_len (place_of 17 32 (length value))) x y (omega arith) (omega (arith, long)) differs

  -- while the cell begins
  pub cell_part : (a b : View) → Moves a b (Differs (cell_area (place_of 17 32 (length value)))) (Differs (cell_area (place_of 17 32 (length value))))
      → Moves a b (Differs (front s)) (Differs (front s))
  cell_part a b moves = moves_weaken a b (Differs (cell_area (place_of 17 32 (length value)))) (Differs (cell_area (place_of 17 32 (length value)))) (Differs (front s)) (Differs (front s)) moves
      (λ x y was differs. cell_front x.disks y.disks differs)
      (λ x y was left differs. cell_front x.disks y.disks differs)

  -- and then the header's other bytes are written
  module _ (a b c : View) (t : Slots) (n : ℕ) (small : n ≤ 31) (first : Moves a b (Differs (cell_area (place_of 17 32 (length value)))) (IsFirst b t value))
      (at : t ≡ begun (place_of 17 32 (length value))) where
    begins : t ≡ begun (cell_place s)
    begins = at ∙ ap (λ (j : ℕ). begun (place_of 17 32 j)) long

    first_front : (x y : Disks) → IsFirst b t value x y → Differs (front s) x y
    first_front x y is = cell_front x y (subst (λ (u : Slots). Differs (cell_area u.place) x y) at is.differs)

    pub header_part : Moves b c (Differs (Within 17 1 n)) (Differs (Within 17 1 n)) → Moves a c (Differs (front s)) (Differs (front s))
    header_part written = moves_then a b c (Differs (cell_area (place_of 17 32 (length value)))) (IsFirst b t value) (Differs (Within 17 1 n)) (Differs (Within 17 1 n))
        (Differs (front s)) (Differs (front s)) first written
        (λ x y was differs. cell_front x.disks y.disks differs)
        (λ x y z was is mid differs. differs_again (front s) x.disks y.disks z.disks (first_front x.disks y.disks is) (in_front s 1 n y.disks z.disks (omega arith) (omega (arith, small)) differs))
        (λ x y z was is mid differs. differs_again (front s) x.disks y.disks z.disks (first_front x.disks y.disks is) (in_front s 1 n y.disks z.disks (omega arith) (omega (arith, small)) differs))

  pub header_done : (a b c : View) (t : Slots) (rest : List ℕ) → length rest ≡ 31 → rest ≡ drop 1 (replica_header s)
      → Moves a b (Differs (cell_area (place_of 17 32 (length value)))) (IsFirst b t value) → t ≡ begun (place_of 17 32 (length value))
      → Moves b c (Differs (Within 17 1 (length rest))) (PlacedThrough c 17 1 rest) → Moves a c (Differs (front s)) (BeginsShut c s value)
  header_done a b c t rest thirty is first at written = moves_then a b c (Differs (cell_area (place_of 17 32 (length value)))) (IsFirst b t value)
      (Differs (Within 17 1 (length rest))) (PlacedThrough c 17 1 rest) (Differs (front s)) (BeginsShut c s value) first written
      (λ x y was differs. cell_front x.disks y.disks differs)
      (λ x y z was begun mid differs. both x.disks y.disks z.disks begun differs)
      (λ x y z was begun mid placed. done x.disks y.disks z.disks begun placed)
    where
      both : (x y z : Disks) → IsFirst b t value x y → Differs (Within 17 1 (length rest)) y z → Differs (front s) x z
      both x y z begun differs = differs_again (front s) x y z (first_front a b c t (length rest) (omega (arith, thirty)) first at x y begun)
          (in_front s 1 (length rest) y z (omega arith) (omega (arith, thirty)) differs)

      stands : t ≡ begun (cell_place s)
      stands = at ∙ ap (λ (j : ℕ). begun (place_of 17 32 j)) long

      done : (x y z : Disks) → IsFirst b t value x y → PlacedThrough c 17 1 rest y z → BeginsShut c s value x z
      done x y z first placed =
          let differs = placed.placed.differs in
          let apart = range_apart (cell_place s) 1 (length rest) (inl (omega (arith, thirty))) in
          record {
            differs = both x y z first differs;
            rest = ap (λ (n : ℕ). region z 17 1 n) (sym thirty) ∙ placed.placed.there ∙ is;
            cell = stands_beside (begun (cell_place s)) (Within 17 1 (length rest)) y z differs apart (subst (λ (u : Slots). Stands u y) stands first.stands);
            value = cell_beside (cell_place s) (Within 17 1 (length rest)) y z differs apart ∙ subst (λ (u : Slots). cell_value u.place y ≡ Some value) stands first.value;
            read = placed.read;
          }

  -- what a read gives of the rest
  pub front_torn : (n : ℕ) (a b c : View) → n ≤ 31 → b.tells ≡ a.tells → (IsTrue a.tells → Torn (cell_area (place_of 17 32 (length value))) a.now b.now)
      → (IsTrue b.tells → Torn (Within 17 1 n) b.now c.now) → IsTrue a.tells → Torn (front s) a.now c.now
  front_torn n a b c small tells first second told =
      let one = first told in
      let two = second (subst IsTrue (sym tells) told) in
      record {
        disks = differs_again (front s) a.now.disks b.now.disks c.now.disks (cell_front a.now.disks b.now.disks one.disks)
            (in_front s 1 n b.now.disks c.now.disks (omega arith) (omega (arith, small)) two.disks);
        said = two.said ∙ one.said;
      }

  pub cell_torn : (a b : View) → (IsTrue a.tells → Torn (cell_area (place_of 17 32 (length value))) a.now b.now) → IsTrue a.tells → Torn (front s) a.now b.now
  cell_torn a b first told = let one = first told in record { disks = cell_front a.now.disks b.now.disks one.disks; said = one.said }

pub touch_front : (s : Shape) (a b : View) → (IsTrue a.tells → Torn (front s) a.now b.now) → Touches a b
touch_front s a b torn told = let t = torn told in record { disks = else_apart (front s) a.now.disks b.now.disks (λ e i within. within.disk) t.disks; said = t.said }

-- the disk is there with its size, and its gate is off
pub record IsBlank (s : Shape) (old new : Disks) : Type 0 where
  pub keeps : KeepsOff old new
  pub size : size_of (new 17) ≡ Some (replica_size s)

pub blank_made : (s : Shape) (n : ℕ) (x y : Disks) → n ≡ replica_size s → MadeDisk 17 n x y → IsBlank s x y
blank_made s n x y is made = record { keeps = made_off n x y made; size = ap size_of made.disk ∙ ap {B = Option ℕ} Some (length-replicate n 0 ∙ is) }

pub make_blank : (s : Shape) (n : ℕ) (a b : View) → n ≡ replica_size s → Moves a b (RemadeDisk 17 n) (MadeDisk 17 n) → Moves a b ShutsReplica (IsBlank s)
make_blank s n a b is moves = moves_weaken a b (RemadeDisk 17 n) (MadeDisk 17 n) ShutsReplica (IsBlank s) moves
    (λ x y was step. shuts_remade n x.disks y.disks step)
    (λ x y was left step. blank_made s n x.disks y.disks is step)

-- what changes after the gate of a blank disk
pub blank_part : (s : Shape) (area : Area) (a b c : View) → ((e i : ℕ) → area e i → (e ≡ 17) × (0 < i)) → Moves a b ShutsReplica (IsBlank s) → Moves b c (Differs area) (Differs area)
    → Moves a c ShutsReplica ShutsReplica
blank_part s area a b c behind made moves = moves_then a b c ShutsReplica (IsBlank s) (Differs area) (Differs area) ShutsReplica ShutsReplica made moves
    (λ x y was step. step)
    (λ x y z was step mid differs. keeps_shuts x.disks z.disks (keeps_after area x.disks y.disks z.disks behind step.keeps differs))
    (λ x y z was step mid differs. keeps_shuts x.disks z.disks (keeps_after area x.disks y.disks z.disks behind step.keeps differs))

pub shut_begun : (s : Shape) (a b c : View) → Moves a b ShutsReplica (IsBlank s) → Moves b c (Differs (front s)) (Differs (front s)) → Moves a c ShutsReplica ShutsReplica
shut_begun s a b c made moves = blank_part s (front s) a b c (front_after s) made moves

-- a disk with its image is a new replica but for its gate, once header and cell are there
pub shut_done : (s : Shape) (number time : ℕ) (image : List (List ℕ)) (value : List ℕ) (a b c : View) → (IsTrue b.tells → value ≡ value_bytes number time 0 (block_of image 0))
    → Moves a b ShutsReplica (IsBlank s) → Moves b c (Differs (front s)) (BeginsShut c s value) → (IsTrue b.tells → Torn (front s) b.now c.now)
    → (IsTrue b.tells → (k : ℕ) → k < s.volume → region b.now.disks 17 (home_at s k) s.block ≡ block_of image k) → Moves a c ShutsReplica (HasShutReplica s number time image)
shut_done s number time image value a b c is made begins torn homes = moves_then a b c ShutsReplica (IsBlank s) (Differs (front s)) (BeginsShut c s value)
    ShutsReplica (HasShutReplica s number time image) made begins
    (λ x y was step. step)
    (λ x y z was step mid differs. keeps_shuts x.disks z.disks (keeps_after (front s) x.disks y.disks z.disks (front_after s) step.keeps differs))
    (λ x y z was step mid had. done x.disks y.disks z.disks mid.told step had)
  where
    done : (x y z : Disks) → IsTrue b.tells → IsBlank s x y → BeginsShut c s value y z → HasShutReplica s number time image x z
    done x y z told blank had =
        let keeps = keeps_after (front s) x y z (front_after s) blank.keeps had.differs in
        record {
          others = keeps.others;
          replica = record {
            gate = keeps.gate;
            size = had.differs.sizes 17 ∙ blank.size;
            rest = had.rest;
            cell = had.cell;
            value = had.value ∙ ap {B = Option (List ℕ)} Some (is told);
            homes = λ k below. region_of_disk c.now.disks z 17 (home_at s k) s.block had.read
                ∙ region_beside 17 1 (31 + cell_len (cell_place s)) b.now.disks c.now.disks (home_at s k) s.block (torn told).disks (inr (omega arith)) ∙ homes told k below;
          };
        }

-- the image area of a disk that was made is zero
pub made_homes : (s : Shape) (n : ℕ) (b : View) → n ≡ replica_size s → (IsTrue b.tells → b.now.disks 17 ≡ Some (replicate n 0))
    → IsTrue b.tells → (k : ℕ) → k < s.volume → region b.now.disks 17 (home_at s k) s.block ≡ block_of (zero_blocks s) k
made_homes s n b is zeros told k below = zero_home s n k b.now.disks is below (zeros told) ∙ sym (zero_block s k below)

-- an image that the replica can hold at a number and a time
pub record CanHold (s : Shape) (number time : ℕ) (image : List (List ℕ)) : Type 0 where
  pub id : s.id < 2 ^ 64
  pub most : number ≤ 2 ^ 40
  pub fits : time < 2 ^ 64
  pub long : length image ≡ s.volume
  pub sized : (b : ℕ) → b < s.volume → length (block_of image b) ≡ s.block

pub holds_zeros : (s : Shape) → s.id < 2 ^ 64 → CanHold s 0 0 (zero_blocks s)
holds_zeros s id = record {
  id = id;
  most = omega arith;
  fits = omega arith;
  long = length-replicate s.volume (replicate s.block 0);
  sized = λ b below. ap length (zero_block s b below) ∙ length-replicate s.block 0;
}

module _ (s : Shape) (number time : ℕ) (image : List (List ℕ)) where
  -- a gate before a header's other bytes
  joined : (bytes rest : List ℕ) → 32 ≤ length bytes → get_or bytes 0 0 ≡ 165 → take 31 (drop 1 bytes) ≡ rest → take 32 bytes ≡ 165 ∷ rest
  joined [] rest long gate is = absurd (omega (arith, long))
  joined (b ∷ bytes) rest long gate is = cc

  -- a new replica whose gate is open now
  opened : (y z : Disks) → IsShutReplica s number time image y → Differs (Within 17 0 1) y z → byte z 17 0 ≡ 165 → IsNewReplica s number time image z
  opened y z shut differs on = record {
    header = joined (bytes_of (z 17)) (drop 1 (replica_header s)) (omega (arith, size_length (z 17) (replica_size s) size)) on (region_beside 17 0 1 y z 1 31 differs (inr (omega arith)) ∙ shut.rest);
    size = size;
    cell = stands_beside (begun (cell_place s)) (Within 17 0 1) y z differs (range_apart (cell_place s) 0 1 (inl (omega arith))) shut.cell;
    value = cell_beside (cell_place s) (Within 17 0 1) y z differs (range_apart (cell_place s) 0 1 (inl (omega arith))) ∙ shut.value;
    homes = λ b below. region_beside 17 0 1 y z (home_at s b) s.block differs (inr (omega arith)) ∙ shut.homes b below;
  }
    where
      size : size_of (z 17) ≡ Some (replica_size s)
      size = differs.sizes 17 ∙ shut.size

  module _ (a : View) (lawful : IsLawful a) (none : a.sizes 17 ≡ None) where
    absent : (w : Contents) → MayLeave a w → w.disks 17 ≡ None
    absent w left = absent_disk (w.disks 17) (left.torn.disks.sizes 17 ∙ lawful.sized left.told 17 ∙ none)

    shuts_making : (x y : Contents) → MayLeave a x → ShutsReplica x.disks y.disks → MakesReplica s number time image x.disks y.disks
    shuts_making x y left shuts = record {
      others = shuts.others;
      disk = inl (⊎_elim (λ (same : y.disks 17 ≡ x.disks 17). absent_off y.disks (same ∙ absent x left)) (λ off. off) shuts.disk);
    }

    pub shut_part : (b : View) → Moves a b ShutsReplica ShutsReplica → Moves a b (MakesReplica s number time image) (MakesReplica s number time image)
    shut_part b moves = moves_weaken a b ShutsReplica ShutsReplica (MakesReplica s number time image) (MakesReplica s number time image) moves
        (λ x y was step. shuts_making x y was step)
        (λ x y was left step. shuts_making x y was step)

    module _ (can : CanHold s number time image) where
      -- it holds its image
      holds : (z : Disks) → IsNewReplica s number time image z → HoldsImageBy s 0 number time image z
      holds z made = record {
        id = can.id;
        header = made.header;
        size = made.size;
        most = can.most;
        fits = can.fits;
        inside = omega (arith, s.within.volume_least);
        long = can.long;
        sized = can.sized;
        value = made.value;
        others = λ b below other. made.homes b below;
      }

      -- while the gate is written it holds any byte
      gate_making : (x y z : Disks) → HasShutReplica s number time image x y → Differs (Within 17 0 1) y z → MakesReplica s number time image x z
      gate_making x y z made differs = record {
        others = λ e other. disk_beside 17 0 1 y z e differs other ∙ made.others e other;
        disk = ⊎_elim (λ (on : byte z 17 0 ≡ 165). inr (0, holds z (opened y z made.replica differs on))) (λ (off : byte z 17 0 ≢ 165). inl off) (cases_eq (byte z 17 0) 165);
      }

      pub gate_part : (b c : View) → Moves a b ShutsReplica (HasShutReplica s number time image) → Moves b c (Differs (Within 17 0 1)) (Differs (Within 17 0 1))
          → Moves a c (MakesReplica s number time image) (MakesReplica s number time image)
      gate_part b c shut gate = moves_then a b c ShutsReplica (HasShutReplica s number time image) (Differs (Within 17 0 1)) (Differs (Within 17 0 1)) (MakesReplica s number time image)
          (MakesReplica s number time image) shut gate
          (λ x y was step. shuts_making x y was step)
          (λ x y z was step mid differs. gate_making x.disks y.disks z.disks step differs)
          (λ x y z was step mid differs. gate_making x.disks y.disks z.disks step differs)

      -- and when it is stable, it is open
      pub gate_done : (b c : View) → Moves a b ShutsReplica (HasShutReplica s number time image) → Moves b c (Differs (Within 17 0 1)) (PlacedThrough c 17 0 (165 ∷ []))
          → Moves a c (MakesReplica s number time image) (HasMade s number time image)
      gate_done b c shut gate = moves_then a b c ShutsReplica (HasShutReplica s number time image) (Differs (Within 17 0 1)) (PlacedThrough c 17 0 (165 ∷ []))
          (MakesReplica s number time image) (HasMade s number time image) shut gate
          (λ x y was step. shuts_making x y was step)
          (λ x y z was step mid differs. gate_making x.disks y.disks z.disks step differs)
          (λ x y z was step mid placed. done x.disks y.disks z.disks step placed)
        where
          done : (x y z : Disks) → HasShutReplica s number time image x y → PlacedThrough c 17 0 (165 ∷ []) y z → HasMade s number time image x z
          done x y z shut placed =
              let made = opened y z shut.replica placed.placed.differs (byte_in_region z 17 0 1 0 0 (165 ∷ []) refl placed.placed.there (omega arith)) in
              record { others = λ e other. disk_beside 17 0 1 y z e placed.placed.differs other ∙ shut.others e other; holds = (0, holds z made); fresh = made }
