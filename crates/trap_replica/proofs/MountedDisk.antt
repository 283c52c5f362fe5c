-- What a mount finds on disk 17, and that it is what a crash leaves from then on.
use Rattle.std.proofs.Common.{◌≡◌, ◌≢◌, ◌⊎◌, ℕ, ◌+◌, ◌*◌, ◌^◌, ◌<◌, ◌≤◌, List, [], length, length-drop, take, drop, Option, inl, inr, ⊎_elim, Some, None, Ok, IsTrue, Bool, refl, sym, ap, subst, ◌∙◌, arith}
use Rattle.std.proofs.Math.ListN.{set}
use Rattle.std.proofs.lemmas.Bool.{cases_eq}
use Rattle.std.proofs.lemmas.List.{drop-drop, length-set, get_or-set_same, get_or-set_other}
use Rattle.trap_bank.specs.Disks.{Contents, View, Disks, bytes_of, size_of, region}
use Rattle.trap_bank.specs.Calls.{Syncs}
use Rattle.trap_bank.specs.Steps.{Moves, Same, OnlyReads, Always}
use Rattle.trap_bank.proofs.Moves.{synced_steps}
use Rattle.trap_cell.specs.Slots.{Place, slot_at, current_slot, value_at, cell_value}
use Rattle.trap_bank.proofs.Regions.{size_length}
use Rattle.trap_format.specs.ReplicaDisk.{home_at, replica_size}
use Rattle.trap_format.specs.declared.shape.Shape.{Shape}
use Rattle.trap_format.proofs.BigEndian.{same_of_4, same_of_8}
use Rattle.trap_format.proofs.ReplicaHeaders.{shapes_same}
use Rattle.trap_model.specs.Image.{block_of}
use Rattle.trap_replica.specs.OnDisk.{cell_place, value_bytes, HoldsImageBy, ReplicaHolds}
use Rattle.trap_replica.specs.Standing.{IsStoreReady}
use Rattle.trap_replica.specs.Creating.{BeginsReplica}
use Rattle.trap_replica.specs.Loading.{image_of}
use Rattle.trap_replica.specs.Mounting.{HasReplicaHeader, IsNoValue, IsRefusedAs, IsCellDamaged, IsReplicaStable, IsStoreFound, Knows, Opens}
use Rattle.trap_replica.specs.declared.fault.ReplicaFault.{ReplicaFault}
use Rattle.trap_replica.specs.declared.fault.ReplicaFault.TheVariants.{Exists, NotAReplica, Damaged, DiskFault, ReadFault, ShortImage, LongImage, Stranger, NoBlock, Stopped, OutOfMemory}
use Rattle.trap_replica.specs.declared.store.Store.{Store}
use Rattle.trap_replica.proofs.LoadedImage.{blocks_at, blocks_length, block_sized}

-- a disk that was synced is stable, after a read too
pub stable_read : {T E : Type 0} (value : T) (a b c : View) → Syncs {T = T} {E = E} 17 (Ok value) a b → Moves b c Same Same → (IsTrue b.tells → c.now ≡ b.now) → IsReplicaStable c
stable_read value a b c call moves same z left =
    let from = moves.now z left in
    let settled = (synced_steps value a b 17 call).now from.origin from.was in
    ap (λ (disks : Disks). disks 17) from.by.disks ∙ settled.by.disks.read ∙ sym (ap (λ (w : Contents). w.disks 17) (same from.was.told))

-- a stable disk stays so where nothing is written
pub stable_reads : (a b : View) → OnlyReads a b → IsReplicaStable a → IsReplicaStable b
stable_reads a b reads stable z left =
    let from = reads.moves.now z left in
    ap (λ (disks : Disks). disks 17) from.by.disks ∙ stable from.origin from.was ∙ sym (ap (λ (w : Contents). w.disks 17) (reads.same from.was.told))

-- no part of it differs from what a read gives
pub stable_part : (v : View) (at n : ℕ) → IsReplicaStable v → Always v (λ disks. region disks 17 at n ≡ region v.now.disks 17 at n)
stable_part v at n stable w left = ap (λ (disk : Option (List ℕ)). take n (drop at (bytes_of disk))) (stable w left)

-- a cell with no value at all
pub no_value : (s : Shape) (disks : Disks) → HasReplicaHeader s disks → cell_value (cell_place s) disks ≡ None → IsCellDamaged disks
no_value s disks has none = record { shape = s; has = has; none = λ bytes is number time block contents e most inside. absurd (two bytes (sym none ∙ is)) }
  where
    two : (bytes : List ℕ) → ◌≡◌ {A = Option (List ℕ)} None (Some bytes) → ⊥
    two bytes e = cc

-- a cell with other bytes than a value's
pub wrong_value : (s : Shape) (disks : Disks) (bytes : List ℕ) → HasReplicaHeader s disks → cell_value (cell_place s) disks ≡ Some bytes → IsNoValue s bytes → IsCellDamaged disks
wrong_value s disks bytes has is wrong = record { shape = s; has = has; none = λ other there. subst (IsNoValue s) (one bytes other (sym is ∙ there)) wrong }
  where
    one : (a b : List ℕ) → ◌≡◌ {A = Option (List ℕ)} (Some a) (Some b) → a ≡ b
    one a b e = cc

-- a cell's value depends on its disk alone
value_same : (p : Place) (x y : Disks) (slot : Option Bool) → y p.disk ≡ x p.disk → value_at slot p y ≡ value_at slot p x
value_same p x y None same = refl
value_same p x y (Some second) same = ap (λ (disk : Option (List ℕ)). Some (take p.size (drop (slot_at p second + 2) (bytes_of disk)))) same

cell_same : (p : Place) (x y : Disks) → y p.disk ≡ x p.disk → cell_value p y ≡ cell_value p x
cell_same p x y same =
    ap (λ (slot : Option Bool). value_at slot p y) (ap (λ (disk : Option (List ℕ)). current_slot p (λ e. disk)) same)
    ∙ value_same p x y (current_slot p x) same

-- the image that a disk holds depends on that disk alone
pub holds_same : (s : Shape) (block number time : ℕ) (image : List (List ℕ)) (x y : Disks) → y 17 ≡ x 17 → HoldsImageBy s block number time image x → HoldsImageBy s block number time image y
holds_same s block number time image x y same holds = record {
  id = holds.id;
  header = ap (λ (disk : Option (List ℕ)). take 32 (drop 0 (bytes_of disk))) same ∙ holds.header;
  size = ap size_of same ∙ holds.size;
  most = holds.most;
  fits = holds.fits;
  inside = holds.inside;
  long = holds.long;
  sized = holds.sized;
  value = cell_same (cell_place s) x y same ∙ holds.value;
  others = λ b within other. ap (λ (disk : Option (List ℕ)). take s.block (drop (home_at s b) (bytes_of disk))) same ∙ holds.others b within other;
}

-- a value of the cell has its numbers and its contents in one way
pub record SameValue (n m t u b d : ℕ) (xs ys : List ℕ) : Type 0 where
  pub number : n ≡ m
  pub time : t ≡ u
  pub block : b ≡ d
  pub contents : xs ≡ ys

pub same_value : (n m t u b d : ℕ) (xs ys : List ℕ) → n < 2 ^ 64 → m < 2 ^ 64 → t < 2 ^ 64 → u < 2 ^ 64 → b < 2 ^ 32 → d < 2 ^ 32
    → value_bytes n t b xs ≡ value_bytes m u d ys → SameValue n m t u b d xs ys
same_value n m t u b d xs ys fn fm ft fu fb fd e = record {
  number = same_of_8 n m fn fm (ap (λ (l : List ℕ). take 8 l) e);
  time = same_of_8 t u ft fu (ap (λ (l : List ℕ). take 8 (drop 8 l)) e);
  block = same_of_4 b d fb fd (ap (λ (l : List ℕ). take 4 (drop 16 l)) e);
  contents = ap (λ (l : List ℕ). drop 20 l) e;
}

module _ (p : Store) (old new : View) (reads : OnlyReads old new) (stable : IsReplicaStable new) (time : p.time < 2 ^ 64) where
  private_value : (image : List (List ℕ)) (block n t : ℕ) (x : Disks) → IsStoreFound p x → HoldsImageBy p.shape block n t image x → SameValue p.number n p.time t p.block block
      p.contents.items (block_of image block)
  private_value image block n t x found holds =
      let volume = p.shape.within.volume_most in
      let most = p.most in
      let inside = p.inside in
      same_value p.number n p.time t p.block block p.contents.items (block_of image block) (omega arith) (omega (arith, holds.most)) time holds.fits (omega arith)
      (omega (arith, holds.inside)) (one _ _ (sym found.value ∙ holds.value))
    where
      one : (a b : List ℕ) → ◌≡◌ {A = Option (List ℕ)} (Some a) (Some b) → a ≡ b
      one a b e = cc

  known : (image : List (List ℕ)) (block n t : ℕ) → IsTrue old.tells → IsStoreFound p old.now.disks → HoldsImageBy p.shape block n t image old.now.disks → Knows p new p.shape n t image
  known image block n t told found holds =
      let same = private_value image block n t old.now.disks found holds in
      record {
        shape = refl;
        number = same.number;
        time = same.time;
        mirrors = record {
          holds = λ w left. holds_same p.shape p.block p.number p.time image old.now.disks w.disks (stable w left ∙ ap (λ (c : Contents). c.disks 17) (reads.same told))
              (subst (λ (b : ℕ). HoldsImageBy p.shape b p.number p.time image old.now.disks) (sym same.block)
              (subst (λ (k : ℕ). HoldsImageBy p.shape block k p.time image old.now.disks) (sym same.number)
              (subst (λ (k : ℕ). HoldsImageBy p.shape block n k image old.now.disks) (sym same.time) holds)));
          contents = λ tells. same.contents ∙ ap (block_of image) (sym same.block);
        };
      }

  -- the replica that the disk held is the one that is known
  pub knows : (s : Shape) (n t : ℕ) (image : List (List ℕ)) → IsTrue old.tells → IsStoreFound p old.now.disks → ReplicaHolds s n t image old.now.disks → Knows p new s n t image
  knows s n t image told found holds =
      let is : p.shape ≡ s = shapes_same p.shape s found.has.id holds.1.id (sym found.has.header ∙ holds.1.header) in
      subst (λ (z : Shape). HoldsImageBy z holds.0 n t image old.now.disks → Knows p new z n t image) is (known image holds.0 n t told found) holds.1

-- what the cell says is what is known
pub found_value : (s : Shape) (disks : Disks) (n t b : ℕ) (value read contents : List ℕ) → cell_value (cell_place s) disks ≡ Some value → read ≡ value → read ≡ value_bytes n t b
    (drop 20 read) → contents ≡ drop 20 read
    → cell_value (cell_place s) disks ≡ Some (value_bytes n t b contents)
found_value s disks n t b value read contents is same spelled rest =
    is ∙ ap (λ (l : List ℕ). Some l) (sym same ∙ spelled ∙ ap (value_bytes n t b) (sym rest))

pub opens : (p : Store) (old new : View) → IsStoreReady p new → (IsTrue old.tells → IsStoreFound p old.now.disks) → OnlyReads old new → IsReplicaStable new → p.time < 2 ^ 64 → Opens p old new
opens p old new ready found reads stable time = record {
  ready = ready;
  found = found;
  fits = time;
  knows = λ s n t image told holds. knows p old new reads stable time s n t image told (found told) holds;
}

-- nothing was written before it
pub opens_before : (p : Store) (a b c : View) → OnlyReads a b → Opens p b c → Opens p a c
opens_before p a b c reads later = record {
  ready = later.ready;
  found = λ told. subst (IsStoreFound p) (same told) (later.found (still told));
  fits = later.fits;
  knows = λ s n t image told holds. later.knows s n t image (still told) (subst (ReplicaHolds s n t image) (sym (same told)) holds);
}
  where
    still : IsTrue a.tells → IsTrue b.tells
    still told = subst IsTrue (sym reads.moves.tells) told

    same : IsTrue a.tells → b.now.disks ≡ a.now.disks
    same told = ap (λ (w : Contents). w.disks) (reads.same told)

-- the image that stands on the disk: its image area, with these contents laid over the block
abbrev pub image_there : Shape → ℕ → List ℕ → Disks → List (List ℕ)
image_there s block contents disks = set (image_of s (drop (home_at s 0) (bytes_of (disks 17)))) block contents

module _ (s : Shape) (disks : Disks) (has : HasReplicaHeader s disks) where
  area_long : s.volume * s.block ≤ length (drop (home_at s 0) (bytes_of (disks 17)))
  area_long = omega (arith, length-drop (home_at s 0) (bytes_of (disks 17)), size_length (disks 17) (replica_size s) has.size)

  -- a block of the area is what stands at home
  area_block : (b : ℕ) → b < s.volume → block_of (image_of s (drop (home_at s 0) (bytes_of (disks 17)))) b ≡ region disks 17 (home_at s b) s.block
  area_block b below =
      let place : home_at s 0 + b * s.block ≡ home_at s b = omega arith in
      blocks_at s.block s.volume b (drop (home_at s 0) (bytes_of (disks 17))) below
      ∙ ap (take s.block) (drop-drop (b * s.block) (home_at s 0) (bytes_of (disks 17)))
      ∙ ap (λ (at : ℕ). region disks 17 at s.block) place

  -- a header and a value of the cell hold an image
  pub holds_there : (number time block : ℕ) (contents : List ℕ) → number ≤ 2 ^ 40 → time < 2 ^ 64 → block < s.volume → length contents ≡ s.block
      → cell_value (cell_place s) disks ≡ Some (value_bytes number time block contents) → HoldsImageBy s block number time (image_there s block contents disks) disks
  holds_there number time block contents most fits inside sized value = record {
    id = has.id;
    header = has.header;
    size = has.size;
    most = most;
    fits = fits;
    inside = inside;
    long = length-set area block contents ∙ whole;
    sized = λ b below. ⊎_elim
        (λ (same : b ≡ block). ap (λ (k : ℕ). length (block_of (image_there s block contents disks) k)) same ∙ ap length over ∙ sized)
        (λ (other : b ≢ block). ap length (get_or-set_other area block b contents [] other) ∙ block_sized s.block s.volume b (drop (home_at s 0) (bytes_of (disks 17))) below area_long)
        (cases_eq b block);
    value = value ∙ ap (λ (l : List ℕ). Some (value_bytes number time block l)) (sym over);
    others = λ b below other. sym (area_block b below) ∙ sym (get_or-set_other area block b contents [] other);
  }
    where
      area : List (List ℕ)
      area = image_of s (drop (home_at s 0) (bytes_of (disks 17)))

      whole : length area ≡ s.volume
      whole = blocks_length s.block s.volume (drop (home_at s 0) (bytes_of (disks 17)))

      over : block_of (image_there s block contents disks) block ≡ contents
      over = get_or-set_same area block contents [] (omega (arith, whole))

-- so what a mount found holds one
pub opens_holds : (p : Store) (old new : View) → Opens p old new → IsTrue old.tells → (image : List (List ℕ)) × ReplicaHolds p.shape p.number p.time image old.now.disks
opens_holds p old new opened told =
    let found = opened.found told in
    let sized : length p.contents.items ≡ p.shape.block = omega (arith, p.sized, p.contents.ok.0) in (
      image_there p.shape p.block p.contents.items old.now.disks,
      (p.block, holds_there p.shape old.now.disks found.has p.number p.time p.block p.contents.items p.most opened.fits p.inside sized found.value),
    )

-- what a replica holds isn't refused: the disk begins as one, has its header, and its cell has a value
module _ (s : Shape) (number time : ℕ) (image : List (List ℕ)) (disks : Disks) (holds : ReplicaHolds s number time image disks) where
  has_header : HasReplicaHeader s disks
  has_header = record { id = holds.1.id; header = holds.1.header; size = holds.1.size }

  begins : BeginsReplica disks
  begins = record { bytes = replica_size s; there = holds.1.size; least = omega arith; start = ap (take 5) holds.1.header }

  no_cell_damaged : IsCellDamaged disks → ⊥
  no_cell_damaged damaged =
      let is : damaged.shape ≡ s = shapes_same damaged.shape s damaged.has.id holds.1.id (sym damaged.has.header ∙ holds.1.header) in
      damaged.none (value_bytes number time holds.0 (block_of image holds.0))
      (subst (λ (z : Shape). cell_value (cell_place z) disks ≡ Some (value_bytes number time holds.0 (block_of image holds.0))) (sym is) holds.1.value)
      number time holds.0 (block_of image holds.0) refl holds.1.most (subst (λ (z : Shape). holds.0 < z.volume) (sym is) holds.1.inside)

  pub holds_unrefused : (why : ReplicaFault) → IsRefusedAs disks why → (why ≡ DiskFault) ⊎ (why ≡ OutOfMemory)
  holds_unrefused (Exists disk) refused = absurd refused
  holds_unrefused NotAReplica refused = absurd (refused begins)
  holds_unrefused (Damaged offset) refused = absurd (⊎_elim (λ header. header.1.none s has_header) (λ cell. no_cell_damaged cell.1) refused)
  holds_unrefused DiskFault refused = inl refl
  holds_unrefused ReadFault refused = absurd refused
  holds_unrefused (ShortImage at) refused = absurd refused
  holds_unrefused (LongImage at) refused = absurd refused
  holds_unrefused (Stranger id) refused = absurd refused
  holds_unrefused (NoBlock block) refused = absurd refused
  holds_unrefused Stopped refused = absurd refused
  holds_unrefused OutOfMemory refused = inr refl
