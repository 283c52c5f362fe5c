-- What a mounted replica stands for: what is known of its disk, and the frames it holds.
use Rattle.std.specs.Prelude.{◌≡◌, ℕ, zero, suc, ◌+◌, List, [], ◌∷◌, length, IsTrue, ◌==◌}
use Rattle.std.specs.Prelude.{if◌then◌else◌, Result, OnOk, OnErr, ◌||◌}
use Rattle.trap_bank.specs.Disks.{Disks, View, Quiet}
use Rattle.trap_bank.specs.Called.{CalledTimes, CalledAtMost}
use Rattle.trap_bank.specs.Calls.{Fits}
use Rattle.trap_bank.specs.Steps.{Always, Moves}
use Rattle.trap_cell.specs.Slots.{Stands, turned}
use Rattle.trap_format.specs.ReplicaDisk.{replica_size}
use Rattle.trap_format.specs.declared.shape.Shape.{Shape}
use Rattle.trap_model.specs.Image.{block_of}
use Rattle.trap_model.specs.Receiver.{Receiver, applied, hold, is_known, is_beyond}
use Rattle.trap_model.specs.declared.arrival.Arrival.{Arrival}
use Rattle.trap_replica.specs.Holding.{HeldFrames, SuitAll}
use Rattle.trap_replica.specs.OnDisk.{HoldsImageBy, ReplicaHolds}
use Rattle.trap_replica.specs.Applying.{Elsewhere, Leaves, take_calls, cell_after}
use Rattle.trap_replica.specs.declared.store.Store.{Store}

-- the disk is there, and every crash leaves its cell as the program knows it
pub record IsStoreReady (p : Store) (v : View) : Type 0 where
  pub fits : Fits v 17 (replica_size p.shape)
  pub stands : Always v (Stands p.cell)

-- every crash leaves the image on the disk, and the contents in memory are those in the cell
pub record Mirrors (p : Store) (v : View) (image : List (List ℕ)) : Type 0 where
  pub holds : Always v (HoldsImageBy p.shape p.block p.number p.time image)
  pub contents : IsTrue v.tells → p.contents.items ≡ block_of image p.block

-- the numbers and the cell after a frame was applied; after a fault the number from before
pub record HasApplied {T E : Type 0} (result : Result T E) (f : Arrival) (p q : Store)
    : Type 0 where
  pub shape : q.shape ≡ p.shape
  pub number : OnOk result (q.number ≡ p.number + 1)
  pub time : OnOk result (q.time ≡ f.time)
  pub cell : OnOk result (q.cell ≡ turned p.cell)
  pub stays : OnErr result (q.number ≡ p.number)

-- the first held frame applied, where it is the next; else nothing
abbrev pub step_from : Receiver → List Arrival → Receiver
step_from r [] = r
step_from r (f ∷ held) = if f.seq == r.number + 1 then applied r f held else r

-- stopped after some of the held frames that follow
abbrev pub applied_held : ℕ → Receiver → Receiver
applied_held zero r = r
applied_held (suc k) r = step_from (applied_held k r) (applied_held k r).held

-- the receiver that the program is, over an image
abbrev pub seen : Store → HeldFrames → List (List ℕ) → Receiver
seen p h image = record { number = p.number; time = p.time; image = image; held = h.frames }

-- the disk holds the image after some of the held frames that follow
pub record HoldsApplied (s : Shape) (r : Receiver) (disks : Disks) : Type 0 where
  pub count : ℕ
  pub holds : let q = applied_held count r in ReplicaHolds s q.number q.time q.image disks

-- the receiver once a frame has arrived: it is held, where it is to be
abbrev pub arrived : Receiver → Arrival → Receiver
arrived r f = if is_known r f || is_beyond r f then r else record r { held = hold f r.held }

-- some of the held frames that follow were applied, and the others are held
pub record HasAppliedHeld (p q : Store) (h k : HeldFrames) (a b : View) : Type 0 where
  pub count : ℕ
  pub is : (image : List (List ℕ)) → seen q k (applied_held count (seen p h image)).image
      ≡ applied_held count (seen p h image)
  pub mirrors : (image : List (List ℕ)) → Mirrors p a image
      → Mirrors q b (applied_held count (seen p h image)).image
  pub ready : IsStoreReady q b
  pub suit : SuitAll q.shape q.number q.number k
  pub number : q.number ≡ p.number + count
  pub cell : q.cell ≡ cell_after p.cell count
  pub fewer : length k.frames + count ≡ length h.frames
  pub calls : CalledTimes (take_calls p.cell count) a b

-- The held frames that follow are being applied. The bank is called at most as often as all of them
-- take. Stopped at any moment, the disk holds the image after some of them.
pub record AppliesHeld (p q : Store) (h : HeldFrames) (a b : View) : Type 0 where
  pub shape : q.shape ≡ p.shape
  pub sizes : (e : ℕ) → b.sizes e ≡ a.sizes e
  pub elsewhere : Moves a b Elsewhere Elsewhere
  pub touches : IsTrue a.tells → Quiet Elsewhere a.now b.now
  pub most : CalledAtMost (take_calls p.cell (length h.frames)) a b
  pub any_moment : (image : List (List ℕ)) → Mirrors p a image
      → Leaves a b (HoldsApplied p.shape (seen p h image))
