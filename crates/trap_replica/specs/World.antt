-- A primary that commits entries, and a receiver of their parities, whatever is lost, repeated,
-- reordered or stopped.
use Rattle.std.specs.Prelude.{◌≡◌, ℕ, ◌-◌, ◌<◌, ◌≤◌, List, [], ◌∷◌, ◌++◌, All, length, take, drop}
use Rattle.std.specs.Prelude.{set}
use Rattle.trap_block.specs.Xor.{xor}
use Rattle.trap_model.specs.Image.{block_of, entry_parity, written, image_after}
use Rattle.trap_model.specs.Receiver.{gapless}
use Rattle.trap_model.specs.declared.history.Entry.{Entry}

-- the entries that the primary committed, its image before the first of them, and the receiver's
-- number and image
pub record World : Type 0 where
  pub all : List Entry
  pub start : List (List ℕ)
  pub number : ℕ
  pub image : List (List ℕ)

-- the primary's image after the first entries
abbrev pub primary : World → ℕ → List (List ℕ)
primary w n = image_after w.start (take n w.all)

-- an image with the entry's parity xored into its block
abbrev pub with_parity : List (List ℕ) → List (List ℕ) → Entry → List (List ℕ)
with_parity image before entry =
    set image entry.block (xor (block_of image entry.block) (entry_parity before entry))

-- an image after the parities of these entries, the first of which the primary committed over this
-- image of its own
abbrev pub delivered : List (List ℕ) → List (List ℕ) → List Entry → List (List ℕ)
delivered before image [] = image
delivered before image (entry ∷ entries) =
    delivered (written before entry) (with_parity image before entry) entries

-- the image has this many blocks of this size
pub record IsVolume (volume size : ℕ) (image : List (List ℕ)) : Type 0 where
  pub long : length image ≡ volume
  pub sized : (b : ℕ) → b < volume → length (block_of image b) ≡ size

-- the entry writes a block of it
pub record WritesWithin (volume size : ℕ) (entry : Entry) : Type 0 where
  pub inside : entry.block < volume
  pub sized : length entry.bytes ≡ size

-- the receiver's image is the primary's after as many entries as the receiver's number says
pub record FollowsPrimary (volume size : ℕ) (w : World) : Type 0 where
  pub start : IsVolume volume size w.start
  pub each : All (WritesWithin volume size) w.all
  pub most : w.number ≤ length w.all
  pub image : w.image ≡ primary w w.number

-- the primary commits an entry; or frames with these numbers come, in this order, and the receiver
-- stops at a number
pub data Event : Type 0 where
  Commit : Entry → Event
  Deliver : List ℕ → ℕ → Event

-- what an event does: frames move the receiver on, at most as far as their numbers go without a gap
abbrev pub Happens : ℕ → ℕ → Event → World → World → Type 0
Happens volume size (Commit entry) w v = WritesWithin volume size entry
    × (v ≡ record w { all = w.all ++ entry ∷ [] })
Happens volume size (Deliver numbers stop) w v =
    All (λ q. q ≤ length w.all) numbers × (w.number ≤ stop) × (stop ≤ gapless w.number numbers)
    × (v ≡ record w {
      number = stop;
      image = delivered (primary w w.number) w.image (take (stop - w.number) (drop w.number w.all));
    })

-- these events happen, one after the other
abbrev pub HappenAll : ℕ → ℕ → List Event → World → World → Type 0
HappenAll volume size [] w v = v ≡ w
HappenAll volume size (event ∷ events) w v =
    (u : World) × Happens volume size event w u × HappenAll volume size events u v
