-- What a source of the past means, and what its methods do.
use Rattle.std.specs.Prelude.{◌≡◌, ◌↔◌, ℕ, ◌+◌, ◌^◌, ◌<◌, ◌≤◌, length, Result, IfErr}
use Rattle.trap_bank.specs.Faults.{HasCause}
use Rattle.trap_model.specs.declared.history.Entry.{Entry}
use Rattle.trap_model.specs.declared.history.State.{State}
use Rattle.trap_model.specs.Image.{volume, block_of}
use Rattle.trap_model.specs.Records.{entry_at}
use Rattle.trap_model.specs.State.{last}
use Rattle.trap_index.specs.declared.item.Item.{Item}
use Rattle.trap_index.specs.Indexed.{Indexed, last_seq, item_at}

-- what a source has
pub record Retained : Type 0 where
  -- how many blocks there are, and how many bytes a block has
  pub volume : ℕ
  pub size : ℕ
  -- the numbers of the last dropped entry and of the last one
  pub first : ℕ
  pub last : ℕ
  -- the item of each retained entry, by its number
  pub item : ℕ → Item

pub record Past : Type 1 where
  pub has : Retained
  -- the states that the source stands for: none where it doesn't tell
  pub stands : State → Type 0
  -- how often each of the three methods was called
  pub presents : ℕ
  pub parities : ℕ
  pub snapshots : ℕ
  -- the block whose present contents were asked for last
  pub asked : ℕ
  -- the number of the entry whose record was asked for last
  pub looked : ℕ
  -- how many faults there were
  pub faults : ℕ

-- the item is the entry's, and the entry writes a whole block of the source's
pub record IsOfEntry (blocks size : ℕ) (item : Item) (entry : Entry) : Type 0 where
  pub time : item.time ≡ entry.time
  pub block : item.block ≡ entry.block
  pub snap : item.snap ≡ entry.snap
  pub within : entry.block < blocks
  pub whole : length entry.bytes ≡ size

-- the source can stand for the state: both have the same blocks, numbers and entries
pub record IsOf (v : Retained) (s : State) : Type 0 where
  pub blocks : length s.base ≡ v.volume
  pub sized : (block : ℕ) → block < v.volume → length (block_of s.base block) ≡ v.size
  pub first : s.first ≡ v.first
  pub last : last s ≡ v.last
  pub items : (q : ℕ) → v.first < q → q ≤ v.last
      → IsOfEntry v.volume v.size (v.item q) (entry_at s q)

-- the index tells of the source's entries, and has at least its blocks
pub record IsIndexOf (i : Indexed) (v : Retained) : Type 0 where
  pub first : i.first ≡ v.first
  pub last : last_seq i ≡ v.last
  pub items : (q : ℕ) → v.first < q → q ≤ v.last → item_at i q ≡ v.item q
  pub volume : v.volume ≤ volume i.g

-- an instant of one of the source's blocks
pub record IsInstant (v : Retained) (number seq : ℕ) : Type 0 where
  pub block : number < v.volume
  pub low : v.first ≤ seq
  pub high : seq ≤ v.last

-- the entry with this number is retained
pub record IsRetained (v : Retained) (seq : ℕ) : Type 0 where
  pub low : v.first < seq
  pub high : seq ≤ v.last

-- so few calls were made that more of them can be counted
pub record HasFewCalls (v : Past) : Type 0 where
  pub presents : v.presents ≤ 2 ^ 62
  pub parities : v.parities ≤ 2 ^ 62
  pub snapshots : v.snapshots ≤ 2 ^ 62

-- A call fails only where the count of faults rose, and with a fault that has its reasons. Right
-- after it what the source says of such a fault is so. No count falls.
pub record HasBlame {S T F : Type 0} (view : S → Past) (reasons : S → S → F → Type 0)
    (after_fault : S → F → Type 0) (result : Result T F) (old new : S)
    : Type 0 where
  pub cause : HasCause (view old).faults (view new).faults result
  pub reason : IfErr result (λ fault. reasons old new fault)
  pub after : IfErr result (λ fault. after_fault new fault)

-- no call changes what a source has, nor the states that it stands for
pub record Remains (old new : Past) : Type 0 where
  pub has : new.has ≡ old.has
  pub stands : (s : State) → old.stands s ↔ new.stands s

-- one call of a method: its count rises by one, and the other two stay
pub record GivesPresent (block : ℕ) (old new : Past) : Type 0 where
  pub remains : Remains old new
  pub presents : new.presents ≡ old.presents + 1
  pub asked : new.asked ≡ block
  pub parities : new.parities ≡ old.parities
  pub snapshots : new.snapshots ≡ old.snapshots
  pub looked : new.looked ≡ old.looked

pub record GivesParity (seq : ℕ) (old new : Past) : Type 0 where
  pub remains : Remains old new
  pub presents : new.presents ≡ old.presents
  pub asked : new.asked ≡ old.asked
  pub parities : new.parities ≡ old.parities + 1
  pub snapshots : new.snapshots ≡ old.snapshots
  pub looked : new.looked ≡ seq

pub record GivesSnapshot (seq : ℕ) (old new : Past) : Type 0 where
  pub remains : Remains old new
  pub presents : new.presents ≡ old.presents
  pub asked : new.asked ≡ old.asked
  pub parities : new.parities ≡ old.parities
  pub snapshots : new.snapshots ≡ old.snapshots + 1
  pub looked : new.looked ≡ seq
