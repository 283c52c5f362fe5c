-- What a crash leaves: the bytes said until then, and the disks.
pub use Rattle.trap_remote.specs.Found.{LeftSaid}
use Rattle.std.specs.Prelude.{◌≡◌, ◌⊎◌, ℕ, ◌+◌, List, ◌++◌, Some, None}
use Rattle.trap_bank.specs.Disks.{Disks, View, Differs}
use Rattle.trap_model.specs.declared.numbers.Geometry.{Geometry}
use Rattle.trap_model.specs.declared.history.State.{State}
use Rattle.trap_format.specs.declared.head.Head.{Head}
use Rattle.trap_array.specs.Holding.{HoldsBy}
use Rattle.trap_array.specs.Mounting.{SameHead}
use Rattle.trap_cli.specs.Ended.{last_line}
use Rattle.trap_cli.specs.declared.outcome.Ended.{Ended}

-- a first part of a fault line, the empty one included
abbrev pub IsFaultFront : List ℕ → Type 0
IsFaultFront p = (ended : Ended) × (rest : List ℕ) × (p ++ rest ≡ last_line ended)

-- a crash on entry might have left the disks
abbrev pub LeftOnEntry : View → Disks → Type 0
LeftOnEntry old disks = Differs old.unsynced old.now.disks disks

-- and so it might, but perhaps for the slot of the head's cell that isn't current; the cell has the
-- same value
pub record LeftBesideHead (old : View) (disks : Disks) : Type 0 where
  pub entry : Disks
  pub left : LeftOnEntry old entry
  pub same : (disks ≡ entry) ⊎ SameHead entry disks

-- a first part of the text, and then one of a fault line, the empty ones included
pub record IsOutputFront (text p : List ℕ) : Type 0 where
  pub part : List ℕ
  pub rest : List ℕ
  pub front : List ℕ
  pub whole : part ++ rest ≡ text
  pub fault : IsFaultFront front
  pub is : p ≡ part ++ front

-- the member was out on entry: this head called it lost, or its disk was absent
abbrev pub WasOut : Head → View → ℕ → Type 0
WasOut h old m = (h.lost ≡ Some m) ⊎ (old.sizes (m + 1) ≡ None)

-- The disks hold the state by a head that calls no member lost but one that was out on entry: the
-- head by which the disks held a state then called it lost, or its disk was absent.
pub record HoldsSince (g : Geometry) (old : View) (disks : Disks) (t : State) : Type 0 where
  pub head : Head
  pub by : HoldsBy g head t disks
  pub lost : (h : Head) (s : State) → HoldsBy g h s old.now.disks
      → (m : ℕ) → head.lost ≡ Some m → WasOut h old m
