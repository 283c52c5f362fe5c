-- What the calls of a log do to the state that its array stands for.
use Rattle.std.specs.Prelude.{◌≡◌, ◌⊎◌, ℕ, ◌+◌, ◌<◌, false}
use Rattle.trap_bank.specs.Disks.{Disks, View}
use Rattle.trap_bank.specs.Faults.{Rose}
use Rattle.trap_bank.specs.Steps.{Always}
use Rattle.trap_format.specs.declared.head.Head.{Head}
use Rattle.trap_model.specs.declared.numbers.Geometry.{Geometry}
use Rattle.trap_model.specs.declared.history.State.{State}
use Rattle.trap_mount.specs.Holding.{HoldsBy}
pub use Rattle.trap_mount.specs.Mounted.{Mounted, StandsFor, HasSizes}
use Rattle.trap_raid.specs.Members.{Counts}
use Rattle.trap_log.specs.Growing.{IsLaterHead}
use Rattle.trap_log.specs.Log.{Log, IndexedLog}

-- an array that isn't stopped, by what it knows of its log: all six blocks of its region are free
abbrev pub running : IndexedLog → Mounted
running log = record {
  g = log.g;
  head = log.head;
  cell = log.cell;
  pending = log.stage.pending;
  index = log.index;
  blocks = 6;
  free = 6;
  is_stopped = false;
}

-- no call changes the numbers of an array, and its head is a later one
pub record SameArray (a b : Mounted) : Type 0 where
  pub g : b.g ≡ a.g
  pub follows : IsLaterHead a.head b.head

-- the same of its log alone
pub record SameLog (a b : Log) : Type 0 where
  pub g : b.g ≡ a.g
  pub follows : IsLaterHead a.head b.head

-- the disks hold the state by this head or a later one
pub record HoldsLike (g : Geometry) (h : Head) (s : State) (disks : Disks) : Type 0 where
  pub head : Head
  pub by : HoldsBy g head s disks
  pub follows : IsLaterHead h head

-- At a moment of a call. Whatever state the array stood for on entry, the disks hold it, or the
-- next one.
abbrev pub AtAnyMoment : Mounted → View → (State → State) → Disks → Disks → Type 0
AtAnyMoment a v next old new =
    (s : State) → Always v (StandsFor a s) → HoldsLike a.g a.head s new
    ⊎ HoldsLike a.g a.head (next s) new

-- After a call. Whatever state the array stood for on entry, it stands for the next one.
abbrev pub StandsAfterCall : Mounted → Mounted → View → (State → State) → Disks → Disks → Type 0
StandsAfterCall a b v next old new = (s : State) → Always v (StandsFor a s)
    → StandsFor b (next s) new

-- A member failed of which some row counts, so not the lost one unless it is being rebuilt: the
-- count of its disk rose. Both numbers are its own.
pub record MemberFails (a : Mounted) (first second : ℕ) (old new : View) : Type 0 where
  pub same : first ≡ second
  pub inside : second < a.g.members
  pub counts : Counts a.head.lost a.head.rebuilt 0 second
  pub rose : Rose (old.faults (second + 1)) (new.faults (second + 1))
