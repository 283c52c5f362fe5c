-- Why a session stops, and what was mounted before it.
use Rattle.std.specs.Prelude.{◌≡◌, ◌⊎◌, ℕ, ◌+◌, ◌^◌, ◌<◌, List, Contains, Some, None, IsTrue, true}
use Rattle.std.specs.Prelude.{false}
use Rattle.trap_bank.specs.Faults.{Rose}
use Rattle.trap_bank.specs.Disks.{View}
use Rattle.trap_bank.specs.Stream.{Stream}
use Rattle.trap_model.specs.declared.numbers.Geometry.{Geometry}
use Rattle.trap_model.specs.declared.history.State.{State}
use Rattle.trap_model.specs.declared.request.Request.{Request}
use Rattle.trap_format.specs.declared.head.Head.{Head}
use Rattle.trap_index.specs.Indexed.{Indexed}
use Rattle.trap_raid.specs.Members.{Counts}
use Rattle.trap_array.specs.Holding.{HoldsBy}
use Rattle.trap_array.specs.Reading.{ReadsIndex}
use Rattle.trap_array.specs.Mounting.{HasHead, HasMembers}
use Rattle.trap_cli.specs.Mounting.{MountPasses, HeldNone}
use Rattle.trap_array.specs.declared.fault.Denied.TheVariants as denied
use Rattle.trap_script.specs.Lines.{lines}
use Rattle.trap_session.specs.Leaving.{HasRecordsMore}
use Rattle.trap_session.specs.Serving.{TookQuit}
use Rattle.trap_session.specs.Store.{IsDamagedFor}
use Rattle.trap_session.specs.declared.outcome.SessionFault.{SessionFault}
use Rattle.trap_session.specs.declared.outcome.SessionFault.TheVariants as serving

-- A member failed of the array on the disks, and its count rose: both numbers are its own. It isn't
-- the lost one, unless some of that one's rows count.
pub record MemberFaults (first second : ℕ) (old new : View) : Type 0 where
  pub same : first ≡ second
  pub inside : second < 16
  pub rose : Rose (old.faults (second + 1)) (new.faults (second + 1))
  pub there : old.sizes (second + 1) ≡ None → ⊥
  pub of : IsTrue old.tells → (g : Geometry) × (h : Head) × HasMembers g h old.now.disks
      × (second < g.members)
      × Counts h.lost h.rebuilt 0 second
  pub held : IsTrue old.tells → (g : Geometry) (h : Head) (s : State) → HoldsBy g h s old.now.disks
      → (second < g.members) × Counts h.lost h.rebuilt 0 second

-- the index of the records that mounting read by this head, and of those that were written since
pub record IndexSince (g : Geometry) (h : Head) (i : Indexed) (old : View) : Type 0 where
  pub read : Indexed
  pub reads : ReadsIndex g h read old
  pub more : HasRecordsMore read i

-- where the input is known, the request is that of one of its lines
abbrev pub IsLineOf : ℕ → Stream → Request → Type 0
IsLineOf size from asked =
    (input : List ℕ) → from.left ≡ Some input → Contains (lines size input) asked

-- A line of the input looked back at a block. On the way to its instant, of an entry of that block
-- which was retained on entry or written since, and whose record should begin at this byte of disk
-- 0, no record with the header that the session knows is there.
pub record NamesRecord (offset : ℕ) (old new : View) (from : Stream) : Type 0 where
  pub g : Geometry
  pub head : Head
  pub index : Indexed
  pub found : HasHead g head old.now.disks
  pub since : IndexSince g head index old
  pub asked : Request
  pub line : IsLineOf g.block from asked
  pub bad : IsDamagedFor g index asked new.now.disks offset

-- the source came to its end, or a `Q` was taken, a line of the array that is mounted
abbrev pub TookAll : View → Stream → Stream → Type 0
TookAll old from to = (to.ended ≡ true)
    ⊎ ((g : Geometry) × (IsTrue old.tells → MountPasses g old.now.disks) × TookQuit g.block from to)

-- Why a session stopped so. A refusal and a stopped array end none. A record that was read again is
-- damaged only where the disks held no state.
abbrev pub StopCause : SessionFault → View → View → Stream → Stream → Type 0
StopCause (serving.Array (denied.Refused why)) old new from to = ⊥
StopCause (serving.Array denied.LogFault) old new from to = Rose (old.faults 0) (new.faults 0)
StopCause (serving.Array (denied.MemberFault first second)) old new from to =
    MemberFaults first second old new
StopCause (serving.Array (denied.Damaged offset)) old new from to =
    HeldNone old × (IsTrue old.tells → NamesRecord offset old new from)
StopCause (serving.Array denied.Stopped) old new from to = ⊥
StopCause serving.ReadFault old new from to = Rose from.faults to.faults
StopCause serving.WriteFault old new from to = Rose old.port_faults new.port_faults
StopCause serving.TooLong old new from to = (to.given ≡ from.given + 2 ^ 40) × (to.ended ≡ false)
