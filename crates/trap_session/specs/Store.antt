-- A store of states on disks, and what one line does to it and to the port.
use Rattle.std.specs.Prelude.{◌≡◌, ◌⊎◌, ℕ, ◌++◌, true, false, IsTrue, Result, Ok, Err}
use Rattle.trap_bank.specs.Faults.{Rose}
use Rattle.trap_bank.specs.Disks.{Contents, Disks, View}
use Rattle.trap_bank.specs.Calls.{SaysPart}
use Rattle.trap_bank.specs.Steps.{Always}
use Rattle.trap_model.specs.Machine.{Machine}
use Rattle.trap_model.specs.declared.numbers.Geometry.{Geometry}
use Rattle.trap_model.specs.declared.request.Request.{Request}
use Rattle.trap_model.specs.declared.request.Request.TheVariants.{At, By}
use Rattle.trap_script.specs.Lines.{goes_on}
use Rattle.trap_script.specs.Replies.{reply_text}
use Rattle.trap_model.specs.ArrayStep.{step}
use Rattle.trap_model.specs.declared.history.State.{State}
use Rattle.trap_index.specs.Indexed.{Indexed}
use Rattle.trap_array.specs.Calls.{Mounted, HoldsLike, MemberFails, StandsFor}
use Rattle.trap_array.specs.Instants.{HasBadRecord, HasBadRecordBy}
use Rattle.trap_array.specs.declared.fault.Denied.TheVariants.{LogFault, MemberFault}
use Rattle.trap_array.specs.declared.fault.Denied.TheVariants.{Damaged, Stopped}
use Rattle.trap_session.specs.declared.outcome.Next.{Next}
use Rattle.trap_session.specs.declared.outcome.Next.TheVariants.{More, Quit}
use Rattle.trap_session.specs.declared.outcome.SessionFault.{SessionFault}
use Rattle.trap_session.specs.declared.outcome.SessionFault.TheVariants.{Array, ReadFault}
use Rattle.trap_session.specs.declared.outcome.SessionFault.TheVariants.{WriteFault, TooLong}

-- a machine whose states stand on disks
pub record Store (S : Type 0) : Type 1 where
  pub machine : Machine S
  -- the size of a block in bytes
  pub block : ℕ
  -- the disks hold the state
  pub holds : Disks → S → Type 0
  -- what the disks hold after one of them failed in the request
  pub torn : Disks → S → Request → Type 0

-- the reply was said, and the disks hold the state after the request
pub record Replied {S : Type 0} (store : Store S) (s : S) (asked : Request)
    (old new : Contents) : Type 0 where
  pub more : goes_on asked ≡ true
  pub said : new.said ≡ old.said ++ reply_text (store.machine.reply s asked)
  pub holds : store.holds new.disks (store.machine.next s asked)

-- the port failed in the reply; the disks hold the state after the request
pub record CutShort {S : Type 0} (store : Store S) (s : S) (asked : Request)
    (old new : Contents) : Type 0 where
  pub more : goes_on asked ≡ true
  pub part : SaysPart (reply_text (store.machine.reply s asked)) old new
  pub holds : store.holds new.disks (store.machine.next s asked)

-- a disk failed in the request, and nothing was said
pub record Struck {S : Type 0} (store : Store S) (s : S) (asked : Request)
    (old new : Contents) : Type 0 where
  pub more : goes_on asked ≡ true
  pub said : new.said ≡ old.said
  pub torn : store.torn new.disks s asked

-- nothing was done yet
pub record Waits {S : Type 0} (store : Store S) (s : S) (old new : Contents) : Type 0 where
  pub said : new.said ≡ old.said
  pub holds : store.holds new.disks s

-- What one line does, by its answer. The line that ends the session does nothing. No record that is
-- read again is damaged where the array stood for a state.
abbrev pub Served : {S : Type 0} → Store S → Result Next SessionFault → S → Request → Contents
    → Contents → Type 0
Served store (Ok More) s asked old new = Replied store s asked old new
Served store (Ok Quit) s asked old new = (goes_on asked ≡ false) × Waits store s old new
Served store (Err (Array (Damaged offset))) s asked old new = ⊥
Served store (Err (Array denied)) s asked old new = Struck store s asked old new
Served store (Err WriteFault) s asked old new = CutShort store s asked old new
Served store (Err ReadFault) s asked old new = ⊥
Served store (Err TooLong) s asked old new = ⊥

-- what a crash leaves while one line is answered: nothing was done, or the disks were worked on, or
-- they hold the next state and a part of the reply was said
abbrev pub Answering : {S : Type 0} → Store S → S → Request → Contents → Contents → Type 0
Answering store s asked old new = Waits store s old new
    ⊎ (Struck store s asked old new ⊎ CutShort store s asked old new)

-- The states of an array of these numbers, by how disks have them. Where a disk failed in a
-- request, the disks have the state before it or the one after.
abbrev pub store_of : Geometry → (Disks → State → Type 0) → Store State
store_of g has = record {
  machine = step g;
  block = g.block;
  holds = has;
  torn = λ disks s asked. has disks s ⊎ has disks ((step g).next s asked);
}

-- the states of a mounted array: disks hold one by a head that names the same lost member as its
-- own
abbrev pub array_store : Mounted → Store State
array_store a = store_of a.g (λ disks s. HoldsLike a.g a.head s disks)

-- where the bank tells, the array stands for no state
abbrev pub StandsForNone : Mounted → View → Type 0
StandsForNone a v = IsTrue v.tells → (s : State) → Always v (StandsFor a s) → ⊥

-- The count of what failed rose. No disk fails where a record that was read again is damaged: the
-- array stood for no state; nor where the array was stopped on entry. A refusal is no fault of a
-- session.
abbrev pub FaultRose : Mounted → SessionFault → View → View → Type 0
FaultRose a (Array LogFault) old new = Rose (old.faults 0) (new.faults 0)
FaultRose a (Array (MemberFault first second)) old new = MemberFails a first second old new
FaultRose a (Array (Damaged offset)) old new = StandsForNone a old
FaultRose a (Array Stopped) old new = a.is_stopped ≡ true
FaultRose a WriteFault old new = Rose old.port_faults new.port_faults
FaultRose a other old new = ⊥

-- A record that the request reads again is damaged: that of a later write of its block than it asks
-- for. No other request reads a record again.
abbrev pub IsDamagedFor : Geometry → Indexed → Request → Disks → ℕ → Type 0
IsDamagedFor g i (At seq block) disks offset = HasBadRecord g i block seq disks offset
IsDamagedFor g i (By time block) disks offset = HasBadRecordBy g i block time disks offset
IsDamagedFor g i other disks offset = ⊥

-- The damage that ended a session is of such a record, for one of its lines: none with the header
-- that the array knows is where it should be.
abbrev pub NamesDamage : Mounted → SessionFault → View → Type 0
NamesDamage a fault v = (offset : ℕ) → fault ≡ Array (Damaged offset) → IsTrue v.tells
    → (asked : Request) × IsDamagedFor a.g a.index asked v.now.disks offset
