-- How frames are said, and why not all were.
use Rattle.std.specs.Prelude.{◌≡◌, ℕ, ◌+◌, ◌-◌, ◌<◌, ◌≤◌, List, ◌++◌, Bool, false, IsTrue}
use Rattle.std.specs.Prelude.{Result, Ok, Err}
use Rattle.trap_bank.specs.Calls.{SaysPart}
use Rattle.trap_bank.specs.Disks.{Contents, View}
use Rattle.trap_bank.specs.Faults.{Rose}
use Rattle.trap_bank.specs.Steps.{Always, SpokePart}
use Rattle.trap_index.specs.Indexed.{last_seq}
use Rattle.trap_model.specs.declared.history.State.{State}
use Rattle.trap_port.specs.Outgoing.{SpokeBut}
use Rattle.trap_array.specs.Calls.{Mounted, StandsFor, is_fault}
use Rattle.trap_array.specs.Instants.{FailsRecord}
use Rattle.trap_array.specs.declared.fault.Denied.{Denied}
use Rattle.trap_array.specs.declared.fault.Denied.TheVariants.{Damaged}
use Rattle.trap_send.specs.EntryFrames.{IsEntryFrame, AreEntryFrames}
use Rattle.trap_send.specs.declared.fault.SendFault.{SendFault}
use Rattle.trap_send.specs.declared.fault.SendFault.TheVariants.{Array, Port}

-- The disks are the same, and a first part of the frames of some entries after number p was said.
pub record Sends (a : Mounted) (v : View) (p : ℕ) (old new : Contents) : Type 0 where
  pub disks : new.disks ≡ old.disks
  pub count : ℕ
  pub most : p + count ≤ last_seq a.index
  pub text : List ℕ
  pub frames : AreEntryFrames a v p count text
  pub says : SaysPart text old new

-- The disks are the same, and the frames of all entries after number p were said.
pub record SendsAll (a : Mounted) (v : View) (p : ℕ) (old new : Contents) : Type 0 where
  pub disks : new.disks ≡ old.disks
  pub text : List ℕ
  pub frames : AreEntryFrames a v p (last_seq a.index - p) text
  pub said : new.said ≡ old.said ++ text

-- all frames, or a first part of them after a fault
abbrev pub HasSent : {T E : Type 0} → Mounted → View → ℕ → Result T E → Contents → Contents
    → Type 0
HasSent a v p (Ok value) old new = SendsAll a v p old new
HasSent a v p (Err e) old new = Sends a v p old new

-- The disks are the same, and of the frames of that many entries after number p all was said but
-- what waits.
pub record SendsBut (a : Mounted) (v : View) (p count : ℕ) (waits : List ℕ) (old new : Contents)
    : Type 0 where
  pub text : List ℕ
  pub frames : AreEntryFrames a v p count text
  pub spoke : SpokeBut text waits old new

-- all frames but what waits, or a first part of them after a fault
abbrev pub HasGathered : {T E : Type 0} → Mounted → View → ℕ → List ℕ → Result T E → Contents
    → Contents → Type 0
HasGathered a v p waits (Ok value) old new =
    SendsBut a v p (last_seq a.index - p) waits old new
HasGathered a v p waits (Err e) old new = Sends a v p old new

-- the entry's frame came after what waited, and of both all was said but what is left
pub record GathersFrame (a : Mounted) (v : View) (q : ℕ) (waited left : List ℕ)
    (old new : Contents) : Type 0 where
  pub frame : List ℕ
  pub is : IsEntryFrame a v q frame
  pub spoke : SpokeBut (waited ++ frame) left old new

-- the same, or a first part of what waited was said after a fault
abbrev pub PutsFrame : {T E : Type 0} → Mounted → View → ℕ → List ℕ → List ℕ → Result T E
    → Contents → Contents → Type 0
PutsFrame a v q waited left (Ok value) old new = GathersFrame a v q waited left old new
PutsFrame a v q waited left (Err e) old new = SpokePart waited old new

-- The array has no code of the entry: disk 0 failed, and its count rose, or the entry's record is
-- damaged, and then the array stands for no state.
pub record FailsEntry (a : Mounted) (q : ℕ) (denied : Denied) (old new : View) : Type 0 where
  pub fails : FailsRecord a q old new denied
  pub damaged : (offset : ℕ) → denied ≡ Damaged offset → IsTrue old.tells → (s : State)
      → Always old (StandsFor a s) → ⊥

-- so it is with this entry, or the port failed, and its count rose
abbrev pub StopsSending : Mounted → ℕ → SendFault → View → View → Type 0
StopsSending a q (Array denied) old new = FailsEntry a q denied old new
StopsSending a q Port old new = Rose old.port_faults new.port_faults

-- so it is with some entry after number p, or the port failed
abbrev pub SendStops : Mounted → ℕ → SendFault → View → View → Type 0
SendStops a p (Array denied) old new = (q : ℕ) × (p < q) × FailsEntry a q denied old new
SendStops a p Port old new = Rose old.port_faults new.port_faults

-- a fault of disk 0 stops the array
abbrev pub send_stops_array : {T : Type 0} → Result T SendFault → Bool
send_stops_array (Ok value) = false
send_stops_array (Err (Array denied)) = is_fault {T = Unit {0}} (Err denied)
send_stops_array (Err Port) = false
