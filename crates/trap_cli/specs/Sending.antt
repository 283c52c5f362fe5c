-- What `send` says and leaves, and why it ends so.
use Rattle.std.specs.Prelude.{◌≡◌, ℕ, ◌<◌, ◌≤◌, [], IsTrue, false}
use Rattle.trap_bank.specs.Faults.{Rose}
use Rattle.trap_bank.specs.Disks.{Contents, View}
use Rattle.trap_model.specs.State.{last}
use Rattle.trap_model.specs.declared.numbers.Geometry.{Geometry}
use Rattle.trap_model.specs.declared.history.State.{State}
use Rattle.trap_format.specs.declared.head.Head.{Head}
use Rattle.trap_index.specs.Indexed.{Indexed, last_seq}
use Rattle.trap_array.specs.Calls.{Mounted}
use Rattle.trap_array.specs.Instants.{HasInstant, IsBadRecord}
use Rattle.trap_array.specs.Mounting.{HasHead, is_refusal}
use Rattle.trap_array.specs.Reading.{ReadsIndex}
use Rattle.trap_array.specs.declared.fault.Denied.{Denied}
use Rattle.trap_array.specs.declared.fault.Denied.TheVariants as denied
use Rattle.trap_session.specs.declared.outcome.SessionFault.TheVariants as serving
use Rattle.trap_send.specs.Sending.{sent_text}
use Rattle.trap_send.specs.Sends.{Sends, SendsAll, FailsEntry}
use Rattle.trap_cli.specs.Mounting.{MountPasses, HeldNone}
use Rattle.trap_array.specs.MountEnds.{MountCause}
use Rattle.trap_cli.specs.SaidOver.{SaidOver, SaidPartOver}
use Rattle.trap_cli.specs.declared.outcome.Ended.{Ended}
use Rattle.trap_cli.specs.declared.outcome.Ended.TheVariants.{Done, NotMounted, NotRetained}
use Rattle.trap_cli.specs.declared.outcome.Ended.TheVariants.{Stopped, Port, Memory}
use Rattle.trap_cli.specs.declared.outcome.Unretained.{Unretained}
use Rattle.trap_cli.specs.declared.outcome.Unretained.TheVariants.{NotKept, Ahead}

-- the number is that of a retained instant
abbrev pub IsInside : ℕ → ℕ → ℕ → Type 0
IsInside seq first end = (first ≤ seq) × (seq ≤ end)

-- the number is below the first retained instant, or above the last
abbrev pub IsOutside : ℕ → Unretained → ℕ → ℕ → Type 0
IsOutside seq (NotKept bound) first end = (bound ≡ first) × (seq < first)
IsOutside seq (Ahead bound) first end = (bound ≡ end) × (end < seq)

-- where the bank tells, the disks are those of an array, and this is so of the first instant that
-- its head retains, and of the last
abbrev pub FindsInstants : (ℕ → ℕ → Type 0) → View → Type 0
FindsInstants has old = IsTrue old.tells → (g : Geometry)
    × (passes : MountPasses g old.now.disks) × has passes.h.first passes.h.last

-- Of an entry after the number, which was retained on entry and whose record should begin at this
-- byte of disk 0, no record with the header that mounting read is there.
pub record NamesEntry (seq offset : ℕ) (old new : View) : Type 0 where
  pub g : Geometry
  pub head : Head
  pub index : Indexed
  pub found : HasHead g head old.now.disks
  pub reads : ReadsIndex g head index old
  pub entry : ℕ
  pub after : seq < entry
  pub bad : IsBadRecord g index entry new.now.disks offset

-- Why `send` ends so. Its refusals are exact. A record that is read again is damaged only where the
-- disks held no state. No other end comes.
abbrev pub SendCause : ℕ → Ended → View → View → Type 0
SendCause seq Done old new = FindsInstants (IsInside seq) old
SendCause seq (NotMounted why) old new = MountCause why old new
SendCause seq (NotRetained why) old new = FindsInstants (IsOutside seq why) old
SendCause seq (Stopped (serving.Array denied.LogFault)) old new =
    FindsInstants (IsInside seq) old × Rose (old.faults 0) (new.faults 0)
SendCause seq (Stopped (serving.Array (denied.Damaged offset))) old new =
    FindsInstants (IsInside seq) old × HeldNone old
    × (IsTrue old.tells → NamesEntry seq offset old new)
SendCause seq Port old new =
    FindsInstants (IsInside seq) old × Rose old.port_faults new.port_faults
SendCause seq Memory old new = FindsInstants (IsInside seq) old
SendCause seq ended old new = ⊥

-- `send` over disks that hold a state. No other end comes.
abbrev pub SendSaid : Geometry → State → ℕ → Ended → Contents → Contents → Type 0
SendSaid g s seq Done old now =
    IsInside seq s.first (last s) × SaidOver g s (sent_text g.id s seq) old now
SendSaid g s seq (NotMounted why) old now = (is_refusal why ≡ false) × SaidOver g s [] old now
SendSaid g s seq (NotRetained why) old now =
    IsOutside seq why s.first (last s) × SaidOver g s [] old now
SendSaid g s seq (Stopped (serving.Array denied.LogFault)) old now =
    SaidPartOver g s (sent_text g.id s seq) old now
SendSaid g s seq Port old now = SaidPartOver g s (sent_text g.id s seq) old now
SendSaid g s seq Memory old now = SaidOver g s [] old now
SendSaid g s seq ended old now = ⊥

-- The array has the instant, the disks are the same, and a first part of the frames of some entries
-- after it was said.
abbrev pub SendsInside : Mounted → View → ℕ → Contents → Contents → Type 0
SendsInside a v seq old new = HasInstant a.index seq × Sends a v seq old new

-- what was said over a mounted array: all frames, a first part of them after a fault, or nothing
abbrev pub SaysFrames : Mounted → View → ℕ → Ended → Contents → Contents → Type 0
SaysFrames a v seq Done old new = SendsAll a v seq old new
SaysFrames a v seq (NotRetained why) old new = new ≡ old
SaysFrames a v seq (Stopped why) old new = Sends a v seq old new
SaysFrames a v seq Port old new = Sends a v seq old new
SaysFrames a v seq Memory old new = new ≡ old
SaysFrames a v seq ended old new = ⊥

-- the mounted array has no frame of some entry after the number
pub record LacksEntry (a : Mounted) (seq : ℕ) (why : Denied) (old new : View) : Type 0 where
  pub entry : ℕ
  pub after : seq < entry
  pub fails : FailsEntry a entry why old new

-- why a mounted array's `send` ended so
abbrev pub FramesCause : Mounted → ℕ → Ended → View → View → Type 0
FramesCause a seq Done old new = HasInstant a.index seq
FramesCause a seq (NotRetained why) old new =
    IsOutside seq why a.index.first (last_seq a.index)
FramesCause a seq (Stopped (serving.Array why)) old new =
    HasInstant a.index seq × LacksEntry a seq why old new
FramesCause a seq Port old new =
    HasInstant a.index seq × Rose old.port_faults new.port_faults
FramesCause a seq Memory old new = HasInstant a.index seq
FramesCause a seq ended old new = ⊥
