-- What a run says where nothing fails.
use Rattle.std.specs.Prelude.{◌≡◌, ◌⊎◌, ℕ, ◌+◌, ◌^◌, ◌<◌, ◌≤◌, List, [], ◌++◌, length, Option, Some}
use Rattle.std.specs.Prelude.{None}
use Rattle.std.specs.Prelude.{IsTrue}
use Rattle.trap_bank.specs.Faults.{Rose}
use Rattle.trap_bank.specs.Disks.{Disks, View}
use Rattle.trap_bank.specs.Stream.{Stream}
use Rattle.trap_model.specs.ArrayStep.{step}
use Rattle.trap_model.specs.State.{last}
use Rattle.trap_model.specs.declared.numbers.Geometry.{Geometry}
use Rattle.trap_model.specs.declared.history.State.{State}
use Rattle.trap_format.specs.declared.head.Head.{Head}
use Rattle.trap_script.specs.Lines.{lines}
use Rattle.trap_script.specs.Walk.{all_texts}
use Rattle.trap_format.specs.Checked.{first_broken, HasNumbers}
use Rattle.trap_array.specs.Creating.{NoneIsThere}
use Rattle.trap_array.specs.Holding.{Holds}
use Rattle.trap_send.specs.Sending.{sent_text}
use Rattle.trap_model.specs.Frame.{Sent, AreFrames}
use Rattle.trap_model.specs.Frame.Ending.{AtEnd}
use Rattle.trap_replica.specs.Exporting.{image_bytes}
use Rattle.trap_remote.specs.Applying.{OverImage}
use Rattle.trap_remote.specs.Receiving.{received_line}
use Rattle.trap_remote.specs.Making.{first_broken_in}
use Rattle.trap_remote.specs.Ended.{loaded_line}
use Rattle.trap_remote.specs.Exporting.{OfImage}
use Rattle.trap_remote.specs.Found.{NoFaultRose}
use Rattle.trap_remote.specs.Loading.{HasImageSize}
use Rattle.trap_remote.specs.Stream.{AreFor}
use Rattle.trap_cli.specs.Ended.{created_line}
use Rattle.trap_cli.specs.History.{history_text}
use Rattle.trap_cli.specs.Said.{BeginsHeld}
use Rattle.trap_cli.specs.declared.command.Command.{Command}
use Rattle.trap_cli.specs.declared.command.Command.TheVariants.{Create, Session, History, Send}
use Rattle.trap_cli.specs.declared.command.Command.TheVariants.{ReplicaCreate, ReplicaLoad}
use Rattle.trap_cli.specs.declared.command.Command.TheVariants.{Apply, ReplicaExport}

-- what a command of the array says when it is done, over a state and an input; a command of a
-- replica says nothing of a state
abbrev pub output : Geometry → State → Command → List ℕ → List ℕ
output g s Session input = all_texts (step g) s (lines g.block input)
output g s History input = history_text s
output g s (Send seq) input = sent_text g.id s seq
output g s (Create asked) input = created_line asked.id
output g s command input = []

-- no count of disk 0, of the port or of the source rose, nor of any member but some
pub record NothingFails (g : Geometry) (but : ℕ → Type 0) (old new : View)
    (from to : Stream) : Type 0 where
  pub log : Rose (old.faults 0) (new.faults 0) → ⊥
  pub members : (m : ℕ) → m < g.members → Rose (old.faults (m + 1)) (new.faults (m + 1)) → but m
  pub port : Rose old.port_faults new.port_faults → ⊥
  pub source : Rose from.faults to.faults → ⊥

-- the member isn't used: its disk is absent, or it is lost and none of its rows is rebuilt
abbrev pub IsUnused : Head → Disks → ℕ → Type 0
IsUnused h disks m = (disks (m + 1) ≡ None) ⊎ ((h.lost ≡ Some m) × (h.rebuilt ≡ 0))

-- the output was said, with status 0; or there was no memory
abbrev pub IsDone : ℕ → List ℕ → View → View → Type 0
IsDone status text old new = ((status ≡ 0) × (new.now.said ≡ old.now.said ++ text)) ⊎ (status ≡ 10)

-- Over disks that hold a state, the command is done where nothing fails but a member that isn't
-- used, whichever member is out. A session's input has fewer than 2^40 bytes. An array is made
-- where its numbers are within their limits, none of its disks is there, and nothing fails; so is a
-- replica, and one that holds an image takes frames up to the end of their stream, and says it.
abbrev pub Completes : ℕ → Option Command → View → View → Stream → Stream → Type 0
Completes status None old new from to = Unit {0}
Completes status (Some Session) old new from to =
    (g : Geometry) (s : State) (input : List ℕ) (begins : BeginsHeld g s input old from)
    → length input < 2 ^ 40
    → NothingFails g (IsUnused begins.holds.head old.now.disks) old new from to
    → IsDone status (output g s Session input) old new
Completes status (Some History) old new from to =
    (g : Geometry) (s : State) (input : List ℕ) → IsTrue old.tells
    → (holds : Holds g s old.now.disks)
    → NothingFails g (IsUnused holds.head old.now.disks) old new from to
    → IsDone status (output g s History input) old new
Completes status (Some (Send seq)) old new from to =
    (g : Geometry) (s : State) (input : List ℕ) → IsTrue old.tells
    → (holds : Holds g s old.now.disks) → s.first ≤ seq → seq ≤ last s
    → NothingFails g (IsUnused holds.head old.now.disks) old new from to
    → IsDone status (output g s (Send seq) input) old new
Completes status (Some (Create asked)) old new from to =
    (g : Geometry) → IsTrue old.tells → HasNumbers g asked → first_broken asked ≡ None
    → NoneIsThere g old → NothingFails g (λ m. ⊥) old new from to
    → (status ≡ 0) × (new.now.said ≡ old.now.said ++ created_line asked.id)
Completes status (Some (ReplicaCreate asked)) old new from to = first_broken_in asked 0 ≡ None
    → old.sizes 17 ≡ None → NoFaultRose old new from to
    → (status ≡ 0)
    × (IsTrue old.tells → new.now.said ≡ old.now.said ++ created_line asked.id)
Completes status (Some (ReplicaLoad asked start)) old new from to = (input : List ℕ)
    → first_broken_in asked start.seq ≡ None → old.sizes 17 ≡ None → from.left ≡ Some input
    → HasImageSize asked input → NoFaultRose old new from to
    → ((status ≡ 0)
    × (IsTrue old.tells → new.now.said ≡ old.now.said ++ loaded_line start.seq))
    ⊎ (status ≡ 10)
Completes status (Some Apply) old new from to = OverImage (λ s r input. (frames : List Sent)
    → length input < 2 ^ 40 → AreFrames s.block input frames AtEnd → AreFor s frames
    → NoFaultRose old new from to → IsDone status (received_line r frames) old new) old from
Completes status (Some ReplicaExport) old new from to = NoFaultRose old new from to
    → OfImage (λ image. IsDone status (image_bytes image) old new) old
