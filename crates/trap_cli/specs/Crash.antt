-- What a crash at any moment of a run leaves.
use Rattle.std.specs.Prelude.{◌≡◌, ◌⊎◌, ℕ, ◌+◌, ◌<◌, List, ◌++◌, Option, Some, None, IsTrue}
use Rattle.trap_bank.specs.Disks.{Contents, Disks, View}
use Rattle.trap_bank.specs.Stream.{Stream}
use Rattle.trap_model.specs.Given.{given}
use Rattle.trap_model.specs.ArrayStep.{step}
use Rattle.trap_model.specs.declared.asked.Asked.{Asked}
use Rattle.trap_model.specs.declared.numbers.Geometry.{Geometry}
use Rattle.trap_model.specs.declared.history.State.{State}
use Rattle.trap_format.specs.Checked.{first_broken, HasNumbers}
use Rattle.trap_format.specs.declared.limits.Field.{Field}
use Rattle.trap_script.specs.Lines.{lines}
use Rattle.trap_script.specs.Walk.{state_after, reply_texts}
use Rattle.trap_array.specs.Holding.{Holds}
use Rattle.trap_array.specs.Gone.{IsRemoved}
use Rattle.trap_array.specs.Creating.{IsLowest, NoneIsThere, Creates, MembersFirst}
use Rattle.trap_send.specs.Sending.{sent_text}
use Rattle.trap_replica.specs.Creating.{zero_blocks}
use Rattle.trap_remote.specs.Applying.{OverImage}
use Rattle.trap_remote.specs.Exporting.{OfImage}
use Rattle.trap_cli.specs.ReplicaCrash.{MakingLeaves, LoadingLeaves, ApplyLeaves, ExportLeaves}
use Rattle.trap_cli.specs.Ended.{created_line}
use Rattle.trap_cli.specs.Creating.{HoldsNew}
use Rattle.trap_cli.specs.History.{history_text}
use Rattle.trap_cli.specs.Left.{IsFaultFront, IsOutputFront, LeftOnEntry, LeftBesideHead}
use Rattle.trap_cli.specs.Left.{HoldsSince, LeftSaid}
use Rattle.trap_cli.specs.Said.{BeginsHeld}
use Rattle.trap_cli.specs.declared.command.Command.{Command}
use Rattle.trap_cli.specs.declared.command.Command.TheVariants.{Create, Session, History, Send}
use Rattle.trap_cli.specs.declared.command.Command.TheVariants.{ReplicaCreate, ReplicaLoad}
use Rattle.trap_cli.specs.declared.command.Command.TheVariants.{Apply, ReplicaExport}

-- how many replies of the input's lines these bytes begin with
abbrev pub replies_given : Geometry → State → List ℕ → List ℕ → ℕ
replies_given g s input p = given (reply_texts (step g) s (lines g.block input)) p

-- so they hold the state after that many lines
abbrev pub HoldsAfter : Geometry → State → View → List ℕ → ℕ → Disks → Type 0
HoldsAfter g s old input j disks =
    HoldsSince g old disks (state_after (step g) s (lines g.block input) j)

-- Where these bytes were said: a crash on entry might have left the disks, perhaps beside the
-- head's slot, and no more than a front of a fault line was said; or the disks hold the state after
-- the lines whose replies were given, or after one more.
abbrev pub SessionLeaves : Geometry → State → List ℕ → View → List ℕ → Disks → Type 0
SessionLeaves g s input old p disks =
    (IsFaultFront p × LeftBesideHead old disks)
    ⊎ (HoldsAfter g s old input (replies_given g s input p) disks
    ⊎ HoldsAfter g s old input (replies_given g s input p + 1) disks)

-- a first part of the history's lines
abbrev pub IsHistoryFront : State → List ℕ → Type 0
IsHistoryFront s p = (rest : List ℕ) × (p ++ rest ≡ history_text s)

-- Where these bytes were said: a crash on entry might have left the disks, perhaps beside the
-- head's slot, and no more than a front of a fault line was said; or the disks hold the state, and
-- such a front was said or one of its history.
abbrev pub HistoryLeaves : Geometry → State → View → List ℕ → Disks → Type 0
HistoryLeaves g s old p disks =
    (IsFaultFront p × LeftBesideHead old disks)
    ⊎ ((IsFaultFront p ⊎ IsHistoryFront s p) × HoldsSince g old disks s)

-- so it is with `send`, whose frames are those of the entries after the number
abbrev pub SendLeaves : Geometry → State → ℕ → View → List ℕ → Disks → Type 0
SendLeaves g s seq old p disks =
    (IsFaultFront p × LeftBesideHead old disks)
    ⊎ (IsOutputFront (sent_text g.id s seq) p × HoldsSince g old disks s)

-- Where these bytes were said: no disk changed where a number breaks its limit, or a disk of the
-- array was there. Otherwise disk 0 is no log, or the disks hold the new array, and disk 0 is as it
-- was until each member's disk is new; they hold the array whole where the whole line was said.
pub record CreateLeaves (asked : Asked) (old : View) (p : List ℕ) (disks : Disks) : Type 0 where
  pub broken : (field : Field) → first_broken asked ≡ Some field → LeftOnEntry old disks
  pub there : (g : Geometry) (d : ℕ) → HasNumbers g asked → IsLowest g old d → LeftOnEntry old disks
  pub made : (g : Geometry) → HasNumbers g asked → NoneIsThere g old
      → Creates g old.now.disks disks × MembersFirst g old.now.disks disks
  pub whole : (g : Geometry) (rest : List ℕ) → HasNumbers g asked → NoneIsThere g old
      → p ≡ created_line asked.id ++ rest
      → HoldsNew g disks

-- a crash leaves this, where so much was said before the run; words that are no command change
-- nothing
abbrev pub CommandLeaves : Option Command → View → Stream → List ℕ → Contents → Type 0
CommandLeaves None old from before c =
    LeftSaid (λ p disks. IsFaultFront p × LeftOnEntry old disks) before c
CommandLeaves (Some Session) old from before c = (g : Geometry) (s : State) (input : List ℕ)
    → BeginsHeld g s input old from → LeftSaid (SessionLeaves g s input old) before c
CommandLeaves (Some History) old from before c = (g : Geometry) (s : State)
    → IsTrue old.tells → Holds g s old.now.disks → LeftSaid (HistoryLeaves g s old) before c
CommandLeaves (Some (Send seq)) old from before c = (g : Geometry) (s : State)
    → IsTrue old.tells → Holds g s old.now.disks → LeftSaid (SendLeaves g s seq old) before c
CommandLeaves (Some (Create asked)) old from before c = LeftSaid (CreateLeaves asked old) before c
CommandLeaves (Some (ReplicaCreate asked)) old from before c =
    LeftSaid (MakingLeaves asked 0 0 zero_blocks (created_line asked.id) old) before c
CommandLeaves (Some (ReplicaLoad asked start)) old from before c = (input : List ℕ)
    → from.left ≡ Some input → LeftSaid (LoadingLeaves asked start input old) before c
CommandLeaves (Some Apply) old from before c =
    OverImage (λ s r input. LeftSaid (ApplyLeaves s r input old) before c) old from
CommandLeaves (Some ReplicaExport) old from before c =
    OfImage (λ image. LeftSaid (ExportLeaves image old) before c) old

-- a crash on entry left the first contents; now one leaves the others
abbrev pub LeavesNow : Option Command → View → Stream → Contents → Contents → Type 0
LeavesNow command old from x y = CommandLeaves command old from x.said y

-- and so it is with each front of the line said after
abbrev pub LeavesWithFront : List ℕ → Option Command → View → Stream → Contents → Contents → Type 0
LeavesWithFront line command old from x y = (front rest : List ℕ) → front ++ rest ≡ line
    → CommandLeaves command old from x.said (record { disks = y.disks; said = y.said ++ front })

-- as many lines as there were replies given, or one more
abbrev pub IsGivenOrNext : Geometry → State → List ℕ → List ℕ → ℕ → Type 0
IsGivenOrNext g s input p j = (j ≡ replies_given g s input p) ⊎ (j ≡ replies_given g s input p + 1)

-- so it is of the state after as many lines as there were replies given, or after one more
abbrev pub AfterGiven : Geometry → State → List ℕ → List ℕ → (State → Type 0) → Type 0
AfterGiven g s input p has =
    (j : ℕ) × IsGivenOrNext g s input p j × has (state_after (step g) s (lines g.block input) j)

-- the disk of one member may be gone, and no other member's is absent
pub record OneMayGo (g : Geometry) (m : ℕ) (left now : Disks) : Type 0 where
  pub others : (k : ℕ) → k < g.members → left (k + 1) ≡ None → k ≡ m
  pub gone : (now ≡ left) ⊎ IsRemoved m left now
