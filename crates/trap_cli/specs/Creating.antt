-- What `create` says and leaves.
use Rattle.std.specs.Prelude.{◌≡◌, ◌≢◌, ℕ, ◌+◌, ◌<◌, ◌++◌, None}
use Rattle.trap_bank.specs.Disks.{Contents, Disks}
use Rattle.trap_bank.specs.Calls.{SaysPart}
use Rattle.trap_model.specs.State.{fresh}
use Rattle.trap_model.specs.declared.asked.Asked.{Asked}
use Rattle.trap_model.specs.declared.numbers.Geometry.{Geometry}
use Rattle.trap_format.specs.Checked.{HasNumbers}
use Rattle.trap_array.specs.Holding.{HoldsBy}
use Rattle.trap_array.specs.Creating.{Creates, MembersFirst, fresh_head}
use Rattle.trap_mount.specs.declared.fault.CreateFault.{CreateFault}
use Rattle.trap_mount.specs.declared.fault.CreateFault.TheVariants as creating
use Rattle.trap_cli.specs.Ended.{created_line}
use Rattle.trap_cli.specs.declared.outcome.Ended.{Ended}
use Rattle.trap_cli.specs.declared.outcome.Ended.TheVariants.{Done, BadGeometry, NotCreated}
use Rattle.trap_cli.specs.declared.outcome.Ended.TheVariants.{Port}

-- the disks hold the new array, whole: its head calls no member lost, and each member's disk is
-- there
pub record HoldsNew (g : Geometry) (disks : Disks) : Type 0 where
  pub by : HoldsBy g fresh_head (fresh g) disks
  pub members : (m : ℕ) → m < g.members → disks (m + 1) ≢ None

-- the whole line was said, and the disks hold the new array
pub record IsCreated (asked : Asked) (old now : Contents) : Type 0 where
  pub g : Geometry
  pub numbers : HasNumbers g asked
  pub said : now.said ≡ old.said ++ created_line asked.id
  pub holds : HoldsNew g now.disks

-- the port failed in the line; the disks hold the new array
pub record IsCreatedUnsaid (asked : Asked) (old now : Contents) : Type 0 where
  pub g : Geometry
  pub numbers : HasNumbers g asked
  pub part : SaysPart (created_line asked.id) old now
  pub holds : HoldsNew g now.disks

-- A disk failed: disk 0 is no log, or the disks hold the new array, and disk 0 is as it was until
-- each member's disk is new. Nothing was said.
pub record IsUnfinished (asked : Asked) (old now : Contents) : Type 0 where
  pub g : Geometry
  pub numbers : HasNumbers g asked
  pub said : now.said ≡ old.said
  pub disks : Creates g old.disks now.disks
  pub order : MembersFirst g old.disks now.disks

-- nothing was made where a disk was there already; else a disk failed
abbrev pub NotCreatedSaid : Asked → CreateFault → Contents → Contents → Type 0
NotCreatedSaid asked (creating.Exists disk) old now = now ≡ old
NotCreatedSaid asked creating.LogFault old now = IsUnfinished asked old now
NotCreatedSaid asked (creating.MemberFault first second) old now = IsUnfinished asked old now

abbrev pub CreateSaid : Asked → Ended → Contents → Contents → Type 0
CreateSaid asked Done old now = IsCreated asked old now
CreateSaid asked (BadGeometry field) old now = now ≡ old
CreateSaid asked (NotCreated why) old now = NotCreatedSaid asked why old now
CreateSaid asked Port old now = IsCreatedUnsaid asked old now
CreateSaid asked ended old now = ⊥
