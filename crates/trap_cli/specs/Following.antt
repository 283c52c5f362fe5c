-- A replica of an array that is given frames which `send` said of it.
use Rattle.std.specs.Prelude.{◌≡◌, ℕ, List, ◌++◌, map, All, Contains, IsTrue}
use Rattle.trap_bank.specs.Disks.{View}
use Rattle.trap_bank.specs.Steps.{Always}
use Rattle.trap_format.specs.declared.shape.Shape.{Shape}
use Rattle.trap_model.specs.declared.history.State.{State}
use Rattle.trap_model.specs.declared.numbers.Geometry.{Geometry}
use Rattle.trap_model.specs.Frame.{Sent, AreFrames}
use Rattle.trap_model.specs.Frame.Ending.{AtEnd}
use Rattle.trap_model.specs.Image.{volume}
use Rattle.trap_model.specs.Receiver.{gapless}
use Rattle.trap_model.specs.State.{IsValid, image_at, last}
use Rattle.trap_replica.specs.OnDisk.{ReplicaHolds}
use Rattle.trap_send.specs.Sending.{sent_frames}
use Rattle.trap_cli.specs.Sending.{IsInside}

-- The replica has as many blocks of the same size as the array, and every crash leaves it with the
-- image of the array's state after entry number n.
pub record BeginsCopy (g : Geometry) (s : State) (sh : Shape) (n time : ℕ) (v : View)
    : Type 0 where
  pub valid : IsValid g s
  pub volume : sh.volume ≡ volume g
  pub block : sh.block ≡ g.block
  pub inside : IsInside n s.first (last s)
  pub tells : IsTrue v.tells
  pub holds : Always v (ReplicaHolds sh n time (image_at s n))

-- The input is a stream of these frames, or a first part of one that was cut off. Each of them is
-- one that `send` says of the state's entries after number p: in any order, some of them
-- repeatedly, others never.
pub record BringsSent (g : Geometry) (s : State) (p : ℕ) (frames : List Sent) (input : List ℕ)
    : Type 0 where
  pub inside : IsInside p s.first (last s)
  pub cut : List ℕ
  pub stream : AreFrames g.block (input ++ cut) frames AtEnd
  pub each : All (Contains (sent_frames g.id s p)) frames

-- the last entry up to which the numbers of these frames go without a gap, after number n
abbrev pub gapless_of : ℕ → List Sent → ℕ
gapless_of n frames = gapless n (map (λ sent. sent.frame.seq) frames)
