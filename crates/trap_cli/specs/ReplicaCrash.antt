-- What a crash at any moment of a replica's command leaves.
use Rattle.std.specs.Prelude.{◌≡◌, ◌≢◌, ◌⊎◌, ℕ, List, ◌++◌, Some, None}
use Rattle.trap_bank.specs.Disks.{Disks, View}
use Rattle.trap_format.specs.declared.limits.Field.{Field}
use Rattle.trap_format.specs.declared.shape.Shape.{Shape}
use Rattle.trap_model.specs.Frame.{Sent}
use Rattle.trap_model.specs.Receiver.{Receiver}
use Rattle.trap_replica.specs.Creating.{IsReplicaGateOff}
use Rattle.trap_replica.specs.Exporting.{image_bytes}
use Rattle.trap_apply.specs.Reached.{arrivals, HoldsReached}
use Rattle.trap_remote.specs.Receiving.{HoldsReceived, received_line}
use Rattle.trap_remote.specs.Making.{first_broken_in, HoldsAsked}
use Rattle.trap_remote.specs.Ended.{loaded_line}
use Rattle.trap_remote.specs.Loading.{HasImageSize, input_image}
use Rattle.trap_remote.specs.Stream.{BeginsFor}
use Rattle.trap_remote.specs.declared.outcome.AskedReplica.{AskedReplica}
use Rattle.trap_remote.specs.declared.outcome.Start.{Start}
use Rattle.trap_cli.specs.Left.{IsFaultFront, IsOutputFront, LeftOnEntry}

-- Where these bytes were said: no disk changed where a number breaks its limit, or disk 17 was
-- there. Otherwise the gate of disk 17 is off, or it holds the image; it holds it where the whole
-- line was said.
pub record MakingLeaves (asked : AskedReplica) (number time : ℕ) (image : Shape → List (List ℕ))
    (line : List ℕ) (old : View) (p : List ℕ) (disks : Disks) : Type 0 where
  pub output : IsOutputFront line p
  pub broken : (field : Field) → first_broken_in asked number ≡ Some field → LeftOnEntry old disks
  pub there : old.sizes 17 ≢ None → LeftOnEntry old disks
  pub made : first_broken_in asked number ≡ None → old.sizes 17 ≡ None
      → IsReplicaGateOff disks ⊎ HoldsAsked asked number time image disks
  pub whole : (more : List ℕ) → p ≡ line ++ more → HoldsAsked asked number time image disks

-- So it is with a replica that is loaded. But the gate of disk 17 is off, unless the input has as
-- many bytes as the image.
pub record LoadingLeaves (asked : AskedReplica) (start : Start) (input : List ℕ) (old : View)
    (p : List ℕ) (disks : Disks) : Type 0 where
  pub made : MakingLeaves asked start.seq start.time (input_image input) (loaded_line start.seq)
      old p disks
  pub whole : first_broken_in asked start.seq ≡ None → old.sizes 17 ≡ None
      → IsReplicaGateOff disks ⊎ HasImageSize asked input

-- Where these bytes were said, the replica holds what a receiver has that was stopped while it took
-- first frames of the input, each of them for the replica. Where their whole summary was said, it
-- holds exactly what the receiver has after them.
pub record FramesLeave (s : Shape) (r : Receiver) (input p : List ℕ) (disks : Disks)
    : Type 0 where
  pub frames : List Sent
  pub begins : BeginsFor s input frames
  pub reached : HoldsReached s r (arrivals frames) disks
  pub output : IsOutputFront (received_line r frames) p
  pub whole : (more : List ℕ) → p ≡ received_line r frames ++ more → HoldsReceived s r frames disks

-- A crash on entry might have left the disks, and no more than a front of a fault line was said; or
-- frames were taken.
abbrev pub ApplyLeaves : Shape → Receiver → List ℕ → View → List ℕ → Disks → Type 0
ApplyLeaves s r input old p disks =
    (IsFaultFront p × LeftOnEntry old disks) ⊎ FramesLeave s r input p disks

-- a crash on entry might have left the disks, and a first part of the image was said
abbrev pub ExportLeaves : List (List ℕ) → View → List ℕ → Disks → Type 0
ExportLeaves image old p disks = IsOutputFront (image_bytes image) p × LeftOnEntry old disks
