-- The frames that `apply` takes, of a source and of an input that it tells.
use Rattle.std.proofs.Common.{◌≡◌, ℕ, ◌^◌, ◌<◌, List, [], ◌∷◌, ◌++◌, length, length-append, Option, Some, None, refl, sym, ap, subst, ◌∙◌, arith}
use Rattle.std.proofs.lemmas.List.Elements.{All-head, All-tail}
use Rattle.std.specs.Io.KnownBytes.{Consumes}
use Rattle.trap_bank.specs.Disks.{View}
use Rattle.trap_bank.specs.Faults.{Rose}
use Rattle.trap_bank.specs.Stream.{Stream}
use Rattle.trap_bank.proofs.Rising.{rose_since}
use Rattle.trap_format.specs.declared.shape.Shape.{Shape}
use Rattle.trap_frame.specs.Reading.{FindsNoFrame}
use Rattle.trap_frame.specs.declared.found.FrameFault.{FrameFault}
use Rattle.trap_frame.specs.declared.found.FrameFault.TheVariants.{BadFrame, Cut, ReadFault as NotRead, TooLong}
use Rattle.trap_model.specs.Frame.{Sent, SpellsFrame, BeginsWithFrames, AreFrames}
use Rattle.trap_model.specs.Frame.Ending.{AtEnd, CutAt, BadAt}
use Rattle.trap_model.specs.declared.frame.Frame.{Frame}
use Rattle.trap_model.proofs.Frames.{SpellsFrame-apart, length-spelled, AreFrames-one}
use Rattle.trap_model.proofs.LogRecords.{front-same}
use Rattle.trap_replica.specs.Mounted.{MountedReplica}
use Rattle.trap_replica.specs.declared.fault.ReplicaFault.{ReplicaFault}
use Rattle.trap_replica.specs.declared.fault.ReplicaFault.TheVariants.{DiskFault, Stranger, NoBlock}
use Rattle.trap_apply.specs.Applies.{TakesFrames, BringsFrames, EndsIn, EndsApplying}
use Rattle.trap_apply.specs.Fitting.{FitsReplica}
use Rattle.trap_apply.specs.declared.outcome.ApplyFault.{ApplyFault}
use Rattle.trap_apply.specs.declared.outcome.ApplyFault.TheVariants.{Stream as InStream, Replica as InReplica}
use Rattle.trap_apply.proofs.Delivered.{begins_longer, takes_more, took_all}
use Rattle.trap_apply.proofs.Streams.{taken_end, taken_cut, taken_bad, taken_failed, taken_long, brought}
use Rattle.trap_remote.specs.Found.{TookBytes}
use Rattle.trap_remote.specs.Stream.{AreFor, LeavesOut, EndsReading, ReadsStream, EndsFrames, EndsInput, BeginsFor}

-- what was taken of known bytes
pub known_front : (input : List ℕ) (left new : Option (List ℕ)) (bytes : List ℕ) → left ≡ Some input → Consumes left new bytes → (rest : List ℕ) × (input ≡ bytes ++ rest)
known_front input None new bytes is consumes = absurd cc
known_front input (Some all) None bytes is consumes = absurd consumes
known_front input (Some all) (Some rest) bytes is consumes = (rest, cc)

-- frames that were brought begin the input
pub brings_begin : (s : Shape) (frames : List Sent) (input : List ℕ) (from to : Stream) → from.left ≡ Some input → BringsFrames s frames from to → BeginsFor s input frames
brings_begin s frames input from to known brings =
    let begins = brought s frames input from to known brings in
    record { rest = begins.0; begins = begins.1; fits = brings.fits }

pub brings_took : (s : Shape) (frames : List Sent) (from to : Stream) → BringsFrames s frames from to → TookBytes from to
brings_took s frames from to brings = record {
  bytes = brings.bytes;
  taken = brings.took.counts.left;
  given = brings.took.counts.given;
  most = brings.took.most;
  faults = brings.took.counts.faults;
  untold = brings.took.counts.untold;
}

-- why the replica left the next frame out
leaves_out : (why : ReplicaFault) (frames : List Sent) (next : Sent) (a b : MountedReplica) (old new : View) → EndsIn why frames next a b old new → LeavesOut a.store.shape why next.frame
leaves_out (Stranger id) frames next a b old new ends = ends.0
leaves_out (NoBlock block) frames next a b old new ends = ends.0
leaves_out DiskFault frames next a b old new ends = ends.fits
leaves_out other frames next a b old new ends = ends

module _ (frames : List Sent) (a b : MountedReplica) (old new : View) (used : ℕ) (from mid to : Stream)
    (taken : TakesFrames a.store.shape.block frames used from mid) (fits : AreFor a.store.shape frames) where
  pub brings_taken : BringsFrames a.store.shape frames from mid
  brings_taken = record { bytes = taken.bytes; took = took_all taken.bytes used from mid taken.took; rest = []; begins = taken.spelled; fits = fits }

  pub reads_stream : (fault : Option ApplyFault) → EndsApplying fault frames a b old new used mid to → ReadsStream a.store.shape frames fault from to
  reads_stream fault ends = record { used = used; mid = mid; taken = taken; fits = fits; ends = so fault ends }
    where
      so : (fault : Option ApplyFault) → EndsApplying fault frames a b old new used mid to → EndsReading a.store.shape fault used mid to
      so None ends = (ends.0, ends.1)
      so (Some (InStream fault)) ends = (ends.0, ends.1)
      so (Some (InReplica why)) ends = (ends.0, ends.1, ends.2, leaves_out why frames ends.0 a b old new ends.3)

  module _ (input : List ℕ) (known : from.left ≡ Some input) where
    ends_frames : (fault : FrameFault) (used' : ℕ) → FindsNoFrame a.store.shape.block fault used used' mid to → EndsFrames a.store.shape.block input frames fault from to
    ends_frames (BadFrame at) used' finds = taken_bad a.store.shape.block used used' input frames from mid to known taken at finds
    ends_frames (Cut at) used' finds = taken_cut a.store.shape.block used used' input frames from mid to known taken at finds
    ends_frames NotRead used' finds =
        let whole = taken_failed a.store.shape.block used used' frames from mid to taken finds in (
          whole.0,
          whole.1.counts.left,
          whole.2,
          rose_since from.faults mid.faults to.faults taken.took.counts.faults finds.3,
        )
    ends_frames TooLong used' finds =
        let whole = taken_long a.store.shape.block used used' frames from mid to taken finds in (whole.0, whole.1.counts.left, whole.2, whole.3)

    pub ends_input : (fault : Option ApplyFault) → EndsApplying fault frames a b old new used mid to → EndsInput a.store.shape input frames fault from to
    ends_input None ends = taken_end a.store.shape.block used ends.0 input frames from mid to known taken ends.1
    ends_input (Some (InStream fault)) ends = ends_frames fault ends.0 ends.1
    ends_input (Some (InReplica why)) ends =
        let more = takes_more a.store.shape.block frames ends.0 used ends.1 from mid to taken ends.2 in
        let front = known_front input from.left to.left more.bytes known more.took.counts.left in (
          ends.0,
          front.0,
          subst (λ (l : List ℕ). BeginsWithFrames a.store.shape.block (frames ++ ends.0 ∷ []) front.0 l) (sym front.1)
              (begins_longer a.store.shape.block (frames ++ ends.0 ∷ []) [] more.bytes front.0 more.spelled),
          leaves_out why frames ends.0 a b old new ends.3,
        )

-- a frame has bytes
no_frame : (size : ℕ) (sent : Sent) (bytes more stream : List ℕ) → SpellsFrame size sent.frame sent.parity bytes → stream ≡ bytes ++ more → stream ≡ [] → ⊥
no_frame size sent bytes more stream spells parts none =
    let long = length-spelled size sent.frame sent.parity bytes spells in
    let both = ap length (sym parts ∙ none) in
    omega (arith, long, both, length-append bytes more)

-- a frame in a stream of frames for the replica is for it too
next_fits : (s : Shape) (frames all : List Sent) (next : Sent) (rest stream : List ℕ) → s.block < 2 ^ 15 → BeginsWithFrames s.block (frames ++ next ∷ []) rest stream
    → BeginsWithFrames s.block all [] stream → AreFor s all → FitsReplica s next.frame
next_fits s [] [] next rest stream small begins none fits = absurd (no_frame s.block next begins.0 begins.1 stream begins.2 begins.3 none)
next_fits s [] (y ∷ all) next rest stream small begins ends fits =
    let same = SpellsFrame-apart s.block next.frame y.frame next.parity y.parity begins.0 ends.0 begins.1 ends.1 small begins.2 ends.2 (sym begins.3 ∙ ends.3) in
    subst (λ (f : Frame). FitsReplica s f) (sym same.0) (All-head (λ (sent : Sent). FitsReplica s sent.frame) y all fits)
next_fits s (x ∷ frames) [] next rest stream small begins none fits = absurd (no_frame s.block x begins.0 begins.1 stream begins.2 begins.3 none)
next_fits s (x ∷ frames) (y ∷ all) next rest stream small begins ends fits =
    let same = SpellsFrame-apart s.block x.frame y.frame x.parity y.parity begins.0 ends.0 begins.1 ends.1 small begins.2 ends.2 (sym begins.3 ∙ ends.3) in
    let behind = front-same begins.0 ends.0 begins.1 ends.1 (ap length same.2) (sym begins.3 ∙ ends.3) in
    next_fits s frames all next rest begins.1 small begins.4 (subst (λ (l : List ℕ). BeginsWithFrames s.block all [] l) (sym behind.1) ends.4)
    (All-tail (λ (sent : Sent). FitsReplica s sent.frame) y all fits)

-- an input of frames for the replica alone ends in no fault of a stream or of a frame
module _ (s : Shape) (input : List ℕ) (all : List Sent) (are : AreFrames s.block input all AtEnd) (fits : AreFor s all) (short : length input < 2 ^ 40) where
  small : s.block < 2 ^ 15
  small = omega (arith, s.within.block_most)

  pub one_stream : (frames : List Sent) → AreFrames s.block input frames AtEnd → frames ≡ all
  one_stream frames also = (AreFrames-one s.block input frames all AtEnd AtEnd small also are).0

  no_stream_fault : (frames : List Sent) (fault : FrameFault) (from to : Stream) → from.left ≡ Some input → (Rose from.faults to.faults → ⊥) → EndsFrames s.block input frames fault from to → ⊥
  no_stream_fault frames (BadFrame at) from to known read ends = let one = (AreFrames-one s.block input frames all (BadAt at) AtEnd small ends are).1 in cc
  no_stream_fault frames (Cut at) from to known read ends = let one = (AreFrames-one s.block input frames all (CutAt at) AtEnd small ends are).1 in cc
  no_stream_fault frames NotRead from to known read ends = read ends.3
  no_stream_fault frames TooLong from to known read ends =
      let front = known_front input from.left to.left ends.0 known ends.1 in
      let parts = ap length front.1 in
      let long = ends.3 in
      omega (arith, parts, long, short, length-append ends.0 front.0)

  no_refusal : (why : ReplicaFault) (next : Sent) → (why ≡ DiskFault → ⊥) → FitsReplica s next.frame → LeavesOut s why next.frame → ⊥
  no_refusal (Stranger id) next other is out = out.other (sym out.named ∙ is.own)
  no_refusal (NoBlock block) next other is out = let beyond = out.beyond in let named = out.named in let inside = is.inside in omega (arith, beyond, named, inside)
  no_refusal DiskFault next other is out = other refl
  no_refusal why next other is out = absurd out

  pub no_fault : (frames : List Sent) (why : ApplyFault) (from to : Stream) → from.left ≡ Some input → (Rose from.faults to.faults → ⊥) → (why ≡ InReplica DiskFault → ⊥)
      → EndsInput s input frames (Some why) from to → ⊥
  no_fault frames (InStream fault) from to known read other ends = no_stream_fault frames fault from to known read ends
  no_fault frames (InReplica why) from to known read other ends =
      no_refusal why ends.0 (λ is. other (ap InReplica is)) (next_fits s frames all ends.0 ends.1 input small ends.2
      (subst (λ (l : List ℕ). BeginsWithFrames s.block all l input) are.ends are.begins) fits) ends.3
