-- The frames with which the bytes begin that were taken of a source.
use Rattle.std.proofs.Common.{◌≡◌, ℕ, List, [], ◌∷◌, ◌++◌, length, append-nil, append_assoc, Option, Some, None, refl, sym, ap, subst, ◌∙◌, arith}
use Rattle.std.specs.Prelude.{All}
use Rattle.std.proofs.lemmas.List.Elements.{All-push}
use Rattle.trap_bank.specs.Disks.{View}
use Rattle.trap_bank.specs.Stream.{Stream}
use Rattle.trap_format.specs.declared.shape.Shape.{Shape}
use Rattle.trap_frame.specs.Filling.{TakesBytes}
use Rattle.trap_frame.specs.Reading.{FindsNoFrame}
use Rattle.trap_frame.specs.declared.found.FrameFault.{FrameFault}
use Rattle.trap_frame.specs.declared.found.FrameFault.TheVariants.{BadFrame, Cut, ReadFault as NotRead, TooLong}
use Rattle.trap_frame.proofs.Taking.{took_then}
use Rattle.trap_model.specs.Frame.{Sent, SpellsFrame, BeginsWithFrames}
use Rattle.trap_replica.specs.Mounted.{MountedReplica}
use Rattle.trap_replica.specs.declared.fault.ReplicaFault.{ReplicaFault}
use Rattle.trap_replica.specs.declared.fault.ReplicaFault.TheVariants.{Exists, NotAReplica, Damaged, DiskFault, ReadFault, ShortImage, LongImage, Stranger, NoBlock, Stopped, OutOfMemory}
use Rattle.trap_apply.specs.Fitting.{FitsReplica}
use Rattle.trap_apply.specs.Reached.{LeavesReached}
use Rattle.trap_apply.specs.Stepping.{FindsSent}
use Rattle.trap_apply.specs.Applies.{TakesFrames, BringsFrames, EndsIn, EndsApplying}
use Rattle.trap_apply.specs.declared.outcome.ApplyFault.{ApplyFault}
use Rattle.trap_apply.specs.declared.outcome.ApplyFault.TheVariants.{Stream as InStream, Replica as InReplica}

-- more bytes after the same frames
pub begins_longer : (size : ℕ) (frames : List Sent) (rest bytes more : List ℕ) → BeginsWithFrames size frames rest bytes → BeginsWithFrames size frames (rest ++ more) (bytes ++ more)
begins_longer size [] rest bytes more none = ap (λ (l : List ℕ). l ++ more) none
begins_longer size (sent ∷ frames) rest bytes more begins = (
  begins.0,
  begins.1 ++ more,
  begins.2,
  ap (λ (l : List ℕ). l ++ more) begins.3 ∙ append_assoc begins.0 begins.1 more,
  begins_longer size frames rest begins.1 more begins.4,
)

-- one frame more was taken
begins_more : (size : ℕ) (frames : List Sent) (sent : Sent) (bytes more : List ℕ) → BeginsWithFrames size frames [] bytes → SpellsFrame size sent.frame sent.parity more
    → BeginsWithFrames size (frames ++ sent ∷ []) [] (bytes ++ more)
begins_more size [] sent bytes more none spells = (more, [], spells, ap (λ (l : List ℕ). l ++ more) none ∙ sym (append-nil more), refl)
begins_more size (first ∷ frames) sent bytes more begins spells = (
  begins.0,
  begins.1 ++ more,
  begins.2,
  ap (λ (l : List ℕ). l ++ more) begins.3 ∙ append_assoc begins.0 begins.1 more,
  begins_more size frames sent begins.1 more begins.4 spells,
)

pub takes_more : (size : ℕ) (frames : List Sent) (sent : Sent) (used used' : ℕ) (s t r : Stream) → TakesFrames size frames used s t → FindsSent size sent used used' t r
    → TakesFrames size (frames ++ sent ∷ []) used' s r
takes_more size frames sent used used' s t r taken finds = record {
  bytes = taken.bytes ++ finds.0;
  spelled = begins_more size frames sent taken.bytes finds.0 taken.spelled finds.1;
  took = took_then taken.bytes finds.0 0 used used' s t r taken.took finds.2;
}

-- all that was taken, counted by its length
pub took_all : (bytes : List ℕ) (used : ℕ) (s s' : Stream) → TakesBytes bytes 0 used s s' → TakesBytes bytes 0 (length bytes) s s'
took_all bytes used s s' took = let counted = took.counts.counted in let same : used ≡ length bytes = omega (arith, counted) in subst (λ (n : ℕ). TakesBytes bytes 0 n s s') same took

module _ (s : Shape) (frames : List Sent) (used : ℕ) (from mid to : Stream) (taken : TakesFrames s.block frames used from mid) (fits : All (λ (sent : Sent). FitsReplica s sent.frame) frames) where
  -- further bytes were taken
  brings : (used' : ℕ) (more : List ℕ) → TakesBytes more used used' mid to → BringsFrames s frames from to
  brings used' more took = record {
    bytes = taken.bytes ++ more;
    took = took_all (taken.bytes ++ more) used' from to (took_then taken.bytes more 0 used used' from mid to taken.took took);
    rest = more;
    begins = begins_longer s.block frames [] taken.bytes more taken.spelled;
    fits = fits;
  }

  -- no frame came, and why
  brings_no_more : (fault : FrameFault) (used' : ℕ) → FindsNoFrame s.block fault used used' mid to → BringsFrames s frames from to
  brings_no_more (BadFrame at) used' finds = brings used' finds.1.0 finds.1.2
  brings_no_more (Cut at) used' finds = brings used' finds.1.0 finds.1.2
  brings_no_more NotRead used' finds = brings used' finds.0 finds.2
  brings_no_more TooLong used' finds = brings used' finds.0 finds.2

  -- one frame more came
  brings_more : (next : Sent) (used' : ℕ) → FitsReplica s next.frame → FindsSent s.block next used used' mid to → BringsFrames s (frames ++ next ∷ []) from to
  brings_more next used' fit finds =
      let all = takes_more s.block frames next used used' from mid to taken finds in
      record {
        bytes = all.bytes;
        took = took_all all.bytes used' from to all.took;
        rest = [];
        begins = all.spelled;
        fits = All-push (λ (sent : Sent). FitsReplica s sent.frame) frames next fits fit;
      }

module _ (frames : List Sent) (a b : MountedReplica) (old new : View) (used : ℕ) (from mid to : Stream)
    (taken : TakesFrames a.store.shape.block frames used from mid) (fits : All (λ (sent : Sent). FitsReplica a.store.shape sent.frame) frames) where
  abbrev Delivers : Type 0
  Delivers = (delivered : List Sent) × BringsFrames a.store.shape delivered from to × LeavesReached delivered a old new

  -- the replica refused the next, or its disk failed
  delivers_in : (why : ReplicaFault) (next : Sent) (used' : ℕ) → FindsSent a.store.shape.block next used used' mid to → EndsIn why frames next a b old new → Delivers
  delivers_in (Stranger id) next used' finds ends = (frames, brings a.store.shape frames used from mid to taken fits used' finds.0 finds.2, ends.1.any_moment)
  delivers_in (NoBlock block) next used' finds ends = (frames, brings a.store.shape frames used from mid to taken fits used' finds.0 finds.2, ends.1.any_moment)
  delivers_in DiskFault next used' finds fails = (frames ++ next ∷ [], brings_more a.store.shape frames used from mid to taken fits next used' fails.fits finds, fails.any_moment)
  delivers_in (Exists disk) next used' finds ends = absurd ends
  delivers_in NotAReplica next used' finds ends = absurd ends
  delivers_in (Damaged offset) next used' finds ends = absurd ends
  delivers_in ReadFault next used' finds ends = absurd ends
  delivers_in (ShortImage at) next used' finds ends = absurd ends
  delivers_in (LongImage at) next used' finds ends = absurd ends
  delivers_in Stopped next used' finds ends = absurd ends
  delivers_in OutOfMemory next used' finds ends = absurd ends

  -- whatever ended the run
  pub delivers : (fault : Option ApplyFault) → EndsApplying fault frames a b old new used mid to → Delivers
  delivers None ends = (frames, brings a.store.shape frames used from mid to taken fits ends.0 [] ends.1.0, ends.2.any_moment)
  delivers (Some (InStream fault)) ends = (frames, brings_no_more a.store.shape frames used from mid to taken fits fault ends.0 ends.1, ends.2.any_moment)
  delivers (Some (InReplica why)) ends = delivers_in why ends.0 ends.1 ends.2 ends.3
