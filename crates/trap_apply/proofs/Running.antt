-- A run over the frames of a stream, frame after frame.
use Rattle.std.proofs.Common.{◌≡◌, ℕ, ◌+◌, ◌^◌, ◌<◌, ◌≤◌, List, [], ◌∷◌, ◌++◌, length, length-append, false, Option, Some, None, Err, refl, sym, ap, subst, ◌∙◌, arith}
use Rattle.std.specs.Prelude.{All, count_by}
use Rattle.std.proofs.lemmas.List.Elements.{All-nil, All-push}
use Rattle.trap_bank.specs.Disks.{View}
use Rattle.trap_bank.specs.Stream.{Stream}
use Rattle.trap_format.specs.declared.shape.Shape.{Shape}
use Rattle.trap_frame.specs.Reading.{FindsNoFrame}
use Rattle.trap_frame.specs.declared.found.FrameFault.{FrameFault}
use Rattle.trap_bank.proofs.Filled.{counts_none}
use Rattle.trap_model.specs.Frame.{Sent}
use Rattle.trap_model.specs.Receiver.{answer, answers}
use Rattle.trap_model.specs.declared.arrival.Taken.{Taken}
use Rattle.trap_model.proofs.Frames.{length-spelled}
use Rattle.trap_replica.specs.Mounted.{MountedReplica, StaysBeside, arrival, receiver}
use Rattle.trap_replica.specs.declared.fault.ReplicaFault.{ReplicaFault}
use Rattle.trap_replica.specs.declared.fault.ReplicaFault.TheVariants.{Exists, NotAReplica, Damaged, DiskFault, ReadFault, ShortImage, LongImage, Stranger, NoBlock, Stopped, OutOfMemory}
use Rattle.trap_replica.proofs.OneFrame.{else_then, touch_then}
use Rattle.trap_apply.specs.Summary.{is_repeat, is_beyond_window}
use Rattle.trap_apply.specs.Counting.{AreCounts}
use Rattle.trap_apply.specs.Fitting.{FitsReplica, IsStrangers, IsBeyondVolume}
use Rattle.trap_apply.specs.Reached.{arrivals, received, HasReceived}
use Rattle.trap_apply.specs.Stepping.{FindsSent, FindsEnd, AnswersFrame, Rests, RefusesFrame, TakesNextFrame}
use Rattle.trap_apply.specs.Applies.{TakesFrames, EndsIn, EndsApplying, Applies}
use Rattle.trap_apply.specs.declared.counting.Counts.{Counts}
use Rattle.trap_apply.specs.declared.outcome.ApplyFault.{ApplyFault}
use Rattle.trap_apply.specs.declared.outcome.ApplyFault.TheVariants.{Stream as InStream, Replica as InReplica}
use Rattle.trap_apply.specs.declared.outcome.Outcome.{Outcome}
use Rattle.trap_apply.proofs.Receiving.{arrivals_more, counted_more, received_none, leaves_more, received_then, answer_then, calls_failed}
use Rattle.trap_apply.proofs.Delivered.{takes_more, delivers}

-- nothing was taken yet
takes_none : (size : ℕ) (s : Stream) → TakesFrames size [] 0 s s
takes_none size s = record { bytes = []; spelled = refl; took = record { counts = counts_none 0 s; most = omega arith } }

-- a frame has bytes
pub frame_bytes : (size : ℕ) (sent : Sent) (used used' : ℕ) (s s' : Stream) → FindsSent size sent used used' s s' → (used < used') × (used' ≤ 2 ^ 40)
frame_bytes size sent used used' s s' finds =
    let long = length-spelled size sent.frame sent.parity finds.0 finds.1 in
    let counted = finds.2.counts.counted in (omega (arith, long, counted), finds.2.most)

-- what was done elsewhere, one run after another
keeps_then : (a b c : MountedReplica) (old mid new : View) → StaysBeside a b old mid → StaysBeside b c mid new → StaysBeside a c old new
keeps_then a b c old mid new first second = record {
  shape = second.shape ∙ first.shape;
  usable = second.usable;
  sizes = λ e. second.sizes e ∙ first.sizes e;
  elsewhere = else_then old mid new first.elsewhere second.elsewhere;
  touches = touch_then old mid new first.elsewhere.tells first.touches second.touches;
}

-- These frames were taken so far, and the replica received them.
pub record HasRun (frames : List Sent) (c : Counts) (a b : MountedReplica) (old new : View) (used : ℕ) (from to : Stream) : Type 0 where
  pub taken : TakesFrames a.store.shape.block frames used from to
  pub fits : All (λ (sent : Sent). FitsReplica a.store.shape sent.frame) frames
  pub counts : (image : List (List ℕ)) → AreCounts (receiver a image) (arrivals frames) c
  pub few : c.frames ≤ used
  pub received : HasReceived frames a b old new
  pub stays : StaysBeside a b old new

pub run_none : (c : Counts) (a : MountedReplica) (v : View) (used : ℕ) (s : Stream) → used ≡ 0
    → c.frames ≡ 0 → c.repeats ≡ 0 → c.beyond ≡ 0 → a.is_stopped ≡ false → StaysBeside a a v v
    → HasRun [] c a a v v used s s
run_none c a v used s untaken count repeats beyond running keeps = record {
  taken = subst (λ (n : ℕ). TakesFrames a.store.shape.block [] n s s) (sym untaken) (takes_none a.store.shape.block s);
  fits = All-nil (λ (sent : Sent). FitsReplica a.store.shape sent.frame);
  counts = λ image. record { count = count; repeats = repeats; beyond = beyond };
  few = omega (arith, untaken, count);
  received = received_none a v running;
  stays = keeps;
}

module _ (frames : List Sent) (c : Counts) (a b m : MountedReplica) (old mid new : View) (used used' : ℕ) (from at to : Stream) (running : a.is_stopped ≡ false)
    (run : HasRun frames c a b old mid used from at) where
  pub finds_here : (sent : Sent) → FindsSent b.store.shape.block sent used used' at to → FindsSent a.store.shape.block sent used used' at to
  finds_here sent = subst (λ (s : Shape). FindsSent s.block sent used used' at to) run.stays.shape

  -- one frame more
  pub run_more : (d : Counts) (sent : Sent) (given : Taken) → FindsSent b.store.shape.block sent used used' at to → AnswersFrame sent given b m mid new → StaysBeside b m mid new
      → d.frames ≡ c.frames + 1 → d.repeats ≡ c.repeats + count_by is_repeat (given ∷ []) → d.beyond ≡ c.beyond + count_by is_beyond_window (given ∷ [])
      → HasRun (frames ++ sent ∷ []) d a m old new used' from to
  run_more d sent given finds answers keeps one repeats beyond = record {
    taken = takes_more a.store.shape.block frames sent used used' from at to run.taken (finds_here sent finds);
    fits = All-push (λ (s : Sent). FitsReplica a.store.shape s.frame) frames sent run.fits (subst (λ (s : Shape). FitsReplica s sent.frame) run.stays.shape answers.fits);
    counts = λ image. counted image;
    few = (let before = run.few in let more = (frame_bytes b.store.shape.block sent used used' at to finds).0 in omega (arith, one, before, more));
    received = received_then frames (sent ∷ []) a b m old mid new run.received run.stays.shape answers.received;
    stays = keeps_then a b m old mid new run.stays keeps;
  }
    where
      is : (image : List (List ℕ)) → given ≡ answer (received (receiver a image) frames) (arrival sent.frame sent.parity)
      is image = answer_then frames (sent ∷ []) a b m old mid new run.received run.stays.shape sent given answers.answer image

      counted : (image : List (List ℕ)) → AreCounts (receiver a image) (arrivals (frames ++ sent ∷ [])) d
      counted image = record {
        count = one ∙ ap (λ (n : ℕ). n + 1) (run.counts image).count ∙ sym (ap length (arrivals_more frames (sent ∷ [])) ∙ length-append (arrivals frames) (arrivals (sent ∷ [])));
        repeats = repeats ∙ ap (λ (n : ℕ). n + count_by is_repeat (given ∷ [])) (run.counts image).repeats ∙ sym (counted_more is_repeat (receiver a image) frames sent given (is image));
        beyond = beyond ∙ ap (λ (n : ℕ). n + count_by is_beyond_window (given ∷ [])) (run.counts image).beyond
            ∙ sym (counted_more is_beyond_window (receiver a image) frames sent given (is image));
      }

  -- its end
  pub run_ends : (outcome : Outcome) (fault : Option ApplyFault) → outcome.fault ≡ fault → outcome.summary.applied ≡ m.store.number → outcome.summary.held ≡ length m.held.frames
      → outcome.summary.frames ≡ c.frames → outcome.summary.repeats ≡ c.repeats → outcome.summary.beyond ≡ c.beyond
      → EndsApplying fault frames a m old new used at to → Applies a m outcome old new from to
  run_ends outcome fault is applied held count repeats beyond ends = record {
    frames = frames;
    used = used;
    mid = at;
    taken = run.taken;
    fits = run.fits;
    summary = λ image. record {
      applied = applied;
      count = count ∙ (run.counts image).count;
      held = held;
      repeats = repeats ∙ (run.counts image).repeats;
      beyond = beyond ∙ (run.counts image).beyond;
    };
    ends = subst (λ (f : Option ApplyFault). EndsApplying f frames a m old new used at to) (sym is) ends;
    any_moment = delivers frames a m old new used from at to run.taken run.fits fault ends;
  }

-- the run ended after these frames
module _ {B : Type 0} (view : B → View) (frames : List Sent) (c : Counts) (a b m : MountedReplica) (first between last : B) (used used' : ℕ) (from at to : Stream)
    (running : a.is_stopped ≡ false) (run : HasRun frames c a b (view first) (view between) used from at) where
  still : Rests b m between last → HasReceived frames a m (view first) (view last)
  still rests = subst (λ (k : MountedReplica). HasReceived frames a k (view first) (view last)) (sym rests.replica)
      (subst (λ k. HasReceived frames a b (view first) (view k)) (sym rests.bank) run.received)

  pub ends_done : FindsEnd b.store.shape.block used used' at to → Rests b m between last → EndsApplying None frames a m (view first) (view last) used at to
  ends_done finds rests = (used', subst (λ (s : Shape). FindsEnd s.block used used' at to) run.stays.shape finds, still rests)

  pub ends_stream : (fault : FrameFault) → FindsNoFrame b.store.shape.block fault used used' at to → Rests b m between last
      → EndsApplying (Some (InStream fault)) frames a m (view first) (view last) used at to
  ends_stream fault finds rests = (used', subst (λ (s : Shape). FindsNoFrame s.block fault used used' at to) run.stays.shape finds, still rests)

  ends_in : (why : ReplicaFault) (sent : Sent) → RefusesFrame view why sent b m between last → EndsIn why frames sent a m (view first) (view last)
  ends_in (Stranger id) sent refuses = (subst (λ (s : Shape). IsStrangers s sent.frame id) run.stays.shape refuses.0, still refuses.1)
  ends_in (NoBlock block) sent refuses = (subst (λ (s : Shape). IsBeyondVolume s sent.frame block) run.stays.shape refuses.0, still refuses.1)
  ends_in DiskFault sent fails = record {
    fits = subst (λ (s : Shape). FitsReplica s sent.frame) run.stays.shape fails.fits;
    cause = (let rose = fails.cause in let before = run.stays.elsewhere.faults 17 in omega (arith, rose, before));
    stopped = fails.stopped;
    most = calls_failed frames sent a b (view first) (view between) (view last) run.received fails.most;
    any_moment = leaves_more frames (sent ∷ []) a b m (view first) (view between) (view last) run.received run.stays.shape fails.any_moment;
  }
  ends_in (Exists disk) sent refuses = absurd refuses
  ends_in NotAReplica sent refuses = absurd refuses
  ends_in (Damaged offset) sent refuses = absurd refuses
  ends_in ReadFault sent refuses = absurd refuses
  ends_in (ShortImage short) sent refuses = absurd refuses
  ends_in (LongImage long) sent refuses = absurd refuses
  ends_in Stopped sent refuses = absurd refuses
  ends_in OutOfMemory sent refuses = absurd refuses

  pub ends_replica : (why : ReplicaFault) (sent : Sent) → FindsSent b.store.shape.block sent used used' at to → RefusesFrame view why sent b m between last
      → EndsApplying (Some (InReplica why)) frames a m (view first) (view last) used at to
  ends_replica why sent finds refuses = (sent, used', subst (λ (s : Shape). FindsSent s.block sent used used' at to) run.stays.shape finds, ends_in why sent refuses)

  pub keeps_all : StaysBeside b m (view between) (view last) → StaysBeside a m (view first) (view last)
  keeps_all keeps = keeps_then a b m (view first) (view between) (view last) run.stays keeps

  -- a fault, whichever
  pub ends_fault : (fault : ApplyFault) → TakesNextFrame view (Err fault) b m between last used used' at to → EndsApplying (Some fault) frames a m (view first) (view last) used at to
  ends_fault (InStream fault) next = ends_stream fault next.0 next.1
  ends_fault (InReplica why) next = ends_replica why next.0 next.1 next.2
