-- A replica that is given frames which `send` said of an array has the array's images.
use Rattle.std.proofs.Common.{◌≡◌, inl, inr, ℕ, ◌-◌, ◌^◌, ◌<◌, ◌≤◌, List, [], ◌∷◌, ◌++◌, length, map, take, Some, IsTrue, refl, sym, ap, ap₂, subst, ◌∙◌, arith, length-append, append-nil}
use Rattle.std.specs.Prelude.{All, Contains}
use Rattle.std.proofs.lemmas.List.Elements.{All-cons, All-nil, All-head, All-tail, All-contains_itself}
use Rattle.trap_bank.specs.Disks.{Contents, Disks, View}
use Rattle.trap_bank.specs.Stream.{Stream}
use Rattle.trap_format.specs.declared.shape.Shape.{Shape}
use Rattle.trap_mount.specs.declared.fault.MountFault.{MountFault}
use Rattle.trap_mount.specs.declared.fault.MountFault.TheVariants as mounting
use Rattle.trap_model.specs.declared.frame.Frame.{Frame}
use Rattle.trap_model.specs.declared.history.Entry.{Entry}
use Rattle.trap_model.specs.declared.history.State.{State}
use Rattle.trap_model.specs.declared.numbers.Geometry.{Geometry}
use Rattle.trap_model.specs.Frame.{Sent, SpellsFrame, BeginsWithFrames, AreFrames}
use Rattle.trap_model.specs.Frame.Ending.{AtEnd}
use Rattle.trap_model.specs.Receiver.{Receiver, starting, gapless}
use Rattle.trap_model.specs.State.{NeverFall, time_after, above, image_at, last}
use Rattle.trap_model.proofs.Frames.{SpellsFrame-apart, length-spelled, AreFrames-one}
use Rattle.trap_model.proofs.LogRecords.{front-same}
use Rattle.trap_model.proofs.Windows.{gapless-longest}
use Rattle.trap_replica.specs.OnDisk.{ReplicaHolds}
use Rattle.trap_replica.specs.declared.fault.ReplicaFault.{ReplicaFault}
use Rattle.trap_replica.specs.declared.fault.ReplicaFault.TheVariants as replica
use Rattle.trap_frame.specs.declared.found.FrameFault.{FrameFault}
use Rattle.trap_frame.specs.declared.found.FrameFault.TheVariants as framing
use Rattle.trap_apply.specs.Reached.{received}
use Rattle.trap_apply.specs.declared.outcome.ApplyFault.TheVariants.{Stream as InStream, Replica as InReplica}
use Rattle.trap_apply.proofs.Bounds.{gapless_longer}
use Rattle.trap_apply.proofs.Delivered.{begins_longer}
use Rattle.trap_array.specs.Holding.{Holds}
use Rattle.trap_send.specs.Sending.{sent_frames, sent_text}
use Rattle.trap_send.specs.Copying.{copied_time, HoldsCopy}
use Rattle.trap_send.proofs.Copies.{copied, copied_all}
use Rattle.trap_send.proofs.SentFrames.{sent_stream}
use Rattle.trap_remote.specs.Applying.{ApplyEnds}
use Rattle.trap_remote.specs.Receiving.{HoldsReceived}
use Rattle.trap_remote.specs.declared.outcome.ReplicaEnd.{ReplicaEnd}
use Rattle.trap_remote.specs.declared.outcome.ReplicaEnd.TheVariants as ending
use Rattle.trap_cli.specs.Command.{command_send, command_apply}
use Rattle.trap_cli.specs.Ended.{status_of, last_line}
use Rattle.trap_cli.specs.Faults.{mount_status, replica_status, frame_status}
use Rattle.trap_cli.specs.Following.{BeginsCopy, BringsSent, gapless_of}
use Rattle.trap_cli.specs.ReplicaCrash.{ApplyLeaves}
use Rattle.trap_cli.specs.Run.{EndsAs, SaysLast}
use Rattle.trap_cli.specs.Said.{SaidAndHeld}
use Rattle.trap_cli.specs.Sending.{IsInside, SendSaid}
use Rattle.trap_cli.specs.declared.outcome.Ended.{Ended}
use Rattle.trap_cli.specs.declared.outcome.Ended.TheVariants.{Done, NotMounted, NotRetained, Stopped, Port, Memory, Replica}
use Rattle.trap_array.specs.declared.fault.Denied.TheVariants as denied
use Rattle.trap_session.specs.declared.outcome.SessionFault.TheVariants as serving
use Rattle.trap_cli.proofs.Saying.{nothing_more}

-- ---- frames that begin a stream
abbrev sent_of : Frame → List ℕ → Sent
sent_of f p = record { frame = f; parity = p }

-- a frame has bytes
no_frame : (size : ℕ) (sent : Sent) (bytes more stream : List ℕ) → SpellsFrame size sent.frame sent.parity bytes → stream ≡ bytes ++ more → stream ≡ [] → ⊥
no_frame size sent bytes more stream spells parts none =
    let long = length-spelled size sent.frame sent.parity bytes spells in
    let both = ap length (sym parts ∙ none) in
    omega (arith, long, both, length-append bytes more)

-- frames that begin a whole stream are the first of its frames
begins_front : (size : ℕ) (a b : List Sent) (r stream : List ℕ) → size < 2 ^ 15 → BeginsWithFrames size a r stream → BeginsWithFrames size b [] stream
    → (others : List Sent) × (b ≡ a ++ others)
begins_front size [] b r stream small begins ends = (b, refl)
begins_front size (x ∷ a) [] r stream small begins none = absurd (no_frame size x begins.0 begins.1 stream begins.2 begins.3 none)
begins_front size (x ∷ a) (y ∷ b) r stream small begins ends =
    let same = SpellsFrame-apart size x.frame y.frame x.parity y.parity begins.0 ends.0 begins.1 ends.1 small begins.2 ends.2 (sym begins.3 ∙ ends.3) in
    let behind = front-same begins.0 ends.0 begins.1 ends.1 (ap length same.2) (sym begins.3 ∙ ends.3) in
    let later = begins_front size a b r begins.1 small begins.4 (subst (λ (l : List ℕ). BeginsWithFrames size b [] l) (sym behind.1) ends.4) in
    (later.0, ap₂ (λ (z : Sent) (l : List Sent). z ∷ l) (sym (ap₂ sent_of same.0 same.1)) later.1)

All_front : (P : Sent → Type 0) (a b : List Sent) → All P (a ++ b) → All P a
All_front P [] b all = All-nil P
All_front P (x ∷ a) b all = All-cons P x a (All-head P x (a ++ b) all) (All_front P a b (All-tail P x (a ++ b) all))

seqs_then : (a b : List Sent) → map (λ (sent : Sent). sent.frame.seq) (a ++ b) ≡ map (λ (sent : Sent). sent.frame.seq) a ++ map (λ (sent : Sent). sent.frame.seq) b
seqs_then [] b = refl
seqs_then (x ∷ a) b = ap (λ (l : List ℕ). x.frame.seq ∷ l) (seqs_then a b)

gapless_front : (n : ℕ) (a others : List Sent) → gapless_of n a ≤ gapless_of n (a ++ others)
gapless_front n a others =
    subst (λ (numbers : List ℕ). gapless_of n a ≤ gapless n numbers) (sym (seqs_then a others))
    (gapless_longer n (map (λ (sent : Sent). sent.frame.seq) a) (map (λ (sent : Sent). sent.frame.seq) others))

module _ (g : Geometry) (s : State) (sh : Shape) (n time : ℕ) (v : View) (begins : BeginsCopy g s sh n time v) where
  small : sh.block < 2 ^ 15
  small = omega (arith, sh.within.block_most)

  -- where nothing was taken it has what it had
  still : (most : ℕ) (disks : Disks) → n ≤ most → ReplicaHolds sh n time (image_at s n) disks → HoldsCopy sh s time n most disks
  still most disks over holds =
      let none : 0 ≡ n - n = omega arith in
      record {
        number = n;
        holds = subst (λ (t : ℕ). ReplicaHolds sh n t (image_at s n) disks) (ap (λ (k : ℕ). time_after time (take k (above s n))) none) holds;
        above = omega arith;
        below = over;
      }

  wider : (least most : ℕ) (disks : Disks) → least ≤ most → HoldsCopy sh s time n least disks → HoldsCopy sh s time n most disks
  wider least most disks more holds = record { number = holds.number; holds = holds.holds; above = holds.above; below = (let below = holds.below in omega (arith, more, below)) }

  module _ (p : ℕ) (frames : List Sent) (input : List ℕ) (brings : BringsSent g s p frames input) where
    -- a crash in a run of `apply`
    pub follows_stopped : (said : List ℕ) (left : Disks) → ApplyLeaves sh (starting n time (image_at s n)) input v said left
        → HoldsCopy sh s time n (gapless_of n frames) left
    follows_stopped said left (inl (front, entry)) =
        still (gapless_of n frames) left ((gapless-longest n (map (λ sent. sent.frame.seq) frames)).least)
        (begins.holds (record { disks = left; said = v.now.said }) (record { told = begins.tells; torn = record { disks = entry; said = refl } }))
    follows_stopped said left (inr leaves) =
        let longer = begins_longer sh.block leaves.frames leaves.begins.rest input brings.cut leaves.begins.begins in
        let whole = subst (λ (rest : List ℕ). BeginsWithFrames g.block frames rest (input ++ brings.cut)) brings.stream.ends brings.stream.begins in
        let front = begins_front sh.block leaves.frames frames (leaves.begins.rest ++ brings.cut) (input ++ brings.cut) small longer
        (subst (λ (size : ℕ). BeginsWithFrames size frames [] (input ++ brings.cut)) (sym begins.block) whole) in
        let each = All_front (Contains (sent_frames g.id s p)) leaves.frames front.0 (subst (λ (l : List Sent). All (Contains (sent_frames g.id s p)) l) front.1 brings.each) in
        subst (λ (l : List Sent). HoldsCopy sh s time n (gapless_of n l) left) (sym front.1)
        (wider (gapless_of n leaves.frames) (gapless_of n (leaves.frames ++ front.0)) left (gapless_front n leaves.frames front.0)
        (copied g sh s n begins.valid begins.volume begins.block begins.inside.0 begins.inside.1 g.id p time leaves.frames left brings.inside.0 brings.inside.1 each leaves.reached))

    -- a run of `apply` that took all frames
    pub follows_all : (all : List Sent) (disks : Disks) → AreFrames g.block input frames AtEnd → AreFrames sh.block input all AtEnd
        → HoldsReceived sh (starting n time (image_at s n)) all disks
        → ReplicaHolds sh (gapless_of n frames) (copied_time s n time (gapless_of n frames)) (image_at s (gapless_of n frames)) disks
    follows_all all disks are also holds =
        let first = starting n time (image_at s n) in
        let k = gapless_of n frames in
        let same = (AreFrames-one sh.block input all frames AtEnd AtEnd small also (subst (λ (size : ℕ). AreFrames size input frames AtEnd) (sym begins.block) are)).0 in
        let has = copied_all g sh s n begins.valid begins.volume begins.block begins.inside.0 begins.inside.1 g.id p time frames brings.inside.0 brings.inside.1 brings.each in
        let q = received first frames in
        let here : ReplicaHolds sh q.number q.time q.image disks = subst (λ (l : List Sent). HoldsReceived sh first l disks) same holds in
        subst (λ (i : List (List ℕ)). ReplicaHolds sh k (copied_time s n time k) i disks) has.image
        (subst (λ (t : ℕ). ReplicaHolds sh k t q.image disks) has.time (subst (λ (m : ℕ). ReplicaHolds sh m q.time q.image disks) has.number here))

-- ---- what a run that ended with 0 said and left
mount_some : (why : MountFault) → ◌≡◌ {A = ℕ} 0 (mount_status why) → ⊥
mount_some mounting.NotAnArray is = cc is
mount_some (mounting.BadVersion version) is = cc is
mount_some (mounting.WrongMember member) is = cc is
mount_some (mounting.TooManyLost first second) is = cc is
mount_some (mounting.Damaged offset) is = cc is
mount_some mounting.LogFault is = cc is
mount_some (mounting.MemberFault first second) is = cc is
mount_some mounting.OutOfMemory is = cc is

replica_some : (why : ReplicaFault) → ◌≡◌ {A = ℕ} 0 (replica_status why) → ⊥
replica_some (replica.Exists disk) is = cc is
replica_some replica.NotAReplica is = cc is
replica_some (replica.Damaged offset) is = cc is
replica_some replica.DiskFault is = cc is
replica_some replica.ReadFault is = cc is
replica_some (replica.ShortImage at) is = cc is
replica_some (replica.LongImage at) is = cc is
replica_some (replica.Stranger id) is = cc is
replica_some (replica.NoBlock block) is = cc is
replica_some replica.Stopped is = cc is
replica_some replica.OutOfMemory is = cc is

frame_some : (why : FrameFault) → ◌≡◌ {A = ℕ} 0 (frame_status why) → ⊥
frame_some (framing.BadFrame at) is = cc is
frame_some (framing.Cut at) is = cc is
frame_some framing.ReadFault is = cc is
frame_some framing.TooLong is = cc is

-- `send` said the frames
all_sent : (g : Geometry) (s : State) (p : ℕ) (ended : Ended) (old now : Contents) → 0 ≡ status_of ended → SendSaid g s p ended old now
    → (ended ≡ Done) × IsInside p s.first (last s) × (now.said ≡ old.said ++ sent_text g.id s p)
all_sent g s p Done old now number says = (refl, says.0, says.1.said)
all_sent g s p (NotMounted why) old now number says = absurd (mount_some why number)
all_sent g s p (NotRetained why) old now number says = absurd (cc number)
all_sent g s p (Stopped (serving.Array denied.LogFault)) old now number says = absurd (cc number)
all_sent g s p Port old now number says = absurd (cc number)
all_sent g s p Memory old now number says = absurd (cc number)
all_sent g s p ended old now number says = absurd says

-- `apply` took all frames of the input
all_applied : (s : Shape) (r : Receiver) (input : List ℕ) (end : ReplicaEnd) (old now : Contents) (from to : Stream) → 0 ≡ status_of (Replica end)
    → ApplyEnds s r input end old now from to → (all : List Sent) × AreFrames s.block input all AtEnd × HoldsReceived s r all now.disks
all_applied s r input ending.Done old now from to number ends = (ends.frames, ends.applied.ends, ends.applied.holds)
all_applied s r input ending.Memory old now from to number ends = absurd (cc number)
all_applied s r input ending.Port old now from to number ends = absurd (cc number)
all_applied s r input (ending.NoReplica why) old now from to number ends = absurd (replica_some why number)
all_applied s r input (ending.NotApplied (InStream fault)) old now from to number ends = absurd (frame_some fault number)
all_applied s r input (ending.NotApplied (InReplica why)) old now from to number ends = absurd (replica_some why number)
all_applied s r input end old now from to number ends = absurd ends

-- ---- the frames of a state that disks hold
time_least : (before : ℕ) (entries : List Entry) → NeverFall before entries → before ≤ time_after before entries
time_least before [] falls = omega arith
time_least before (x ∷ entries) falls = let least = time_least x.time entries falls.1 in let next = falls.0 in omega (arith, least, next)

times_fit : (before : ℕ) (entries : List Entry) → NeverFall before entries → time_after before entries < 2 ^ 64 → All (λ (e : Entry). e.time < 2 ^ 64) entries
times_fit before [] falls fits = All-nil (λ (e : Entry). e.time < 2 ^ 64)
times_fit before (x ∷ entries) falls fits = All-cons (λ (e : Entry). e.time < 2 ^ 64) x entries
    (let least = time_least x.time entries falls.1 in omega (arith, least, fits)) (times_fit x.time entries falls.1 fits)

brings_all : (g : Geometry) (s : State) (p : ℕ) (disks : Disks) → Holds g s disks → IsInside p s.first (last s) → BringsSent g s p (sent_frames g.id s p) (sent_text g.id s p)
brings_all g s p disks holds inside =
    let fits = holds.by.fits in
    let text = sent_text g.id s p in
    let least = fits.head.head.time_fits in
    let same = fits.head.last_time in
    record {
      inside = inside;
      cut = [];
      stream = subst (λ (l : List ℕ). AreFrames g.block l (sent_frames g.id s p) AtEnd) (sym (append-nil text))
          (sent_stream g g.id s p fits.valid fits.log.id (times_fit s.base_time s.entries fits.valid.times (omega (arith, least, same))) inside.0 inside.1);
      each = All-contains_itself (sent_frames g.id s p);
    }

-- after a run of `send`
pub sends_frames : (g : Geometry) (s : State) (p : ℕ) (old new : View) (from to : Stream) (ended : Ended) → IsTrue old.tells → Holds g s old.now.disks
    → EndsAs 0 (command_send p) ended old new from to
    → (new.now.said ≡ old.now.said ++ sent_text g.id s p) × BringsSent g s p (sent_frames g.id s p) (sent_text g.id s p)
sends_frames g s p old new from to ended told holds ends =
    let then = ends.told told in
    let all = all_sent g s p ended old.now (record { disks = new.now.disks; said = then.before }) ends.number (then.stops g s told holds) in
    let last = subst (λ (ended : Ended). SaysLast (last_line ended) then.before old new) all.0 then.last in
    (nothing_more new.now.said then.before last.part last.rest last.whole last.said ∙ all.2, brings_all g s p old.now.disks holds all.1)

-- after a run of `apply`
pub applies_frames : (s : Shape) (n time : ℕ) (image : List (List ℕ)) (input : List ℕ) (old new : View) (from to : Stream) (ended : Ended) → IsTrue old.tells
    → ReplicaHolds s n time image old.now.disks → from.left ≡ Some input → EndsAs 0 command_apply ended old new from to
    → (all : List Sent) × AreFrames s.block input all AtEnd × HoldsReceived s (starting n time image) all new.now.disks
applies_frames s n time image input old new from to ended told holds known ends =
    let then = ends.told told in
    by ended (record { disks = new.now.disks; said = then.before }) ends.number then.stops
  where
    by : (ended : Ended) (now : Contents) → 0 ≡ status_of ended → SaidAndHeld command_apply ended old now from to
        → (all : List Sent) × AreFrames s.block input all AtEnd × HoldsReceived s (starting n time image) all now.disks
    by (Replica end) now number stops = all_applied s (starting n time image) input end old.now now from to number (stops s n time image input told holds known)
    by ended now number stops = absurd stops
