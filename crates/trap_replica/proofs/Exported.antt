-- How an image's blocks are said, one after the other, and piece after piece.
use Rattle.std.proofs.Common.{◌≡◌, ℕ, ◌+◌, ◌-◌, ◌*◌, ◌<◌, ◌≤◌, ◌==◌, List, [], ◌∷◌, ◌++◌, length, take, drop, Result, Ok, Err, Bool, false, ◌||◌, if◌then◌else◌, IsTrue, ⊎_elim, refl, sym, ap, subst, ◌∙◌, arith, append_assoc, append-nil, length-append}
use Rattle.std.specs.Prelude.{flat_map, nat_lt}
use Rattle.std.proofs.lemmas.Bool.{cases_lt}
use Rattle.std.proofs.lemmas.Bool.Decides.{nat_tests}
use Rattle.std.proofs.lemmas.Grind.{flat_map-append}
use Rattle.std.proofs.lemmas.Nat.{mul-le}
use Rattle.std.proofs.lemmas.List.{take_more, take_all, take-append-drop}
use Rattle.trap_bank.specs.Called.{CalledTimes, CalledAtMost}
use Rattle.trap_bank.specs.Disks.{Contents, Disks, Quiet, View}
use Rattle.trap_bank.specs.Faults.{Rose}
use Rattle.trap_bank.specs.Steps.{Steps, Moves, Same, OnlyReads, Spoke, SpokePart, Always}
use Rattle.trap_bank.proofs.Called.{not_called, called_then, called_at_most, at_most_then, took_calls}
use Rattle.trap_bank.proofs.Moves.{then_, weaken, nothing_done, read_is_left}
use Rattle.trap_bank.proofs.Rising.{rose_since}
use Rattle.trap_format.specs.declared.shape.Shape.{Shape}
use Rattle.trap_model.specs.Image.{block_of}
use Rattle.trap_port.specs.Outgoing.{Waiting, KeepsDisks, SpokeBut, SaysWaiting}
use Rattle.trap_port.proofs.Keeping.{keeps_none, keeps_read, keeps_then}
use Rattle.trap_replica.specs.Exporting.{image_bytes, SaysInPieces}
use Rattle.trap_replica.specs.Mounted.{MountedReplica, IsUsable}
use Rattle.trap_replica.specs.OnDisk.{HoldsImageBy}
use Rattle.trap_replica.specs.Standing.{Mirrors}
use Rattle.trap_replica.specs.declared.store.Store.{Store}

-- of the first blocks all was said but what waits, and the disks are the same
pub record SaidTo (image : List (List ℕ)) (n : ℕ) (waits : List ℕ) (x y : Contents) : Type 0 where
  pub disks : y.disks ≡ x.disks
  pub part : List ℕ
  pub said : y.said ≡ x.said ++ part
  pub whole : part ++ waits ≡ image_bytes (take n image)

-- where the bank tells nothing, any image is mirrored
pub mirrors_untold : (p : Store) (v : View) (image : List (List ℕ)) → (IsTrue v.tells → ⊥) → Mirrors p v image
mirrors_untold p v image untold = record { holds = λ w left. absurd (untold left.told); contents = λ told. absurd (untold told) }

-- one block more
image_more : (image : List (List ℕ)) (n : ℕ) → n < length image → image_bytes (take (n + 1) image) ≡ image_bytes (take n image) ++ block_of image n
image_more image n inside =
    ap (flat_map (λ block. block)) (take_more image n [] inside)
    ∙ flat_map-append (λ block. block) (take n image) (block_of image n ∷ [])
    ∙ ap (λ (l : List ℕ). image_bytes (take n image) ++ l) (append-nil (block_of image n))

image_rest : (image : List (List ℕ)) (n : ℕ) → image_bytes (take n image) ++ image_bytes (drop n image) ≡ image_bytes image
image_rest image n = sym (flat_map-append (λ block. block) (take n image) (drop n image)) ∙ ap (flat_map (λ block. block)) (take-append-drop n image)

-- what was said so far is a first part of the image
front_said : (image : List (List ℕ)) (n : ℕ) (waits : List ℕ) (x y z : Contents) → SaidTo image n waits x y → SpokePart waits y z → SpokePart (image_bytes image) x z
front_said image n waits x y z to spoke =
    let more = spoke.says in
    record {
      disks = spoke.disks ∙ to.disks;
      says = record {
        part = to.part ++ more.part;
        rest = more.rest ++ image_bytes (drop n image);
        whole = append_assoc to.part more.part (more.rest ++ image_bytes (drop n image))
            ∙ ap (λ (l : List ℕ). to.part ++ l) (sym (append_assoc more.part more.rest (image_bytes (drop n image))) ∙ ap (λ (l : List ℕ). l ++ image_bytes (drop n image)) more.whole)
            ∙ sym (append_assoc to.part waits (image_bytes (drop n image)))
            ∙ ap (λ (l : List ℕ). l ++ image_bytes (drop n image)) to.whole
            ∙ image_rest image n;
        said = more.said ∙ ap (λ (l : List ℕ). l ++ more.part) to.said ∙ append_assoc x.said to.part more.part;
      };
    }

-- and what was said in between, with what waits still
said_on : (image : List (List ℕ)) (n : ℕ) (waits left : List ℕ) (x y z : Contents) → SaidTo image n waits x y → SpokeBut waits left y z → SaidTo image n left x z
said_on image n waits left x y z to spoke = record {
  disks = spoke.disks ∙ to.disks;
  part = to.part ++ spoke.part;
  said = spoke.said ∙ ap (λ (l : List ℕ). l ++ spoke.part) to.said ∙ append_assoc x.said to.part spoke.part;
  whole = append_assoc to.part spoke.part left ∙ ap (λ (l : List ℕ). to.part ++ l) spoke.whole ∙ to.whole;
}

-- a run that says leaves the disks, stopped at any moment
pub always_waiting : {T E : Type 0} (waited left : List ℕ) (result : Result T E) (a b : View) (has : Disks → Type 0) → SaysWaiting waited left result a b → Always a has → Always b has
always_waiting waited left (Ok value) a b has says always w may = let from = says.steps.now w may in subst has (sym from.by.disks) (always from.origin from.was)
always_waiting waited left (Err e) a b has says always w may = let from = says.steps.now w may in subst has (sym from.by.disks) (always from.origin from.was)

pub usable_waiting : {T E : Type 0} (waited left : List ℕ) (result : Result T E) (r : MountedReplica) (a b : View) → SaysWaiting waited left result a b → IsUsable r a → IsUsable r b
usable_waiting waited left result r a b says usable running =
    let ready = usable running in
    record {
      fits = (ready.fits.0, says.disks.sizes 17 ∙ ready.fits.1, ready.fits.2);
      stands = always_waiting waited left result a b _ says ready.stands;
    }

pub mirrors_waiting : {T E : Type 0} (waited left : List ℕ) (result : Result T E) (p : Store) (image : List (List ℕ)) (a b : View)
    → SaysWaiting waited left result a b → Mirrors p a image → Mirrors p b image
mirrors_waiting waited left result p image a b says mirrors = record {
  holds = always_waiting waited left result a b (HoldsImageBy p.shape p.block p.number p.time image) says mirrors.holds;
  contents = λ told. mirrors.contents (subst IsTrue says.steps.tells told);
}

pub mirrors_reads : (p : Store) (image : List (List ℕ)) (a b : View) → OnlyReads a b → Mirrors p a image → Mirrors p b image
mirrors_reads p image a b reads mirrors = record {
  holds = λ w left. let from = reads.moves.now w left in subst (HoldsImageBy p.shape p.block p.number p.time image) (sym from.by.disks) (mirrors.holds from.origin from.was);
  contents = λ told. mirrors.contents (subst IsTrue reads.moves.tells told);
}

-- how many of the first n blocks are read: the one in the cell isn't
abbrev pub reads_before : ℕ → ℕ → ℕ
reads_before cell n = if nat_lt cell n then n - 1 else n

reads_step : (cell n : ℕ) → reads_before cell n + (if n == cell then 0 else 1) ≡ reads_before cell (n + 1)
reads_step cell n = grind (arith, nat_tests)

-- a first part was said so far
said_front : (image : List (List ℕ)) (n : ℕ) (waits : List ℕ) (x y : Contents) → SaidTo image n waits x y → SpokePart (image_bytes image) x y
said_front image n waits x y to = record {
  disks = to.disks;
  says = record {
    part = to.part;
    rest = waits ++ image_bytes (drop n image);
    whole = sym (append_assoc to.part waits (image_bytes (drop n image))) ∙ ap (λ (l : List ℕ). l ++ image_bytes (drop n image)) to.whole ∙ image_rest image n;
    said = to.said;
  };
}

module _ (image : List (List ℕ)) (n : ℕ) (waits : List ℕ) (a b : View) (so_far : Steps a b (SpokePart (image_bytes image)) (SaidTo image n waits)) where
  -- a run that ends here
  pub said_part : Steps a b (SpokePart (image_bytes image)) (SpokePart (image_bytes image))
  said_part = weaken a b (SpokePart (image_bytes image)) (SaidTo image n waits) (SpokePart (image_bytes image)) (SpokePart (image_bytes image)) so_far
      (λ x y was step. step)
      (λ x y was left to. said_front image n waits x y to)

  -- and one that reads then
  pub said_reads : (c : View) → Moves b c Same Same → Steps a c (SpokePart (image_bytes image)) (SaidTo image n waits)
  said_reads c reads = then_ a b c (SpokePart (image_bytes image)) (SaidTo image n waits) (Quiet Same) (Quiet Same) (SpokePart (image_bytes image)) (SaidTo image n waits) so_far reads
      (λ x y was step. step)
      (λ x y z was to mid quiet. said_front image n waits x z (still x y z to quiet))
      (λ x y z was to mid quiet. still x y z to quiet)
    where
      still : (x y z : Contents) → SaidTo image n waits x y → Quiet Same y z → SaidTo image n waits x z
      still x y z to quiet = record { disks = quiet.disks ∙ to.disks; part = to.part; said = quiet.said ∙ to.said; whole = to.whole }

  -- the port failed
  pub said_failed : (c : View) → Steps b c (SpokePart waits) (SpokePart waits) → Steps a c (SpokePart (image_bytes image)) (SpokePart (image_bytes image))
  said_failed c says = then_ a b c (SpokePart (image_bytes image)) (SaidTo image n waits)
      (SpokePart waits) (SpokePart waits) (SpokePart (image_bytes image)) (SpokePart (image_bytes image)) so_far says
      (λ x y was step. step)
      (λ x y z was to mid spoke. front_said image n waits x y z to spoke)
      (λ x y z was to mid spoke. front_said image n waits x y z to spoke)

  -- some of what waited was said
  pub said_more : (c : View) (left : List ℕ) → Steps b c (SpokePart waits) (SpokeBut waits left) → Steps a c (SpokePart (image_bytes image)) (SaidTo image n left)
  said_more c left says = then_ a b c (SpokePart (image_bytes image)) (SaidTo image n waits) (SpokePart waits) (SpokeBut waits left) (SpokePart (image_bytes image)) (SaidTo image n left) so_far says
      (λ x y was step. step)
      (λ x y z was to mid spoke. front_said image n waits x y z to spoke)
      (λ x y z was to mid spoke. said_on image n waits left x y z to spoke)

  -- the next block waits too
  pub said_put : (block : List ℕ) → (IsTrue a.tells → n < length image) → (IsTrue a.tells → block ≡ block_of image n)
      → Steps a b (SpokePart (image_bytes image)) (SaidTo image (n + 1) (waits ++ block))
  said_put block inside is = weaken a b (SpokePart (image_bytes image)) (SaidTo image n waits) (SpokePart (image_bytes image)) (SaidTo image (n + 1) (waits ++ block)) so_far
      (λ x y was step. step)
      (λ x y was left to. record {
        disks = to.disks;
        part = to.part;
        said = to.said;
        whole = sym (append_assoc to.part waits block) ∙ ap (λ (l : List ℕ). l ++ block) to.whole ∙ ap (λ (l : List ℕ). image_bytes (take n image) ++ l) (is was.told)
            ∙ sym (image_more image n (inside was.told));
      })

  -- all of it was said at last
  pub said_whole : (c : View) (left : List ℕ) → left ≡ [] → (IsTrue a.tells → length image ≡ n)
      → Steps b c (SpokePart waits) (SpokeBut waits left) → Steps a c (SpokePart (image_bytes image)) (Spoke (image_bytes image))
  said_whole c left none long says = weaken a c (SpokePart (image_bytes image)) (SaidTo image n left) (SpokePart (image_bytes image)) (Spoke (image_bytes image)) (said_more c left says)
      (λ x y was step. step)
      (λ x y was left_ to. record {
        disks = to.disks;
        said = to.said ∙ ap (λ (l : List ℕ). x.said ++ l)
            (sym (append-nil to.part) ∙ ap (λ (l : List ℕ). to.part ++ l) (sym none) ∙ to.whole ∙ ap image_bytes (take_all n image (omega (arith, long was.told))));
      })

-- what was called: reads, and in pieces of a room
pub record CalledSo (s : Shape) (reads room n waiting : ℕ) (old new : View) : Type 0 where
  pub says : ℕ
  pub pieces : says * (room + 1 - s.block) + waiting ≤ n * s.block
  pub most : n * s.block ≤ says * room + waiting
  pub within : waiting ≤ room
  pub calls : CalledTimes (reads + says) old new

-- a loop over the blocks has come to block n: those before it were said, but for what waits
pub record HasCome (r q : MountedReplica) (room n : ℕ) (o : Waiting) (buffer : List ℕ) (old new : View) : Type 0 where
  pub same : q ≡ r
  pub fits : o.room ≡ room
  pub sized : length buffer ≡ r.store.shape.block
  pub waits : 0 < n → r.store.shape.block ≤ length o.bytes
  pub tells : new.tells ≡ old.tells
  pub faults : (e : ℕ) → old.faults e ≤ new.faults e
  pub port_faults : old.port_faults ≤ new.port_faults
  pub usable : IsUsable r new
  pub mirrors : (image : List (List ℕ)) → Mirrors r.store old image → Mirrors r.store new image
  pub steps : (image : List (List ℕ)) → Mirrors r.store old image → Steps old new (SpokePart (image_bytes image)) (SaidTo image n o.bytes)
  pub disks : KeepsDisks old new
  pub called : CalledSo r.store.shape (reads_before r.store.block n) room n (length o.bytes) old new

pub come_none : (r : MountedReplica) (o : Waiting) (buffer : List ℕ) (v : View) → o.bytes ≡ [] → length buffer ≡ r.store.shape.block → IsUsable r v → HasCome r r o.room 0 o buffer v v
come_none r o buffer v none sized usable = record {
  same = refl;
  fits = refl;
  sized = sized;
  waits = λ some. absurd (omega arith);
  tells = refl;
  faults = λ e. omega arith;
  port_faults = omega arith;
  usable = usable;
  mirrors = λ image mirrors. mirrors;
  steps = λ image mirrors. nothing_done v (SpokePart (image_bytes image)) (SaidTo image 0 o.bytes) (λ x was. record { disks = refl; part = []; said = sym (append-nil x.said); whole = none });
  disks = keeps_none v;
  called = record {
    says = 0;
    pieces = omega (arith, ap length none);
    most = omega (arith, ap length none);
    within = omega (arith, ap length none);
    calls = subst (λ (k : ℕ). CalledTimes k v v) (reads_none r.store.block) (not_called v);
  };
}
  where
    reads_none : (cell : ℕ) → 0 ≡ reads_before cell 0 + 0
    reads_none cell = grind (arith, nat_tests)

-- an image that is mirrored has a block for each number
pub mirrored_long : (p : Store) (v : View) (image : List (List ℕ)) → Mirrors p v image → IsTrue v.tells → length image ≡ p.shape.volume
mirrored_long p v image mirrors told = (mirrors.holds v.now (read_is_left v told)).long

-- one block more is read
pub called_read : (s : Shape) (cell room n waiting : ℕ) (a b c : View) → CalledSo s (reads_before cell n) room n waiting a b → CalledTimes (if n == cell then 0 else 1) b c
    → CalledSo s (reads_before cell (n + 1)) room n waiting a c
called_read s cell room n waiting a b c so_far read = record {
  says = so_far.says;
  pieces = so_far.pieces;
  most = so_far.most;
  within = so_far.within;
  calls = subst (λ (k : ℕ). CalledTimes k a c)
      (let step = reads_step cell n in omega (arith, step))
      (called_then (reads_before cell n + so_far.says) (if n == cell then 0 else 1) a b c so_far.calls read);
}

-- a room was full, and what waited was said
pub called_full : (s : Shape) (reads room n waiting : ℕ) (a b c : View) → room < waiting + s.block → s.block ≤ room
    → CalledSo s reads room n waiting a b → CalledTimes 1 b c → CalledSo s reads room n 0 a c
called_full s reads room n waiting a b c full fits so_far said = record {
  says = so_far.says + 1;
  pieces = (let more : (so_far.says + 1) * (room + 1 - s.block) ≡ so_far.says * (room + 1 - s.block) + (room + 1 - s.block) = grind arith in omega (arith, more, so_far.pieces, full, fits));
  most = (let more : (so_far.says + 1) * room ≡ so_far.says * room + room = grind arith in omega (arith, more, so_far.most, so_far.within));
  within = omega arith;
  calls = subst (λ (k : ℕ). CalledTimes k a c) (let e : reads + so_far.says + 1 ≡ reads + (so_far.says + 1) = omega arith in e) (called_then (reads + so_far.says) 1 a b c so_far.calls said);
}

-- a block waits
pub called_put : (s : Shape) (reads room n waiting now : ℕ) (a b : View) → now ≡ waiting + s.block → now ≤ room → CalledSo s reads room n waiting a b
    → CalledSo s reads room (n + 1) now a b
called_put s reads room n waiting now a b is fits so_far = record {
  says = so_far.says;
  pieces = (let more : (n + 1) * s.block ≡ n * s.block + s.block = grind arith in omega (arith, more, so_far.pieces, is));
  most = (let more : (n + 1) * s.block ≡ n * s.block + s.block = grind arith in omega (arith, more, so_far.most, is));
  within = fits;
  calls = so_far.calls;
}

-- how many calls a run that failed made
pub called_failed : {T E : Type 0} (e : E) (s : Shape) (reads room n waiting last : ℕ) (a b c : View) → n ≤ s.volume → reads + last ≤ s.volume
    → CalledSo s reads room n waiting a b → CalledAtMost last b c
    → SaysInPieces {T = T} s room (Err e) a c
called_failed e s reads room n waiting last a b c inside few so_far failed = record {
  says = so_far.says;
  pieces = omega (arith, so_far.pieces, mul-le n s.block s.volume s.block inside (omega arith));
  most = tt;
  calls = record {
    ok = tt;
    most = at_most_then (reads + so_far.says) last (s.volume + so_far.says) a b c (omega arith)
        (called_at_most (reads + so_far.says) (reads + so_far.says) a b (omega arith) so_far.calls) failed;
  };
}

-- and how many one that said all
pub called_all : {T E : Type 0} (value : T) (s : Shape) (cell room waiting : ℕ) (a b c : View) → cell < s.volume → CalledSo s (reads_before cell s.volume) room s.volume waiting a b → CalledTimes 1 b c
    → SaysInPieces {T = T} {E = E} s room (Ok value) a c
called_all value s cell room waiting a b c inside so_far last = record {
  says = so_far.says;
  pieces = omega (arith, so_far.pieces);
  most = (let more : (so_far.says + 1) * room ≡ so_far.says * room + room = grind arith in omega (arith, more, so_far.most, so_far.within));
  calls = took_calls value (s.volume + so_far.says) a c
      (subst (λ (k : ℕ). CalledTimes k a c) (let step = reads_all cell s.volume inside in omega (arith, step)) (called_then (reads_before cell s.volume + so_far.says) 1 a b c so_far.calls last));
}
  where
    reads_all : (cell n : ℕ) → cell < n → reads_before cell n + 1 ≡ n
    reads_all cell n less = grind (arith, nat_tests)

-- a replica that isn't stopped, after a call that didn't fail
pub unstopped : (q : MountedReplica) → q.is_stopped ≡ false → ◌≡◌ {A = MountedReplica} (record { store = q.store; held = q.held; is_stopped = q.is_stopped || false }) q
unstopped q running = ap {B = MountedReplica} (λ (b : Bool). record { store = q.store; held = q.held; is_stopped = b }) (ap (λ (b : Bool). b || false) running ∙ sym running)

reads_less : (cell n volume : ℕ) → n < volume → cell < volume → reads_before cell (n + 1) + 1 ≤ volume
reads_less cell n volume inside cell_inside = grind (arith, nat_tests)

module _ (r q : MountedReplica) (room n : ℕ) (o : Waiting) (buffer : List ℕ) (a b c : View) (so_far : HasCome r q room n o buffer a b) (inside : n < r.store.shape.volume) (reads : OnlyReads b c) where
  steps_read : (image : List (List ℕ)) → Mirrors r.store a image → Steps a c (SpokePart (image_bytes image)) (SaidTo image n o.bytes)
  steps_read image mirrors = said_reads image n o.bytes a b (so_far.steps image mirrors) c reads.moves

  mirrors_read : (image : List (List ℕ)) → Mirrors r.store a image → Mirrors r.store c image
  mirrors_read image mirrors = mirrors_reads r.store image b c reads (so_far.mirrors image mirrors)

  -- the disk failed
  pub unread_steps : (image : List (List ℕ)) → Mirrors r.store a image → Steps a c (SpokePart (image_bytes image)) (SpokePart (image_bytes image))
  unread_steps image mirrors = said_part image n o.bytes a c (steps_read image mirrors)

  pub unread_cause : Rose (b.faults 17) (c.faults 17) → Rose (a.faults 17) (c.faults 17)
  unread_cause rose = rose_since (a.faults 17) (b.faults 17) (c.faults 17) (so_far.faults 17) rose

  pub unread_calls : {T E : Type 0} (e : E) → CalledAtMost (if n == q.store.block then 0 else 1) b c → SaysInPieces {T = T} r.store.shape room (Err e) a c
  unread_calls {T} {E} e most =
      let few : reads_before r.store.block n + (if n == r.store.block then 0 else 1) ≤ r.store.shape.volume = (
      let step = reads_step r.store.block n in
      let less = reads_less r.store.block n r.store.shape.volume inside r.store.inside in
      omega (arith, step, less)) in
      called_failed {T = T} {E = E} e r.store.shape (reads_before r.store.block n) room n (length o.bytes) (if n == r.store.block then 0 else 1) a b c (omega arith) few so_far.called
      (subst (λ (p : MountedReplica). CalledAtMost (if n == p.store.block then 0 else 1) b c) so_far.same most)

  module _ (called : CalledTimes (if n == q.store.block then 0 else 1) b c) where
    called_so : CalledSo r.store.shape (reads_before r.store.block (n + 1)) room n (length o.bytes) a c
    called_so = called_read r.store.shape r.store.block room n (length o.bytes) a b c so_far.called
        (subst (λ (p : MountedReplica). CalledTimes (if n == p.store.block then 0 else 1) b c) so_far.same called)

    -- the port failed
    module _ {T E : Type 0} (e : E) (left : List ℕ) (d : View) (says : SaysWaiting {T = T} {E = E} o.bytes left (Err e) c d) where
      pub unsaid_steps : (image : List (List ℕ)) → Mirrors r.store a image → Steps a d (SpokePart (image_bytes image)) (SpokePart (image_bytes image))
      unsaid_steps image mirrors = said_failed image n o.bytes a c (steps_read image mirrors) d says.steps

      pub unsaid_cause : Rose a.port_faults d.port_faults
      unsaid_cause = rose_since a.port_faults c.port_faults d.port_faults (let one = so_far.port_faults in let two = reads.moves.port_faults in omega (arith, one, two)) says.cause

      pub unsaid_calls : {U F : Type 0} (why : F) → SaysInPieces {T = U} r.store.shape room (Err why) a d
      unsaid_calls {U} {F} why = called_failed {T = U} {E = F} why r.store.shape (reads_before r.store.block (n + 1)) room n (length o.bytes) 1 a c d (omega arith)
          (reads_less r.store.block n r.store.shape.volume inside r.store.inside) called_so says.calls

    -- a block more waits
    pub come_more : {T E : Type 0} (value : T) (q' : MountedReplica) (p o' : Waiting) (into : List ℕ) (d : View) → q' ≡ r → r.store.shape.block ≤ room → length into ≡ r.store.shape.block
        → ((image : List (List ℕ)) → Mirrors q.store b image → IsTrue b.tells → into ≡ block_of image n) → IsUsable q' c
        → SaysWaiting {T = T} {E = E} o.bytes p.bytes (Ok value) c d → p.room ≡ o.room
        → (length o.bytes + length into ≤ o.room → (p ≡ o) × (d ≡ c)) → (o.room < length o.bytes + length into → (p.bytes ≡ []) × CalledTimes 1 c d)
        → o' ≡ record { room = p.room; bytes = p.bytes ++ into } → HasCome r q' room (n + 1) o' into a d
    come_more {T} {E} value q' p o' into d same roomy sized is usable says kept fits full put = record {
      same = same;
      fits = ap (λ (w : Waiting). w.room) put ∙ kept ∙ so_far.fits;
      sized = sized;
      waits = λ some. omega (arith, long, sized);
      tells = says.steps.tells ∙ reads.moves.tells ∙ so_far.tells;
      faults = λ e. omega (arith, says.steps.faults e, reads.moves.faults e, so_far.faults e);
      port_faults = omega (arith, says.steps.port_faults, reads.moves.port_faults, so_far.port_faults);
      usable = usable_waiting {T = T} {E = E} o.bytes p.bytes (Ok value) r c d says (subst (λ (m : MountedReplica). IsUsable m c) same usable);
      mirrors = λ image mirrors. mirrors_waiting {T = T} {E = E} o.bytes p.bytes (Ok value) r.store image c d says (mirrors_read image mirrors);
      steps = λ image mirrors. subst (λ (l : List ℕ). Steps a d (SpokePart (image_bytes image)) (SaidTo image (n + 1) l)) (sym (ap (λ (w : Waiting). w.bytes) put))
          (said_put image n p.bytes a d (said_more image n o.bytes a c (steps_read image mirrors) d p.bytes says.steps) into
          (λ told. omega (arith, inside, mirrored_long r.store a image mirrors told))
          (λ told. is image (subst (λ (m : MountedReplica). Mirrors m.store b image) (sym so_far.same) (so_far.mirrors image mirrors)) (subst IsTrue (sym so_far.tells) told)));
      disks = keeps_then a c d (reads.moves.tells ∙ so_far.tells) (keeps_then a b c so_far.tells so_far.disks (keeps_read b c reads)) says.disks;
      called = ⊎_elim
          (λ (over : o.room < length o.bytes + length into).
          let flushed = full over in
          called_put r.store.shape (reads_before r.store.block (n + 1)) room n 0 (length o'.bytes) a d
          (omega (arith, long, ap length flushed.0, sized)) (omega (arith, long, ap length flushed.0, sized, roomy))
          (called_full r.store.shape (reads_before r.store.block (n + 1)) room n (length o.bytes) a c d (omega (arith, over, sized, so_far.fits)) roomy called_so flushed.1))
          (λ (within : length o.bytes + length into ≤ o.room).
          let still = fits within in
          called_put r.store.shape (reads_before r.store.block (n + 1)) room n (length o.bytes) (length o'.bytes) a d
          (omega (arith, long, ap (λ (w : Waiting). length w.bytes) still.0, sized))
          (omega (arith, long, ap (λ (w : Waiting). length w.bytes) still.0, within, so_far.fits))
          (subst (λ (v : View). CalledSo r.store.shape (reads_before r.store.block (n + 1)) room n (length o.bytes) a v) (sym still.1) called_so))
          (cases_lt o.room (length o.bytes + length into));
    }
      where
        long : length o'.bytes ≡ length p.bytes + length into
        long = ap (λ (w : Waiting). length w.bytes) put ∙ length-append p.bytes into

module _ (r q : MountedReplica) (room n : ℕ) (o : Waiting) (buffer : List ℕ) (a b : View) (so_far : HasCome r q room n o buffer a b) (all : n ≡ r.store.shape.volume) where
  pub ended_usable : {T E : Type 0} (left : List ℕ) (result : Result T E) (c : View) → SaysWaiting o.bytes left result b c → IsUsable q c
  ended_usable left result c says = subst (λ (m : MountedReplica). IsUsable m c) (sym so_far.same) (usable_waiting o.bytes left result r b c says so_far.usable)

  -- the last of it was said
  module _ {T E : Type 0} (value : T) (left : List ℕ) (c : View) (says : SaysWaiting {T = T} {E = E} o.bytes left (Ok value) b c) where
    pub whole_steps : left ≡ [] → (image : List (List ℕ)) → Mirrors r.store a image → Steps a c (SpokePart (image_bytes image)) (Spoke (image_bytes image))
    whole_steps none image mirrors = said_whole image n o.bytes a b (so_far.steps image mirrors) c left none (λ told. mirrored_long r.store a image mirrors told ∙ sym all) says.steps

    pub whole_calls : {U F : Type 0} (done : U) → CalledTimes 1 b c → SaysInPieces {T = U} {E = F} r.store.shape room (Ok done) a c
    whole_calls {U} {F} done once = called_all {T = U} {E = F} done r.store.shape r.store.block room (length o.bytes) a b c r.store.inside
        (subst (λ (k : ℕ). CalledSo r.store.shape (reads_before r.store.block k) room k (length o.bytes) a b) all so_far.called) once

  -- something waits for the last call
  pub waits_still : o.bytes ≡ [] → ⊥
  waits_still none =
      let least = r.store.shape.within.volume_least in
      let some : 0 < n = omega (arith, all, least) in
      let sized = r.store.shape.within.block_least in
      omega (arith, so_far.waits some, sized, ap length none)

  -- or the port failed
  module _ {T E : Type 0} (e : E) (left : List ℕ) (c : View) (says : SaysWaiting {T = T} {E = E} o.bytes left (Err e) b c) where
    pub cut_steps : (image : List (List ℕ)) → Mirrors r.store a image → Steps a c (SpokePart (image_bytes image)) (SpokePart (image_bytes image))
    cut_steps image mirrors = said_failed image n o.bytes a b (so_far.steps image mirrors) c says.steps

    pub cut_cause : Rose a.port_faults c.port_faults
    cut_cause = rose_since a.port_faults b.port_faults c.port_faults so_far.port_faults says.cause

    pub cut_calls : {U F : Type 0} (why : F) → SaysInPieces {T = U} r.store.shape room (Err why) a c
    cut_calls {U} {F} why = called_failed {T = U} {E = F} why r.store.shape (reads_before r.store.block n) room n (length o.bytes) 1 a b c (omega (arith, all))
        (let whole = reads_whole r.store.block n (omega (arith, all, r.store.inside)) in omega (arith, whole, all)) so_far.called says.calls
      where
        reads_whole : (cell n : ℕ) → cell < n → reads_before cell n + 1 ≡ n
        reads_whole cell n less = grind (arith, nat_tests)

-- rooms of one size in which nothing waits are one
pub spent_is : (o p : Waiting) → o.room ≡ p.room → o.bytes ≡ [] → p.bytes ≡ [] → o ≡ p
spent_is o p room none empty =
    ap {B = Waiting} (λ (k : ℕ). record { room = k; bytes = o.bytes }) room ∙ ap {B = Waiting} (λ (l : List ℕ). record { room = p.room; bytes = l }) (none ∙ sym empty)
