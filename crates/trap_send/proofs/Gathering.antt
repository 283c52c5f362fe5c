-- How frames are said, one after the other, and why not all are.
use Rattle.std.proofs.Common.{◌≡◌, ⊎_elim, ℕ, zero, suc, ◌+◌, ◌-◌, ◌*◌, ◌<◌, ◌≤◌, List, [], ◌++◌, length, Bool, false, IsTrue, Result, Ok, Err, refl, sym, ap, subst, ◌∙◌, arith, append_assoc, append-nil, length-append}
use Rattle.trap_bank.specs.Called.{CalledAtMost}
use Rattle.trap_bank.specs.Disks.{Contents, Disks, View, Quiet}
use Rattle.trap_bank.specs.Steps.{Steps, Same, SpokePart, OnlyReads, Always}
use Rattle.trap_bank.proofs.Moves.{then_, weaken, nothing_done}
use Rattle.trap_array.specs.Calls.{Mounted, StandsFor, IsReady}
use Rattle.trap_array.specs.Instants.{FailsRecord, IsBadRecord}
use Rattle.trap_array.specs.Sources.{CallsAtMost}
use Rattle.trap_array.proofs.Codes.{code_kept}
use Rattle.trap_array.specs.declared.fault.Denied.{Denied}
use Rattle.trap_array.specs.declared.fault.Denied.TheVariants.{Refused, LogFault, MemberFault, Damaged, Stopped}
use Rattle.trap_index.specs.Indexed.{last_seq, item_at}
use Rattle.trap_model.specs.Frame.{frame_header}
use Rattle.trap_model.proofs.Frames.{length-frame_header}
use Rattle.trap_port.specs.Outgoing.{Waiting, KeepsDisks, SpokeBut, SaysWaiting}
use Rattle.trap_port.proofs.Keeping.{keeps_none, keeps_then}
use Rattle.trap_send.specs.EntryFrames.{frame_of_item, IsEntryFrame, AreEntryFrames}
use Rattle.trap_send.specs.Pieces.{frame_size, frames_size, PutsInRoom, WaitsInPieces, SendsInPieces}
use Rattle.trap_send.specs.Sends.{Sends, SendsAll, SendsBut, GathersFrame, FailsEntry, StopsSending, SendStops}
use Rattle.trap_send.specs.declared.fault.SendFault.{SendFault}
use Rattle.trap_send.specs.declared.fault.SendFault.TheVariants.{Array, Port}

-- an array that isn't stopped, set to be so
pub not_stopped : (a : Mounted) → a.is_stopped ≡ false → ◌≡◌ {A = Mounted} (record a { is_stopped = false }) a
not_stopped a running = ap (λ (b : Bool). record a { is_stopped = b }) (sym running)

-- calls of two runs together
pub calls_then : (k m n : ℕ) (a b c : View) → k + m ≤ n → b.tells ≡ a.tells → CallsAtMost k a b → CallsAtMost m b c → CallsAtMost n a c
calls_then k m n a b c most tells first second = record {
  by_one = second.by_one ∙ first.by_one;
  moment = λ told one.
      let early = first.moment told one in
      let late = second.moment (subst IsTrue (sym tells) told) (subst IsTrue (sym first.by_one) one) in
      omega arith;
}

-- a call in one moment
pub calls_once : (a b : View) → CalledAtMost 1 a b → CallsAtMost 1 a b
calls_once a b call = record { by_one = call.by_one; moment = λ told one. let most = call.moment told one in omega arith }

pub calls_none : (n : ℕ) (a : View) → CallsAtMost n a a
calls_none n a = record { by_one = refl; moment = λ told one. omega arith }

-- an array stays ready where no disk changes, whatever is said
ready_kept : (a : Mounted) (v w : View) → KeepsDisks v w → ((has : Disks → Type 0) → Always v has → Always w has) → IsReady a v → IsReady a w
ready_kept a v w keeps still ready = record {
  sizes = λ running.
      let sizes = ready.sizes running in
      record {
        log = (sizes.log.0, keeps.sizes 0 ∙ sizes.log.1, sizes.log.2);
        members = λ m inside counts. let fits = sizes.members m inside counts in (fits.0, keeps.sizes (m + 1) ∙ fits.1, fits.2);
      };
  stands = λ running. still _ (ready.stands running);
  value = λ running. still _ (ready.value running);
  count = ready.count;
  room = ready.room;
}

pub ready_said : {T E : Type 0} (a : Mounted) (waits left : List ℕ) (result : Result T E) (v w : View) → SaysWaiting waits left result v w → IsReady a v → IsReady a w
ready_said a waits left (Ok value) v w says ready = ready_kept a v w says.disks
    (λ has always c left. let from = says.steps.now c left in subst has (sym from.by.disks) (always from.origin from.was)) ready
ready_said a waits left (Err e) v w says ready = ready_kept a v w says.disks
    (λ has always c left. let from = says.steps.now c left in subst has (sym from.by.disks) (always from.origin from.was)) ready

-- nothing of what waits was said
none_spoken : (waits : List ℕ) (x y : Contents) → Quiet Same x y → SpokePart waits x y
none_spoken waits x y quiet = record { disks = quiet.disks; says = record { part = []; rest = waits; whole = refl; said = quiet.said ∙ sym (append-nil x.said) } }

-- after reads that changed nothing
spoken_after : (waits : List ℕ) (x y z : Contents) → Quiet Same x y → SpokePart waits y z → SpokePart waits x z
spoken_after waits x y z quiet spoke =
    let says = spoke.says in
    record {
      disks = spoke.disks ∙ quiet.disks;
      says = record { part = says.part; rest = says.rest; whole = says.whole; said = says.said ∙ ap (λ (l : List ℕ). l ++ says.part) quiet.said };
    }

-- the frame waits after what waited
pub frame_waits : {T E : Type 0} (a : Mounted) (v m w : View) (q : ℕ) (value : T) (waits left frame : List ℕ) → OnlyReads v m → IsEntryFrame a v q frame
    → SaysWaiting {T = T} {E = E} waits left (Ok value) m w → Steps v w (SpokePart waits) (GathersFrame a v q waits (left ++ frame))
frame_waits a v m w q value waits left frame reads is says =
    then_ v m w (Quiet Same) (Quiet Same) (SpokePart waits) (SpokeBut waits left) (SpokePart waits) (GathersFrame a v q waits (left ++ frame)) reads.moves says.steps
    (λ x y was quiet. none_spoken waits x y quiet)
    (λ x y z was quiet mid spoke. spoken_after waits x y z quiet spoke)
    (λ x y z was quiet mid spoke. record {
      frame = frame;
      is = is;
      spoke = record {
        disks = spoke.disks ∙ quiet.disks;
        part = spoke.part;
        said = spoke.said ∙ ap (λ (l : List ℕ). l ++ spoke.part) quiet.said;
        whole = sym (append_assoc spoke.part left frame) ∙ ap (λ (l : List ℕ). l ++ frame) spoke.whole;
      };
    })

-- the port failed
pub port_failed : {T E : Type 0} (v m w : View) (e : E) (waits left : List ℕ) → OnlyReads v m → SaysWaiting {T = T} {E = E} waits left (Err e) m w
    → Steps v w (SpokePart waits) (SpokePart waits)
port_failed v m w e waits left reads says =
    then_ v m w (Quiet Same) (Quiet Same) (SpokePart waits) (SpokePart waits) (SpokePart waits) (SpokePart waits) reads.moves says.steps
    (λ x y was quiet. none_spoken waits x y quiet)
    (λ x y z was quiet mid spoke. spoken_after waits x y z quiet spoke)
    (λ x y z was quiet mid spoke. spoken_after waits x y z quiet spoke)

-- there is no code
pub code_failed : (v m : View) (waits : List ℕ) → OnlyReads v m → Steps v m (SpokePart waits) (SpokePart waits)
code_failed v m waits reads = weaken v m (Quiet Same) (Quiet Same) (SpokePart waits) (SpokePart waits) reads.moves
    (λ x y was quiet. none_spoken waits x y quiet)
    (λ x y was left quiet. none_spoken waits x y quiet)

-- the frame of an entry, over the same disks
frame_kept : (a : Mounted) (v w : View) (q : ℕ) (bytes : List ℕ) → w.tells ≡ v.tells → KeepsDisks v w → IsEntryFrame a w q bytes → IsEntryFrame a v q bytes
frame_kept a v w q bytes tells keeps is = record {
  code = is.code;
  is = code_kept a v w q is.code tells keeps.disks is.is;
  spelled = is.spelled;
}

pub frame_long : (a : Mounted) (v : View) (q : ℕ) (bytes : List ℕ) → IsEntryFrame a v q bytes → length bytes ≡ frame_size a q
frame_long a v q bytes is =
    let header = frame_of_item a.g.id q (item_at a.index q) in
    let all = length-append (frame_header header) is.code in
    let head = length-frame_header header in
    ap length is.spelled ∙ omega (arith, all, head, is.is.long)

-- what was said so far is a first part of the frames
but_part : (a : Mounted) (v : View) (p count : ℕ) (waits : List ℕ) (x y z : Contents) → p + count ≤ last_seq a.index → SendsBut a v p count waits x y → SpokePart waits y z → Sends a v p x z
but_part a v p count waits x y z most but spoke =
    let first = but.spoke in
    let more = spoke.says in
    record {
      disks = spoke.disks ∙ first.disks;
      count = count;
      most = most;
      text = but.text;
      frames = but.frames;
      says = record {
        part = first.part ++ more.part;
        rest = more.rest;
        whole = append_assoc first.part more.part more.rest ∙ ap (λ (l : List ℕ). first.part ++ l) more.whole ∙ first.whole;
        said = more.said ∙ ap (λ (l : List ℕ). l ++ more.part) first.said ∙ append_assoc x.said first.part more.part;
      };
    }

-- one frame more
but_more : (a : Mounted) (v w : View) (p count next q : ℕ) (waits left : List ℕ) (x y z : Contents) → next ≡ suc count → q ≡ p + count + 1 → w.tells ≡ v.tells → KeepsDisks v w
    → SendsBut a v p count waits x y → GathersFrame a w q waits left y z → SendsBut a v p next left x z
but_more a v w p count next q waits left x y z more at tells keeps but gathers =
    let first = but.spoke in
    let then = gathers.spoke in
    let is : IsEntryFrame a v (p + count + 1) gathers.frame = subst (λ (n : ℕ). IsEntryFrame a v n gathers.frame) at (frame_kept a v w q gathers.frame tells keeps gathers.is) in
    record {
      text = but.text ++ gathers.frame;
      frames = subst (λ (n : ℕ). AreEntryFrames a v p n (but.text ++ gathers.frame)) (sym more) (but.text, gathers.frame, but.frames, is, refl);
      spoke = record {
        disks = then.disks ∙ first.disks;
        part = first.part ++ then.part;
        said = then.said ∙ ap (λ (l : List ℕ). l ++ then.part) first.said ∙ append_assoc x.said first.part then.part;
        whole = append_assoc first.part then.part left ∙ ap (λ (l : List ℕ). first.part ++ l) then.whole ∙ sym (append_assoc first.part waits gathers.frame)
            ∙ ap (λ (l : List ℕ). l ++ gathers.frame) first.whole;
      };
    }

-- one frame more waits, or was said
pieces_more : (a : Mounted) (p count q room : ℕ) (out next : Waiting) (v w z : View) → p + count + 1 ≡ q → out.room ≡ room → w.tells ≡ v.tells
    → WaitsInPieces a p count room out.bytes v w → PutsInRoom a.g.block (frame_size a q) out next w z → WaitsInPieces a p (suc count) room next.bytes v z
pieces_more a p count q room out next v w z at same tells so_far puts = ⊎_elim
    (λ (fits : CallsAtMost 2 w z × (length next.bytes ≡ length out.bytes + frame_size a q)). record {
      says = so_far.says;
      least = omega (arith, so_far.least, fits.1, size);
      most = omega (arith, so_far.most, fits.1, size);
      within = omega (arith, puts.within, same);
      calls = calls_then (2 * count + so_far.says) 2 (2 * suc count + so_far.says) v w z (omega arith) tells so_far.calls fits.0;
    })
    (λ (full : CallsAtMost 3 w z × (out.room < length out.bytes + frame_size a q) × (length next.bytes ≡ frame_size a q)). record {
      says = so_far.says + 1;
      least =
          let more : (so_far.says + 1) * (room + 1 - (a.g.block + 41)) ≡ so_far.says * (room + 1 - (a.g.block + 41)) + (room + 1 - (a.g.block + 41)) = grind arith in
          omega (arith, more, so_far.least, full.1, full.2, puts.most, same, size);
      most =
          let more : (so_far.says + 1) * room ≡ so_far.says * room + room = grind arith in
          omega (arith, more, so_far.most, so_far.within, full.2, size);
      within = omega (arith, puts.within, same);
      calls = calls_then (2 * count + so_far.says) 3 (2 * suc count + (so_far.says + 1)) v w z (omega arith) tells so_far.calls full.0;
    })
    puts.puts
  where
    size : frames_size a p (suc count) ≡ frames_size a p count + frame_size a q
    size = ap (λ (n : ℕ). frames_size a p count + frame_size a n) at

-- frames of more entries have no fewer bytes
sizes_rise : (a : Mounted) (p k n : ℕ) → frames_size a p k ≤ frames_size a p (n + k)
sizes_rise a p k zero = let e = ap (frames_size a p) (let none : 0 + k ≡ k = omega arith in none) in omega (arith, e)
sizes_rise a p k (suc n) =
    let e = ap (frames_size a p) (let more : suc n + k ≡ suc (n + k) = omega arith in more) in
    let rest = sizes_rise a p k n in
    omega (arith, e, rest)

-- a fault after these frames
pub pieces_failed : {T E : Type 0} (e : E) (a : Mounted) (p count room last : ℕ) (waits : List ℕ) (v w z : View) → count + 1 ≤ last_seq a.index - p → last ≤ 3 → w.tells ≡ v.tells
    → WaitsInPieces a p count room waits v w → CallsAtMost last w z → SendsInPieces {T = T} {E = E} a p room (Err e) v z
pieces_failed e a p count room last waits v w z inside few tells so_far calls =
    let all = last_seq a.index - p in
    let sum : all - count + count ≡ all = omega arith in
    let rest = sizes_rise a p count (all - count) in
    let same = ap (frames_size a p) sum in
    record {
      says = so_far.says;
      least = omega (arith, so_far.least, rest, same);
      most = tt;
      calls = calls_then (2 * count + so_far.says) last (2 * all + so_far.says + 1) v w z (omega (arith, inside, few)) tells so_far.calls calls;
    }

-- the last call
pub pieces_sent : {T E : Type 0} (value : T) (a : Mounted) (p room : ℕ) (waits : List ℕ) (v w z : View) → w.tells ≡ v.tells
    → WaitsInPieces a p (last_seq a.index - p) room waits v w → CallsAtMost 1 w z → SendsInPieces {T = T} {E = E} a p room (Ok value) v z
pieces_sent value a p room waits v w z tells so_far last = record {
  says = so_far.says;
  least = omega (arith, so_far.least);
  most = (let more : (so_far.says + 1) * room ≡ so_far.says * room + room = grind arith in omega (arith, more, so_far.most, so_far.within));
  calls = calls_then (2 * (last_seq a.index - p) + so_far.says) 1 (2 * (last_seq a.index - p) + so_far.says + 1) v w z (omega arith) tells so_far.calls last;
}

pub pieces_cut : {T E : Type 0} (e : E) (a : Mounted) (p room : ℕ) (waits : List ℕ) (v w z : View) → w.tells ≡ v.tells
    → WaitsInPieces a p (last_seq a.index - p) room waits v w → CallsAtMost 1 w z → SendsInPieces {T = T} {E = E} a p room (Err e) v z
pieces_cut e a p room waits v w z tells so_far last = record {
  says = so_far.says;
  least = omega (arith, so_far.least);
  most = tt;
  calls = calls_then (2 * (last_seq a.index - p) + so_far.says) 1 (2 * (last_seq a.index - p) + so_far.says + 1) v w z (omega arith) tells so_far.calls last;
}

-- A loop has come to number q: the frames up to it wait or were said, and the array is as it was.
pub record HasCome (a : Mounted) (p q room : ℕ) (old new : View) (now : Mounted) (out : Waiting) : Type 0 where
  pub same : now ≡ a
  pub room_same : out.room ≡ room
  pub ready : IsReady a new
  pub disks : KeepsDisks old new
  pub steps : Steps old new (Sends a old p) (SendsBut a old p (q - p) out.bytes)
  pub calls : CallsAtMost (3 * (q - p)) old new
  pub pieces : WaitsInPieces a p (q - p) room out.bytes old new

pub come_first : (a : Mounted) (p : ℕ) (v : View) (out : Waiting) → out.bytes ≡ [] → IsReady a v → HasCome a p p out.room v v a out
come_first a p v out empty ready =
    let none : p - p ≡ 0 = omega arith in
    record {
      same = refl;
      room_same = refl;
      ready = ready;
      disks = keeps_none v;
      steps = nothing_done v (Sends a v p) (SendsBut a v p (p - p) out.bytes) (λ x was. record {
        text = [];
        frames = subst (λ (n : ℕ). AreEntryFrames a v p n []) (sym none) refl;
        spoke = record { disks = refl; part = []; said = sym (append-nil x.said); whole = empty };
      });
      calls = calls_none (3 * (p - p)) v;
      pieces = subst (λ (n : ℕ). WaitsInPieces a p n out.room out.bytes v v) (sym none)
          (let nothing = ap length empty in record { says = 0; least = omega (arith, nothing); most = omega (arith, nothing); within = omega (arith, nothing); calls = calls_none 0 v });
    }

module _ (a : Mounted) (p q room : ℕ) (v w z : View) (now : Mounted) (out : Waiting) (low : p ≤ q) (high : q + 1 ≤ last_seq a.index) (so_far : HasCome a p q room v w now out) where
  most : p + (q - p) ≤ last_seq a.index
  most = omega arith

  still : (has : Disks → Type 0) → Always v has → Always w has
  still has always c left = let from = so_far.steps.now c left in subst has (sym from.by.spoke.disks) (always from.origin from.was)

  -- one frame more
  pub come_more : (after : Mounted) (next : Waiting) → a.is_stopped ≡ false → after ≡ record now { is_stopped = false } → next.room ≡ out.room → IsReady after z → KeepsDisks w z
      → Steps w z (SpokePart out.bytes) (GathersFrame now w (q + 1) out.bytes next.bytes) → CallsAtMost 3 w z
      → PutsInRoom now.g.block (frame_size now (q + 1)) out next w z → HasCome a p (q + 1) room v z after next
  come_more after next running is same_room ready keeps steps calls puts =
      let same : after ≡ a = is ∙ ap (λ (m : Mounted). record m { is_stopped = false }) so_far.same ∙ not_stopped a running in
      let here : Steps w z (SpokePart out.bytes) (GathersFrame a w (q + 1) out.bytes next.bytes) =
      subst (λ (m : Mounted). Steps w z (SpokePart out.bytes) (GathersFrame m w (q + 1) out.bytes next.bytes)) so_far.same steps in
      let count : q + 1 - p ≡ suc (q - p) = omega arith in
      let at : q + 1 ≡ p + (q - p) + 1 = omega arith in
      record {
        same = same;
        room_same = same_room ∙ so_far.room_same;
        ready = subst (λ (m : Mounted). IsReady m z) same ready;
        disks = keeps_then v w z so_far.steps.tells so_far.disks keeps;
        steps = then_ v w z (Sends a v p) (SendsBut a v p (q - p) out.bytes) (SpokePart out.bytes) (GathersFrame a w (q + 1) out.bytes next.bytes)
            (Sends a v p) (SendsBut a v p (q + 1 - p) next.bytes) so_far.steps here
            (λ x y was step. step)
            (λ x y t was but mid spoke. but_part a v p (q - p) out.bytes x y t most but spoke)
            (λ x y t was but mid gathers. but_more a v w p (q - p) (q + 1 - p) (q + 1) out.bytes next.bytes x y t count at so_far.steps.tells so_far.disks but gathers);
        calls = calls_then (3 * (q - p)) 3 (3 * (q + 1 - p)) v w z (omega arith) so_far.steps.tells so_far.calls calls;
        pieces = subst (λ (n : ℕ). WaitsInPieces a p n room next.bytes v z) (sym count)
            (pieces_more a p (q - p) (q + 1) room out next v w z (sym at) so_far.room_same so_far.steps.tells so_far.pieces
            (subst (λ (m : Mounted). PutsInRoom m.g.block (frame_size m (q + 1)) out next w z) so_far.same puts));
      }

  -- something failed
  pub come_failed : Steps w z (SpokePart out.bytes) (SpokePart out.bytes) → Steps v z (Sends a v p) (Sends a v p)
  come_failed steps = then_ v w z (Sends a v p) (SendsBut a v p (q - p) out.bytes) (SpokePart out.bytes) (SpokePart out.bytes) (Sends a v p) (Sends a v p) so_far.steps steps
      (λ x y was step. step)
      (λ x y t was but mid spoke. but_part a v p (q - p) out.bytes x y t most but spoke)
      (λ x y t was but mid spoke. but_part a v p (q - p) out.bytes x y t most but spoke)

  fails_from : (denied : Denied) → FailsRecord a (q + 1) w z denied → FailsRecord a (q + 1) v z denied
  fails_from (Refused why) none = none
  fails_from LogFault rose = omega (arith, so_far.steps.faults 0)
  fails_from (MemberFault first second) none = none
  fails_from (Damaged offset) bad = λ told. subst (λ (disks : Disks). IsBadRecord a.g a.index (q + 1) disks offset) (so_far.disks.disks told) (bad (subst IsTrue (sym so_far.steps.tells) told))
  fails_from Stopped none = none

  pub come_stops : (fault : SendFault) → StopsSending now (q + 1) fault w z → SendStops a p fault v z
  come_stops (Array denied) stops =
      let here : FailsEntry a (q + 1) denied w z = subst (λ (m : Mounted). FailsEntry m (q + 1) denied w z) so_far.same stops in (
        q + 1,
        omega arith,
        record {
          fails = fails_from denied here.fails;
          damaged = λ offset is told s stands. here.damaged offset is (subst IsTrue (sym so_far.steps.tells) told) s (still (StandsFor a s) stands);
        },
      )
  come_stops Port rose = omega (arith, so_far.steps.port_faults)

-- it has come to the last
pub come_all : (a : Mounted) (p q room : ℕ) (v w : View) (now : Mounted) (out : Waiting) → q ≡ last_seq a.index → HasCome a p q room v w now out
    → Steps v w (Sends a v p) (SendsBut a v p (last_seq a.index - p) out.bytes)
come_all a p q room v w now out is so_far = subst (λ (n : ℕ). Steps v w (Sends a v p) (SendsBut a v p (n - p) out.bytes)) is so_far.steps

pub pieces_all : (a : Mounted) (p q room : ℕ) (v w : View) (now : Mounted) (out : Waiting) → q ≡ last_seq a.index → HasCome a p q room v w now out
    → WaitsInPieces a p (last_seq a.index - p) room out.bytes v w
pieces_all a p q room v w now out is so_far = subst (λ (n : ℕ). WaitsInPieces a p (n - p) room out.bytes v w) is so_far.pieces

-- what waited at the end was said
pub sends_whole : {T E : Type 0} (a : Mounted) (p : ℕ) (v w z : View) (waits left : List ℕ) (value : T) → p ≤ last_seq a.index → left ≡ []
    → Steps v w (Sends a v p) (SendsBut a v p (last_seq a.index - p) waits) → SaysWaiting {T = T} {E = E} waits left (Ok value) w z → Steps v z (Sends a v p) (SendsAll a v p)
sends_whole a p v w z waits left value low none steps says =
    let count = last_seq a.index - p in
    then_ v w z (Sends a v p) (SendsBut a v p count waits) (SpokePart waits) (SpokeBut waits left) (Sends a v p) (SendsAll a v p) steps says.steps
    (λ x y was step. step)
    (λ x y t was but mid spoke. but_part a v p count waits x y t (omega arith) but spoke)
    (λ x y t was but mid spoke.
    let first = but.spoke in
    let all : spoke.part ≡ waits = sym (append-nil spoke.part) ∙ ap (λ (l : List ℕ). spoke.part ++ l) (sym none) ∙ spoke.whole in
    record {
      disks = spoke.disks ∙ first.disks;
      text = but.text;
      frames = but.frames;
      said = spoke.said ∙ ap (λ (l : List ℕ). l ++ spoke.part) first.said ∙ append_assoc x.said first.part spoke.part
          ∙ ap (λ (l : List ℕ). x.said ++ l) (ap (λ (l : List ℕ). first.part ++ l) all ∙ first.whole);
    })

-- the port failed there
pub sends_cut : {T E : Type 0} (a : Mounted) (p : ℕ) (v w z : View) (waits left : List ℕ) (e : E) → p ≤ last_seq a.index
    → Steps v w (Sends a v p) (SendsBut a v p (last_seq a.index - p) waits) → SaysWaiting {T = T} {E = E} waits left (Err e) w z → Steps v z (Sends a v p) (Sends a v p)
sends_cut a p v w z waits left e low steps says =
    let count = last_seq a.index - p in
    then_ v w z (Sends a v p) (SendsBut a v p count waits) (SpokePart waits) (SpokePart waits) (Sends a v p) (Sends a v p) steps says.steps
    (λ x y was step. step)
    (λ x y t was but mid spoke. but_part a v p count waits x y t (omega arith) but spoke)
    (λ x y t was but mid spoke. but_part a v p count waits x y t (omega arith) but spoke)
