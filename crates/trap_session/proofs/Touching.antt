-- Which bytes the lines of a session may touch.
use Rattle.std.proofs.Common.{Bool, Some, None, if◌then◌else◌, inl, inr, ⊎_elim, ℕ, ◌+◌, ◌-◌, ◌*◌, ◌<◌, ◌≤◌, Option, List, IsTrue, Result, refl, sym, ap, subst, ◌∙◌, arith}
use Rattle.std.proofs.lemmas.Bool.{cases_lt, le-leb}
use Rattle.trap_bank.specs.Disks.{Area, Contents, Disks, View, Within, Differs, Quiet, byte, size_of}
use Rattle.trap_bank.specs.Calls.{Says}
use Rattle.trap_bank.specs.Steps.{SpokePart}
use Rattle.trap_bank.proofs.Moves.{say_steps, then_, weaken, nothing_done}
use Rattle.trap_bank.proofs.Regions.{differs_mono, differs_again, differs_none}
use Rattle.trap_format.specs.LogDisk.{slots_at, slot_len}
use Rattle.trap_map.proofs.PlaceLemmas.{row_of-within}
use Rattle.trap_model.specs.Image.{volume}
use Rattle.trap_model.specs.declared.numbers.Geometry.{Geometry}
use Rattle.trap_model.specs.declared.request.Refusal.TheVariants.{NoBlock}
use Rattle.trap_model.specs.declared.request.Reply.TheVariants.{No}
use Rattle.trap_model.specs.declared.request.Request.{Request}
use Rattle.trap_model.specs.declared.request.Request.TheVariants.{Write}
use Rattle.trap_script.specs.Replies.{reply_text}
use Rattle.trap_ring.specs.Ring.{InRing}
use Rattle.trap_stage.specs.Slots.{slot_area}
use Rattle.trap_stage.proofs.HeldSlots.{slot_room}
use Rattle.trap_array.specs.Areas.{Touches, InCommit, InDrain, InBlock, InWrite, InAnyCounted, MayTouch}
use Rattle.trap_array.specs.Calls.{Mounted, SameArray}
use Rattle.trap_array.specs.Holding.{log_ring}
use Rattle.trap_array.specs.Turning.{early_refusal}
use Rattle.trap_array.specs.Untouched.{Untouched}
use Rattle.trap_array.proofs.AreaSteps.{touches_same}
use Rattle.trap_array.proofs.Denials.{untouched_none}
use Rattle.trap_session.specs.Answers.{AnswersLine}
use Rattle.trap_session.specs.Changing.{DiffersIn, ChangesOnly, InNothing}
use Rattle.trap_session.specs.Deciding.{refusal_reply}
use Rattle.trap_session.specs.declared.outcome.Next.{Next}
use Rattle.trap_session.specs.declared.outcome.SessionFault.{SessionFault}

-- ---- a write
-- what it may touch is what any call may touch, where its block is there
module _ (a : Mounted) (block : ℕ) (there : block < volume a.g) (e i : ℕ) where
  slot_may : slot_area a.g (a.head.last + 1) e i → MayTouch a e i
  slot_may inside = let room = slot_room a.g (a.head.last + 1) in
      inr (inl (record { disk = inside.disk; from = omega (arith, inside.from); to = omega (arith, inside.to, room) }))

  commit_may : InCommit a e i → MayTouch a e i
  commit_may inside = ⊎_elim (λ ring. inr (inr (inl ring))) (λ rest. ⊎_elim slot_may (λ cell. inl cell) rest) inside

  drain_may : InDrain a e i → MayTouch a e i
  drain_may inside = ⊎_elim
      (λ drained. inr (inr (inr (record {
        row = drained.covered.row;
        member = drained.covered.member;
        in_rows = drained.covered.in_rows;
        inside = drained.covered.inside;
        place = record { counts = drained.counts; within = drained.covered.within };
      }))))
      (λ cell. inl cell)
      inside

  block_may : InBlock a.g a.head.lost a.head.rebuilt block e i → MayTouch a e i
  block_may inside = inr (inr (inr (record {
    row = _;
    member = inside.member;
    in_rows = row_of-within a.g block there;
    inside = inside.inside;
    place = record { counts = inside.counts; within = inside.within };
  })))

  write_may : InWrite a block e i → MayTouch a e i
  write_may inside = ⊎_elim commit_may (λ rest. ⊎_elim drain_may block_may rest) inside

-- a call that makes none of the bank
untouched_touches : (area : Area) (v u : View) → Untouched v u → Touches area v u
untouched_touches area v u still = touches_same area v u (λ told. still.now) (record {
  tells = still.tells;
  faults = λ e. omega (arith, still.faults e);
  port_faults = omega (arith, still.port_faults);
  later = omega (arith, still.moment);
  in_run = λ t c le left. inl ((still.left t c).0 left);
  now = λ c left. record {
    origin = c;
    was = record {
      told = subst IsTrue still.tells left.told;
      torn = record {
        disks = record {
          sizes = λ e. left.torn.disks.sizes e ∙ ap (λ (x : Contents). size_of (x.disks e)) still.now;
          bytes = λ e i clean. left.torn.disks.bytes e i (λ more. clean ((still.unsynced e i).0 more)) ∙ ap (λ (x : Contents). byte x.disks e i) still.now;
        };
        said = left.torn.said ∙ ap (λ (x : Contents). x.said) still.now;
      };
    };
    by = record { disks = refl; said = refl };
  };
})

-- ---- a line
-- a reply after it changes no more
pub says_then : {T E : Type 0} (area : Area) (piece : List ℕ) (result : Result T E) (v u w : View) → Touches area v u → Says piece result u w → ChangesOnly area v w
says_then area piece result v u w touches call = record {
  now = λ told. subst (λ (disks : Disks). Differs area v.now.disks disks) (sym (call.disks (subst IsTrue (sym touches.any_moment.tells) told))) (touches.contents told).disks;
  any_moment = then_ v u w (Quiet (Differs area)) (Quiet (Differs area)) (SpokePart piece) (SpokePart piece) (DiffersIn area) (DiffersIn area)
      touches.any_moment (say_steps result u w piece call)
      (λ x y was torn. torn.disks)
      (λ x y z was torn mid spoke. subst (λ (disks : Disks). Differs area x.disks disks) (sym spoke.disks) torn.disks)
      (λ x y z was torn mid spoke. subst (λ (disks : Disks). Differs area x.disks disks) (sym spoke.disks) torn.disks);
}

-- no reply
pub says_nothing : (area : Area) (v u : View) → Touches area v u → ChangesOnly area v u
says_nothing area v u touches = record {
  now = λ told. (touches.contents told).disks;
  any_moment = weaken v u (Quiet (Differs area)) (Quiet (Differs area)) (DiffersIn area) (DiffersIn area) touches.any_moment
      (λ x y was torn. torn.disks) (λ x y was left torn. torn.disks);
}

-- ---- line after line
pub changes_none : (area : Area) (v : View) → ChangesOnly area v v
changes_none area v = record {
  now = λ told. differs_none area v.now.disks;
  any_moment = nothing_done v (DiffersIn area) (DiffersIn area) (λ x was. differs_none area x.disks);
}

-- the areas only shrink
pub changes_then : (large small : Area) (u v w : View) → ((e i : ℕ) → small e i → large e i) → ChangesOnly large u v → ChangesOnly small v w → ChangesOnly large u w
changes_then large small u v w within first second = record {
  now = λ told. differs_again large u.now.disks v.now.disks w.now.disks (first.now told)
      (differs_mono small large v.now.disks w.now.disks within (second.now (subst IsTrue (sym first.any_moment.tells) told)));
  any_moment = then_ u v w (DiffersIn large) (DiffersIn large) (DiffersIn small) (DiffersIn small) (DiffersIn large) (DiffersIn large)
      first.any_moment second.any_moment
      (λ x y was torn. torn)
      (λ x y z was torn mid more. differs_again large x.disks y.disks z.disks torn (differs_mono small large y.disks z.disks within more))
      (λ x y z was torn mid more. differs_again large x.disks y.disks z.disks torn (differs_mono small large y.disks z.disks within more));
}

changes_within : (small large : Area) (v w : View) → ((e i : ℕ) → small e i → large e i) → ChangesOnly small v w → ChangesOnly large v w
changes_within small large v w within changes = changes_then large small v v w within (changes_none large v) changes

-- What a line changes is what calls of the array may touch. A write of a block that isn't there is refused, with no call of the bank but for the reply.
pub line_changes : (a b : Mounted) (v w : View) (asked : Request) (result : Result Next SessionFault) → AnswersLine a b result asked v w → ChangesOnly (MayTouch a) v w
line_changes a b v w (Write time block bytes) result line = ⊎_elim
    (λ (there : block < volume a.g). changes_within (InWrite a block) (MayTouch a) v w (λ e i inside. write_may a block there e i inside) line.touches)
    (λ (above : volume a.g ≤ block). says_then (MayTouch a) (reply_text (No NoBlock)) result v v w (untouched_touches (MayTouch a) v v (untouched_none v))
    (line.own (No NoBlock) (ap (λ (b : Bool). if b then Some (No NoBlock) else if a.is_stopped then None else refusal_reply (early_refusal a.head time)) (le-leb (volume a.g) block above))))
    (cases_lt block (volume a.g))
line_changes a b v w other result line = changes_within InNothing (MayTouch a) v w (λ e i inside. absurd inside) line.touches

-- ---- a later array
-- What it may touch an earlier one may: the window begins where it began, and its end only grows.
pub later_may : (a b : Mounted) → SameArray a b → (e i : ℕ) → MayTouch b e i → MayTouch a e i
later_may a b on e i inside = ⊎_elim (λ cell. inl cell) (λ rest. ⊎_elim (λ there. inr (inl (slots there)))
    (λ more. ⊎_elim (λ there. inr (inr (inl (ring there)))) (λ there. inr (inr (inr (counted there)))) more) rest) inside
  where
    slots : Within 0 slots_at (b.g.slots * slot_len b.g) e i → Within 0 slots_at (a.g.slots * slot_len a.g) e i
    slots there = subst (λ (g : Geometry). Within 0 slots_at (g.slots * slot_len g) e i) on.g there

    in_ring : InRing (log_ring a.g) b.head.end_off (b.head.first_off + a.g.ring - b.head.end_off) e i
        → InRing (log_ring a.g) a.head.end_off (a.head.first_off + a.g.ring - a.head.end_off) e i
    in_ring there = record {
      disk = there.disk;
      offset = there.offset;
      low = omega (arith, on.follows.grows.end_off, there.low);
      high = omega (arith, on.follows.grows.first_off, on.follows.grows.end_off, there.low, there.high);
      place = there.place;
    }

    ring : InRing (log_ring b.g) b.head.end_off (b.head.first_off + b.g.ring - b.head.end_off) e i
        → InRing (log_ring a.g) a.head.end_off (a.head.first_off + a.g.ring - a.head.end_off) e i
    ring there = in_ring (subst (λ (g : Geometry). InRing (log_ring g) b.head.end_off (b.head.first_off + g.ring - b.head.end_off) e i) on.g there)

    counted : InAnyCounted b.g b.head.lost b.head.rebuilt e i → InAnyCounted a.g a.head.lost a.head.rebuilt e i
    counted there = subst (λ (n : ℕ). InAnyCounted a.g a.head.lost n e i) on.follows.rebuilt
        (subst (λ (l : Option ℕ). InAnyCounted a.g l b.head.rebuilt e i) on.follows.lost
        (subst (λ (g : Geometry). InAnyCounted g b.head.lost b.head.rebuilt e i) on.g there))

-- and so two runs of lines change what the first array's calls may touch
pub changed_then : (a b : Mounted) (u v w : View) → SameArray a b → ChangesOnly (MayTouch a) u v → ChangesOnly (MayTouch b) v w → ChangesOnly (MayTouch a) u w
changed_then a b u v w on first second = changes_then (MayTouch a) (MayTouch b) u v w (later_may a b on) first second
