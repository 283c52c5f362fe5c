-- The steps of a drain, one after the other.
use Rattle.std.proofs.Common.{◌≡◌, ℕ, suc, ◌+◌, ◌-◌, ◌<◌, ◌≤◌, min, max, inl, inr, List, [], ◌∷◌, ◌++◌, length, take, drop, Option, IsTrue, ap, sym, subst, ◌∙◌, arith}
use Rattle.std.proofs.lemmas.Bool.{cases_lt}
use Rattle.std.proofs.Math.Seq.{drop-cons, drop-length}
use Rattle.std.proofs.lemmas.List.{take-append-drop, drop-drop, drop_all}
use Rattle.trap_model.specs.Image.{volume}
use Rattle.trap_model.specs.declared.numbers.Geometry.{Geometry}
use Rattle.trap_bank.specs.Disks.{Disks, Contents, View, Within, Differs, Torn, region}
use Rattle.trap_bank.specs.Steps.{Moves, PlacedThrough}
use Rattle.trap_bank.proofs.Moves.{moves_then, moves_weaken, moves_mono, moves_again, no_moves, torn_again, torn_mono}
use Rattle.trap_bank.proofs.Regions.{differs_mono, differs_again}
use Rattle.trap_format.specs.MemberDisk.{row_at}
use Rattle.trap_map.specs.Layout.{parity_member, block_place}
use Rattle.trap_map.specs.declared.places.Place.{Place}
use Rattle.trap_stage.specs.Staged.{Staged}
use Rattle.trap_stage.specs.Slots.{Stage, last_of}
use Rattle.trap_stage.specs.Found.{no_write, staged_numbered}
use Rattle.trap_raid.specs.Members.{Counts, DrainFits}
use Rattle.trap_raid.specs.Draining.{writes_to, Drains, InDrained, InCounted, IsDrainedTo, PlaceWritten}
use Rattle.trap_raid.proofs.FitLemmas.{fits_newer, fits_older}
use Rattle.trap_raid.proofs.DrainLemmas.{drained_newer, drained_older, drains_then, drains_none, block_drained, parity_drained, both_written}

-- ---- a place that counts
module _ (g : Geometry) (lost : Option ℕ) (rebuilt row member at : ℕ) (bytes : List ℕ) (counts : Counts lost rebuilt row member) (is_at : at ≡ row_at g row) (is_size : length bytes ≡ g.block) where
  counted_in : (e i : ℕ) → Within (member + 1) at (length bytes) e i → InCounted g lost rebuilt row member e i
  counted_in e i within = record { counts = counts; within = record { disk = within.disk; from = omega (arith, within.from, is_at); to = omega (arith, within.to, is_at, is_size) } }

  pub counted_step : (a b : View) → Moves a b (Differs (Within (member + 1) at (length bytes))) (Differs (Within (member + 1) at (length bytes)))
      → Moves a b (Differs (InCounted g lost rebuilt row member)) (Differs (InCounted g lost rebuilt row member))
  counted_step a b moves = moves_mono (Within (member + 1) at (length bytes)) (InCounted g lost rebuilt row member) a b counted_in moves

  pub counted_torn : (x y : Contents) → Torn (Within (member + 1) at (length bytes)) x y → Torn (InCounted g lost rebuilt row member) x y
  counted_torn x y torn = torn_mono (Within (member + 1) at (length bytes)) (InCounted g lost rebuilt row member) x y counted_in torn

  pub counted_written : (a b : View) → Moves a b (Differs (Within (member + 1) at (length bytes))) (PlacedThrough b (member + 1) at bytes)
      → Moves a b (Differs (InCounted g lost rebuilt row member)) (PlaceWritten g lost rebuilt row member bytes)
  counted_written a b moves =
      moves_weaken a b (Differs (Within (member + 1) at (length bytes))) (PlacedThrough b (member + 1) at bytes) (Differs (InCounted g lost rebuilt row member))
      (PlaceWritten g lost rebuilt row member bytes) moves
      (λ x y was torn. differs_mono (Within (member + 1) at (length bytes)) (InCounted g lost rebuilt row member) x.disks y.disks counted_in torn)
      (λ x y was left placed. record {
        differs = differs_mono (Within (member + 1) at (length bytes)) (InCounted g lost rebuilt row member) x.disks y.disks counted_in placed.placed.differs;
        there = λ again.
            ap (λ (k : ℕ). region y.disks (member + 1) k g.block) (sym is_at) ∙ ap (λ (n : ℕ). region y.disks (member + 1) at n) (sym is_size) ∙ placed.placed.there;
      })

-- its first byte
first_counted : (g : Geometry) (lost : Option ℕ) (rebuilt row member failed : ℕ) → failed ≡ member → Counts lost rebuilt row member → InCounted g lost rebuilt row member (failed + 1) (row_at g row)
first_counted g lost rebuilt row member failed is counts =
    let least = g.within.block_least in
    record { counts = counts; within = record { disk = omega (arith, is); from = omega arith; to = omega arith } }

-- ---- the two places of one write
block_in : (g : Geometry) (lost : Option ℕ) (rebuilt : ℕ) (staged : Staged) (place : Place) → staged.block < volume g → place ≡ block_place g staged.block → (e i : ℕ)
    → InCounted g lost rebuilt place.row place.member e i → InDrained g lost rebuilt (staged ∷ []) e i
block_in g lost rebuilt staged place below is_place e i within =
    block_drained g lost rebuilt staged e i below (subst (λ (p : Place). InCounted g lost rebuilt p.row p.member e i) is_place within)

parity_in : (g : Geometry) (lost : Option ℕ) (rebuilt : ℕ) (staged : Staged) (place : Place) (at_parity : ℕ) → staged.block < volume g
    → place ≡ block_place g staged.block → at_parity ≡ parity_member g place.row → (e i : ℕ) → InCounted g lost rebuilt place.row at_parity e i → InDrained g lost rebuilt (staged ∷ []) e i
parity_in g lost rebuilt staged place at_parity below is_place is_parity e i within =
    parity_drained g lost rebuilt staged e i below (subst (λ (p : Place). InCounted g lost rebuilt p.row (parity_member g p.row) e i) is_place
    (subst (λ (m : ℕ). InCounted g lost rebuilt place.row m e i) is_parity within))

pub block_step : (g : Geometry) (lost : Option ℕ) (rebuilt : ℕ) (staged : Staged) (place : Place) (a b : View) → staged.block < volume g → place ≡ block_place g staged.block
    → Moves a b (Differs (InCounted g lost rebuilt place.row place.member)) (Differs (InCounted g lost rebuilt place.row place.member))
    → Moves a b (Differs (InDrained g lost rebuilt (staged ∷ []))) (Differs (InDrained g lost rebuilt (staged ∷ [])))
block_step g lost rebuilt staged place a b below is_place moves =
    moves_mono (InCounted g lost rebuilt place.row place.member) (InDrained g lost rebuilt (staged ∷ [])) a b (block_in g lost rebuilt staged place below is_place) moves

pub slot_step : (g : Geometry) (lost : Option ℕ) (rebuilt : ℕ) (staged : Staged) (place : Place) (at_parity : ℕ) (a b c : View) → staged.block < volume g
    → place ≡ block_place g staged.block → at_parity ≡ parity_member g place.row
    → Moves a b (Differs (InCounted g lost rebuilt place.row place.member)) (Differs (InCounted g lost rebuilt place.row place.member))
    → Moves b c (Differs (InCounted g lost rebuilt place.row at_parity)) (Differs (InCounted g lost rebuilt place.row at_parity))
    → Moves a c (Differs (InDrained g lost rebuilt (staged ∷ []))) (Differs (InDrained g lost rebuilt (staged ∷ [])))
slot_step g lost rebuilt staged place at_parity a b c below is_place is_parity first second =
    moves_again (InDrained g lost rebuilt (staged ∷ [])) a b c (block_step g lost rebuilt staged place a b below is_place first)
    (moves_mono (InCounted g lost rebuilt place.row at_parity) (InDrained g lost rebuilt (staged ∷ [])) b c (parity_in g lost rebuilt staged place at_parity below is_place is_parity) second)

pub slot_steps : (g : Geometry) (lost : Option ℕ) (rebuilt : ℕ) (staged : Staged) (place : Place) (at_parity : ℕ) (a b c : View) → staged.block < volume g
    → place ≡ block_place g staged.block → at_parity ≡ parity_member g place.row
    → Moves a b (Differs (InCounted g lost rebuilt place.row place.member)) (PlaceWritten g lost rebuilt place.row place.member staged.bytes)
    → Moves b c (Differs (InCounted g lost rebuilt place.row at_parity)) (PlaceWritten g lost rebuilt place.row at_parity staged.parity)
    → Moves a c (Differs (InDrained g lost rebuilt (staged ∷ []))) (Drains g lost rebuilt (staged ∷ []))
slot_steps g lost rebuilt staged place at_parity a b c below is_place is_parity first second =
    moves_then a b c (Differs (InCounted g lost rebuilt place.row place.member)) (PlaceWritten g lost rebuilt place.row place.member staged.bytes)
    (Differs (InCounted g lost rebuilt place.row at_parity)) (PlaceWritten g lost rebuilt place.row at_parity staged.parity)
    (Differs (InDrained g lost rebuilt (staged ∷ []))) (Drains g lost rebuilt (staged ∷ [])) first second
    (λ x y was torn. wide_block x.disks y.disks torn)
    (λ x y z was written mid torn. differs_again (InDrained g lost rebuilt (staged ∷ [])) x.disks y.disks z.disks (wide_block x.disks y.disks written.differs)
    (differs_mono (InCounted g lost rebuilt place.row at_parity) (InDrained g lost rebuilt (staged ∷ [])) y.disks z.disks
    (parity_in g lost rebuilt staged place at_parity below is_place is_parity) torn))
    (λ x y z was written mid more. both_written g lost rebuilt staged x.disks y.disks z.disks below
    (subst (λ (p : Place). PlaceWritten g lost rebuilt p.row p.member staged.bytes x.disks y.disks) is_place written)
    (subst (λ (p : Place). PlaceWritten g lost rebuilt p.row (parity_member g p.row) staged.parity y.disks z.disks) is_place
    (subst (λ (m : ℕ). PlaceWritten g lost rebuilt place.row m staged.parity y.disks z.disks) is_parity more)))
  where
    wide_block : (x y : Disks) → Differs (InCounted g lost rebuilt place.row place.member) x y → Differs (InDrained g lost rebuilt (staged ∷ [])) x y
    wide_block x y torn = differs_mono (InCounted g lost rebuilt place.row place.member) (InDrained g lost rebuilt (staged ∷ [])) x y (block_in g lost rebuilt staged place below is_place) torn

-- what a read gives after the one place, and after both
pub block_torn : (g : Geometry) (lost : Option ℕ) (rebuilt : ℕ) (staged : Staged) (place : Place) (a b : View) → staged.block < volume g → place ≡ block_place g staged.block
    → (IsTrue a.tells → Torn (InCounted g lost rebuilt place.row place.member) a.now b.now) → IsTrue a.tells → Torn (InDrained g lost rebuilt (staged ∷ [])) a.now b.now
block_torn g lost rebuilt staged place a b below is_place torn told =
    torn_mono (InCounted g lost rebuilt place.row place.member) (InDrained g lost rebuilt (staged ∷ [])) a.now b.now (block_in g lost rebuilt staged place below is_place) (torn told)

pub slot_torn : (g : Geometry) (lost : Option ℕ) (rebuilt : ℕ) (staged : Staged) (place : Place) (at_parity : ℕ) (a b c : View) → staged.block < volume g
    → place ≡ block_place g staged.block → at_parity ≡ parity_member g place.row
    → b.tells ≡ a.tells → (IsTrue a.tells → Torn (InCounted g lost rebuilt place.row place.member) a.now b.now) → (IsTrue b.tells → Torn (InCounted g lost rebuilt place.row at_parity) b.now c.now)
    → IsTrue a.tells → Torn (InDrained g lost rebuilt (staged ∷ [])) a.now c.now
slot_torn g lost rebuilt staged place at_parity a b c below is_place is_parity tells first second =
    torn_again (InDrained g lost rebuilt (staged ∷ [])) a b c tells (block_torn g lost rebuilt staged place a b below is_place first)
    (λ told. torn_mono (InCounted g lost rebuilt place.row at_parity) (InDrained g lost rebuilt (staged ∷ [])) b.now c.now
    (parity_in g lost rebuilt staged place at_parity below is_place is_parity) (second told))

-- a member that fails in a place of a write is one that the write goes to
pub block_fails : (g : Geometry) (lost : Option ℕ) (rebuilt : ℕ) (staged : Staged) (place : Place) (failed : ℕ) → staged.block < volume g
    → place ≡ block_place g staged.block → (failed ≡ place.member) × Counts lost rebuilt place.row place.member → IsDrainedTo g lost rebuilt (staged ∷ []) failed
block_fails g lost rebuilt staged place failed below is_place at = record {
  at = row_at g place.row;
  place = block_in g lost rebuilt staged place below is_place (failed + 1) (row_at g place.row) (first_counted g lost rebuilt place.row place.member failed at.0 at.1);
}

pub parity_fails : (g : Geometry) (lost : Option ℕ) (rebuilt : ℕ) (staged : Staged) (place : Place) (at_parity failed : ℕ) → staged.block < volume g
    → place ≡ block_place g staged.block → at_parity ≡ parity_member g place.row → (failed ≡ at_parity) × Counts lost rebuilt place.row at_parity → IsDrainedTo g lost rebuilt (staged ∷ []) failed
parity_fails g lost rebuilt staged place at_parity failed below is_place is_parity at = record {
  at = row_at g place.row;
  place = parity_in g lost rebuilt staged place at_parity below is_place is_parity (failed + 1) (row_at g place.row) (first_counted g lost rebuilt place.row at_parity failed at.0 at.1);
}

-- ---- one write after the other
-- the writes up to a number are the last of those up to a later one
pub writes_to-split : (stage : Stage) (number upto : ℕ) → number ≤ upto → number ≤ last_of stage
    → writes_to stage upto ≡ take (min upto (last_of stage) - number) (writes_to stage upto) ++ writes_to stage number
writes_to-split stage number upto low high =
    let newer = min upto (last_of stage) - number in
    sym (take-append-drop newer (writes_to stage upto))
    ∙ ap (λ (rest : List Staged). take newer (writes_to stage upto) ++ rest)
    (drop-drop newer (last_of stage - upto) stage.pending ∙ ap (λ (n : ℕ). drop n stage.pending) (omega arith))

-- the next of them
pub writes_to-next : (stage : Stage) (number : ℕ) → stage.drained ≤ number → number < last_of stage → writes_to stage (number + 1) ≡ staged_numbered stage (number + 1) ∷ writes_to stage number
writes_to-next stage number low high =
    drop-cons stage.pending (last_of stage - (number + 1)) no_write (omega arith)
    ∙ ap (λ (n : ℕ). staged_numbered stage (number + 1) ∷ drop n stage.pending) (one_less (last_of stage) number high)
  where
    one_less : (last number : ℕ) → number < last → suc (last - (number + 1)) ≡ last - number
    one_less last number high = omega arith

-- none of them
pub writes_to-none : (stage : Stage) → writes_to stage stage.drained ≡ []
writes_to-none stage = ap (λ (n : ℕ). drop n stage.pending) (omega arith) ∙ drop-length stage.pending

-- all of them, where a run over the numbers has ended
pub writes_to-end : (stage : Stage) (number upto : ℕ) → stage.drained ≤ number → min upto (last_of stage) ≤ number → number ≤ max stage.drained (min upto (last_of stage))
    → writes_to stage number ≡ writes_to stage upto
writes_to-end stage number upto low end high = elim (cases_lt upto stage.drained) [
  | inl none ↦ drop_all (last_of stage - number) stage.pending (omega arith) ∙ sym (drop_all (last_of stage - upto) stage.pending (omega arith))
  | inr some ↦ ap (λ (n : ℕ). drop n stage.pending) (omega arith)
]

-- no write yet
pub drain_start : (g : Geometry) (lost : Option ℕ) (rebuilt : ℕ) (stage : Stage) (upto : ℕ) (v : View)
    → Moves v v (Differs (InDrained g lost rebuilt (writes_to stage upto))) (Drains g lost rebuilt (writes_to stage stage.drained))
drain_start g lost rebuilt stage upto v = no_moves v (Differs (InDrained g lost rebuilt (writes_to stage upto))) (Drains g lost rebuilt (writes_to stage stage.drained))
    (λ x was. subst (λ (writes : List Staged). Drains g lost rebuilt writes x.disks x.disks) (sym (writes_to-none stage)) (drains_none g lost rebuilt x.disks))

module _ (g : Geometry) (lost : Option ℕ) (rebuilt : ℕ) (stage : Stage) (number upto : ℕ) (low : stage.drained ≤ number) (inside : number < upto) (high : number < last_of stage) where
  -- what the writes so far cover, all of them cover
  older_in : (e i : ℕ) → InDrained g lost rebuilt (writes_to stage number) e i → InDrained g lost rebuilt (writes_to stage upto) e i
  older_in e i covered =
      subst (λ (writes : List Staged). InDrained g lost rebuilt writes e i) (sym (writes_to-split stage number upto (omega arith) (omega arith)))
      (drained_older g lost rebuilt (take (min upto (last_of stage) - number) (writes_to stage upto)) (writes_to stage number) e i covered)

  -- so with the next write
  next_in : (e i : ℕ) → InDrained g lost rebuilt (staged_numbered stage (number + 1) ∷ []) e i → InDrained g lost rebuilt (writes_to stage upto) e i
  next_in e i covered =
      subst (λ (writes : List Staged). InDrained g lost rebuilt writes e i) (sym (writes_to-split stage (number + 1) upto (omega arith) (omega arith)))
      (drained_older g lost rebuilt (take (min upto (last_of stage) - (number + 1)) (writes_to stage upto)) (writes_to stage (number + 1)) e i
      (subst (λ (writes : List Staged). InDrained g lost rebuilt writes e i) (sym (writes_to-next stage number low high))
      (drained_newer g lost rebuilt (staged_numbered stage (number + 1) ∷ []) (writes_to stage number) e i covered)))

  -- the disks fit for it
  pub fits_next : (v : View) → DrainFits g lost rebuilt (writes_to stage upto) v → DrainFits g lost rebuilt (staged_numbered stage (number + 1) ∷ []) v
  fits_next v fits =
      let newer = take (min upto (last_of stage) - (number + 1)) (writes_to stage upto) in
      fits_newer g lost rebuilt (staged_numbered stage (number + 1) ∷ []) (writes_to stage number) v
      (subst (λ (writes : List Staged). DrainFits g lost rebuilt writes v) (writes_to-next stage number low high)
      (fits_older g lost rebuilt newer (writes_to stage (number + 1)) v
      (subst (λ (writes : List Staged). DrainFits g lost rebuilt writes v) (writes_to-split stage (number + 1) upto (omega arith) (omega arith)) fits)))

  so_far : (x y : Disks) → Drains g lost rebuilt (writes_to stage number) x y → Differs (InDrained g lost rebuilt (writes_to stage upto)) x y
  so_far x y drains = differs_mono (InDrained g lost rebuilt (writes_to stage number)) (InDrained g lost rebuilt (writes_to stage upto)) x y older_in drains.differs

  -- one write more
  pub drain_more : (a b c : View) → Moves a b (Differs (InDrained g lost rebuilt (writes_to stage upto))) (Drains g lost rebuilt (writes_to stage number))
      → Moves b c (Differs (InDrained g lost rebuilt (staged_numbered stage (number + 1) ∷ []))) (Drains g lost rebuilt (staged_numbered stage (number + 1) ∷ []))
      → Moves a c (Differs (InDrained g lost rebuilt (writes_to stage upto))) (Drains g lost rebuilt (writes_to stage (number + 1)))
  drain_more a b c first second =
      moves_then a b c (Differs (InDrained g lost rebuilt (writes_to stage upto))) (Drains g lost rebuilt (writes_to stage number))
      (Differs (InDrained g lost rebuilt (staged_numbered stage (number + 1) ∷ []))) (Drains g lost rebuilt (staged_numbered stage (number + 1) ∷ []))
      (Differs (InDrained g lost rebuilt (writes_to stage upto))) (Drains g lost rebuilt (writes_to stage (number + 1))) first second
      (λ x y was torn. torn)
      (λ x y z was drains mid torn. differs_again (InDrained g lost rebuilt (writes_to stage upto)) x.disks y.disks z.disks (so_far x.disks y.disks drains)
      (differs_mono (InDrained g lost rebuilt (staged_numbered stage (number + 1) ∷ [])) (InDrained g lost rebuilt (writes_to stage upto)) y.disks z.disks next_in torn))
      (λ x y z was drains mid more. subst (λ (writes : List Staged). Drains g lost rebuilt writes x.disks z.disks) (sym (writes_to-next stage number low high))
      (drains_then g lost rebuilt (staged_numbered stage (number + 1) ∷ []) (writes_to stage number) x.disks y.disks z.disks drains more))

  -- a write that was cut short
  pub drain_torn : (a b c : View) → Moves a b (Differs (InDrained g lost rebuilt (writes_to stage upto))) (Drains g lost rebuilt (writes_to stage number))
      → Moves b c (Differs (InDrained g lost rebuilt (staged_numbered stage (number + 1) ∷ []))) (Differs (InDrained g lost rebuilt (staged_numbered stage (number + 1) ∷ [])))
      → Moves a c (Differs (InDrained g lost rebuilt (writes_to stage upto))) (Differs (InDrained g lost rebuilt (writes_to stage upto)))
  drain_torn a b c first second =
      moves_again (InDrained g lost rebuilt (writes_to stage upto)) a b c
      (moves_weaken a b (Differs (InDrained g lost rebuilt (writes_to stage upto))) (Drains g lost rebuilt (writes_to stage number))
      (Differs (InDrained g lost rebuilt (writes_to stage upto))) (Differs (InDrained g lost rebuilt (writes_to stage upto))) first
      (λ x y was torn. torn) (λ x y was left drains. so_far x.disks y.disks drains))
      (moves_mono (InDrained g lost rebuilt (staged_numbered stage (number + 1) ∷ [])) (InDrained g lost rebuilt (writes_to stage upto)) b c next_in second)

  -- what a read gives after one write more, also where that was cut short
  pub drain_given : (a b c : View) → b.tells ≡ a.tells → (IsTrue a.tells → Torn (InDrained g lost rebuilt (writes_to stage upto)) a.now b.now)
      → (IsTrue b.tells → Torn (InDrained g lost rebuilt (staged_numbered stage (number + 1) ∷ [])) b.now c.now) → IsTrue a.tells → Torn (InDrained g lost rebuilt (writes_to stage upto)) a.now c.now
  drain_given a b c tells first second = torn_again (InDrained g lost rebuilt (writes_to stage upto)) a b c tells first
      (λ told. torn_mono (InDrained g lost rebuilt (staged_numbered stage (number + 1) ∷ [])) (InDrained g lost rebuilt (writes_to stage upto)) b.now c.now next_in (second told))

  -- a member that fails in one write more is one that all of them are written to
  pub drain_fails : (member : ℕ) → IsDrainedTo g lost rebuilt (staged_numbered stage (number + 1) ∷ []) member → IsDrainedTo g lost rebuilt (writes_to stage upto) member
  drain_fails member to = record { at = to.at; place = next_in (member + 1) to.at to.place }

-- all were written
pub drain_moves : (g : Geometry) (lost : Option ℕ) (rebuilt : ℕ) (writes : List Staged) (a b : View)
    → Moves a b (Differs (InDrained g lost rebuilt writes)) (Drains g lost rebuilt writes) → Moves a b (Differs (InDrained g lost rebuilt writes)) (Differs (InDrained g lost rebuilt writes))
drain_moves g lost rebuilt writes a b moves =
    moves_weaken a b (Differs (InDrained g lost rebuilt writes)) (Drains g lost rebuilt writes) (Differs (InDrained g lost rebuilt writes)) (Differs (InDrained g lost rebuilt writes)) moves
    (λ x y was torn. torn) (λ x y was left drains. drains.differs)

-- the pending writes are those that stay, and then those up to the number
pub pending_split : (stage : Stage) (upto : ℕ) → stage.pending ≡ take (last_of stage - upto) stage.pending ++ writes_to stage upto
pending_split stage upto = sym (take-append-drop (last_of stage - upto) stage.pending)
