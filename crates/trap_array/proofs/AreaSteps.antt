-- Which bytes a write touches.
use Rattle.std.proofs.Common.{◌≡◌, ◌⊎◌, ℕ, ◌+◌, ◌<◌, List, [], ◌∷◌, Option, Some, None, Bool, true, false, ◌==◌, if◌then◌else◌, inl, inr, ⊎_elim, refl, sym, ap, subst, ◌∙◌, arith}
use Rattle.std.specs.Option.{option_or}
use Rattle.std.proofs.lemmas.Bool.{eqb-true}
use Rattle.trap_bank.specs.Disks.{View, Within}
use Rattle.trap_format.specs.MemberDisk.{row_at}
use Rattle.trap_format.specs.declared.head.Head.{Head}
use Rattle.trap_map.specs.Layout.{parity_member, block_place}
use Rattle.trap_model.specs.declared.numbers.Geometry.{Geometry}
use Rattle.trap_raid.specs.Draining.{InDrained}
use Rattle.trap_raid.specs.Members.{Counts}
use Rattle.trap_stage.specs.Staged.{Staged, staged_at, newest_at}
use Rattle.trap_array.specs.Areas.{Touches, InCommit, InDrain, InBlock, InWrite}
use Rattle.trap_array.specs.Beside.{StaysFrom}
use Rattle.trap_array.specs.Calls.{Mounted, SameArray, running}
use Rattle.trap_array.specs.Log.{IndexedLog}
use Rattle.trap_array.specs.NextHead.{drained_to}
pub use Rattle.trap_log.proofs.AreaSteps.{touches_then, touches_mono, touches_same, unchanged, touches_none}
use Rattle.trap_array.proofs.Beside.{stays_torn}

-- ---- a whole write
-- a place that a further write covers is its block's or its parity's, or one that was covered before
module _ (g : Geometry) (lost : Option ℕ) (rebuilt : ℕ) (staged : Staged) (writes : List Staged) (e i : ℕ) where
  staged_place : (row member : ℕ) (bytes : List ℕ) → staged_at g staged row member ≡ Some bytes
      → (row ≡ (block_place g staged.block).row) × ((member ≡ (block_place g staged.block).member) ⊎ (member ≡ parity_member g row))
  staged_place row member bytes is =
      by_row (row == (block_place g staged.block).row) refl
    where
      by_parity : (c : Bool) → (member == parity_member g row) ≡ c → (if c then Some staged.parity else None) ≡ Some bytes → member ≡ parity_member g row
      by_parity true same at = eqb-true member (parity_member g row) same
      by_parity false same at = absurd (cc at)

      by_member : (b : Bool) → (member == (block_place g staged.block).member) ≡ b → (if b then Some staged.bytes else
          (if member == parity_member g row then Some staged.parity else None)) ≡ Some bytes
          → (member ≡ (block_place g staged.block).member) ⊎ (member ≡ parity_member g row)
      by_member true same at = inl (eqb-true member (block_place g staged.block).member same)
      by_member false same at = inr (by_parity (member == parity_member g row) refl at)

      in_row : (a : Bool) → (row == (block_place g staged.block).row) ≡ a → (if a then (if member == (block_place g staged.block).member then Some staged.bytes else
          (if member == parity_member g row then Some staged.parity else None)) else None) ≡ Some bytes
          → (row ≡ (block_place g staged.block).row) × ((member ≡ (block_place g staged.block).member) ⊎ (member ≡ parity_member g row))
      in_row true same at = (eqb-true row (block_place g staged.block).row same, by_member (member == (block_place g staged.block).member) refl at)
      in_row false same at = absurd (cc at)

      by_row : (a : Bool) → (row == (block_place g staged.block).row) ≡ a → (row ≡ (block_place g staged.block).row) × ((member ≡ (block_place g staged.block).member) ⊎ (member ≡ parity_member g row))
      by_row a same = in_row (row == (block_place g staged.block).row) refl is

  pub one_further : InDrained g lost rebuilt (staged ∷ writes) e i → InDrained g lost rebuilt writes e i ⊎ InBlock g lost rebuilt staged.block e i
  one_further inside = pick (staged_at g staged inside.covered.row inside.covered.member) refl
    where
      pick : (o : Option (List ℕ)) → staged_at g staged inside.covered.row inside.covered.member ≡ o → InDrained g lost rebuilt writes e i ⊎ InBlock g lost rebuilt staged.block e i
      pick None none = inl (record {
        covered = record {
          row = inside.covered.row;
          member = inside.covered.member;
          in_rows = inside.covered.in_rows;
          inside = inside.covered.inside;
          bytes = inside.covered.bytes;
          newest = sym (ap (λ (o : Option (List ℕ)). option_or o (newest_at g writes inside.covered.row inside.covered.member)) none) ∙ inside.covered.newest;
          within = inside.covered.within;
        };
        counts = inside.counts;
      })
      pick (Some bytes) some =
          let place = staged_place inside.covered.row inside.covered.member bytes some in
          inr (record {
            member = inside.covered.member;
            inside = inside.covered.inside;
            counts = subst (λ (row : ℕ). Counts lost rebuilt row inside.covered.member) place.0 inside.counts;
            either = subst (λ (row : ℕ). (inside.covered.member ≡ (block_place g staged.block).member) ⊎ (inside.covered.member ≡ parity_member g row)) place.0 place.1;
            within = subst (λ (row : ℕ). Within_row row) place.0 inside.covered.within;
          })
        where
          Within_row : ℕ → Type 0
          Within_row row = Within (inside.covered.member + 1) (row_at g row) g.block e i

-- a commit and its drain
module _ (a b : IndexedLog) (staged : Staged) (on : SameArray (running a) (running b)) (further : b.stage.pending ≡ staged ∷ a.stage.pending) where
  in_both : (e i : ℕ) → InDrain (running b) e i → InWrite (running a) staged.block e i
  in_both e i inside = ⊎_elim
      (λ drained.
      let there = subst (λ (writes : List Staged). InDrained a.g a.head.lost a.head.rebuilt writes e i) further
      (subst (λ (n : ℕ). InDrained a.g a.head.lost n b.stage.pending e i) on.follows.rebuilt
      (subst (λ (lost : Option ℕ). InDrained a.g lost b.head.rebuilt b.stage.pending e i) on.follows.lost
      (subst (λ (g : Geometry). InDrained g b.head.lost b.head.rebuilt b.stage.pending e i) on.g drained))) in
      ⊎_elim (λ old. inr (inl (inl old))) (λ block. inr (inr block)) (one_further a.g a.head.lost a.head.rebuilt staged a.stage.pending e i there))
      (λ cell. inr (inl (inr cell)))
      inside

  pub write_touches : (u v w : View) → Touches (InCommit (running a)) u v → Touches (InDrain (running b)) v w → Touches (InWrite (running a) staged.block) u w
  write_touches u v w commit drain =
      touches_then (InWrite (running a) staged.block) u v w
      (touches_mono (InCommit (running a)) (InWrite (running a) staged.block) u v (λ e i inside. inl inside) commit)
      (touches_mono (InDrain (running b)) (InWrite (running a) staged.block) v w in_both drain)

pub commit_within : (a : Mounted) (block : ℕ) (v w : View) → Touches (InCommit a) v w → Touches (InWrite a block) v w
commit_within a block v w commit = touches_mono (InCommit a) (InWrite a block) v w (λ e i inside. inl inside) commit

pub drain_within : (a : Mounted) (block : ℕ) (v w : View) → Touches (InDrain a) v w → Touches (InWrite a block) v w
drain_within a block v w drain = touches_mono (InDrain a) (InWrite a block) v w (λ e i inside. inr (inl inside)) drain

-- and before them a drain that made a slot free
module _ (a k : Mounted) (block upto : ℕ) (same : k.g ≡ a.g) (head : k.head ≡ drained_to a.head upto) (writes : (k.pending ≡ a.pending) ⊎ (k.pending ≡ [])) where
  in_since : (e i : ℕ) → InWrite k block e i → InWrite a block e i
  in_since e i inside =
      let here = subst (λ (h : Head). InWrite (record k { g = a.g; head = h }) block e i) head
      (subst (λ (g : Geometry). InWrite (record k { g = g }) block e i) same inside) in
      ⊎_elim
      (λ all. subst (λ (w : List Staged). InWrite (record a { pending = w }) block e i) all here)
      (λ none. no_more (subst (λ (w : List Staged). InWrite (record a { pending = w }) block e i) none here))
      writes
    where
      no_more : InWrite (record a { pending = [] }) block e i → InWrite a block e i
      no_more inside = ⊎_elim (λ commit. inl commit)
          (λ rest. ⊎_elim (λ drain. ⊎_elim (λ drained. absurd (cc drained.covered.newest)) (λ cell. inr (inl (inr cell))) drain) (λ place. inr (inr place)) rest)
          inside

  pub since_touches : (u v w : View) → Touches (InDrain a) u v → Touches (InWrite k block) v w → Touches (InWrite a block) u w
  since_touches u v w drain write =
      touches_then (InWrite a block) u v w (drain_within a block u v drain) (touches_mono (InWrite k block) (InWrite a block) v w in_since write)

-- ---- no disk beside the array's
low_commit : (a : Mounted) (e i : ℕ) → InCommit a e i → e < a.g.members + 1
low_commit a e i inside = ⊎_elim (λ ring. omega (arith, ring.disk)) (λ rest. ⊎_elim (λ slot. omega (arith, slot.disk)) (λ cell. omega (arith, cell.disk)) rest) inside

low_drain : (a : Mounted) (e i : ℕ) → InDrain a e i → e < a.g.members + 1
low_drain a e i inside = ⊎_elim (λ drained. omega (arith, drained.covered.within.disk, drained.covered.inside)) (λ cell. omega (arith, cell.disk)) inside

pub commit_beside : (a : Mounted) (v w : View) → Touches (InCommit a) v w → StaysFrom (a.g.members + 1) v w
commit_beside a v w touches = stays_torn (a.g.members + 1) (InCommit a) v w (low_commit a) touches.contents

pub drain_beside : (a : Mounted) (v w : View) → Touches (InDrain a) v w → StaysFrom (a.g.members + 1) v w
drain_beside a v w touches = stays_torn (a.g.members + 1) (InDrain a) v w (low_drain a) touches.contents
