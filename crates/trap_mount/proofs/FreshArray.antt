-- New disks hold the fresh array, and how the calls that make them follow one another.
use Rattle.std.proofs.Common.{◌≡◌, ◌≢◌, ◌⊎◌, ℕ, ◌+◌, ◌*◌, ◌<◌, List, [], take, drop, Option, Some, None, IsTrue, inl, inr, ⊎_elim, refl, sym, ap, subst, ◌∙◌, arith}
use Rattle.std.proofs.lemmas.Option.{none-some}
use Rattle.trap_bank.specs.Disks.{Contents, View, Disks, Quiet, bytes_of, size_of}
use Rattle.trap_bank.specs.Calls.{MayLeave, IsLawful}
use Rattle.trap_bank.specs.Steps.{Moves, Always}
use Rattle.trap_bank.proofs.Moves.{moves_then, moves_weaken, no_moves, read_is_left}
use Rattle.trap_cell.specs.Slots.{Stands, begun}
use Rattle.trap_model.specs.Image.{zero_image}
use Rattle.trap_model.specs.State.{fresh}
use Rattle.trap_model.specs.declared.numbers.Geometry.{Geometry}
use Rattle.trap_model.proofs.KeptValid.{fresh_valid}
use Rattle.trap_raid.specs.Members.{IsMember, IsOut, MembersHold}
use Rattle.trap_mount.specs.Holding.{head_place, IsHeadOf, Holds, HoldsBy}
use Rattle.trap_mount.specs.CreateEnds.{IsMaking, KeepsOrder, StaysBeyond, DisksBeyondStay}
use Rattle.trap_mount.specs.Creating.{Creates, HasCreated, NoneIsThere, OnlyDisk, OnlyMembers, new_member, HasNewMembers, MembersFirst, fresh_head, IsLogGateOff, IsNewLog, MakesLog, HasNewLog}
use Rattle.trap_raid.proofs.OwnDisks.{new_is_own}
use Rattle.trap_raid.proofs.ZeroLemmas.{zero_table}
use Rattle.trap_mount.proofs.Zeros.{zero_place}
use Rattle.trap_mount.proofs.LogGate.{absent_off}

module _ (g : Geometry) (x : Disks) (made : (m : ℕ) → m < g.members → x (m + 1) ≡ Some (new_member g m)) where
  -- a new member's disk has its size and its header
  new_is_member : (m : ℕ) → m < g.members → IsMember g x m
  new_is_member m inside = new_is_own g m x (made m inside)

  -- no new member is out
  none_out : (m : ℕ) → m < g.members → IsOut None x m → ⊥
  none_out m inside out = ⊎_elim (λ (lost : None ≡ Some m). cc) (λ (absent : x (m + 1) ≡ None). none-some (new_member g m) (sym absent ∙ made m inside)) out

  -- new members hold the zero image
  new_members : MembersHold g None 0 [] (zero_image g) x
  new_members = record {
    one_out = λ m k inside among out also. absurd (none_out m inside out);
    made = λ m inside stays. new_is_member m inside;
    places = λ row m below inside trusted.
        ap (λ (disk : Option (List ℕ)). take g.block (drop (16 + row * g.block) (bytes_of disk))) (made m inside) ∙ zero_place g m row below ∙ sym (zero_table g row m below inside);
  }

  -- with a new log, they hold the fresh array by the head before the first write
  pub fresh_by : IsNewLog g x → HoldsBy g fresh_head (fresh g) x
  fresh_by new = record {
    value = new.value;
    fits = record {
      valid = fresh_valid g;
      head = fresh_is_head;
      log = new.log;
      ring = λ k below. absurd (omega (arith, below));
      slots = λ q low high. absurd (omega (arith, low, high));
      members = new_members;
    };
  }
    where
      fresh_is_head : IsHeadOf g (fresh g) fresh_head
      fresh_is_head = record {
        head = record {
          version = refl;
          lost = record { member = omega arith; rebuilt = omega (arith, g.within.chunk_least, g.within.rows_least); none_rebuilt = λ none. refl };
          numbers = record { dropped = omega arith; drained = omega arith; last_most = omega arith; pending = omega arith; retained = omega arith };
          offsets = record { order = omega arith; window = omega arith; end_most = omega arith };
          times = omega arith;
          time_fits = omega arith;
          empty = λ same. record { offsets = refl; times = refl };
        };
        first = refl;
        base_time = refl;
        last = refl;
        last_time = refl;
        window = refl;
      }

  pub fresh_held : IsNewLog g x → Holds g (fresh g) x
  fresh_held new = record { head = fresh_head; by = fresh_by new }

-- a disk with no size is absent, whatever a crash leaves
left_absent : (a : View) (w : Contents) → IsLawful a → MayLeave a w → a.sizes 0 ≡ None → w.disks 0 ≡ None
left_absent a w lawful left none = no_size (w.disks 0) (left.torn.disks.sizes 0 ∙ lawful.sized left.told 0 ∙ none)
  where
    no_size : (disk : Option (List ℕ)) → size_of disk ≡ None → disk ≡ None
    no_size None is = refl
    no_size (Some bytes) is = cc

-- What a crash leaves while an array is made on disks that aren't there.
module _ (g : Geometry) (a : View) (lawful : IsLawful a) (none : NoneIsThere g a) where
  absent : (w : Contents) → MayLeave a w → w.disks 0 ≡ None
  absent w left = left_absent a w lawful left (none 0 (omega arith))

  before_log : (x y : Contents) → MayLeave a x → OnlyMembers g x.disks y.disks → Creates g x.disks y.disks
  before_log x y left only = inl (absent_off y.disks (only 0 (inl refl) ∙ absent x left))

  with_log : (x y z : Contents) → MayLeave a x → HasNewMembers g g.members x.disks y.disks → MakesLog g y.disks z.disks → Creates g x.disks z.disks
  with_log x y z left members makes = ⊎_elim
      (λ (same : z.disks 0 ≡ y.disks 0). inl (absent_off z.disks (same ∙ members.others 0 (inl refl) ∙ absent x left)))
      (λ rest. ⊎_elim (λ (off : IsLogGateOff z.disks). inl off)
      (λ (new : IsNewLog g z.disks). inr (fresh_held g z.disks (λ m inside. makes.others (m + 1) (λ log. omega (arith, log)) ∙ members.disks m inside) new)) rest)
      makes.disk

  pub create_members_part : (b : View) → Moves a b (OnlyMembers g) (OnlyMembers g) → Moves a b (Creates g) (Creates g)
  create_members_part b moves = moves_weaken a b (OnlyMembers g) (OnlyMembers g) (Creates g) (Creates g) moves
      (λ x y was step. before_log x y was step)
      (λ x y was left step. before_log x y was step)

  pub create_log_part : (b c : View) → Moves a b (OnlyMembers g) (HasNewMembers g g.members) → Moves b c (MakesLog g) (MakesLog g) → Moves a c (Creates g) (Creates g)
  create_log_part b c members log = moves_then a b c (OnlyMembers g) (HasNewMembers g g.members) (MakesLog g) (MakesLog g) (Creates g) (Creates g) members log
      (λ x y was step. before_log x y was step)
      (λ x y z was step mid makes. with_log x y z was step makes)
      (λ x y z was step mid makes. with_log x y z was step makes)

  pub create_done : (b c : View) → Moves a b (OnlyMembers g) (HasNewMembers g g.members) → Moves b c (MakesLog g) (HasNewLog g) → Moves a c (Creates g) (HasCreated g)
  create_done b c members log = moves_then a b c (OnlyMembers g) (HasNewMembers g g.members) (MakesLog g) (HasNewLog g) (Creates g) (HasCreated g) members log
      (λ x y was step. before_log x y was step)
      (λ x y z was step mid makes. with_log x y z was step makes)
      (λ x y z was step mid new. fresh_held g z.disks (λ m inside. new.others (m + 1) (λ log. omega (arith, log)) ∙ step.disks m inside) new.log)

-- every crash after it leaves the fresh array
pub create_holds : (g : Geometry) (a b c : View) → Moves a b (OnlyMembers g) (HasNewMembers g g.members) → Moves b c (MakesLog g) (HasNewLog g) → Always c (HoldsBy g fresh_head (fresh g))
create_holds g a b c members log z left =
    let from = log.now z left in
    let made = (members.now from.origin from.was).by.disks in
    fresh_by g z.disks (λ m inside. from.by.disks.others (m + 1) (λ zero_. omega (arith, zero_)) ∙ made.disks m inside) from.by.disks.log

-- with the head's cell as it begins
pub create_cell : (g : Geometry) (b c : View) → Moves b c (MakesLog g) (HasNewLog g) → Always c (Stands (begun head_place))
create_cell g b c log z left = let from = log.now z left in from.by.disks.log.cell

-- what a read gives is among what a crash leaves
create_contents : (g : Geometry) (a b : View) → Moves a b (Creates g) (Creates g) → IsTrue a.tells → Quiet (Creates g) a.now b.now
create_contents g a b moves told =
    let from = moves.now b.now (read_is_left b (subst IsTrue (sym moves.tells) told)) in
    record { disks = from.by.disks; said = from.by.said ∙ from.was.torn.said }

-- what a read gives, and what a crash leaves
pub is_making : (g : Geometry) (a b : View) → Moves a b (Creates g) (Creates g) → IsMaking g a b
is_making g a b moves = record { contents = create_contents g a b moves; any_moment = moves }

-- Disk 0 stays where nothing is done,
pub order_none : (g : Geometry) (a : View) → KeepsOrder g a a
order_none g a = record {
  contents = λ told. record { disks = inl refl; said = refl };
  any_moment = no_moves a (MembersFirst g) (MembersFirst g) (λ x was. inl refl);
}

-- while the members' disks are made,
pub order_members : (g : Geometry) (a b : View) → (IsTrue a.tells → OnlyMembers g a.now.disks b.now.disks) → Moves a b (OnlyMembers g) (OnlyMembers g) → KeepsOrder g a b
order_members g a b touches members = record {
  contents = λ told.
      let from = members.now b.now (read_is_left b (subst IsTrue (sym members.tells) told)) in
      record { disks = inl (touches told 0 (inl refl)); said = from.by.said ∙ from.was.torn.said };
  any_moment = moves_weaken a b (OnlyMembers g) (OnlyMembers g) (MembersFirst g) (MembersFirst g) members
      (λ x y was step. inl (step 0 (inl refl)))
      (λ x y was left step. inl (step 0 (inl refl)));
}

-- and when the log is made, each member's disk is new.
pub order_log : (g : Geometry) (a b c : View) → Moves a b (OnlyMembers g) (HasNewMembers g g.members) → (IsTrue b.tells → OnlyDisk 0 b.now.disks c.now.disks)
    → Moves b c (MakesLog g) (MakesLog g) → KeepsOrder g a c
order_log g a b c members touches log = record {
  contents = λ told.
      let told_mid = subst IsTrue (sym members.tells) told in
      let made = members.now b.now (read_is_left b told_mid) in
      let from = log.now c.now (read_is_left c (subst IsTrue (sym log.tells) told_mid)) in
      let mid = members.now from.origin from.was in
      record {
        disks = inr (λ m inside. touches told_mid (m + 1) (λ zero_. omega (arith, zero_)) ∙ made.by.disks.disks m inside);
        said = from.by.said ∙ mid.by.said ∙ mid.was.torn.said;
      };
  any_moment = moves_then a b c (OnlyMembers g) (HasNewMembers g g.members) (MakesLog g) (MakesLog g) (MembersFirst g) (MembersFirst g) members log
      (λ x y was step. inl (step 0 (inl refl)))
      (λ x y z was step mid makes. inr (new x.disks y.disks z.disks step makes))
      (λ x y z was step mid makes. inr (new x.disks y.disks z.disks step makes));
}
  where
    new : (x y z : Disks) → HasNewMembers g g.members x y → MakesLog g y z → (m : ℕ) → m < g.members → z (m + 1) ≡ Some (new_member g m)
    new x y z made makes m inside = makes.others (m + 1) (λ zero_. omega (arith, zero_)) ∙ made.disks m inside

-- The disks beyond the members stay while the members' disks are made,
pub others_members : (g : Geometry) (a b : View) → ((e : ℕ) → (e ≡ 0) ⊎ (g.members < e) → b.sizes e ≡ a.sizes e) → (IsTrue a.tells → OnlyMembers g a.now.disks b.now.disks)
    → Moves a b (OnlyMembers g) (OnlyMembers g) → DisksBeyondStay g a b
others_members g a b sizes touches moves = record {
  sizes = λ e beyond. sizes e (inr beyond);
  contents = λ told e beyond. touches told e (inr beyond);
  any_moment = moves_weaken a b (OnlyMembers g) (OnlyMembers g) (StaysBeyond g) (StaysBeyond g) moves
      (λ x y was step e beyond. step e (inr beyond))
      (λ x y was left step e beyond. step e (inr beyond));
}

-- and while the log is made after them.
pub others_log : (g : Geometry) (a b c : View) → ((e : ℕ) → (e ≡ 0) ⊎ (g.members < e) → b.sizes e ≡ a.sizes e) → (IsTrue a.tells → OnlyMembers g a.now.disks b.now.disks)
    → Moves a b (OnlyMembers g) (HasNewMembers g g.members) → ((e : ℕ) → e ≢ 0 → c.sizes e ≡ b.sizes e) → (IsTrue b.tells → OnlyDisk 0 b.now.disks c.now.disks)
    → Moves b c (MakesLog g) (MakesLog g) → DisksBeyondStay g a c
others_log g a b c member_sizes member_touches members sizes touches log = record {
  sizes = λ e beyond. sizes e (no_log e beyond) ∙ member_sizes e (inr beyond);
  contents = λ told e beyond. touches (subst IsTrue (sym members.tells) told) e (no_log e beyond) ∙ member_touches told e (inr beyond);
  any_moment = moves_then a b c (OnlyMembers g) (HasNewMembers g g.members) (MakesLog g) (MakesLog g) (StaysBeyond g) (StaysBeyond g) members log
      (λ x y was step e beyond. step e (inr beyond))
      (λ x y z was step mid makes e beyond. makes.others e (no_log e beyond) ∙ step.others e (inr beyond))
      (λ x y z was step mid makes e beyond. makes.others e (no_log e beyond) ∙ step.others e (inr beyond));
}
  where
    no_log : (e : ℕ) → g.members < e → e ≢ 0
    no_log e beyond zero_ = omega (arith, zero_, beyond)
