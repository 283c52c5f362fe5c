-- The disk of one member: how it is made, and what was read of it.
use Rattle.std.proofs.Common.{◌≡◌, ℕ, ◌+◌, ◌*◌, ◌-◌, ◌<◌, ◌≤◌, List, ◌++◌, length, replicate, take, get_or, Option, Some, IsTrue, Result, Ok, inr, ⊎_elim, refl, sym, ap, subst, ◌∙◌, arith}
use Rattle.std.proofs.lemmas.Bool.{cases_lt}
use Rattle.std.proofs.lemmas.List.{length-append, length-replicate, get_or_append_left, get_or-append_right}
use Rattle.trap_bank.specs.Disks.{Contents, View, Disks, Within, Torn, Differs, byte, bytes_of, size_of, region}
use Rattle.trap_bank.specs.Calls.{Syncs}
use Rattle.trap_bank.specs.Steps.{Moves, Same, OnlyReads, PlacedThrough}
use Rattle.trap_bank.proofs.Regions.{disk_beside, disk_ext, byte_beside, byte_in_region, zero_byte}
use Rattle.trap_bank.proofs.Moves.{moves_then, moves_weaken, sync_steps, synced_steps, RemadeDisk, MadeDisk}
use Rattle.trap_format.specs.MemberDisk.{member_size, member_header}
use Rattle.trap_model.specs.declared.numbers.Geometry.{Geometry}
use Rattle.trap_raid.specs.Members.{IsMember}
use Rattle.trap_raid.specs.OwnDisk.{OnlyDisk, new_member, HasMember, IsStable}

-- ---- a disk that is read
-- a sync is no write
pub reads_synced : {T E : Type 0} (result : Result T E) (old new : View) (d : ℕ) → Syncs d result old new → OnlyReads old new
reads_synced result old new d call = record { sizes = call.sizes; same = call.same; moves = sync_steps result old new d call }

-- a disk that was synced is stable, after a read too
pub stable_read : {T E : Type 0} (value : T) (a b c : View) (d : ℕ) → Syncs {T = T} {E = E} d (Ok value) a b → Moves b c Same Same → (IsTrue b.tells → c.now ≡ b.now) → IsStable c d
stable_read value a b c d call moves same z left =
    let from = moves.now z left in
    let settled = (synced_steps value a b d call).now from.origin from.was in
    ap (λ (disks : Disks). disks d) from.by.disks ∙ settled.by.disks.read ∙ sym (ap (λ (c : Contents). c.disks d) (same from.was.told))

-- a stable disk stays so where nothing is written
pub stable_reads : (a b : View) (d : ℕ) → OnlyReads a b → IsStable a d → IsStable b d
stable_reads a b d reads stable z left =
    let from = reads.moves.now z left in
    ap (λ (disks : Disks). disks d) from.by.disks ∙ stable from.origin from.was ∙ sym (ap (λ (c : Contents). c.disks d) (reads.same from.was.told))

-- a new disk is the member's own
pub new_is_own : (g : Geometry) (m : ℕ) (x : Disks) → x (m + 1) ≡ Some (new_member g m) → IsMember g x m
new_is_own g m x made = record {
  size = ap size_of made ∙ ap {B = Option ℕ} Some (length-append (member_header g.id m) (replicate (g.rows * g.block) 0) ∙ ap (λ (n : ℕ). 16 + n) (length-replicate (g.rows * g.block) 0));
  header = ap (λ (disk : Option (List ℕ)). take 16 (bytes_of disk)) made;
}

-- ---- a disk that is made
-- a change of one disk and then another
pub only_then : (d : ℕ) (x y z : Disks) → OnlyDisk d x y → OnlyDisk d y z → OnlyDisk d x z
only_then d x y z first second e other = second e other ∙ first e other

-- what a read gives of the other disks
pub touches_then : (d at n : ℕ) (a b c : View) → b.tells ≡ a.tells → (IsTrue a.tells → OnlyDisk d a.now.disks b.now.disks) → (IsTrue b.tells → Torn (Within d at n) b.now c.now) → IsTrue a.tells
    → OnlyDisk d a.now.disks c.now.disks
touches_then d at n a b c tells first second told e other =
    disk_beside d at n b.now.disks c.now.disks e (second (subst IsTrue (sym tells) told)).disks other ∙ first told e other

-- while a disk is made
pub only_made : (d n : ℕ) (a b : View) → Moves a b (RemadeDisk d n) (RemadeDisk d n) → Moves a b (OnlyDisk d) (OnlyDisk d)
only_made d n a b moves = moves_weaken a b (RemadeDisk d n) (RemadeDisk d n) (OnlyDisk d) (OnlyDisk d) moves (λ x y was step. step.others) (λ x y was left step. step.others)

-- while its header is written
pub only_written : (d n at len : ℕ) (a b c : View) → Moves a b (RemadeDisk d n) (MadeDisk d n) → Moves b c (Differs (Within d at len)) (Differs (Within d at len)) → Moves a c (OnlyDisk d) (OnlyDisk d)
only_written d n at len a b c made written = moves_then a b c (RemadeDisk d n) (MadeDisk d n) (Differs (Within d at len)) (Differs (Within d at len)) (OnlyDisk d) (OnlyDisk d) made written
    (λ x y was step. step.others)
    (λ x y z was step mid differs. only_then d x.disks y.disks z.disks step.others (λ e other. disk_beside d at len y.disks z.disks e differs other))
    (λ x y z was step mid differs. only_then d x.disks y.disks z.disks step.others (λ e other. disk_beside d at len y.disks z.disks e differs other))

-- zeros with a header over their first bytes
headed : (d n rest : ℕ) (header : List ℕ) (x y : Disks) → n ≡ length header + rest → x d ≡ Some (replicate n 0) → Differs (Within d 0 (length header)) x y → region y d 0 (length header) ≡ header
    → y d ≡ Some (header ++ replicate rest 0)
headed d n rest header x y size made differs there = disk_ext (y d) (Some (header ++ replicate rest 0)) sizes each
  where
    sizes : size_of (y d) ≡ size_of (Some (header ++ replicate rest 0))
    sizes = differs.sizes d ∙ ap size_of made
        ∙ ap {B = Option ℕ} Some (length-replicate n 0 ∙ size ∙ ap (λ (k : ℕ). length header + k) (sym (length-replicate rest 0)) ∙ sym (length-append header (replicate rest 0)))

    zero : (i : ℕ) → byte x d i ≡ 0
    zero i = ap (λ (disk : Option (List ℕ)). get_or (bytes_of disk) i 0) made ∙ zero_byte n i

    each : (i : ℕ) → byte y d i ≡ get_or (header ++ replicate rest 0) i 0
    each i = ⊎_elim
        (λ (inside : i < length header). byte_in_region y d 0 (length header) i i header (omega arith) there inside ∙ sym (get_or_append_left header (replicate rest 0) 0 i inside))
        (λ (behind : length header ≤ i). byte_beside d 0 (length header) x y i differs (inr (omega (arith, behind))) ∙ zero i
        ∙ sym (get_or-append_right header (replicate rest 0) (length header) i 0 refl behind ∙ zero_byte rest (i - length header)))
        (cases_lt i (length header))

module _ (g : Geometry) (m : ℕ) where
  -- a member's disk is made with its header
  pub member_made : (n : ℕ) (header : List ℕ) (a b c : View) → n ≡ member_size g → header ≡ member_header g.id m → Moves a b (RemadeDisk (m + 1) n) (MadeDisk (m + 1) n)
      → Moves b c (Differs (Within (m + 1) 0 (length header))) (PlacedThrough c (m + 1) 0 header) → Moves a c (OnlyDisk (m + 1)) (HasMember g m)
  member_made n header a b c size is made written =
      moves_then a b c (RemadeDisk (m + 1) n) (MadeDisk (m + 1) n) (Differs (Within (m + 1) 0 (length header))) (PlacedThrough c (m + 1) 0 header) (OnlyDisk (m + 1)) (HasMember g m) made written
      (λ x y was step. step.others)
      (λ x y z was step mid differs. only_then (m + 1) x.disks y.disks z.disks step.others (λ e other. disk_beside (m + 1) 0 (length header) y.disks z.disks e differs other))
      (λ x y z was step mid placed. record {
        others = only_then (m + 1) x.disks y.disks z.disks step.others (λ e other. disk_beside (m + 1) 0 (length header) y.disks z.disks e placed.placed.differs other);
        disk = headed (m + 1) n (g.rows * g.block) header y.disks z.disks (size ∙ ap (λ (l : List ℕ). length l + g.rows * g.block) (sym is)) step.disk placed.placed.differs placed.placed.there
            ∙ ap (λ (l : List ℕ). Some (l ++ replicate (g.rows * g.block) 0)) is;
      })
