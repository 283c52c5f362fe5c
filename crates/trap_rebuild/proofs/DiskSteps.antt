-- A disk that is looked at, and then made.
use Rattle.std.proofs.Common.{◌≡◌, ℕ, ◌+◌, ◌*◌, Option, Some, ap, sym, ◌∙◌}
use Rattle.trap_bank.specs.Disks.{Disks, View, size_of}
use Rattle.trap_bank.specs.Steps.{Moves, Same, OnlyReads}
use Rattle.trap_bank.proofs.Moves.{moves_then, moves_weaken}
use Rattle.trap_bank.proofs.OnlyReads.{disks_same}
use Rattle.trap_bank.proofs.Regions.{region_of_disk}
use Rattle.trap_format.specs.MemberDisk.{member_size, member_header}
use Rattle.trap_model.specs.declared.numbers.Geometry.{Geometry}
use Rattle.trap_raid.specs.Members.{IsMember}
use Rattle.trap_raid.specs.OwnDisk.{OnlyDisk, ReadsMember}
use Rattle.trap_raid.proofs.OwnDisks.{only_then}
use Rattle.trap_rebuild.specs.Replacing.{HasOwnDisk}

same_only : (d : ℕ) (x y : Disks) → y ≡ x → OnlyDisk d x y
same_only d x y same e other = ap (λ (disks : Disks). disks e) same

-- a run that only reads changes no disk
pub only_read : (d : ℕ) (a b : View) → OnlyReads a b → Moves a b (OnlyDisk d) (OnlyDisk d)
only_read d a b reads = moves_weaken a b Same Same (OnlyDisk d) (OnlyDisk d) reads.moves (λ x y was same. same_only d x.disks y.disks same) (λ x y was left same. same_only d x.disks y.disks same)

-- and then one that changes one disk
pub read_then_made : (d : ℕ) (a b c : View) → OnlyReads a b → Moves b c (OnlyDisk d) (OnlyDisk d) → Moves a c (OnlyDisk d) (OnlyDisk d)
read_then_made d a b c reads made = moves_then a b c (OnlyDisk d) (OnlyDisk d) (OnlyDisk d) (OnlyDisk d) (OnlyDisk d) (OnlyDisk d) (only_read d a b reads) made
    (λ x y was step. step)
    (λ x y z was step mid next. only_then d x.disks y.disks z.disks step next)
    (λ x y z was step mid next. only_then d x.disks y.disks z.disks step next)

-- a disk with the bytes of a member's own is its own
own_on : (g : Geometry) (m : ℕ) (x y : Disks) → y (m + 1) ≡ x (m + 1) → IsMember g x m → IsMember g y m
own_on g m x y same own = record { size = ap size_of same ∙ own.size; header = region_of_disk x y (m + 1) 0 16 same ∙ own.header }

-- a disk that was found to be the member's own
pub own_read : (g : Geometry) (m : ℕ) (a b : View) → OnlyReads a b → ReadsMember g m a b → HasOwnDisk g m b
own_read g m a b reads member = record {
  size = reads.sizes (m + 1) ∙ member.size;
  own = λ w left.
      let from = reads.moves.now w left in
      own_on g m a.now.disks w.disks (member.stable w left ∙ ap (λ (x : Disks). x (m + 1)) (disks_same a b reads from.was.told)) (member.own from.was.told);
}

-- it is of an array of other numbers too, where the name and the rows are the same
pub own_as : (g h : Geometry) (m : ℕ) (v : View) → h.id ≡ g.id → h.rows ≡ g.rows → h.block ≡ g.block → HasOwnDisk g m v → HasOwnDisk h m v
own_as g h m v id rows block has = record {
  size = has.size ∙ ap {B = Option ℕ} Some (sizes g h rows block);
  own = λ w left.
      let own = has.own w left in
      record {
        size = own.size ∙ ap {B = Option ℕ} Some (sizes g h rows block);
        header = own.header ∙ ap (λ (i : ℕ). member_header i m) (sym id);
      };
}
  where
    sizes : (g h : Geometry) → h.rows ≡ g.rows → h.block ≡ g.block → member_size g ≡ member_size h
    sizes g h rows block = ap (λ (r : ℕ). 16 + r * g.block) (sym rows) ∙ ap (λ (b : ℕ). 16 + h.rows * b) (sym block)
