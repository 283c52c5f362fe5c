-- What a command may change leaves the disks that are none of its own.
use Rattle.std.proofs.Common.{◌≡◌, ⊎_elim, inl, inr, ℕ, ◌≤◌, Option, Some, None, ap, arith}
use Rattle.trap_bank.specs.Disks.{Disks, View}
use Rattle.trap_bank.proofs.Regions.{disk_apart}
use Rattle.trap_array.specs.Areas.{MayTouch}
use Rattle.trap_array.specs.Calls.{Mounted}
use Rattle.trap_array.specs.Holding.{InCell}
use Rattle.trap_array.specs.Mounting.{MayPutHead}
use Rattle.trap_mount.proofs.Puts.{put_in_cell}
use Rattle.trap_cli.specs.declared.command.Command.{Command}
use Rattle.trap_cli.specs.declared.command.Command.TheVariants.{Create, Session, History, Send, ReplicaCreate, ReplicaLoad, Apply, ReplicaExport}
use Rattle.trap_cli.specs.Frame.{MayChange, MakesNone, Frames}
use Rattle.trap_cli.specs.Beside.{IsApart, KeepsApart, LeavesApart}
use Rattle.trap_cli.proofs.Framing.{changes_wider}

-- an array touches no disk from 17 on
beyond_array : (a : Mounted) (e i : ℕ) → 17 ≤ e → MayTouch a e i → ⊥
beyond_array a e i far (inl cell) = let is = cell.disk in omega (arith, far, is)
beyond_array a e i far (inr (inl slots)) = let is = slots.disk in omega (arith, far, is)
beyond_array a e i far (inr (inr (inl ring))) = let is = ring.disk in omega (arith, far, is)
beyond_array a e i far (inr (inr (inr counted))) =
    let is = counted.place.within.disk in
    let inside = counted.inside in
    let most = a.g.within.members_most in
    omega (arith, far, is, inside, most)

-- nor does mounting
beyond_head : (v w : View) (x y : Disks) → MayPutHead v w x y → (e : ℕ) → 17 ≤ e → y e ≡ x e
beyond_head v w x y (inl same) e far = ap (λ (disks : Disks). disks e) same
beyond_head v w x y (inr (put, puts)) e far = disk_apart InCell x y e (put_in_cell puts.slot.cell x y puts.slot.place puts.slot.differs)
    (λ i cell. let is = cell.disk in omega (arith, far, is))

change_apart : (command : Option Command) (v w : View) (x y : Disks) → MayChange command v w x y → KeepsApart command x y
change_apart None v w x y same e apart = ap (λ (disks : Disks). disks e) same
change_apart (Some Session) v w x y by e far = ⊎_elim (λ put. beyond_head v w x y put e far)
    (λ some. disk_apart (MayTouch some.0) x y e some.2 (λ i touched. beyond_array some.0 e i far touched)) by
change_apart (Some History) v w x y put e far = beyond_head v w x y put e far
change_apart (Some (Send seq)) v w x y put e far = beyond_head v w x y put e far
change_apart (Some (Create asked)) v w x y by e far = ⊎_elim (λ same. ap (λ (disks : Disks). disks e) same)
    (λ some. some.2 e (let most = some.0.within.members_most in omega (arith, far, most))) by
change_apart (Some (ReplicaCreate asked)) v w x y by e other = by e other
change_apart (Some (ReplicaLoad asked start)) v w x y by e other = by e other
change_apart (Some Apply) v w x y by e other = by e other
change_apart (Some ReplicaExport) v w x y same e other = ap (λ (disks : Disks). disks e) same

makes_apart : (command : Option Command) (e : ℕ) → IsApart command e → MakesNone command e
makes_apart None e apart = tt
makes_apart (Some Session) e apart = tt
makes_apart (Some History) e apart = tt
makes_apart (Some (Send seq)) e apart = tt
makes_apart (Some (Create asked)) e far = λ g numbers. let most = g.within.members_most in omega (arith, far, most)
makes_apart (Some (ReplicaCreate asked)) e other = other
makes_apart (Some (ReplicaLoad asked start)) e other = other
makes_apart (Some Apply) e apart = tt
makes_apart (Some ReplicaExport) e apart = tt

pub leaves_apart : (command : Option Command) (old new : View) → Frames command old new → LeavesApart command old new
leaves_apart command old new frame = record {
  sizes = λ e apart. frame.sizes e (makes_apart command e apart);
  disks = changes_wider (MayChange command old new) (KeepsApart command) old new (change_apart command old new) frame.changes;
}
