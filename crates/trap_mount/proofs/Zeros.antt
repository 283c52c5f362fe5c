-- Zero bytes on a new disk.
use Rattle.std.proofs.Common.{◌≡◌, ℕ, ◌-◌, ◌*◌, ◌<◌, take, drop, replicate, ap, ◌∙◌, arith}
use Rattle.std.proofs.Math.Seq.{drop-append-add}
use Rattle.std.proofs.lemmas.List.{take-replicate, drop-replicate}
use Rattle.trap_format.specs.MemberDisk.{row_at, member_header}
use Rattle.trap_model.specs.declared.numbers.Geometry.{Geometry}
use Rattle.trap_stage.proofs.SlotAreas.{places_apart}
use Rattle.trap_mount.specs.Creating.{new_member}

-- each place of a new member's disk is zero
pub zero_place : (g : Geometry) (m row : ℕ) → row < g.rows → take g.block (drop (row_at g row) (new_member g m)) ≡ replicate g.block 0
zero_place g m row below =
    let within = places_apart row g.rows g.block below in
    ap (take g.block) (drop-append-add (member_header g.id m) (replicate (g.rows * g.block) 0) (row * g.block) ∙ drop-replicate (row * g.block) (g.rows * g.block) 0)
    ∙ take-replicate g.block (g.rows * g.block - row * g.block) 0 (omega (arith, within))
