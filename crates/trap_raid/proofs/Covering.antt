-- A drain by the places that its writes cover, whether they count or not.
use Rattle.std.proofs.Common.{ℕ, List, Option}
use Rattle.trap_model.specs.declared.numbers.Geometry.{Geometry}
use Rattle.trap_bank.specs.Disks.{Contents, View, Differs, Torn}
use Rattle.trap_bank.specs.Steps.{Moves}
use Rattle.trap_bank.proofs.Moves.{moves_mono, moves_weaken, torn_mono}
use Rattle.trap_bank.proofs.Regions.{differs_mono}
use Rattle.trap_stage.specs.Staged.{Staged}
use Rattle.trap_raid.specs.Members.{Covered}
use Rattle.trap_raid.specs.Draining.{Drains, InDrained}

module _ (g : Geometry) (lost : Option ℕ) (rebuilt : ℕ) (writes : List Staged) where
  -- stopped within a drain
  pub covered_moves : (a b : View) → Moves a b (Differs (InDrained g lost rebuilt writes)) (Differs (InDrained g lost rebuilt writes))
      → Moves a b (Differs (Covered g writes)) (Differs (Covered g writes))
  covered_moves a b moves = moves_mono (InDrained g lost rebuilt writes) (Covered g writes) a b (λ e i drained. drained.covered) moves

  -- and after it
  pub covered_drains : (a b : View) → Moves a b (Differs (InDrained g lost rebuilt writes)) (Drains g lost rebuilt writes) → Moves a b (Differs (Covered g writes)) (Drains g lost rebuilt writes)
  covered_drains a b moves =
      moves_weaken a b (Differs (InDrained g lost rebuilt writes)) (Drains g lost rebuilt writes) (Differs (Covered g writes)) (Drains g lost rebuilt writes) moves
      (λ x y was torn. differs_mono (InDrained g lost rebuilt writes) (Covered g writes) x.disks y.disks (λ e i drained. drained.covered) torn)
      (λ x y was left drains. drains)

  -- what a read gives then
  pub covered_torn : (x y : Contents) → Torn (InDrained g lost rebuilt writes) x y → Torn (Covered g writes) x y
  covered_torn x y torn = torn_mono (InDrained g lost rebuilt writes) (Covered g writes) x y (λ e i drained. drained.covered) torn
