-- What a drain leaves, why it fails, and how often it calls the bank.
use Rattle.std.specs.Prelude.{◌≡◌, ℕ, ◌+◌, ◌-◌, ◌<◌, List, [], Bool, ◌==◌, nat_lt, if◌then◌else◌}
use Rattle.trap_bank.specs.Disks.{View}
use Rattle.trap_bank.specs.Faults.{Rose}
use Rattle.trap_bank.specs.Steps.{Moves}
use Rattle.trap_cell.specs.Slots.{turned}
use Rattle.trap_cell.specs.Steps.{put_calls}
use Rattle.trap_format.specs.declared.head.Head.{Head}
use Rattle.trap_index.specs.Indexed.{Indexed}
use Rattle.trap_model.specs.declared.numbers.Geometry.{Geometry}
use Rattle.trap_raid.specs.Draining.{drain_calls, writes_to}
use Rattle.trap_stage.specs.Staged.{Staged}
use Rattle.trap_log.specs.Calls.{Mounted, MemberFails, AtAnyMoment, StandsAfterCall, running}
use Rattle.trap_log.specs.Log.{Log, StagesHead, with_index}
use Rattle.trap_log.specs.NextHead.{drained_to}
use Rattle.trap_log.specs.Ready.{CanDrain, KnowsCell}
use Rattle.trap_log.specs.declared.fault.DrainFault.{DrainFault}
use Rattle.trap_log.specs.declared.fault.DrainFault.TheVariants.{LogFault, MemberFault}

-- committed, and not yet known to be on the members
abbrev pub pending_writes : Head → ℕ
pending_writes h = h.last - h.drained

-- how many stay pending where a slot is made free: none, if none was
abbrev pub left_pending : Geometry → ℕ → ℕ
left_pending g before = if before == g.slots then 0 else before

-- whether a slot is free
abbrev pub has_slot : Log → Bool
has_slot log = nat_lt (pending_writes log.head) log.g.slots

-- The log stands for the same state, whichever index goes with it. Its head says that the writes up
-- to this number are on the members, and these stay pending.
pub record DrainsLog (a b : Log) (upto : ℕ) (rest : List Staged) (old new : View) : Type 0 where
  pub moves : (i : Indexed) → Moves old new (AtAnyMoment (running (with_index a i)) old (λ s. s))
      (StandsAfterCall (running (with_index a i)) (running (with_index b i)) old (λ s. s))
  pub head : b.head ≡ drained_to a.head upto
  pub pending : b.stage.pending ≡ rest
  pub staged : StagesHead b.head b.stage
  pub knows : KnowsCell b.cell b.head new
  pub cell : b.cell ≡ turned a.cell

-- A slot is free, and the log stands for the same state: nothing was done where one was free, and
-- all pending writes were drained where none was.
pub record MakesRoom (a b : Log) (old new : View) : Type 0 where
  pub moves : (i : Indexed) → Moves old new (AtAnyMoment (running (with_index a i)) old (λ s. s))
      (StandsAfterCall (running (with_index a i)) (running (with_index b i)) old (λ s. s))
  pub free : b.head.last < b.head.drained + b.g.slots
  pub can : CanDrain b new
  pub head : b.head ≡ drained_to a.head b.head.drained
  pub left : pending_writes b.head ≡ left_pending a.g (pending_writes a.head)
  pub pending : b.stage.pending ≡ (if has_slot a then a.stage.pending else [])
  pub cell : b.cell ≡ (if has_slot a then a.cell else turned a.cell)

-- what failed has a count of faults that rose: disk 0, or a member of which some row counts
abbrev pub IsDrainFault : Mounted → View → View → DrainFault → Type 0
IsDrainFault a old new LogFault = Rose (old.faults 0) (new.faults 0)
IsDrainFault a old new (MemberFault member) = MemberFails a member member old new

-- the calls of a drain up to this number: those for the places of the writes, and those of the put
abbrev pub calls_to_drain : Log → ℕ → ℕ
calls_to_drain log upto =
    drain_calls log.g log.head.lost log.head.rebuilt (writes_to log.stage upto)
    + put_calls log.cell

-- the calls that make a slot free: none where one is
abbrev pub calls_for_room : Log → ℕ
calls_for_room log = if has_slot log then 0 else calls_to_drain log log.head.last
