use Rattle.std.proofs.Common.{◌≡◌, ◌≤◌, ℕ, ◌-◌, [], ◌∷◌, IsTrue}
use Rattle.trap_bank.specs.Called.{CalledTimes}
use Rattle.trap_bank.specs.Disks.{Differs, Torn}
use Rattle.trap_bank.specs.Steps.{Moves}
use Rattle.trap_pool.specs.Frames.{Only}
use Rattle.trap_raid.specs.Members.{member_place}
use Rattle.trap_rebuild.specs.Rebuilding.{InNextRows, AreRebuilt, row_calls}
use Rattle.trap_rebuild.proofs.rows.write_rows.Given as goal

-- the rows so far are written, and nothing else has changed
abbrev pub invariant-loop-row : goal.invariant-loop-row
invariant-loop-row g l =
    let old = g.B.Bank.view l.initial.bank in
    let new = g.B.Bank.view l.bank in
    record {
      written : IsTrue old.tells → AreRebuilt l.raid l.stage.pending (member_place l.raid.g old.now.disks) l.row new.now.disks;
      low : l.raid.rebuilt ≤ l.row;
      high : l.row ≤ l.upto;
      rest : Only (l.into ∷ l.scratch ∷ []) l.fn.pool l.pool;
      contents : IsTrue old.tells → Torn (InNextRows l.raid l.upto) old.now new.now;
      sizes : (e : ℕ) → new.sizes e ≡ old.sizes e;
      calls : CalledTimes (row_calls l.raid l.stage.pending l.member (l.row - l.raid.rebuilt)) old new;
      moves : Moves old new (Differs (InNextRows l.raid l.upto)) (Differs (InNextRows l.raid l.upto));
    }
