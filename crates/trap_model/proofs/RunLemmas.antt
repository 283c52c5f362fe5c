-- How far a loop over a block from its end has come.
use Rattle.std.proofs.Common.{◌≡◌, ◌≢◌, ℕ, ◌+◌, ◌-◌, ◌*◌, ◌<◌, ◌≤◌, List, length, drop, get_or, arith}
use Rattle.std.proofs.lemmas.Grind.{common_steps}
use Rattle.trap_model.specs.Size.{segments_of, zero_before, byte_before}
use Rattle.trap_model.specs.Runs.{Summarizes}
use Rattle.trap_model.specs.declared.code.Run.{Run}

-- what is kept is of the bytes from a place on, and isn't more than they allow
pub record Reached (run : Run) (block : List ℕ) (at : ℕ) : Type 0 where
  pub is : Summarizes run (segments_of (drop at block))
  pub zeros : run.zeros + at ≤ length block
  pub len : run.len + 5 * at ≤ 5 * length block

-- one byte further to the front
pub segments_zero : (block : List ℕ) (at : ℕ) → 0 < at → at ≤ length block → get_or block (at - 1) 0 ≡ 0 → segments_of (drop (at - 1) block) ≡ zero_before (segments_of (drop at block))
segments_zero block at some within e = grind (arith, common_steps)

pub segments_byte : (block : List ℕ) (at : ℕ) → 0 < at → at ≤ length block → get_or block (at - 1) 0 ≢ 0
    → segments_of (drop (at - 1) block) ≡ byte_before (get_or block (at - 1) 0) (segments_of (drop at block))
segments_byte block at some within e = grind (arith, common_steps)
