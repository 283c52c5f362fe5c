use Rattle.std.proofs.Common.{◌≡◌, [], ◌∷◌, IsTrue}
use Rattle.trap_bank.specs.Called.{CalledTimes}
use Rattle.trap_block.specs.Xor.{xor_but}
use Rattle.trap_pool.specs.Frames.{Only}
use Rattle.trap_pool.specs.Pooled.{pool_block}
use Rattle.trap_stage.specs.Staged.{laid_over}
use Rattle.trap_raid.specs.Members.{member_place}
use Rattle.trap_raid.specs.Reads.{OnlyReads}
use Rattle.trap_raid.specs.Standing.{bare_others}
use Rattle.trap_raid.proofs.reads.read_others.Given as goal

-- the other members so far are in it, each with nothing pending was read once, and nothing was written
abbrev pub invariant-loop-member : goal.invariant-loop-member
invariant-loop-member g l =
    let old = g.B.Bank.view l.initial.bank in
    record {
      so_far : IsTrue old.tells → pool_block l.pool l.into ≡ xor_but l.g.block l.place.member (laid_over l.g l.stage.pending (member_place l.g old.now.disks) l.place.row) l.member;
      reads : OnlyReads old (g.B.Bank.view l.bank);
      rest : Only (l.into ∷ l.scratch ∷ []) l.fn.pool l.pool;
      calls : CalledTimes (bare_others l.g l.stage.pending l.place.row l.place.member l.member) old (g.B.Bank.view l.bank);
    }
