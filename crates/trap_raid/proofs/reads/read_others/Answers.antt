use Rattle.std.proofs.Common.{◌≡◌, ◌+◌, [], ◌∷◌, length, Err, ap, sym, subst, ◌∙◌, arith, rules}
use Rattle.trap_pool.specs.Frames.{Only}
use Rattle.trap_pool.specs.Pooled.{Pooled, pool_block}
use Rattle.trap_bank.proofs.OnlyReads.{reads_then}
use Rattle.trap_bank.specs.Called.{CalledTimes}
use Rattle.trap_raid.specs.Reads.{OnlyReads}
use Rattle.trap_raid.specs.Standing.{bare_others}
use Rattle.trap_pool.proofs.Leases.{leases_changed}
use Rattle.trap_raid.proofs.PoolLemmas.{only_then, only_joined, joined}
use Rattle.trap_raid.proofs.ReadLemmas.{row_fits_along, others_more, others_but}
use Rattle.trap_raid.proofs.CostLemmas.{others_next, others_skip, others_failed, others_stopped, others_done}
use Rattle.trap_raid.proofs.reads.read_others.Goals as goal
use Rattle.trap_raid.proofs.reads.read_others.Goals.{then-member-place+in_ok-read_standing, else-member-place}

pub read_standing-requires-clause-disk : goal.read_standing-requires-clause-disk
read_standing-requires-clause-disk g c =
    λ bare. row_fits_along c.args.g.now (g.B.Bank.view c.args.bank.now) (g.B.Bank.view c.loop-member.bank) c.args.place.row c.loop-member.member
    c.loop-member.invariant.reads (c.requires.disks c.loop-member.member (omega arith) c.if-member-place.true bare)

pub loop-member-preserved : goal.loop-member-preserved
loop-member-preserved g c =
    let old = g.B.Bank.view c.args.bank.now in
    let mid = g.B.Bank.view c.loop-member.bank in
    let writes = c.args.stage.now.pending in
    let one = c.args.place.member in
    let member = c.loop-member.member in
    let row = c.args.place.row in
    elim c.if-member-place.branch [
      | then-member-place+in_ok-read_standing w ↦
          let new = g.B.Bank.view w.read_standing.new.bank in
          let pool = c.loop-member.pool in
          let into = c.args.into.now in
          let scratch = c.args.scratch.now in
          let block = w.read_standing.new.into in
          let are = leases_changed (into ∷ scratch ∷ []) (into ∷ scratch ∷ []) c.args.pool.now pool c.loop-member.invariant.rest c.requires.leases in
          let fits : length block ≡ pool.size = w.read_standing.auto.into ∙ w.bytes_mut-then-member-place.ensures.size in
          record {
            so_far = λ told. ap (λ (p : Pooled). pool_block p into) w.pool-is
                ∙ others_more c.args.g.now writes old mid row one member (pool_block pool into) block (pool_block w.xor.new.self into)
                c.loop-member.invariant.reads w.if-member-place.true c.loop-member.invariant.so_far w.in_ok-read_standing.ensures.bytes
                (joined pool w.xor.new.self into scratch block are fits w.xor.ensures.xor) told;
            reads = subst (λ b. OnlyReads old (g.B.Bank.view b)) (sym w.bank-is)
                (reads_then old mid new c.loop-member.invariant.reads w.read_standing.ensures.any_moment);
            rest = subst (Only (into ∷ scratch ∷ []) c.args.pool.now) (sym w.pool-is)
                (only_then (into ∷ scratch ∷ []) c.args.pool.now pool w.xor.new.self c.loop-member.invariant.rest (only_joined pool w.xor.new.self into scratch block _ fits w.xor.ensures.xor));
            calls = subst (λ b. CalledTimes (bare_others c.args.g.now writes row one (member + 1)) old (g.B.Bank.view b)) (sym w.bank-is)
                (others_next c.args.g.now writes row one member old mid c.loop-member.invariant.calls new w.if-member-place.true w.read_standing.ensures.calls);
          }
      | else-member-place w ↦
          record {
            so_far = λ told. ap (λ (p : Pooled). pool_block p c.args.into.now) w.pool-is
                ∙ c.loop-member.invariant.so_far told ∙ sym (others_but c.args.g.now.block one member _ w.if-member-place.false);
            reads = subst (λ b. OnlyReads old (g.B.Bank.view b)) (sym w.bank-is) c.loop-member.invariant.reads;
            rest = subst (Only (c.args.into.now ∷ c.args.scratch.now ∷ []) c.args.pool.now) (sym w.pool-is) c.loop-member.invariant.rest;
            calls = subst (λ b. CalledTimes (bare_others c.args.g.now writes row one (member + 1)) old (g.B.Bank.view b)) (sym w.bank-is)
                (others_skip c.args.g.now writes row one member old mid c.loop-member.invariant.calls w.if-member-place.false);
          }
    ]

pub returns-in_err-read_standing-clause-any_moment : goal.returns-in_err-read_standing-clause-any_moment
returns-in_err-read_standing-clause-any_moment g c =
    reads_then (g.B.Bank.view c.args.bank.now) (g.B.Bank.view c.loop-member.bank) _ c.loop-member.invariant.reads c.read_standing.ensures.any_moment

pub returns-in_err-read_standing-clause-calls : goal.returns-in_err-read_standing-clause-calls
returns-in_err-read_standing-clause-calls g c =
    let is : Err c.in_err-read_standing.field-0.0 ≡ c.from_residual.result = search rules in
    others_failed c.args.g.now c.args.stage.now.pending c.args.place.row c.args.place.member c.loop-member.member
    (g.B.Bank.view c.args.bank.now) (g.B.Bank.view c.loop-member.bank) c.loop-member.invariant.calls
    c.read_standing.result c.from_residual.result c.in_err-read_standing.field-0.0 c.args.g.now.members (g.B.Bank.view c.read_standing.new.bank)
    (omega arith) c.if-member-place.true is c.read_standing.ensures.calls

pub returns-in_err-read_standing-clause-failed_calls : goal.returns-in_err-read_standing-clause-failed_calls
returns-in_err-read_standing-clause-failed_calls g c =
    let is : Err c.in_err-read_standing.field-0.0 ≡ c.from_residual.result = search rules in
    others_stopped c.args.g.now c.args.stage.now.pending c.args.place.row c.args.place.member c.loop-member.member
    (g.B.Bank.view c.args.bank.now) (g.B.Bank.view c.loop-member.bank) c.loop-member.invariant.calls
    c.from_residual.result c.in_err-read_standing.field-0.0 (g.B.Bank.view c.read_standing.new.bank) is
    c.in_err-read_standing.ensures.cause.0 c.in_err-read_standing.ensures.bare c.read_standing.ensures.calls

pub returns-clause-calls : goal.returns-clause-calls
returns-clause-calls g c =
    others_done c.args.g.now c.args.stage.now.pending c.args.place.row c.args.place.member c.loop-member.member
    (g.B.Bank.view c.args.bank.now) (g.B.Bank.view c.loop-member.bank) c.loop-member.invariant.calls _ c.args.g.now.members (omega arith)
