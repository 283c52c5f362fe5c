use Rattle.std.proofs.Common.{arith}
use Rattle.trap_replica.proofs.NewReplica.{cell_part, header_part, header_done, header_rest, header_rest_length}
use Rattle.trap_replica.proofs.creating.begin_shut.Goals as goal

pub returns-in_err-first-clause-any_moment : goal.returns-in_err-first-clause-any_moment
returns-in_err-first-clause-any_moment g c = cell_part c.args.s.now c.args.value.now c.requires.long (g.B.Bank.view c.args.bank.now) (g.B.Bank.view c.first.new.bank) c.first.ensures.any_moment

pub returns-in_err-write_through-clause-any_moment : goal.returns-in_err-write_through-clause-any_moment
returns-in_err-write_through-clause-any_moment g c =
    let part = c.write_through.ensures.any_moment in
    let left = g.B.Bank.view c.write_through.new.bank in
    let thirty = header_rest_length c.spell_replica.new.out c.spell_replica.array_long in
    header_part c.args.s.now c.args.value.now c.requires.long (g.B.Bank.view c.args.bank.now) (g.B.Bank.view c.first.new.bank) left
    c.in_ok-first.field-0 _ (omega (arith, thirty)) c.in_ok-first.ensures.ok c.in_ok-first.ensures.cell part

pub returns-clause-any_moment : goal.returns-clause-any_moment
returns-clause-any_moment g c =
    let header = c.write_through.ensures.any_moment in
    let written = g.B.Bank.view c.write_through.new.bank in
    let thirty = header_rest_length c.spell_replica.new.out c.spell_replica.array_long in
    header_part c.args.s.now c.args.value.now c.requires.long (g.B.Bank.view c.args.bank.now) (g.B.Bank.view c.first.new.bank) written
    c.in_ok-first.field-0 _ (omega (arith, thirty)) c.in_ok-first.ensures.ok c.in_ok-first.ensures.cell header

-- ---- and it stays
pub returns-clause-ok : goal.returns-clause-ok
returns-clause-ok g c = header_done c.args.s.now c.args.value.now c.requires.long (g.B.Bank.view c.args.bank.now) (g.B.Bank.view c.first.new.bank) (g.B.Bank.view c.write_through.new.bank)
    c.in_ok-first.field-0 _ (header_rest_length c.spell_replica.new.out c.spell_replica.array_long)
    (header_rest c.args.s.now c.spell_replica.new.out c.spell_replica.array_long c.spell_replica.ensures)
    c.in_ok-first.ensures.ok c.in_ok-first.ensures.cell c.in_ok-write_through.ensures.ok
