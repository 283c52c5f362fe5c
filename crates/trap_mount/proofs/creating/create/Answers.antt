use Rattle.std.proofs.Common.{◌+◌, ◌*◌, ◌∙◌, arith}
use Rattle.trap_bank.proofs.Called.{called_then}
use Rattle.trap_mount.proofs.FreshArray.{create_members_part, create_log_part, create_done, create_holds, create_cell, is_making, order_members, order_log, others_members, others_log}
use Rattle.trap_mount.proofs.creating.create.Goals as goal

pub returns-in_err-create_members-clause-making : goal.returns-in_err-create_members-clause-making
returns-in_err-create_members-clause-making g c = λ none. is_making c.args.g.now (g.B.Bank.view c.args.bank.now) (g.B.Bank.view c.create_members.new.bank)
    (create_members_part c.args.g.now (g.B.Bank.view c.args.bank.now) (g.met.B.Bank.lawful c.args.bank.now) none (g.B.Bank.view c.create_members.new.bank) c.create_members.ensures.any_moment)

pub returns-in_err-create_members-clause-beside : goal.returns-in_err-create_members-clause-beside
returns-in_err-create_members-clause-beside g c = others_members c.args.g.now (g.B.Bank.view c.args.bank.now) (g.B.Bank.view c.create_members.new.bank)
    c.create_members.ensures.sizes c.create_members.ensures.touches c.create_members.ensures.any_moment

pub returns-in_err-create_members-clause-order : goal.returns-in_err-create_members-clause-order
returns-in_err-create_members-clause-order g c =
    order_members c.args.g.now (g.B.Bank.view c.args.bank.now) (g.B.Bank.view c.create_members.new.bank) c.create_members.ensures.touches c.create_members.ensures.any_moment

pub returns-in_err-create_log-clause-making : goal.returns-in_err-create_log-clause-making
returns-in_err-create_log-clause-making g c = λ none. is_making c.args.g.now (g.B.Bank.view c.args.bank.now) (g.B.Bank.view c.create_log.new.bank)
    (create_log_part c.args.g.now (g.B.Bank.view c.args.bank.now) (g.met.B.Bank.lawful c.args.bank.now) none (g.B.Bank.view c.create_members.new.bank)
    (g.B.Bank.view c.create_log.new.bank) c.in_ok-create_members.ensures.ok c.create_log.ensures.any_moment)

pub returns-in_err-create_log-clause-beside : goal.returns-in_err-create_log-clause-beside
returns-in_err-create_log-clause-beside g c = others_log c.args.g.now (g.B.Bank.view c.args.bank.now) (g.B.Bank.view c.create_members.new.bank) (g.B.Bank.view c.create_log.new.bank)
    c.create_members.ensures.sizes c.create_members.ensures.touches c.in_ok-create_members.ensures.ok
    c.create_log.ensures.sizes c.create_log.ensures.touches c.create_log.ensures.any_moment

pub returns-in_err-create_log-clause-order : goal.returns-in_err-create_log-clause-order
returns-in_err-create_log-clause-order g c = order_log c.args.g.now (g.B.Bank.view c.args.bank.now) (g.B.Bank.view c.create_members.new.bank) (g.B.Bank.view c.create_log.new.bank)
    c.in_ok-create_members.ensures.ok c.create_log.ensures.touches c.create_log.ensures.any_moment

pub returns-clause-making : goal.returns-clause-making
returns-clause-making g c = λ none. is_making c.args.g.now (g.B.Bank.view c.args.bank.now) (g.B.Bank.view c.create_log.new.bank)
    (create_log_part c.args.g.now (g.B.Bank.view c.args.bank.now) (g.met.B.Bank.lawful c.args.bank.now) none (g.B.Bank.view c.create_members.new.bank)
    (g.B.Bank.view c.create_log.new.bank) c.in_ok-create_members.ensures.ok c.create_log.ensures.any_moment)

pub returns-clause-beside : goal.returns-clause-beside
returns-clause-beside g c = others_log c.args.g.now (g.B.Bank.view c.args.bank.now) (g.B.Bank.view c.create_members.new.bank) (g.B.Bank.view c.create_log.new.bank)
    c.create_members.ensures.sizes c.create_members.ensures.touches c.in_ok-create_members.ensures.ok
    c.create_log.ensures.sizes c.create_log.ensures.touches c.create_log.ensures.any_moment

pub returns-clause-order : goal.returns-clause-order
returns-clause-order g c = order_log c.args.g.now (g.B.Bank.view c.args.bank.now) (g.B.Bank.view c.create_members.new.bank) (g.B.Bank.view c.create_log.new.bank)
    c.in_ok-create_members.ensures.ok c.create_log.ensures.touches c.create_log.ensures.any_moment

pub returns-clause-made : goal.returns-clause-made
returns-clause-made g c = record {
  log = c.in_ok-create_log.ensures.size;
  members = λ m inside. c.create_log.ensures.sizes (m + 1) (λ is. omega (arith, is)) ∙ c.in_ok-create_members.ensures.made m inside;
  holds = create_holds c.args.g.now (g.B.Bank.view c.args.bank.now) (g.B.Bank.view c.create_members.new.bank)
      (g.B.Bank.view c.create_log.new.bank) c.in_ok-create_members.ensures.ok c.in_ok-create_log.ensures.ok;
  cell = create_cell c.args.g.now (g.B.Bank.view c.create_members.new.bank) (g.B.Bank.view c.create_log.new.bank) c.in_ok-create_log.ensures.ok;
  moves = create_done c.args.g.now (g.B.Bank.view c.args.bank.now) (g.met.B.Bank.lawful c.args.bank.now) c.in_default.ensures.none (g.B.Bank.view c.create_members.new.bank)
      (g.B.Bank.view c.create_log.new.bank) c.in_ok-create_members.ensures.ok c.in_ok-create_log.ensures.ok;
  calls = called_then (3 * c.args.g.now.members) 9 (g.B.Bank.view c.args.bank.now) (g.B.Bank.view c.create_members.new.bank) (g.B.Bank.view c.create_log.new.bank)
      c.in_ok-create_members.ensures.calls.ok c.in_ok-create_log.ensures.calls.ok;
}
