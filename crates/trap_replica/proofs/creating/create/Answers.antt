use Rattle.std.proofs.Common.{◌≡◌, ◌∙◌, None, arith, rules}
use Rattle.std.proofs.lemmas.Grind.{common_steps}
use Rattle.trap_format.specs.ReplicaDisk.{replica_size}
use Rattle.trap_replica.specs.Creating.{zero_blocks}
use Rattle.trap_replica.proofs.OneFrame.{touch_torn, touch_then}
use Rattle.trap_replica.proofs.NewReplica.{holds_zeros, shut_part, gate_part, gate_done}
use Rattle.trap_replica.proofs.creating.create.Goals as goal

pub write_through-requires-clause-room : goal.write_through-requires-clause-room
write_through-requires-clause-room g c = (replica_size c.args.s.now, c.in_ok-shut_replica.ensures.disk.size, omega arith)

pub returns-in_err-shut_replica-clause-any_moment : goal.returns-in_err-shut_replica-clause-any_moment
returns-in_err-shut_replica-clause-any_moment g c = λ none. shut_part c.args.s.now 0 0 (zero_blocks c.args.s.now) (g.B.Bank.view c.args.bank.now)
    (g.met.B.Bank.lawful c.args.bank.now) none (g.B.Bank.view c.shut_replica.new.bank) c.shut_replica.ensures.any_moment

pub returns-in_err-write_through-clause-any_moment : goal.returns-in_err-write_through-clause-any_moment
returns-in_err-write_through-clause-any_moment g c = λ none.
    let part = c.write_through.ensures.any_moment in
    let left = g.B.Bank.view c.write_through.new.bank in
    gate_part c.args.s.now 0 0 (zero_blocks c.args.s.now) (g.B.Bank.view c.args.bank.now)
    (g.met.B.Bank.lawful c.args.bank.now) none (holds_zeros c.args.s.now (omega arith)) (g.B.Bank.view c.shut_replica.new.bank) left c.in_ok-shut_replica.ensures.ok part

pub returns-clause-any_moment : goal.returns-clause-any_moment
returns-clause-any_moment g c = λ none.
    let gate = c.write_through.ensures.any_moment in
    let open_now = g.B.Bank.view c.write_through.new.bank in
    gate_part c.args.s.now 0 0 (zero_blocks c.args.s.now) (g.B.Bank.view c.args.bank.now)
    (g.met.B.Bank.lawful c.args.bank.now) none (holds_zeros c.args.s.now (omega arith)) (g.B.Bank.view c.shut_replica.new.bank) open_now c.in_ok-shut_replica.ensures.ok gate

-- ---- the gate is open, and stays so
pub returns-clause-ok : goal.returns-clause-ok
returns-clause-ok g c =
    let none : (g.B.Bank.view c.args.bank.now).sizes 17 ≡ None = first_of (search rules, grind (arith, common_steps)) in
    gate_done c.args.s.now 0 0 (zero_blocks c.args.s.now) (g.B.Bank.view c.args.bank.now) (g.met.B.Bank.lawful c.args.bank.now) none (holds_zeros c.args.s.now (omega arith))
    (g.B.Bank.view c.shut_replica.new.bank) (g.B.Bank.view c.write_through.new.bank) c.in_ok-shut_replica.ensures.ok c.in_ok-write_through.ensures.ok

-- ---- only disk 17 was touched
pub returns-in_err-write_through-clause-disk : goal.returns-in_err-write_through-clause-disk
returns-in_err-write_through-clause-disk g c =
    let torn = c.write_through.ensures.contents in
    let same = c.write_through.ensures.sizes in
    let after = g.B.Bank.view c.write_through.new.bank in
    record {
      size = first_of (search rules, grind (arith, common_steps));
      sizes = λ e other. same e ∙ c.shut_replica.ensures.disk.sizes e other;
      touches = touch_then (g.B.Bank.view c.args.bank.now) (g.B.Bank.view c.shut_replica.new.bank) after c.shut_replica.ensures.any_moment.tells
          c.shut_replica.ensures.disk.touches (touch_torn _ _ (g.B.Bank.view c.shut_replica.new.bank) after torn);
    }

pub returns-clause-disk : goal.returns-clause-disk
returns-clause-disk g c =
    let whole = c.write_through.ensures.contents in
    let kept = c.write_through.ensures.sizes in
    let made = g.B.Bank.view c.write_through.new.bank in
    record {
      size = kept 17 ∙ c.in_ok-shut_replica.ensures.disk.size;
      sizes = λ e other. kept e ∙ c.shut_replica.ensures.disk.sizes e other;
      touches = touch_then (g.B.Bank.view c.args.bank.now) (g.B.Bank.view c.shut_replica.new.bank) made c.shut_replica.ensures.any_moment.tells
          c.shut_replica.ensures.disk.touches (touch_torn _ _ (g.B.Bank.view c.shut_replica.new.bank) made whole);
    }
