use Rattle.std.proofs.Common.{rules, ◌≤◌, ◌-◌, subst}
use Rattle.std.proofs.lemmas.Result.{on_ok_weaker}
use Rattle.trap_log.specs.Calls.{running}
use Rattle.trap_format.specs.HeadValue.{IsHead}
use Rattle.trap_log.specs.Log.{Log, with_index}
use Rattle.trap_log.proofs.DrainSteps.{has_room, makes_room}
use Rattle.trap_bank.proofs.Moves.{unmoved}
use Rattle.trap_log.proofs.Turns.{same_may}
use Rattle.trap_log.proofs.log.Log.drain_for_room.Goals as goal

pub returns-then-self-from-clause-room : goal.returns-then-self-from-clause-room
returns-then-self-from-clause-room g c =
    has_room c.args.self.now (g.B.Bank.view c.args.bank.now) c.requires.can (search rules)

pub returns-then-self-from-clause-any_moment : goal.returns-then-self-from-clause-any_moment
returns-then-self-from-clause-any_moment g c i =
    let old = g.B.Bank.view c.args.bank.now in
    same_may (running (with_index c.args.self.now i)) old old (λ s. s) (unmoved old)

pub returns-clause-room : goal.returns-clause-room
returns-clause-room g c =
    let here = c.args.self.now in
    let is : IsHead here.g here.head = subst (λ (l : Log). IsHead l.g l.head) c.self.view_is c.self.invariant.is_head in
    let more : here.g.slots ≤ here.head.last - here.head.drained = search rules in
    on_ok_weaker c.drain_all.result
    (makes_room here is more c.drain_all.new.self (g.B.Bank.view c.args.bank.now) (g.B.Bank.view c.drain_all.new.bank) c.drain_all.ensures.same_log
    c.drain_all.ensures.sizes c.requires.can)
    c.drain_all.ensures.drained
