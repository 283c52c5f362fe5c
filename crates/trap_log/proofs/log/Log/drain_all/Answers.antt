use Rattle.std.proofs.Common.{ℕ, subst}
use Rattle.std.proofs.lemmas.Result.{on_ok_weaker}
use Rattle.trap_bank.specs.Called.{TakesCalls}
use Rattle.trap_log.specs.Draining.{calls_to_drain}
use Rattle.trap_log.proofs.DrainSteps.{all_drained}
use Rattle.trap_log.proofs.log.Log.drain_all.Goals as goal

pub returns-clause-drained : goal.returns-clause-drained
returns-clause-drained g c =
    on_ok_weaker c.drain.result (all_drained c.args.self.now c.drain.new.self c.last_number-last.result _ _ c.last_number-last.ensures.last) c.drain.ensures.drained

pub returns-clause-calls : goal.returns-clause-calls
returns-clause-calls g c =
    subst (λ (n : ℕ). TakesCalls (calls_to_drain c.args.self.now n) c.drain.result (g.B.Bank.view c.args.bank.now) (g.B.Bank.view c.drain.new.bank))
    c.last_number-last.ensures.last c.drain.ensures.calls
