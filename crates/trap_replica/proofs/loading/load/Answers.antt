use Rattle.std.proofs.Common.{Result, Err, sym, subst, ◌∙◌, arith, rules}
use Rattle.std.proofs.lemmas.Grind.{common_steps}
use Rattle.trap_replica.specs.Loading.{Loads}
use Rattle.trap_replica.specs.declared.fault.ReplicaFault.{ReplicaFault}
use Rattle.trap_replica.proofs.OneFrame.{touch_torn, touch_then}
use Rattle.trap_replica.proofs.LoadedBlocks.{err_is}
use Rattle.trap_replica.proofs.LoadedReplica.{load_stopped, load_gate, load_done}
use Rattle.trap_replica.proofs.loading.load.Goals as goal

pub returns-in_err-load_shut-clause-loads : goal.returns-in_err-load_shut-clause-loads
returns-in_err-load_shut-clause-loads g c = λ none.
    let a = g.B.Bank.view c.args.bank.now in
    let b = g.B.Bank.view c.load_shut.new.bank in
    let from = g.S.Source.stream c.args.source.now in
    let to = g.S.Source.stream c.load_shut.new.source in
    let loads = c.in_err-load_shut.ensures.loads in
    let stopped = load_stopped c.args.s.now c.args.seq c.args.time a from (g.met.B.Bank.lawful c.args.bank.now) none loads.0 b to {T = Unit {0}} c.in_err-load_shut.field-0.0 loads.1 in (
      loads.0,
      err_is c.from_residual-in_err-load_shut.result _ (λ (r : Result (Unit {0}) ReplicaFault). Loads c.args.s.now c.args.seq c.args.time loads.0 r a b from to)
          c.from_residual-in_err-load_shut.ensures.0 c.from_residual-in_err-load_shut.ensures.1
          (λ why is. subst (λ (e : ReplicaFault). Loads {T = Unit {0}} c.args.s.now c.args.seq c.args.time loads.0 (Err e) a b from to) (sym is) stopped),
    )

pub returns-in_err-write_through-clause-loads : goal.returns-in_err-write_through-clause-loads
returns-in_err-write_through-clause-loads g c = λ none.
    let a = g.B.Bank.view c.args.bank.now in
    let b = g.B.Bank.view c.load_shut.new.bank in
    let failed = g.B.Bank.view c.write_through.new.bank in
    let gate = c.write_through.ensures.any_moment in
    let rose = c.in_err-write_through.ensures.cause in
    let residual = c.from_residual-in_err-write_through in
    let from = g.S.Source.stream c.args.source.now in
    let to = g.S.Source.stream c.load_shut.new.source in
    let loads = c.in_ok-load_shut.ensures.loads in (
      loads.0,
      err_is residual.result _ (λ (r : Result (Unit {0}) ReplicaFault). Loads c.args.s.now c.args.seq c.args.time loads.0 r a failed from to) residual.ensures.0 residual.ensures.1
          (λ why disk. load_gate c.args.s.now c.args.seq c.args.time a from (g.met.B.Bank.lawful c.args.bank.now) none loads.0 b to _ loads.1 (omega arith) c.requires.most (omega arith) failed
          why disk gate rose),
    )

-- ---- the gate is open, and stays so
pub returns-clause-loads : goal.returns-clause-loads
returns-clause-loads g c = λ none.
    let a = g.B.Bank.view c.args.bank.now in
    let b = g.B.Bank.view c.load_shut.new.bank in
    let d = g.B.Bank.view c.write_through.new.bank in
    let from = g.S.Source.stream c.args.source.now in
    let to = g.S.Source.stream c.load_shut.new.source in
    let loads = c.in_ok-load_shut.ensures.loads in (
      loads.0,
      load_done c.args.s.now c.args.seq c.args.time a from (g.met.B.Bank.lawful c.args.bank.now) none loads.0 b to _ loads.1 (omega arith) c.requires.most (omega arith) d
          c.in_ok-write_through.ensures.ok c.write_through.ensures.any_moment,
    )

-- ---- only disk 17 was touched
pub returns-in_err-write_through-clause-disk : goal.returns-in_err-write_through-clause-disk
returns-in_err-write_through-clause-disk g c =
    let torn = c.write_through.ensures.contents in
    let same = c.write_through.ensures.sizes in
    let after = g.B.Bank.view c.write_through.new.bank in
    record {
      size = first_of (search rules, grind (arith, common_steps));
      sizes = λ e other. same e ∙ c.load_shut.ensures.disk.sizes e other;
      touches = touch_then (g.B.Bank.view c.args.bank.now) (g.B.Bank.view c.load_shut.new.bank) after c.load_shut.ensures.loads.1.any_moment.tells
          c.load_shut.ensures.disk.touches (touch_torn _ _ (g.B.Bank.view c.load_shut.new.bank) after torn);
    }

pub returns-clause-disk : goal.returns-clause-disk
returns-clause-disk g c =
    let whole = c.write_through.ensures.contents in
    let kept = c.write_through.ensures.sizes in
    let made = g.B.Bank.view c.write_through.new.bank in
    record {
      size = kept 17 ∙ c.in_ok-load_shut.ensures.disk.size;
      sizes = λ e other. kept e ∙ c.load_shut.ensures.disk.sizes e other;
      touches = touch_then (g.B.Bank.view c.args.bank.now) (g.B.Bank.view c.load_shut.new.bank) made c.load_shut.ensures.loads.1.any_moment.tells
          c.load_shut.ensures.disk.touches (touch_torn _ _ (g.B.Bank.view c.load_shut.new.bank) made whole);
    }
