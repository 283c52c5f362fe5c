use Rattle.std.proofs.Common.{Some, refl, sym, ap, ◌∙◌}
use Rattle.trap_bank.proofs.OnlyReads.{reads_then}
use Rattle.trap_format.specs.ReplicaDisk.{replica_size}
use Rattle.trap_format.specs.declared.shape.Shape.{Shape}
use Rattle.trap_replica.specs.Holding.{HeldFrames}
use Rattle.trap_replica.proofs.MountedDisk.{opens_before, opens_holds}
use Rattle.trap_replica.proofs.replica.Replica.mount.Goals as goal

pub returns-clause-any_moment : goal.returns-clause-any_moment
returns-clause-any_moment g c = reads_then _ _ _ c.read_header.ensures.reads c.open_store.ensures.reads

pub returns-in_err-store-clause-any_moment : goal.returns-in_err-store-clause-any_moment
returns-in_err-store-clause-any_moment g c = reads_then _ _ _ c.read_header.ensures.reads c.open_store.ensures.reads

pub returns-clause-ok : goal.returns-clause-ok
returns-clause-ok g c =
    let opened = opens_before c.in_ok-store.store (g.B.Bank.view c.args.bank.now) (g.B.Bank.view c.read_header.new.bank) (g.B.Bank.view c.open_store.new.bank) c.read_header.ensures.reads
    c.in_ok-store.ensures.ok in
    record {
      opens = opened;
      exact = c.in_ok-shape.ensures.ok.size ∙ ap (λ (s : Shape). Some (replica_size s)) (sym c.in_ok-store.ensures.shape);
      holds = λ told. opens_holds c.in_ok-store.store (g.B.Bank.view c.args.bank.now) (g.B.Bank.view c.open_store.new.bank) opened told;
      held = ap (λ (h : HeldFrames). h.frames) c.in_ok-held.ensures;
      running = refl;
    }
