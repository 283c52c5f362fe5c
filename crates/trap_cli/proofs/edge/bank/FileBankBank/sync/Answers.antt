use Rattle.trap_cli.proofs.edge.bank.FileBankBank.sync.Goals as goal
use Rattle.trap_cli.proofs.FilesLemmas.{untold_syncs}

pub returns : goal.returns
returns g c = record {
  call = untold_syncs c.args.self.now.disks.items c.args.d c.args.self.now.faults c.settle.new.faults
      c.args.self.now.port_faults c.settle.result c.settle.ensures.err c.settle.ensures.ok;
}
