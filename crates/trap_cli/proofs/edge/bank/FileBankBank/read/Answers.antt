use Rattle.trap_cli.proofs.edge.bank.FileBankBank.read.Goals as goal
use Rattle.trap_cli.proofs.FilesLemmas.{untold_reads}

pub returns : goal.returns
returns g c = record {
  call = untold_reads c.args.self.now.disks.items c.args.d c.args.self.now.faults c.settle.new.faults
      c.args.self.now.port_faults c.settle.result c.settle.ensures.err c.settle.ensures.ok c.args.at c.args.buf.now c.match-index.buf;
}
