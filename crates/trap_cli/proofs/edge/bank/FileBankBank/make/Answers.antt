use Rattle.std.proofs.Common.{arith}
use Rattle.trap_cli.proofs.edge.bank.FileBankBank.make.Goals as goal
use Rattle.trap_cli.proofs.FilesLemmas.{untold_unmade}

pub returns-in-Err : goal.returns-in-Err
returns-in-Err g c = record {
  call = untold_unmade c.args.self.now.disks.items c.args.d c.args.self.now.faults c.blame.new.faults
      c.args.self.now.port_faults c.args.len (omega (arith, c.args.self.now.disk_count, c.args.self.now.disks.ok.0)) c.blame.ensures.counts;
}
