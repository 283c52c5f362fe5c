use Rattle.std.proofs.Common.{refl}
use Rattle.trap_bank.proofs.Regions.{window_drop}
use Rattle.trap_scan.proofs.window.Window.pass.Goals as goal

pub returns : goal.returns
returns c = record {
  at = refl;
  end = refl;
  room = refl;
  in_buffer = window_drop c.args.self.now.buf.items c.args.self.now.from c.args.self.now.to c.args.len c.requires;
}
