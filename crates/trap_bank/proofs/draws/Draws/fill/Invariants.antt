use Rattle.std.proofs.Common.{◌≡◌, take}
use Rattle.trap_bank.specs.Draws.{drawn, after_draws}
use Rattle.trap_bank.proofs.draws.Draws.fill.Given as goal

abbrev pub invariant-loop-i : goal.invariant-loop-i
invariant-loop-i l = record {
  bytes : take l.i l.bytes ≡ drawn l.i l.initial.self.number;
  number : l.self.number ≡ after_draws l.i l.initial.self.number;
}
