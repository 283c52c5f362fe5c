use Rattle.std.proofs.Common.{◌≡◌, vec_len}
use Rattle.trap_cli.proofs.edge.bank.FileBank.new.Given as goal

-- A disk for each name so far.
abbrev pub invariant-names : goal.invariant-names
invariant-names g l = vec_len l.disks ≡ l.name-index
