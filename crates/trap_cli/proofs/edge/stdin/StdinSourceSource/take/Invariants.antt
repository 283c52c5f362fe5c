use Rattle.std.proofs.Common.{◌≡◌}
use Rattle.trap_cli.proofs.edge.stdin.StdinSourceSource.take.Given as goal

-- Until the system gives something, only the reader changes.
abbrev pub invariant-tries : goal.invariant-tries
invariant-tries g l =
    (l.self.given ≡ l.fn.self.given) × (l.self.ended ≡ l.fn.self.ended) × (l.self.faults ≡ l.fn.self.faults)
