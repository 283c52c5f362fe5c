use Rattle.std.proofs.Common.{ℕ, ◌+◌, ◌-◌, ◌^◌, ◌≤◌, List}
use Rattle.trap_lines.specs.Reader.{taken, IsLine, Passes, IsOpen}
use Rattle.trap_lines.proofs.reader.LineReader.next.Given as goal

-- What was passed over since the call began is the front of a line.
abbrev pub invariant-pieces : goal.invariant-pieces
invariant-pieces g l =
    let s0 = g.S.Source.stream l.fn.source in
    let s = g.S.Source.stream l.source in
    (front : List ℕ) × IsLine front l.len l.self × Passes front l.fn.self l.self s0 s × IsOpen l.self s
    × (s.given ≤ 2 ^ 62 + taken l.self) × (l.len ≤ l.self.used)

abbrev pub decreases-pieces : goal.decreases-pieces
decreases-pieces g l = 2 ^ 40 - l.self.used
