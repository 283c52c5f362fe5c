use Rattle.std.proofs.Common.{◌≡◌, ◌+◌, ◌-◌, ◌^◌}
use Rattle.trap_script.specs.Lines.{longest_line}
use Rattle.trap_lines.specs.Reader.{room}
use Rattle.trap_session.proofs.Ending.{HasRun}
use Rattle.trap_session.proofs.session.Session.serve.Given as goal

-- the lines so far were answered, by buffers for the array's blocks
abbrev pub invariant-lines : goal.invariant-lines
invariant-lines g l =
    HasRun g.B.Bank.view l.fn.array l.array l.fn.bank l.bank (g.S.Source.stream l.fn.source) (g.S.Source.stream l.source) l.reader
    × (l.buffers.g ≡ l.fn.array.g) × (room l.reader ≡ longest_line l.fn.array.g.block + 1)

abbrev pub decreases-lines : goal.decreases-lines
decreases-lines g l = 2 ^ 40 - l.reader.used
