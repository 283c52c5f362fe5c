-- The forms of a session's lines.
use Rattle.trap_script.specs.declared.lines.Line.{Line}
use Rattle.trap_script.specs.declared.lines.Line.TheVariants.{Keep}

-- a session answers the line: every one but `K`
abbrev pub IsAsked : Line → Type 0
IsAsked (Keep seq) = ⊥
IsAsked other = Unit {0}
