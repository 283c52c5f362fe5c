-- What an array answers to a line that it denies.
use Rattle.trap_array.specs.declared.fault.Denied.{Denied}
use Rattle.trap_array.specs.declared.fault.Denied.TheVariants.{Refused}

-- every answer but a refusal ends the session
abbrev pub EndsSession : Denied → Type 0
EndsSession (Refused why) = ⊥
EndsSession other = Unit {0}
