-- What one piece of input is.
use Rattle.std.specs.Prelude.{◌≡◌, ℕ, ◌^◌}
use Rattle.trap_bank.specs.Faults.{Rose}
use Rattle.trap_bank.specs.Stream.{Stream, GaveNothing}
use Rattle.trap_lines.specs.declared.found.ReadFault.{ReadFault}
use Rattle.trap_lines.specs.declared.found.ReadFault.TheVariants.{Source, TooLong}

-- the source gave nothing: it failed, or as many bytes as a reader takes were taken
abbrev pub TakesNone : ReadFault → ℕ → Stream → Stream → Type 0
TakesNone Source used old new = GaveNothing old new × Rose old.faults new.faults
TakesNone TooLong used old new = (used ≡ 2 ^ 40) × (new ≡ old)
