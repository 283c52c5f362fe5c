-- The parts of a record: one code, or two.
use Rattle.std.specs.Prelude.{ℕ, List}
use Rattle.trap_model.specs.declared.log_record.LogRec.{LogRec}
use Rattle.trap_record.specs.Reading.{parity_of, snapshot_of}
use Rattle.trap_record.specs.declared.parts.Part.{Part}
use Rattle.trap_record.specs.declared.parts.Part.TheVariants.{Parity, Snapshot}

-- the bytes of this part
abbrev pub part_of : Part → LogRec → List ℕ → List ℕ
part_of Parity rec bytes = parity_of rec bytes
part_of Snapshot rec bytes = snapshot_of rec bytes
