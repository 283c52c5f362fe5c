-- The record of a planned change.
use Rattle.std.proofs.Common.{◌≡◌, ℕ, List, [], ◌++◌, length, false, ap, subst, ◌∙◌}
use Rattle.trap_block.specs.Xor.{xor}
use Rattle.trap_model.specs.LogRecord.{header}
use Rattle.trap_model.specs.Records.{record_of, change_code}
use Rattle.trap_model.specs.Size.{code_of}
use Rattle.trap_model.specs.ZeroRun.{ZeroRun}
use Rattle.trap_model.proofs.CodeOf.{spelling_is_code_of}
use Rattle.trap_array.specs.NextHead.{entry_for}

-- a header and the code of what changed are the entry's record
pub record_spelled : (seq time block plen : ℕ) (old bytes delta parity spelled : List ℕ)
    → spelled ≡ header (record { snap = false; seq = seq; time = time; block = block; plen = plen; slen = 0 }) ++ (parity ++ [])
    → delta ≡ xor old bytes → ZeroRun delta parity → plen ≡ length parity → spelled ≡ record_of seq old (entry_for time block bytes)
record_spelled seq time block plen old bytes delta parity spelled is change run long =
    let same : parity ≡ change_code old (entry_for time block bytes) = spelling_is_code_of delta parity run ∙ ap code_of change in
    subst (λ (code : List ℕ). spelled ≡ header (record { snap = false; seq = seq; time = time; block = block; plen = length code; slen = 0 }) ++ (code ++ [])) same
    (subst (λ (n : ℕ). spelled ≡ header (record { snap = false; seq = seq; time = time; block = block; plen = n; slen = 0 }) ++ (parity ++ [])) long is)
