-- How many bytes an entry takes in the log's ring.
use Rattle.std.specs.Prelude.{ℕ, ◌+◌, List, [], ◌∷◌, length, flat_map, Bool, ◌&&◌, ◌==◌, nat_lt}
use Rattle.std.specs.Prelude.{if◌then◌else◌}
use Rattle.trap_model.specs.declared.history.Entry.{Entry}
use Rattle.trap_model.specs.Limits.{record_header_len}
use Rattle.trap_model.specs.ZeroRun.{Segment, spelling, contents}
use Rattle.trap_block.specs.Xor.{xor}
use Rattle.trap_model.specs.Image.{block_of, written}

abbrev pub segment : ℕ → List ℕ → Segment
segment zeros literal = record { zeros = zeros; literal = literal }

-- with a zero byte in front
abbrev pub zero_before : List Segment → List Segment
zero_before [] = segment 1 [] ∷ []
zero_before (s ∷ later) = segment (s.zeros + 1) s.literal ∷ later

-- whether a literal in front goes on over the segment: up to three zero bytes, and a literal after
-- them
abbrev pub is_joined : Segment → Bool
is_joined s = nat_lt s.zeros 4 && nat_lt 0 (length s.literal)

-- with a nonzero byte in front: it is a literal of its own, or the first byte of the next one
abbrev pub byte_before : ℕ → List Segment → List Segment
byte_before byte [] = segment 0 (byte ∷ []) ∷ []
byte_before byte (s ∷ later) =
    if is_joined s then segment 0 (byte ∷ contents s) ∷ later else segment 0 (byte ∷ []) ∷ s ∷ later

-- the segments of a block: as few as can be, and as many zero bytes as can be in front of each
-- literal
abbrev pub segments_of : List ℕ → List Segment
segments_of [] = []
segments_of (byte ∷ later) =
    if byte == 0 then zero_before (segments_of later) else byte_before byte (segments_of later)

-- the code of a block
abbrev pub code_of : List ℕ → List ℕ
code_of block = flat_map spelling (segments_of block)

-- A record has its header and the code of what was changed; that of a marked entry has the code of
-- the contents too.
abbrev pub entry_size : List ℕ → Entry → ℕ
entry_size old entry =
    record_header_len + length (code_of (xor old entry.bytes))
    + (if entry.snap then length (code_of entry.bytes) else 0)

-- the entries' sizes together, the first of them over this image
abbrev pub size_over : List (List ℕ) → List Entry → ℕ
size_over image [] = 0
size_over image (entry ∷ later) =
    entry_size (block_of image entry.block) entry + size_over (written image entry) later
