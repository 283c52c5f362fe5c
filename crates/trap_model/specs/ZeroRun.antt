-- The code of a block: runs of zero bytes, and the literal bytes after each run.
use Rattle.std.specs.Prelude.{◌≡◌, ◌⊎◌, ℕ, ◌+◌, ◌-◌, ◌<◌, ◌≤◌, List, [], ◌∷◌, ◌++◌, length}
use Rattle.std.specs.Prelude.{replicate, flat_map, slice_index}
use Rattle.std.specs.Int.{w16, to_be_bytes}
pub use Rattle.trap_block.specs.Zeros.{AreZeros}

-- zero bytes, and the literal bytes after them
pub record Segment : Type 0 where
  pub zeros : ℕ
  pub literal : List ℕ

-- how a segment is written: both numbers in two bytes each, and then the literal
abbrev pub spelling : Segment → List ℕ
spelling s = to_be_bytes w16 s.zeros ++ to_be_bytes w16 (length s.literal) ++ s.literal

-- the bytes of the block that it stands for
abbrev pub contents : Segment → List ℕ
contents s = replicate s.zeros 0 ++ s.literal

-- how many bytes of the block it stands for
abbrev pub segment_size : Segment → ℕ
segment_size s = s.zeros + length s.literal

-- a literal begins and ends with a nonzero byte, so it isn't empty, and holds no four zero bytes in
-- succession
pub record IsLiteral (bytes : List ℕ) : Type 0 where
  pub begins : 0 < slice_index bytes 0
  pub ends : 0 < slice_index bytes (length bytes - 1)
  pub apart : (at : ℕ) → ¬ AreZeros bytes at 4

-- a segment with a literal, where the block has `owed` bytes left: at least that many zero bytes
-- come before it
pub record HasLiteral (least owed : ℕ) (s : Segment) : Type 0 where
  pub zeros : least ≤ s.zeros
  pub literal : IsLiteral s.literal
  pub within : segment_size s ≤ owed

-- a segment without one: it is the last, and all that the block has left is zero
pub record IsRest (owed : ℕ) (s : Segment) : Type 0 where
  pub some : 1 ≤ s.zeros
  pub empty : s.literal ≡ []
  pub whole : s.zeros ≡ owed

-- the segment keeps the rules where the block has `owed` bytes left
abbrev pub KeepsRules : ℕ → ℕ → Segment → Type 0
KeepsRules least owed s = HasLiteral least owed s ⊎ IsRest owed s

-- Segments one after the other, after which the block has `left` bytes left. Before the literal
-- of the first one stand at least `least` zero bytes, and at least four before each later one.
abbrev pub Walks : ℕ → ℕ → List Segment → ℕ → Type 0
Walks least owed [] left = left ≡ owed
Walks least owed (s ∷ segments) left =
    KeepsRules least owed s × Walks 4 (owed - segment_size s) segments left

-- the bytes spell the block
pub record ZeroRun (block bytes : List ℕ) : Type 0 where
  pub segments : List Segment
  pub rules : Walks 0 (length block) segments 0
  pub spelled : bytes ≡ flat_map spelling segments
  pub meant : block ≡ flat_map contents segments

-- the bytes spell a block of that size
abbrev pub IsCode : ℕ → List ℕ → Type 0
IsCode size bytes = (block : List ℕ) × (length block ≡ size) × ZeroRun block bytes

-- how many zero bytes stand at least before the next literal
abbrev pub least_after : ℕ → List Segment → ℕ
least_after least [] = least
least_after least (s ∷ segments) = 4

-- no segment that keeps the rules begins the bytes
abbrev pub NoneFollows : ℕ → ℕ → List ℕ → Type 0
NoneFollows least owed bytes =
    (s : Segment) (more : List ℕ) → bytes ≡ spelling s ++ more → ¬ KeepsRules least owed s

-- the bytes spell no block of that size: some segments keep the rules, and where they end no
-- further one does, though the block has bytes left or the bytes go on
pub record IsRefused (size : ℕ) (bytes : List ℕ) (at : ℕ) : Type 0 where
  pub segments : List Segment
  pub rest : List ℕ
  pub left : ℕ
  pub rules : Walks 0 size segments left
  pub parts : bytes ≡ flat_map spelling segments ++ rest
  pub place : at ≡ length (flat_map spelling segments)
  pub stops : NoneFollows (least_after 0 segments) left rest
  pub unfinished : 0 < left + length rest
