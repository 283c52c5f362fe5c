-- The header of the log's disk, piece by piece.
use Rattle.std.proofs.Common.{◌≡◌, ℕ, ◌-◌, List, [], ◌∷◌, ◌++◌, length, take, drop, get_or, replicate, ap, ◌∙◌, arith, None}
use Rattle.std.specs.Prelude.{slice_range}
use Rattle.std.specs.Int.{w16, w32, w64, to_be_bytes}
use Rattle.trap_block.specs.Fields.{put_over}
use Rattle.trap_model.specs.declared.asked.Asked.{Asked}
use Rattle.trap_model.specs.declared.numbers.Geometry.{Geometry}
use Rattle.trap_format.specs.Checked.{HasNumbers, first_broken}
use Rattle.trap_format.specs.LogDisk.{log_start, log_header, IsLogHeader, StandsIn}
use Rattle.trap_format.proofs.Numbers.{none_broken}
use Rattle.trap_format.proofs.BigEndian.{same_of_2, same_of_4, same_of_8}
use Rattle.trap_format.proofs.Written.{Written, written_none, written_more, written_all}
use Rattle.trap_block.proofs.Cuts.{piece, byte_is, front}

-- the first half of the header
pub first_written : (g : Geometry) (a b c d e f : List ℕ) → length a ≡ 64 → b ≡ put_over 0 log_start a → c ≡ put_over 5 (to_be_bytes w64 g.id) b
    → d ≡ put_over 13 (g.members ∷ []) c → e ≡ put_over 14 (g.chunk ∷ []) d → f ≡ put_over 15 (to_be_bytes w16 g.block) e
    → Written 64 17 (log_start ++ to_be_bytes w64 g.id ++ (g.members ∷ g.chunk ∷ to_be_bytes w16 g.block)) f
first_written g a b c d e f len start id members chunk block =
    let none = written_none 64 a len in
    let first = written_more 64 0 [] log_start a b none (omega arith) start in
    let second = written_more 64 5 _ (to_be_bytes w64 g.id) b c first (omega arith) id in
    let third = written_more 64 13 _ (g.members ∷ []) c d second (omega arith) members in
    let fourth = written_more 64 14 _ (g.chunk ∷ []) d e third (omega arith) chunk in
    written_more 64 15 _ (to_be_bytes w16 g.block) e f fourth (omega arith) block

-- and the rest
pub log_written : (g : Geometry) (f a b c d e h : List ℕ) → Written 64 17 (log_start ++ to_be_bytes w64 g.id ++ (g.members ∷ g.chunk ∷ to_be_bytes w16 g.block)) f
    → a ≡ put_over 17 (to_be_bytes w32 g.rows) f → b ≡ put_over 21 (g.slots ∷ []) a → c ≡ put_over 22 (g.gap ∷ []) b → d ≡ put_over 23 (to_be_bytes w32 g.entries) c
    → e ≡ put_over 27 (to_be_bytes w64 g.ring) d → h ≡ put_over 35 (replicate 29 0) e → h ≡ log_header g
log_written g f a b c d e h written rows slots gap entries ring zeros =
    let sixth = written_more 64 17 _ (to_be_bytes w32 g.rows) f a written (omega arith) rows in
    let seventh = written_more 64 21 _ (g.slots ∷ []) a b sixth (omega arith) slots in
    let eighth = written_more 64 22 _ (g.gap ∷ []) b c seventh (omega arith) gap in
    let ninth = written_more 64 23 _ (to_be_bytes w32 g.entries) c d eighth (omega arith) entries in
    let tenth = written_more 64 27 _ (to_be_bytes w64 g.ring) d e ninth (omega arith) ring in
    written_all 64 _ h (written_more 64 35 _ (replicate 29 0) e h tenth (omega arith) zeros)

-- the header that was read is that of the numbers at its places
pub log_read : (bytes : List ℕ) (g : Geometry) (asked : Asked) → length bytes ≡ 64 → take 5 bytes ≡ log_start → drop 35 bytes ≡ replicate (length bytes - 35) 0
    → StandsIn bytes asked → HasNumbers g asked → bytes ≡ log_header g
log_read bytes g asked len start zeros at same =
    let last : drop 35 bytes ≡ replicate 29 0 = zeros ∙ ap (λ (n : ℕ). replicate (n - 35) 0) len in
    let ring = piece bytes (to_be_bytes w64 g.ring) _ 27 35 (omega arith) (ap (to_be_bytes w64) same.ring ∙ at.ring) last in
    let entries = piece bytes (to_be_bytes w32 g.entries) _ 23 27 (omega arith) (ap (to_be_bytes w32) same.entries ∙ at.entries) ring in
    let gap = byte_is bytes g.gap _ 22 (omega arith) (same.gap ∙ at.gap) entries in
    let slots = byte_is bytes g.slots _ 21 (omega arith) (same.slots ∙ at.slots) gap in
    let rows = piece bytes (to_be_bytes w32 g.rows) _ 17 21 (omega arith) (ap (to_be_bytes w32) same.rows ∙ at.rows) slots in
    let block = piece bytes (to_be_bytes w16 g.block) _ 15 17 (omega arith) (ap (to_be_bytes w16) same.block ∙ at.block) rows in
    let chunk = byte_is bytes g.chunk _ 14 (omega arith) (same.chunk ∙ at.chunk) block in
    let members = byte_is bytes g.members _ 13 (omega arith) (same.members ∙ at.members) chunk in
    let id = piece bytes (to_be_bytes w64 g.id) _ 5 13 (omega arith) (ap (to_be_bytes w64) same.id ∙ at.id) members in
    front bytes _ _ 5 start id

-- the numbers of an array as they are asked for, under another id
abbrev numbers_of : Geometry → ℕ → Asked
numbers_of g id = record { id = id; members = g.members; chunk = g.chunk; block = g.block; rows = g.rows; slots = g.slots; gap = g.gap; entries = g.entries; ring = g.ring }

same_asked : (id : ℕ) (members me : ℕ) (chunk ch : ℕ) (block bl : ℕ) (rows ro : ℕ) (slots sl : ℕ) (gap ga : ℕ) (entries en : ℕ) (ring ri : ℕ) → members ≡ me → chunk ≡ ch
    → block ≡ bl → rows ≡ ro → slots ≡ sl → gap ≡ ga → entries ≡ en → ring ≡ ri
    → ◌≡◌ {A = Asked} (record { id = id; members = members; chunk = chunk; block = block; rows = rows; slots = slots; gap = gap; entries = entries; ring = ring })
    (record { id = id; members = me; chunk = ch; block = bl; rows = ro; slots = sl; gap = ga; entries = en; ring = ri })
same_asked id members me chunk ch block bl rows ro slots sl gap ga entries en ring ri members_is chunk_is block_is rows_is slots_is gap_is entries_is ring_is = cc

-- where the bytes are the header of an array, the numbers at its places break no limit
pub header_keeps : (bytes : List ℕ) (g : Geometry) (asked : Asked) → StandsIn bytes asked → IsLogHeader g bytes → first_broken asked ≡ None
header_keeps bytes g asked at is =
    let members : asked.members ≡ g.members = at.members ∙ ap (λ (xs : List ℕ). get_or xs 13 0) is.spelled in
    let chunk : asked.chunk ≡ g.chunk = at.chunk ∙ ap (λ (xs : List ℕ). get_or xs 14 0) is.spelled in
    let block : asked.block ≡ g.block =
    same_of_2 asked.block g.block at.block_fits (omega (arith, g.within.block_most)) (at.block ∙ ap (λ (xs : List ℕ). slice_range xs 15 17) is.spelled) in
    let rows : asked.rows ≡ g.rows =
    same_of_4 asked.rows g.rows at.rows_fit (omega (arith, g.within.rows_most)) (at.rows ∙ ap (λ (xs : List ℕ). slice_range xs 17 21) is.spelled) in
    let slots : asked.slots ≡ g.slots = at.slots ∙ ap (λ (xs : List ℕ). get_or xs 21 0) is.spelled in
    let gap : asked.gap ≡ g.gap = at.gap ∙ ap (λ (xs : List ℕ). get_or xs 22 0) is.spelled in
    let entries : asked.entries ≡ g.entries =
    same_of_4 asked.entries g.entries at.entries_fit (omega (arith, g.within.entries_most)) (at.entries ∙ ap (λ (xs : List ℕ). slice_range xs 23 27) is.spelled) in
    let ring : asked.ring ≡ g.ring =
    same_of_8 asked.ring g.ring at.ring_fits (omega (arith, g.within.ring_most)) (at.ring ∙ ap (λ (xs : List ℕ). slice_range xs 27 35) is.spelled) in
    let same : asked ≡ numbers_of g asked.id = same_asked asked.id _ _ _ _ _ _ _ _ _ _ _ _ _ _ _ _ members chunk block rows slots gap entries ring in
    ap first_broken same ∙ none_broken (numbers_of g asked.id) g.within is.one_slot
