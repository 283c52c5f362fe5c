-- The header of a member's disk, piece by piece.
use Rattle.std.proofs.Common.{◌≡◌, ℕ, ◌-◌, List, [], ◌∷◌, length, take, drop, get_or, replicate, ap, ◌∙◌, arith}
use Rattle.std.specs.Prelude.{codes, slice_range}
use Rattle.std.specs.Int.{w64, to_be_bytes}
use Rattle.trap_block.specs.Fields.{put_over}
use Rattle.trap_format.specs.MemberDisk.{member_header}
use Rattle.trap_format.proofs.Written.{written_none, written_more, written_all}
use Rattle.trap_block.proofs.Cuts.{piece, byte, front}

pub member_written : (id member : ℕ) (a b c d e : List ℕ) → length a ≡ 16 → b ≡ put_over 0 (codes "TRPM") a → c ≡ put_over 4 (to_be_bytes w64 id) b
    → d ≡ put_over 12 (member ∷ []) c → e ≡ put_over 13 (replicate 3 0) d → e ≡ member_header id member
member_written id member a b c d e len magic number which zeros =
    let none = written_none 16 a len in
    let first = written_more 16 0 [] (codes "TRPM") a b none (omega arith) magic in
    let second = written_more 16 4 _ (to_be_bytes w64 id) b c first (omega arith) number in
    let third = written_more 16 12 _ (member ∷ []) c d second (omega arith) which in
    written_all 16 _ e (written_more 16 13 _ (replicate 3 0) d e third (omega arith) zeros)

pub member_read : (bytes : List ℕ) (id : ℕ) → length bytes ≡ 16 → take 4 bytes ≡ codes "TRPM" → to_be_bytes w64 id ≡ slice_range bytes 4 12
    → drop 13 bytes ≡ replicate (length bytes - 13) 0 → bytes ≡ member_header id (get_or bytes 12 0)
member_read bytes id len magic number zeros =
    let last : drop 13 bytes ≡ replicate 3 0 = zeros ∙ ap (λ (n : ℕ). replicate (n - 13) 0) len in
    let which : drop 12 bytes ≡ get_or bytes 12 0 ∷ replicate 3 0 = byte bytes _ 12 (omega arith) last in
    front bytes _ _ 4 magic (piece bytes _ _ 4 12 (omega arith) number which)
