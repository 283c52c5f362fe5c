-- The header of the replica's disk, piece by piece.
use Rattle.std.proofs.Common.{subst, ◌≡◌, ℕ, ◌<◌, ◌^◌, List, [], ◌∷◌, length, replicate, ap, arith}
use Rattle.std.proofs.Math.Bridge.{le_prop}
use Rattle.std.proofs.Math.Nat.{ℕ_set}
use Rattle.std.proofs.Math.Bool.{Bool-set}
use Rattle.std.specs.Prelude.{slice_range}
use Rattle.std.specs.Int.{w16, w32, w64, to_be_bytes}
use Rattle.trap_block.specs.Fields.{put_over}
use Rattle.trap_format.specs.declared.shape.Shape.{Shape}
use Rattle.trap_format.specs.Shape.{AreShapeLimits}
use Rattle.trap_format.specs.ReplicaDisk.{replica_start, replica_header}
use Rattle.trap_format.proofs.BigEndian.{same_of_2, same_of_4, same_of_8}
use Rattle.trap_format.proofs.Written.{written_none, written_more, written_all}

pub replica_written : (s : Shape) (a b c d e f g : List ℕ) → length a ≡ 32 → b ≡ put_over 0 replica_start a → c ≡ put_over 5 (1 ∷ []) b → d ≡ put_over 6 (to_be_bytes w64 s.id) c
    → e ≡ put_over 14 (to_be_bytes w16 s.block) d → f ≡ put_over 16 (to_be_bytes w32 s.volume) e → g ≡ put_over 20 (replicate 12 0) f → g ≡ replica_header s
replica_written s a b c d e f g len start version id block volume zeros =
    let none = written_none 32 a len in
    let first = written_more 32 0 [] replica_start a b none (omega arith) start in
    let second = written_more 32 5 _ (1 ∷ []) b c first (omega arith) version in
    let third = written_more 32 6 _ (to_be_bytes w64 s.id) c d second (omega arith) id in
    let fourth = written_more 32 14 _ (to_be_bytes w16 s.block) d e third (omega arith) block in
    let fifth = written_more 32 16 _ (to_be_bytes w32 s.volume) e f fourth (omega arith) volume in
    written_all 32 _ g (written_more 32 20 _ (replicate 12 0) f g fifth (omega arith) zeros)

-- numbers keep their limits in one way
limits_prop : (block volume : ℕ) → IsProp (AreShapeLimits block volume)
limits_prop block volume = hlevel (le_prop, ℕ_set, Bool-set)

abbrev shape : (id block volume : ℕ) → AreShapeLimits block volume → Shape
shape id block volume within = record { id = id; block = block; volume = volume; within = within }

same_numbers : (id i block b volume v : ℕ) → id ≡ i → block ≡ b → volume ≡ v → (w : AreShapeLimits block volume) (u : AreShapeLimits b v) → shape id block volume w ≡ shape i b v u
same_numbers id i block b volume v p q r w =
    let from0 : (u : AreShapeLimits block volume) → shape id block volume w ≡ shape id block volume u = λ u. ap (shape id block volume) (limits_prop block volume w u) in
    let from1 = subst (λ (x : ℕ). (u : AreShapeLimits block volume) → shape id block volume w ≡ shape x block volume u) p from0 in
    let from2 = subst (λ (x : ℕ). (u : AreShapeLimits x volume) → shape id block volume w ≡ shape i x volume u) q from1 in
    subst (λ (x : ℕ). (u : AreShapeLimits b x) → shape id block volume w ≡ shape i b x u) r from2

pub shapes_same : (s t : Shape) → s.id < 2 ^ 64 → t.id < 2 ^ 64 → replica_header s ≡ replica_header t → s ≡ t
shapes_same s t a b e =
    let id : s.id ≡ t.id = same_of_8 s.id t.id a b (ap (λ (xs : List ℕ). slice_range xs 6 14) e) in
    let block : s.block ≡ t.block = same_of_2 s.block t.block (omega (arith, s.within.block_most)) (omega (arith, t.within.block_most)) (ap (λ (xs : List ℕ). slice_range xs 14 16) e) in
    let volume : s.volume ≡ t.volume = same_of_4 s.volume t.volume (omega (arith, s.within.volume_most)) (omega (arith, t.within.volume_most)) (ap (λ (xs : List ℕ). slice_range xs 16 20) e) in
    same_numbers s.id t.id s.block t.block s.volume t.volume id block volume s.within t.within
