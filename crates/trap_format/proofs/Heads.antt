-- The head's value, piece by piece.
use Rattle.std.proofs.Common.{◌≡◌, ℕ, ◌+◌, ◌*◌, ◌≤◌, ◌^◌, List, [], ◌∷◌, ◌++◌, length, drop, get_or, Option, Some, None, refl, ap, arith}
use Rattle.std.specs.Prelude.{slice_range}
use Rattle.std.specs.Int.{w32, w64, to_be_bytes}
use Rattle.std.proofs.Math.Nat.{mul-le-mul}
use Rattle.std.proofs.lemmas.List.{drop_all}
use Rattle.trap_block.specs.Fields.{put_over}
use Rattle.trap_model.specs.Limits.{greatest_record}
use Rattle.trap_model.specs.declared.numbers.Geometry.{Geometry}
use Rattle.trap_format.specs.declared.head.Head.{Head}
use Rattle.trap_format.specs.HeadValue.{lost_byte, head_value, IsHead, HeadStandsIn, HeadFits}
use Rattle.trap_format.proofs.Written.{Written, written_none, written_more, written_all}
use Rattle.trap_block.proofs.Cuts.{piece, byte_is}
use Rattle.trap_format.proofs.BigEndian.{same_of_4, same_of_8}

-- the first half
pub first_written : (h : Head) (a b c d e f : List ℕ) → length a ≡ 62 → b ≡ put_over 0 (h.version ∷ []) a → c ≡ put_over 1 (lost_byte h.lost ∷ []) b
    → d ≡ put_over 2 (to_be_bytes w32 h.rebuilt) c → e ≡ put_over 6 (to_be_bytes w64 h.first) d → f ≡ put_over 14 (to_be_bytes w64 h.base_time) e
    → Written 62 22 (h.version ∷ lost_byte h.lost ∷ to_be_bytes w32 h.rebuilt ++ to_be_bytes w64 h.first ++ to_be_bytes w64 h.base_time) f
first_written h a b c d e f len version lost rebuilt first base_time =
    let none = written_none 62 a len in
    let one = written_more 62 0 [] (h.version ∷ []) a b none (omega arith) version in
    let two = written_more 62 1 _ (lost_byte h.lost ∷ []) b c one (omega arith) lost in
    let three = written_more 62 2 _ (to_be_bytes w32 h.rebuilt) c d two (omega arith) rebuilt in
    let four = written_more 62 6 _ (to_be_bytes w64 h.first) d e three (omega arith) first in
    written_more 62 14 _ (to_be_bytes w64 h.base_time) e f four (omega arith) base_time

-- and the rest
pub head_written : (h : Head) (f a b c d e : List ℕ) → Written 62 22 (h.version ∷ lost_byte h.lost ∷ to_be_bytes w32 h.rebuilt ++ to_be_bytes w64 h.first ++ to_be_bytes
    w64 h.base_time) f → a ≡ put_over 22 (to_be_bytes w64 h.first_off) f → b ≡ put_over 30 (to_be_bytes w64 h.last) a → c ≡ put_over 38 (to_be_bytes w64 h.end_off) b
    → d ≡ put_over 46 (to_be_bytes w64 h.drained) c → e ≡ put_over 54 (to_be_bytes w64 h.last_time) d → e ≡ head_value h
head_written h f a b c d e written first_off last end_off drained last_time =
    let six = written_more 62 22 _ (to_be_bytes w64 h.first_off) f a written (omega arith) first_off in
    let seven = written_more 62 30 _ (to_be_bytes w64 h.last) a b six (omega arith) last in
    let eight = written_more 62 38 _ (to_be_bytes w64 h.end_off) b c seven (omega arith) end_off in
    let nine = written_more 62 46 _ (to_be_bytes w64 h.drained) c d eight (omega arith) drained in
    written_all 62 _ e (written_more 62 54 _ (to_be_bytes w64 h.last_time) d e nine (omega arith) last_time)

-- the bytes are the value of the numbers at its places
pub head_read : (bytes : List ℕ) (h : Head) → length bytes ≡ 62 → HeadStandsIn bytes h → bytes ≡ head_value h
head_read bytes h len at =
    let end : drop 62 bytes ≡ [] = drop_all 62 bytes (omega arith) in
    let last_time = piece bytes (to_be_bytes w64 h.last_time) _ 54 62 (omega arith) at.last_time end in
    let drained = piece bytes (to_be_bytes w64 h.drained) _ 46 54 (omega arith) at.drained last_time in
    let end_off = piece bytes (to_be_bytes w64 h.end_off) _ 38 46 (omega arith) at.end_off drained in
    let last = piece bytes (to_be_bytes w64 h.last) _ 30 38 (omega arith) at.last end_off in
    let first_off = piece bytes (to_be_bytes w64 h.first_off) _ 22 30 (omega arith) at.first_off last in
    let base_time = piece bytes (to_be_bytes w64 h.base_time) _ 14 22 (omega arith) at.base_time first_off in
    let first = piece bytes (to_be_bytes w64 h.first) _ 6 14 (omega arith) at.first base_time in
    let rebuilt = piece bytes (to_be_bytes w32 h.rebuilt) _ 2 6 (omega arith) at.rebuilt first in
    let lost = byte_is bytes (lost_byte h.lost) _ 1 (omega arith) at.lost rebuilt in
    byte_is bytes h.version _ 0 (omega arith) at.version lost

-- the numbers of a head fit their fields
pub head_fits : (g : Geometry) (h : Head) → IsHead g h → HeadFits h
head_fits g h is =
    let last_most = is.numbers.last_most in
    let dropped = is.numbers.dropped in
    let drained = is.numbers.drained in
    let size : greatest_record g.block ≤ 8232 = omega (arith, g.within.block_most) in
    let product : h.last * greatest_record g.block ≤ 2 ^ 40 * 8232 = mul-le-mul last_most size in
    let order = is.offsets.order in
    let end_most = is.offsets.end_most in
    record {
      rebuilt = omega (arith, is.lost.rebuilt, g.within.rows_most);
      first = omega arith;
      base_time = omega (arith, is.times, is.time_fits);
      first_off = omega arith;
      last = omega arith;
      end_off = omega arith;
      drained = omega arith;
      last_time = is.time_fits;
    }

lost_same : (a b : Option ℕ) → lost_byte a ≡ lost_byte b → a ≡ b
lost_same None None e = refl
lost_same None (Some b) e = let none : 0 ≡ b + 1 = e in absurd (omega arith)
lost_same (Some a) None e = let none : a + 1 ≡ 0 = e in absurd (omega arith)
lost_same (Some a) (Some b) e = let both : a + 1 ≡ b + 1 = e in let same : a ≡ b = omega arith in ap Some same

same_fields : (version v : ℕ) (lost o : Option ℕ) (rebuilt r first f base_time b first_off fo last l end_off eo drained d last_time lt : ℕ) → version ≡ v → lost ≡ o
    → rebuilt ≡ r → first ≡ f → base_time ≡ b → first_off ≡ fo → last ≡ l → end_off ≡ eo → drained ≡ d → last_time ≡ lt
    → ◌≡◌ {A = Head} (record {
      version = version;
      lost = lost;
      rebuilt = rebuilt;
      first = first;
      base_time = base_time;
      first_off = first_off;
      last = last;
      end_off =
          end_off;
      drained = drained;
      last_time = last_time;
    }) (record {
      version = v;
      lost = o;
      rebuilt = r;
      first = f;
      base_time = b;
      first_off = fo;
      last = l;
      end_off =
          eo;
      drained = d;
      last_time = lt;
    })
same_fields version v lost o rebuilt r first f base_time b first_off fo last l end_off eo drained d last_time lt p1 p2 p3 p4 p5 p6 p7 p8 p9 p10 = cc

-- heads with one value are one
pub head_same : (h k : Head) → HeadFits h → HeadFits k → head_value h ≡ head_value k → h ≡ k
head_same h k a b e =
    same_fields h.version k.version h.lost k.lost _ _ _ _ _ _ _ _ _ _ _ _ _ _ _ _
    (ap (λ (xs : List ℕ). get_or xs 0 0) e)
    (lost_same h.lost k.lost (ap (λ (xs : List ℕ). get_or xs 1 0) e))
    (same_of_4 h.rebuilt k.rebuilt a.rebuilt b.rebuilt (ap (λ (xs : List ℕ). slice_range xs 2 6) e))
    (same_of_8 h.first k.first a.first b.first (ap (λ (xs : List ℕ). slice_range xs 6 14) e))
    (same_of_8 h.base_time k.base_time a.base_time b.base_time (ap (λ (xs : List ℕ). slice_range xs 14 22) e))
    (same_of_8 h.first_off k.first_off a.first_off b.first_off (ap (λ (xs : List ℕ). slice_range xs 22 30) e))
    (same_of_8 h.last k.last a.last b.last (ap (λ (xs : List ℕ). slice_range xs 30 38) e))
    (same_of_8 h.end_off k.end_off a.end_off b.end_off (ap (λ (xs : List ℕ). slice_range xs 38 46) e))
    (same_of_8 h.drained k.drained a.drained b.drained (ap (λ (xs : List ℕ). slice_range xs 46 54) e))
    (same_of_8 h.last_time k.last_time a.last_time b.last_time (ap (λ (xs : List ℕ). slice_range xs 54 62) e))
