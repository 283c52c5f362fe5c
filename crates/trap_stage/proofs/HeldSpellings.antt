-- Whether a slot's bytes spell a write, and which.
use Rattle.std.proofs.Common.{◌≡◌, ◌↔◌, ℕ, ◌+◌, ◌-◌, ◌*◌, ◌^◌, ◌<◌, ◌≤◌, List, [], ◌++◌, length, take, drop, IsTrue, nat_lt, ap, sym, ◌∙◌, arith, length-drop, take_at, drop_at, w32, w64}
use Rattle.std.specs.Int.{to_be_bytes, from_be_bytes}
use Rattle.std.specs.List.{slice_range}
use Rattle.std.proofs.lemmas.Bool.{ltb-true, lt-ltb}
use Rattle.std.proofs.lemmas.List.{take-append-drop, drop-drop, take_all}
use Rattle.std.proofs.lemmas.Nat.{from_be_bytes-to_be_bytes_4}
use Rattle.trap_block.specs.Fields.{put_over}
use Rattle.trap_format.specs.LogDisk.{slot_len}
use Rattle.trap_format.proofs.BigEndian.{same_of_4}
use Rattle.trap_block.proofs.Cuts.{piece, front}
use Rattle.trap_format.proofs.Written.{written_none, written_more, written_all}
use Rattle.trap_model.specs.Image.{volume}
use Rattle.trap_model.specs.declared.numbers.Geometry.{Geometry}
use Rattle.trap_stage.specs.Staged.{Staged, IsStaged}
use Rattle.trap_stage.specs.Slots.{slot_bytes}
use Rattle.trap_stage.specs.Held.{staged_from, SpellsNumber}
use Rattle.trap_stage.proofs.SlotSpellings.{staged_with, same_staged, block_fits}
use Rattle.trap_stage.proofs.HeldSlots.{staged_sound}

-- the block whose four bytes stand in a slot
pub block_read : (g : Geometry) (slot : List ℕ) (block : ℕ) → block < 2 ^ 32 → to_be_bytes w32 block ≡ slice_range slot 8 12 → block ≡ (staged_from g slot).block
block_read g slot block small is = sym (from_be_bytes-to_be_bytes_4 block small) ∙ ap (λ (l : List ℕ). from_be_bytes w32 l) is

-- a slot is its number, its block, and its contents
pub slot_spelled : (g : Geometry) (slot : List ℕ) (q block : ℕ) → length slot ≡ slot_len g → block < 2 ^ 32 → to_be_bytes w64 q ≡ slice_range slot 0 8
    → to_be_bytes w32 block ≡ slice_range slot 8 12 → slot ≡ slot_bytes q (staged_from g slot)
slot_spelled g slot q block len small number is =
    let contents : drop 12 slot ≡ take g.block (drop 12 slot) ++ drop (12 + g.block) slot =
    sym (take-append-drop g.block (drop 12 slot)) ∙ ap (λ (l : List ℕ). take g.block (drop 12 slot) ++ l) (drop-drop g.block 12 slot) in
    let bytes : drop 8 slot ≡ to_be_bytes w32 block ++ (take g.block (drop 12 slot) ++ drop (12 + g.block) slot) = piece slot (to_be_bytes w32 block) _ 8 12 (omega arith) is contents in
    front slot (to_be_bytes w64 q) (to_be_bytes w32 block ++ (take g.block (drop 12 slot) ++ drop (12 + g.block) slot)) 8 (sym number) bytes
    ∙ ap (λ (n : ℕ). slot_bytes q (staged_with n (take g.block (drop 12 slot)) (drop (12 + g.block) slot))) (block_read g slot block small is)

-- so the bytes spell a write with this number where the block is one of the array, and only there
pub spelled_where : (g : Geometry) (slot : List ℕ) (q block n v : ℕ) → length slot ≡ slot_len g → block < 2 ^ 32 → to_be_bytes w64 q ≡ slice_range slot 0 8
    → to_be_bytes w32 block ≡ slice_range slot 8 12 → n ≡ block → v ≡ volume g → IsTrue (nat_lt n v) ↔ SpellsNumber g q slot
spelled_where g slot q block n v len small number is wide count = (
  λ holds.
      let less : n < v = ltb-true n v holds in
      let same = block_read g slot block small is in
      (staged_from g slot, staged_sound g slot len (omega arith), slot_spelled g slot q block len small number is),
  λ spells. lt-ltb n v (inside spells.0 spells.1 spells.2),
)
  where
    inside : (staged : Staged) → IsStaged g staged → slot ≡ slot_bytes q staged → n < v
    inside staged sound spelled =
        let same : block ≡ staged.block = same_of_4 block staged.block small (block_fits g staged sound) (is ∙ ap (λ (l : List ℕ). take 4 (drop 8 l)) spelled) in
        let below = sound.block in
        omega arith

-- a spelled write is read again
pub staged_again : (g : Geometry) (q : ℕ) (staged : Staged) → IsStaged g staged → staged_from g (slot_bytes q staged) ≡ staged
staged_again g q staged is =
    let rest : drop (12 + g.block) (slot_bytes q staged) ≡ drop g.block (staged.bytes ++ staged.parity) = sym (drop-drop g.block 12 (slot_bytes q staged)) in
    same_staged (staged_from g (slot_bytes q staged)) staged
    (from_be_bytes-to_be_bytes_4 staged.block (block_fits g staged is))
    (take_at staged.bytes staged.parity g.block is.bytes)
    (rest ∙ drop_at staged.bytes staged.parity g.block is.bytes)

-- the parts of a slot, as a program cuts them
pub parts_are : (g : Geometry) (slot : List ℕ) (block n : ℕ) → length slot ≡ slot_len g → block < 2 ^ 32 → to_be_bytes w32 block ≡ slice_range slot 8 12
    → n ≡ 12 + g.block → staged_with block (slice_range slot 12 n) (slice_range slot n (length slot)) ≡ staged_from g slot
parts_are g slot block n len small is count =
    let first : n - 12 ≡ g.block = omega arith in
    let behind = length-drop (12 + g.block) slot in
    let all : length (drop (12 + g.block) slot) ≤ length slot - n = omega arith in
    same_staged (staged_with block (slice_range slot 12 n) (slice_range slot n (length slot))) (staged_from g slot)
    (block_read g slot block small is)
    (ap (λ (m : ℕ). take m (drop 12 slot)) first)
    (ap (λ (m : ℕ). take (length slot - n) (drop m slot)) count ∙ take_all (length slot - n) (drop (12 + g.block) slot) all)

-- a slot written piece by piece
pub spelled_by : (q block : ℕ) (fresh parity a b c d e : List ℕ) (at : ℕ) → length a ≡ 12 + 2 * length fresh → length parity ≡ length fresh → at ≡ 12 + length fresh
    → b ≡ put_over 0 (to_be_bytes w64 q) a → c ≡ put_over 8 (to_be_bytes w32 block) b → d ≡ put_over 12 fresh c → e ≡ put_over at parity d → e ≡ slot_bytes q (staged_with block fresh parity)
spelled_by q block fresh parity a b c d e at len same place first second third fourth =
    let n = 12 + 2 * length fresh in
    let w0 = written_none n a len in
    let w1 = written_more n 0 [] (to_be_bytes w64 q) a b w0 (omega arith) first in
    let w2 = written_more n 8 (to_be_bytes w64 q) (to_be_bytes w32 block) b c w1 (omega arith) second in
    let w3 = written_more n 12 (to_be_bytes w64 q ++ to_be_bytes w32 block) fresh c d w2 (omega arith) third in
    let w4 = written_more n (12 + length fresh) ((to_be_bytes w64 q ++ to_be_bytes w32 block) ++ fresh) parity d e w3 (omega arith) (fourth ∙ ap (λ (m : ℕ). put_over m parity d) place) in
    let whole : 12 + length fresh + length parity ≡ n = omega arith in
    written_all n (((to_be_bytes w64 q ++ to_be_bytes w32 block) ++ fresh) ++ parity) e (record { len = w4.len; is = ap (λ (m : ℕ). take m e) (sym whole) ∙ w4.is })
