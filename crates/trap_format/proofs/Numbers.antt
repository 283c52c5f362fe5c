-- Numbers within their limits, field by field.
use Rattle.std.proofs.Common.{◌≡◌, ℕ, ◌-◌, ◌*◌, ◌%◌, ◌^◌, ◌≤◌, Option, Some, None, Bool, true, false, not, cond, ◌==◌, nat_le, refl, arith}
use Rattle.std.proofs.lemmas.Bool.{leb-true, le-leb, eqb-true, eq-eqb, and_parts, and_from}
use Rattle.std.proofs.lemmas.Bool.Decides.{nat_tests}
use Rattle.trap_model.specs.Limits.{is_block_size, greatest_record, AreWithinLimits}
use Rattle.trap_model.specs.declared.asked.Asked.{Asked}
use Rattle.trap_format.specs.Checked.{is_between, keeps, first_broken}
use Rattle.trap_format.specs.declared.limits.Field.{Field}
use Rattle.trap_format.specs.declared.limits.Field.TheVariants.{Members, Chunk, Block, Rows, Volume, Slots, Gap, Entries, Ring}

-- a field that isn't the one found
passed : (b : Bool) (field : Field) (others : Option Field) → cond (not b) (Some field) others ≡ None → (b ≡ true) × (others ≡ None)
passed true field others e = (refl, e)
passed false field others e = cc

between_parts : (least most n : ℕ) → is_between least most n ≡ true → (least ≤ n) × (n ≤ most)
between_parts least most n e =
    let parts = and_parts (nat_le least n) (nat_le n most) e in
    (leb-true least n parts.0, leb-true n most parts.1)

between_from : (least most n : ℕ) → least ≤ n → n ≤ most → is_between least most n ≡ true
between_from least most n low high = and_from (nat_le least n) (nat_le n most) (le-leb least n low) (le-leb n most high)

block_bounds : (size : ℕ) → is_block_size size ≡ true → (16 ≤ size) × (size ≤ 4096)
block_bounds size e = grind (arith, nat_tests)

-- where no field breaks its limit
pub within_limits : (asked : Asked) → first_broken asked ≡ None → AreWithinLimits asked.members asked.chunk asked.block asked.rows asked.slots asked.gap asked.entries asked.ring × (asked.slots ≡ 1)
within_limits asked e =
    let members = passed (keeps asked Members) Members _ e in
    let chunk = passed (keeps asked Chunk) Chunk _ members.1 in
    let block = passed (keeps asked Block) Block _ chunk.1 in
    let rows = passed (keeps asked Rows) Rows _ block.1 in
    let volume = passed (keeps asked Volume) Volume _ rows.1 in
    let slots = passed (keeps asked Slots) Slots _ volume.1 in
    let gap = passed (keeps asked Gap) Gap _ slots.1 in
    let entries = passed (keeps asked Entries) Entries _ gap.1 in
    let ring = passed (keeps asked Ring) Ring _ entries.1 in
    let chunks = and_parts (is_between asked.chunk (2 ^ 20) asked.rows) (asked.rows % asked.chunk == 0) rows.0 in
    let one = eqb-true asked.slots 1 slots.0 in (
      record {
        members_least = (between_parts 3 16 asked.members members.0).0;
        members_most = (between_parts 3 16 asked.members members.0).1;
        chunk_least = (between_parts 1 128 asked.chunk chunk.0).0;
        chunk_most = (between_parts 1 128 asked.chunk chunk.0).1;
        block_size = block.0;
        block_least = (block_bounds asked.block block.0).0;
        block_most = (block_bounds asked.block block.0).1;
        rows_least = (between_parts asked.chunk (2 ^ 20) asked.rows chunks.0).0;
        rows_most = (between_parts asked.chunk (2 ^ 20) asked.rows chunks.0).1;
        whole_chunks = eqb-true (asked.rows % asked.chunk) 0 chunks.1;
        volume_most = leb-true (asked.rows * (asked.members - 1)) (2 ^ 20) volume.0;
        slots_least = omega arith;
        slots_most = omega arith;
        gap_least = (between_parts 2 255 asked.gap gap.0).0;
        gap_most = (between_parts 2 255 asked.gap gap.0).1;
        entries_least = (between_parts 1 (2 ^ 20) asked.entries entries.0).0;
        entries_most = (between_parts 1 (2 ^ 20) asked.entries entries.0).1;
        ring_least = (between_parts (2 * greatest_record asked.block) (2 ^ 32) asked.ring ring.0).0;
        ring_most = (between_parts (2 * greatest_record asked.block) (2 ^ 32) asked.ring ring.0).1;
      },
      one,
    )

not_found : (b : Bool) (field : Field) (others : Option Field) → b ≡ true → others ≡ None → cond (not b) (Some field) others ≡ None
not_found true field others e rest = rest
not_found false field others e rest = cc

-- and the other way round
pub none_broken : (asked : Asked) → AreWithinLimits asked.members asked.chunk asked.block asked.rows asked.slots asked.gap asked.entries asked.ring → asked.slots ≡ 1 → first_broken asked ≡ None
none_broken asked is one =
    not_found (keeps asked Members) Members _ (between_from 3 16 asked.members is.members_least is.members_most)
    (not_found (keeps asked Chunk) Chunk _ (between_from 1 128 asked.chunk is.chunk_least is.chunk_most)
    (not_found (keeps asked Block) Block _ is.block_size
    (not_found (keeps asked Rows) Rows _ (and_from (is_between asked.chunk (2 ^ 20) asked.rows) (asked.rows % asked.chunk == 0)
    (between_from asked.chunk (2 ^ 20) asked.rows is.rows_least is.rows_most) (eq-eqb (asked.rows % asked.chunk) 0 is.whole_chunks))
    (not_found (keeps asked Volume) Volume _ (le-leb (asked.rows * (asked.members - 1)) (2 ^ 20) is.volume_most)
    (not_found (keeps asked Slots) Slots _ (eq-eqb asked.slots 1 one)
    (not_found (keeps asked Gap) Gap _ (between_from 2 255 asked.gap is.gap_least is.gap_most)
    (not_found (keeps asked Entries) Entries _ (between_from 1 (2 ^ 20) asked.entries is.entries_least is.entries_most)
    (not_found (keeps asked Ring) Ring _ (between_from (2 * greatest_record asked.block) (2 ^ 32) asked.ring is.ring_least is.ring_most) refl))))))))
