-- Which numbers an array can have.
use Rattle.std.specs.Prelude.{◌≡◌, ℕ, ◌-◌, ◌*◌, ◌%◌, ◌^◌, List, [], ◌∷◌, find, Option, Bool, true}
use Rattle.std.specs.Prelude.{not, ◌&&◌, ◌==◌, nat_le}
use Rattle.trap_model.specs.Limits.{is_block_size, greatest_record}
use Rattle.trap_model.specs.declared.asked.Asked.{Asked}
use Rattle.trap_model.specs.declared.numbers.Geometry.{Geometry}
use Rattle.trap_format.specs.declared.limits.Field.{Field}
use Rattle.trap_format.specs.declared.limits.Field.TheVariants.{Members, Chunk, Block, Rows, Volume}
use Rattle.trap_format.specs.declared.limits.Field.TheVariants.{Slots, Gap, Entries, Ring, Seq}

abbrev pub is_between : ℕ → ℕ → ℕ → Bool
is_between least most n = nat_le least n && nat_le n most

-- whether a field keeps its limit; an array has one staging slot, and no sequence number is asked
-- for
abbrev pub keeps : Asked → Field → Bool
keeps asked Members = is_between 3 16 asked.members
keeps asked Chunk = is_between 1 128 asked.chunk
keeps asked Block = is_block_size asked.block
keeps asked Rows = is_between asked.chunk (2 ^ 20) asked.rows && (asked.rows % asked.chunk == 0)
keeps asked Volume = nat_le (asked.rows * (asked.members - 1)) (2 ^ 20)
keeps asked Slots = asked.slots == 1
keeps asked Gap = is_between 2 255 asked.gap
keeps asked Entries = is_between 1 (2 ^ 20) asked.entries
keeps asked Ring = is_between (2 * greatest_record asked.block) (2 ^ 32) asked.ring
keeps asked Seq = true

-- the fields in the order in which they are looked at
abbrev pub in_order : List Field
in_order = Members ∷ Chunk ∷ Block ∷ Rows ∷ Volume ∷ Slots ∷ Gap ∷ Entries ∷ Ring ∷ []

-- the first field that breaks its limit, where one does
abbrev pub first_broken : Asked → Option Field
first_broken asked = find (λ field. not (keeps asked field)) in_order

-- the numbers are those asked for
pub record HasNumbers (g : Geometry) (asked : Asked) : Type 0 where
  pub id : g.id ≡ asked.id
  pub members : g.members ≡ asked.members
  pub chunk : g.chunk ≡ asked.chunk
  pub block : g.block ≡ asked.block
  pub rows : g.rows ≡ asked.rows
  pub slots : g.slots ≡ asked.slots
  pub gap : g.gap ≡ asked.gap
  pub entries : g.entries ≡ asked.entries
  pub ring : g.ring ≡ asked.ring
