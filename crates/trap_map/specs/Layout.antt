-- Where each block and each parity of a geometry stands, and whose each place is.
use Rattle.std.specs.Prelude.{ℕ, ◌+◌, ◌-◌, ◌*◌, ◌/◌, ◌%◌, ◌==◌, if◌then◌else◌}
use Rattle.trap_map.specs.Left.{parity_in, member_in, before_in, block_stripe, chunks_before}
use Rattle.trap_model.specs.declared.numbers.Geometry.{Geometry}
use Rattle.trap_map.specs.declared.places.Place.{Place}
use Rattle.trap_map.specs.declared.places.Owner.{Owner}
use Rattle.trap_map.specs.declared.places.Owner.TheVariants.{Block, Parity}

-- the member with the parity of a row
abbrev pub parity_member : Geometry → ℕ → ℕ
parity_member g row = parity_in g.members (row / g.chunk)

-- where a block stands
abbrev pub block_place : Geometry → ℕ → Place
block_place g block =
    let stripe = block_stripe g.members g.chunk block in
    record {
      member = member_in g.members stripe (chunks_before g.members g.chunk block);
      row = stripe * g.chunk + block % g.chunk;
    }

-- the block that stands on a member in a row, where that isn't the row's parity
abbrev pub block_at : Geometry → ℕ → ℕ → ℕ
block_at g member row =
    let stripe = row / g.chunk in
    (stripe * (g.members - 1) + before_in g.members stripe member) * g.chunk + row % g.chunk

-- whose a place is
abbrev pub owner_of : Geometry → ℕ → ℕ → Owner
owner_of g member row =
    if member == parity_member g row then Parity else Block (block_at g member row)
