-- The left-symmetric layout by its two numbers, the members and the blocks of a chunk.
use Rattle.std.specs.Prelude.{ℕ, ◌+◌, ◌-◌, ◌/◌, ◌%◌}

-- parity stands on the last member in stripe 0, and one member further to the left in each next one
abbrev pub parity_in : ℕ → ℕ → ℕ
parity_in members stripe = (members - 1) - stripe % members

-- a stripe's data chunks follow its parity round the members: where one with that many before it
-- stands
abbrev pub member_in : ℕ → ℕ → ℕ → ℕ
member_in members stripe before = (parity_in members stripe + 1 + before) % members

-- how many data chunks of a stripe come before the one on a member
abbrev pub before_in : ℕ → ℕ → ℕ → ℕ
before_in members stripe member = (member + members - (parity_in members stripe + 1)) % members

-- the stripe of a block
abbrev pub block_stripe : ℕ → ℕ → ℕ → ℕ
block_stripe members chunk block = block / chunk / (members - 1)

-- how many data chunks of its stripe come before a block's
abbrev pub chunks_before : ℕ → ℕ → ℕ → ℕ
chunks_before members chunk block = block / chunk % (members - 1)
