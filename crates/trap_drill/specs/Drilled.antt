-- A large valid input from a number: the generator, the requests, and the blocks that they name.
use Rattle.std.specs.Prelude.{◌≡◌, ℕ, zero, suc, ◌+◌, ◌*◌, ◌/◌, ◌%◌, ◌^◌, ◌≤◌, List, [], ◌∷◌, ◌++◌}
use Rattle.std.specs.Prelude.{set, replicate, nat_eq, if◌then◌else◌}
use Rattle.std.specs.List.{list_any}
use Rattle.trap_model.specs.Image.{volume}
use Rattle.trap_model.specs.declared.numbers.Geometry.{Geometry}

-- an array's numbers, a seed, how many requests there are, and how many of them were made
pub record Drilled : Type 0 where
  pub g : Geometry
  pub seed : ℕ
  pub count : ℕ
  pub made : ℕ

-- number k of the generator
abbrev pub number : ℕ → ℕ → ℕ
number seed zero = seed % 2 ^ 31
number seed (suc k) = (number seed k * 1103515245 + 12345) % 2 ^ 31

-- the block that request k writes
abbrev pub drilled_block : Geometry → ℕ → ℕ → ℕ
drilled_block g seed k = number seed k / 65536 % volume g

-- the block's new contents by request k: zero bytes but for one
abbrev pub drilled_contents : Geometry → ℕ → ℕ → List ℕ
drilled_contents g seed k = set (replicate g.block 0) (number seed k / 256 % g.block) (1 + k % 255)

-- a block comes last where it isn't among these yet
abbrev pub add_block : List ℕ → ℕ → List ℕ
add_block blocks block = if list_any (nat_eq block) blocks then blocks else blocks ++ block ∷ []

-- the blocks that the first n requests name, in the order in which they were first named
abbrev pub blocks_of : Geometry → ℕ → ℕ → List ℕ
blocks_of g seed zero = []
blocks_of g seed (suc n) = add_block (blocks_of g seed n) (drilled_block g seed (suc n))

-- the next request: its number k, its block and the block's new contents
pub record IsNext (old new : Drilled) (block k : ℕ) (contents : List ℕ) : Type 0 where
  pub counted : k ≡ old.made + 1
  pub named : block ≡ drilled_block old.g old.seed k
  pub filled : contents ≡ drilled_contents old.g old.seed k
  pub made : new ≡ record old { made = k }

-- what is so of every drill: the generator's number and the blocks are those of its seed
pub record IsDrill (d : Drilled) (x : ℕ) (blocks : List ℕ) : Type 0 where
  pub few : d.made ≤ d.count
  pub reached : x ≡ number d.seed d.made
  pub named : blocks ≡ blocks_of d.g d.seed d.count
