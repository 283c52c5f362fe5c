-- The left-symmetric layout and its inverse, over plain numbers.
use Rattle.std.proofs.Common.{◌≡◌, ◌≢◌, ℕ, ◌+◌, ◌-◌, ◌*◌, ◌/◌, ◌%◌, ◌^◌, ◌<◌, ◌≤◌, ap, ◌∙◌, arith}
use Rattle.std.proofs.Math.Nat.{mod-lt}
use Rattle.std.proofs.lemmas.Nat.{div-mul-add, mod-mul-add, div-add-mod', div_below, mul-add-lt}
use Rattle.trap_map.specs.Left.{parity_in, member_in, before_in, block_stripe, chunks_before}

-- ---- round the members
pub parity_in-lt : (members stripe : ℕ) → 0 < members → parity_in members stripe < members
parity_in-lt members stripe some = omega arith

-- so many steps round from p and back
pub round_and_back : (p k n : ℕ) → p < n → k + 1 < n → ((p + 1 + k) % n + n - (p + 1)) % n ≡ k
round_and_back p k n at inside = grind arith

-- back to p and round again
pub back_and_round : (p m n : ℕ) → p < n → m < n → m ≢ p → (p + 1 + (m + n - (p + 1)) % n) % n ≡ m
back_and_round p m n at within apart = grind arith

-- a data place is not the parity's
pub round_is_elsewhere : (p k n : ℕ) → p < n → k + 1 < n → (p + 1 + k) % n ≢ p
round_is_elsewhere p k n at inside = grind arith

-- fewer chunks come before one than the stripe has
pub back_is_inside : (p m n : ℕ) → p < n → m < n → m ≢ p → (m + n - (p + 1)) % n + 1 < n
back_is_inside p m n at within apart = grind arith

-- ---- a place's block is below the volume, and a block's row below the rows
-- w data chunks a stripe, x stripes, c blocks a chunk
block_below : (s x k w c o rows : ℕ) → rows ≡ x * c → s < x → k < w → o < c → (s * w + k) * c + o < rows * w
block_below s x k w c o rows whole in_stripes in_chunks in_blocks =
    let below : (s * w + k) * c + o < x * w * c = grind arith in
    let turned : x * w * c ≡ rows * w = omega (arith, ap (λ r. r * w) whole) in
    omega arith

stripe_below : (x w c rows block : ℕ) → rows ≡ x * c → 0 < c → 0 < w → block < rows * w → block / c / w < x
stripe_below x w c rows block whole some several below =
    let turned : rows * w ≡ w * x * c = omega (arith, ap (λ r. r * w) whole) in
    let number : block / c < w * x = div_below block c (w * x) some (omega arith) in
    div_below (block / c) w x several (omega arith)

pub at_below_volume : (members chunk rows row before : ℕ) → 0 < chunk → rows % chunk ≡ 0 → row < rows → before + 1 < members
    → (row / chunk * (members - 1) + before) * chunk + row % chunk < rows * (members - 1)
at_below_volume members chunk rows row before some whole within inside =
    block_below (row / chunk) (rows / chunk) before (members - 1) chunk (row % chunk) rows (grind arith) (grind arith) (omega arith) (mod-lt row some)

pub row_below_rows : (members chunk rows block : ℕ) → 0 < chunk → 1 < members → rows % chunk ≡ 0 → block < rows * (members - 1) → block_stripe members chunk block * chunk + block % chunk < rows
row_below_rows members chunk rows block some several whole below =
    let product : rows ≡ rows / chunk * chunk = grind arith in
    let stripe : block / chunk / (members - 1) < rows / chunk = stripe_below (rows / chunk) (members - 1) chunk rows block product some (omega arith) below in
    let place = mul-add-lt (block / chunk / (members - 1)) chunk (block % chunk) (rows / chunk) stripe (mod-lt block some) in
    omega arith

-- ---- the two ways round
-- a block's place: its stripe, and its row within the chunk
pub row_stripe : (members chunk block : ℕ) → 0 < chunk → (block_stripe members chunk block * chunk + block % chunk) / chunk ≡ block_stripe members chunk block
row_stripe members chunk block some = div-mul-add (block_stripe members chunk block) chunk (block % chunk) (mod-lt block some)

pub row_within : (members chunk block : ℕ) → 0 < chunk → (block_stripe members chunk block * chunk + block % chunk) % chunk ≡ block % chunk
row_within members chunk block some = mod-mul-add (block_stripe members chunk block) chunk (block % chunk) (mod-lt block some)

pub before-lt : (members chunk block : ℕ) → 1 < members → chunks_before members chunk block + 1 < members
before-lt members chunk block several = let h : 0 < members - 1 = omega arith in let b = mod-lt (block / chunk) h in omega arith

-- the block at a block's place
pub block_again : (members chunk block : ℕ) → 0 < chunk → 1 < members → (stripe row : ℕ) → stripe ≡ block_stripe members chunk block → row ≡ block % chunk
    → (stripe * (members - 1) + before_in members stripe (member_in members stripe (chunks_before members chunk block))) * chunk + row ≡ block
block_again members chunk block some several stripe row is_stripe is_row =
    let back : before_in members stripe (member_in members stripe (chunks_before members chunk block)) ≡ chunks_before members chunk block =
    round_and_back (parity_in members stripe) (chunks_before members chunk block) members (parity_in-lt members stripe (omega arith)) (before-lt members chunk block several) in
    let number : stripe * (members - 1) + chunks_before members chunk block ≡ block / chunk =
    ap (λ s. s * (members - 1) + chunks_before members chunk block) is_stripe ∙ div-add-mod' (block / chunk) (members - 1) in
    ap (λ k. (stripe * (members - 1) + k) * chunk + row) back
    ∙ ap (λ q. q * chunk + row) number
    ∙ ap (λ o. block / chunk * chunk + o) is_row
    ∙ div-add-mod' block chunk

-- the numbers of the block at a data place
pub at_number : (members chunk row before : ℕ) → 0 < chunk → ((row / chunk * (members - 1) + before) * chunk + row % chunk) / chunk ≡ row / chunk * (members - 1) + before
at_number members chunk row before some = div-mul-add (row / chunk * (members - 1) + before) chunk (row % chunk) (mod-lt row some)

pub at_within : (members chunk row before : ℕ) → 0 < chunk → ((row / chunk * (members - 1) + before) * chunk + row % chunk) % chunk ≡ row % chunk
at_within members chunk row before some = mod-mul-add (row / chunk * (members - 1) + before) chunk (row % chunk) (mod-lt row some)

pub at_stripe : (members chunk row before : ℕ) → 0 < chunk → before + 1 < members → block_stripe members chunk ((row / chunk * (members - 1) + before) * chunk + row % chunk) ≡ row / chunk
at_stripe members chunk row before some inside =
    ap (λ q. q / (members - 1)) (at_number members chunk row before some) ∙ div-mul-add (row / chunk) (members - 1) before (omega arith)

pub at_before : (members chunk row before : ℕ) → 0 < chunk → before + 1 < members → chunks_before members chunk ((row / chunk * (members - 1) + before) * chunk + row % chunk) ≡ before
at_before members chunk row before some inside =
    ap (λ q. q % (members - 1)) (at_number members chunk row before some) ∙ mod-mul-add (row / chunk) (members - 1) before (omega arith)

-- what the search for a block computes fits, with the numbers as the code has them
pub at_fits : (members chunk rows row before m c : ℕ) → m ≡ members → c ≡ chunk → 0 < chunk → rows % chunk ≡ 0 → rows * (members - 1) ≤ 2 ^ 20 → row < rows
    → before + 1 < members → (row / c * (m - 1) + before) * c + row % c < 2 ^ 20
at_fits members chunk rows row before m c is_members is_chunk some whole most within inside =
    let below : (row / chunk * (members - 1) + before) * chunk + row % chunk < rows * (members - 1) = at_below_volume members chunk rows row before some whole within inside in
    let same : (row / c * (m - 1) + before) * c + row % c ≡ (row / chunk * (members - 1) + before) * chunk + row % chunk =
    ap (λ x. (row / x * (m - 1) + before) * x + row % x) is_chunk ∙ ap (λ x. (row / chunk * (x - 1) + before) * chunk + row % chunk) is_members in
    omega arith
