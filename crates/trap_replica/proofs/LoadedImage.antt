-- An image that is loaded, and the bytes that it is cut from.
use Rattle.std.proofs.Common.{◌≡◌, ℕ, zero, suc, ◌+◌, ◌-◌, ◌*◌, ◌^◌, ◌<◌, ◌≤◌, List, ◌∷◌, ◌++◌, length, take, drop, refl, sym, ap, ◌∙◌, arith, length-take, length-drop}
use Rattle.std.proofs.lemmas.List.{take-append-le, drop-append-le, drop-drop, length-take-le, take_all, drop_at}
use Rattle.std.proofs.lemmas.Nat.{mul-le}
use Rattle.trap_bank.specs.Disks.{Disks}
use Rattle.trap_format.specs.declared.shape.Shape.{Shape}
use Rattle.trap_model.specs.Image.{block_of}
use Rattle.trap_replica.specs.Loading.{cut_blocks, image_of, image_size}
use Rattle.trap_replica.specs.OnDisk.{ReplicaHolds}
use Rattle.trap_replica.proofs.OneFrame.{block_inside}
use Rattle.trap_replica.proofs.NewReplica.{CanHold}

pub blocks_length : (size n : ℕ) (bytes : List ℕ) → length (cut_blocks size n bytes) ≡ n
blocks_length size zero bytes = refl
blocks_length size (suc n) bytes = ap suc (blocks_length size n (drop size bytes))

-- a block of the bytes
pub blocks_at : (size n k : ℕ) (bytes : List ℕ) → k < n → block_of (cut_blocks size n bytes) k ≡ take size (drop (k * size) bytes)
blocks_at size zero k bytes less = absurd (omega arith)
blocks_at size (suc n) zero bytes less = let none : 0 ≡ zero * size = grind arith in ap (λ (m : ℕ). take size (drop m bytes)) none
blocks_at size (suc n) (suc k) bytes less =
    let more : size + k * size ≡ suc k * size = grind arith in
    blocks_at size n k (drop size bytes) (omega arith) ∙ ap (take size) (drop-drop (k * size) size bytes) ∙ ap (λ (m : ℕ). take size (drop m bytes)) more

-- what follows the blocks is of no account
blocks_front : (size n : ℕ) (bytes rest : List ℕ) → n * size ≤ length bytes → cut_blocks size n (bytes ++ rest) ≡ cut_blocks size n bytes
blocks_front size zero bytes rest long = refl
blocks_front size (suc n) bytes rest long =
    let whole : suc n * size ≡ size + n * size = grind arith in
    let first : size ≤ length bytes = omega arith in
    let later : n * size ≤ length (drop size bytes) = omega (arith, length-drop size bytes) in
    ap (λ (b : List ℕ). b ∷ cut_blocks size n (drop size (bytes ++ rest))) (take-append-le size bytes rest first)
    ∙ ap (λ (bs : List (List ℕ)). take size bytes ∷ bs) (ap (cut_blocks size n) (drop-append-le size bytes rest first) ∙ blocks_front size n (drop size bytes) rest later)

-- a whole image at the front of an input is the input's
pub image_front : (s : Shape) (bytes rest input : List ℕ) → bytes ++ rest ≡ input → image_size s ≤ length bytes → image_of s bytes ≡ image_of s input
image_front s bytes rest input whole long = sym (blocks_front s.block s.volume bytes rest long) ∙ ap (image_of s) whole

pub block_sized : (size n k : ℕ) (bytes : List ℕ) → k < n → n * size ≤ length bytes → length (block_of (cut_blocks size n bytes) k) ≡ size
block_sized size n k bytes less long =
    ap length (blocks_at size n k bytes less)
    ∙ length-take-le size (drop (k * size) bytes) (omega (arith, length-drop (k * size) bytes, block_inside k n size less))

last_block : (k n size : ℕ) → suc k ≡ n → k * size + size ≡ n * size
last_block k n size is = (let one : k * size + size ≡ suc k * size = grind arith in one) ∙ ap (λ (m : ℕ). m * size) is

-- no replica holds the image of fewer bytes
pub few_hold_none : (s : Shape) (number time : ℕ) (bytes : List ℕ) (x : Disks) → length bytes < image_size s → ReplicaHolds s number time (image_of s bytes) x → ⊥
few_hold_none s number time bytes x few holds =
    let least = s.within.volume_least in
    let sized = s.within.block_least in
    let k = s.volume - 1 in
    let next : suc k ≡ s.volume = omega arith in
    let inside : k < s.volume = omega arith in
    let long : length (take s.block (drop (k * s.block) bytes)) ≡ s.block = sym (ap length (blocks_at s.block s.volume k bytes inside)) ∙ holds.1.sized k inside in
    omega (arith, length-take s.block (drop (k * s.block) bytes), length-drop (k * s.block) bytes, last_block k s.volume s.block next, long, few)

-- an image has at most 2^32 bytes
pub image_small : (s : Shape) → image_size s ≤ 2 ^ 32
image_small s = mul-le s.volume s.block (2 ^ 20) 4096 s.within.volume_most s.within.block_most

-- a whole image can be held
pub can_load : (s : Shape) (number time : ℕ) (bytes : List ℕ) → s.id < 2 ^ 64 → number ≤ 2 ^ 40 → time < 2 ^ 64 → length bytes ≡ image_size s → CanHold s number time (image_of s bytes)
can_load s number time bytes id most fits long = record {
  id = id;
  most = most;
  fits = fits;
  long = blocks_length s.block s.volume bytes;
  sized = λ b below. block_sized s.block s.volume b bytes below (omega arith);
}

-- a block of the bytes that came before stays that block
pub block_kept : (s : Shape) (k n : ℕ) (bytes more : List ℕ) → k < n → n * s.block ≤ length bytes → take s.block (drop (k * s.block) (bytes ++ more)) ≡ take s.block (drop (k * s.block) bytes)
block_kept s k n bytes more less long =
    let inside = block_inside k n s.block less in
    ap (take s.block) (drop-append-le (k * s.block) bytes more (omega arith)) ∙ take-append-le s.block (drop (k * s.block) bytes) more (omega (arith, length-drop (k * s.block) bytes))

-- and the next one is what came
pub block_next : (s : Shape) (k : ℕ) (bytes more : List ℕ) → length bytes ≡ k * s.block → length more ≡ s.block → take s.block (drop (k * s.block) (bytes ++ more)) ≡ more
block_next s k bytes more long size =
    ap (take s.block) (drop_at bytes more (k * s.block) long) ∙ take_all s.block more (omega arith)
