-- Bytes of disks: what differs in an area, and what stays outside it.
use Rattle.std.proofs.Common.{◌≡◌, ◌⊎◌, ℕ, ◌+◌, ◌-◌, ◌<◌, ◌≤◌, min, List, length, take, drop, replicate, get_or, Option, Some, None, inl, inr, ⊎_elim, refl, sym, ap, ◌∙◌, arith}
use Rattle.std.proofs.lemmas.Bool.{cases_lt}
use Rattle.std.proofs.lemmas.List.{ext_get_or, get_or-take, get_or-drop, get_or-replicate, get_or_past, length-take, length-drop, length-replicate, drop-take, drop-drop}
use Rattle.trap_bank.specs.Disks.{Disks, Area, Within, Either, Differs, byte, region, bytes_of, size_of}

-- disks of one size have bytes of one length
pub same_length : (x y : Option (List ℕ)) → size_of x ≡ size_of y → length (bytes_of x) ≡ length (bytes_of y)
same_length None None e = refl
same_length None (Some ys) e = cc
same_length (Some xs) None e = cc
same_length (Some xs) (Some ys) e = cc

-- a disk is its size and its bytes
pub disk_ext : (x y : Option (List ℕ)) → size_of x ≡ size_of y → ((i : ℕ) → get_or (bytes_of x) i 0 ≡ get_or (bytes_of y) i 0) → x ≡ y
disk_ext None None e f = refl
disk_ext None (Some ys) e f = cc
disk_ext (Some xs) None e f = cc
disk_ext (Some xs) (Some ys) e f = ap {B = Option (List ℕ)} Some (ext_get_or 0 xs ys (same_length (Some xs) (Some ys) e) (λ i lt. f i))

-- a disk of a size has that number of bytes
pub size_length : (disk : Option (List ℕ)) (n : ℕ) → size_of disk ≡ Some n → length (bytes_of disk) ≡ n
size_length None n is = cc
size_length (Some bytes) n is = cc

-- a disk with no size is absent
pub absent_disk : (disk : Option (List ℕ)) → size_of disk ≡ None → disk ≡ None
absent_disk None is = refl
absent_disk (Some bytes) is = cc

-- each byte of zeros is 0, and so is each after them
pub zero_byte : (n i : ℕ) → ◌≡◌ {A = ℕ} (get_or (replicate n 0) i 0) 0
zero_byte n i =
    let zero : ℕ = 0 in
    ⊎_elim
    (λ (inside : i < n). get_or-replicate n i zero zero inside)
    (λ (past : n ≤ i). get_or_past (replicate n zero) i zero (omega (arith, length-replicate n zero, past)))
    (cases_lt i n)

-- a range of a list that begins later
pub window_drop : (xs : List ℕ) (at end count : ℕ) → count ≤ end - at
    → take (end - (at + count)) (drop (at + count) xs) ≡ drop count (take (end - at) (drop at xs))
window_drop xs at end count within =
    let parts : count + (end - (at + count)) ≡ end - at = omega arith in
    sym (ap (λ (n : ℕ). drop count (take n (drop at xs))) (sym parts) ∙ drop-take count (end - (at + count)) (drop at xs)
    ∙ ap (take (end - (at + count))) (drop-drop count at xs))

-- the length of a region
pub region_length : (x : Disks) (d at n : ℕ) → length (region x d at n) ≡ min n (length (bytes_of (x d)) - at)
region_length x d at n = length-take n (drop at (bytes_of (x d))) ∙ ap (min n) (length-drop at (bytes_of (x d)))

-- the byte of a region at an offset is the disk's
pub region_byte : (x : Disks) (d at n i : ℕ) → i < n → get_or (region x d at n) i 0 ≡ byte x d (at + i)
region_byte x d at n i lt = get_or-take n (drop at (bytes_of (x d))) i 0 lt ∙ get_or-drop at (bytes_of (x d)) i 0

-- regions are the same where the sizes and all their bytes are
pub region_ext : (x y : Disks) (d at n : ℕ) → size_of (y d) ≡ size_of (x d) → ((i : ℕ) → at ≤ i → i < at + n → byte y d i ≡ byte x d i) → region y d at n ≡ region x d at n
region_ext x y d at n size same = ext_get_or 0 (region y d at n) (region x d at n) lengths each
  where
    lengths : length (region y d at n) ≡ length (region x d at n)
    lengths = region_length y d at n ∙ ap (λ (k : ℕ). min n (k - at)) (same_length (y d) (x d) size) ∙ sym (region_length x d at n)

    each : (i : ℕ) → i < length (region y d at n) → get_or (region y d at n) i 0 ≡ get_or (region x d at n) i 0
    each i lt =
        let short : i < n = omega (arith, region_length y d at n) in
        region_byte y d at n i short ∙ same (at + i) (omega arith) (omega arith) ∙ sym (region_byte x d at n i short)

-- a region apart from the area keeps its bytes
pub region_apart : (area : Area) (old new : Disks) (d at n : ℕ) → Differs area old new → ((i : ℕ) → at ≤ i → i < at + n → area d i → ⊥) → region new d at n ≡ region old d at n
region_apart area old new d at n differs apart = region_ext old new d at n (differs.sizes d) (λ i from to. differs.bytes d i (apart i from to))

-- a disk apart from the area is the same
pub disk_apart : (area : Area) (old new : Disks) (d : ℕ) → Differs area old new → ((i : ℕ) → area d i → ⊥) → new d ≡ old d
disk_apart area old new d differs apart = disk_ext (new d) (old d) (differs.sizes d) (λ i. differs.bytes d i (apart i))

-- a region before or after what changed keeps its bytes
pub region_beside : (e from len : ℕ) (old new : Disks) (at n : ℕ) → Differs (Within e from len) old new → (at + n ≤ from) ⊎ (from + len ≤ at) → region new e at n ≡ region old e at n
region_beside e from len old new at n differs beside = region_apart (Within e from len) old new e at n differs apart
  where
    apart : (i : ℕ) → at ≤ i → i < at + n → Within e from len e i → ⊥
    apart i low high within = ⊎_elim (λ (before : at + n ≤ from). omega (arith, within.from)) (λ (behind : from + len ≤ at). omega (arith, within.to)) beside

-- another disk is the same
pub disk_beside : (e from len : ℕ) (old new : Disks) (d : ℕ) → Differs (Within e from len) old new → (d ≡ e → ⊥) → new d ≡ old d
disk_beside e from len old new d differs other = disk_apart (Within e from len) old new d differs (λ i within. other within.disk)

-- a byte before or after what changed is the same
pub byte_beside : (e from len : ℕ) (old new : Disks) (i : ℕ) → Differs (Within e from len) old new → (i < from) ⊎ (from + len ≤ i) → byte new e i ≡ byte old e i
byte_beside e from len old new i differs beside = differs.bytes e i apart
  where
    apart : Within e from len e i → ⊥
    apart within = ⊎_elim (λ (before : i < from). omega (arith, within.from)) (λ (behind : from + len ≤ i). omega (arith, within.to)) beside

-- what differs in an area differs in a larger one
pub differs_mono : (a b : Area) (old new : Disks) → ((e i : ℕ) → a e i → b e i) → Differs a old new → Differs b old new
differs_mono a b old new more differs = record { sizes = differs.sizes; bytes = λ e i apart. differs.bytes e i (λ within. apart (more e i within)) }

-- two changes differ in both areas
pub differs_then : (a b : Area) (old mid new : Disks) → Differs a old mid → Differs b mid new → Differs (Either a b) old new
differs_then a b old mid new first second = record {
  sizes = λ e. second.sizes e ∙ first.sizes e;
  bytes = λ e i apart. second.bytes e i (λ within. apart (inr within)) ∙ first.bytes e i (λ within. apart (inl within));
}

-- two changes in one area
pub differs_again : (area : Area) (old mid new : Disks) → Differs area old mid → Differs area mid new → Differs area old new
differs_again area old mid new first second = record {
  sizes = λ e. second.sizes e ∙ first.sizes e;
  bytes = λ e i apart. second.bytes e i apart ∙ first.bytes e i apart;
}

-- no change differs in any area
pub differs_none : (area : Area) (x : Disks) → Differs area x x
differs_none area x = record { sizes = λ e. refl; bytes = λ e i apart. refl }

-- nor do disks that are equal
pub differs_same : (area : Area) (old new : Disks) → new ≡ old → Differs area old new
differs_same area old new same = record { sizes = λ e. ap (λ (x : Disks). size_of (x e)) same; bytes = λ e i apart. ap (λ (x : Disks). byte x e i) same }

-- a range within a larger one
pub differs_wider : (d a n b m : ℕ) (old new : Disks) → b ≤ a → a + n ≤ b + m → Differs (Within d a n) old new → Differs (Within d b m) old new
differs_wider d a n b m old new low high differs = differs_mono (Within d a n) (Within d b m) old new
    (λ e i within. record { disk = within.disk; from = omega (arith, within.from); to = omega (arith, within.to) }) differs

-- the same range under other names
pub differs_at : (d at n e from len : ℕ) (old new : Disks) → d ≡ e → at ≡ from → n ≡ len → Differs (Within d at n) old new → Differs (Within e from len) old new
differs_at d at n e from len old new disk start size differs = differs_mono (Within d at n) (Within e from len) old new
    (λ k i within. record { disk = within.disk ∙ disk; from = omega (arith, within.from); to = omega (arith, within.to) }) differs

-- a byte at an offset of a region that is known
pub byte_in_region : (w : Disks) (d at n i j : ℕ) (bytes : List ℕ) → j ≡ at + i → region w d at n ≡ bytes → i < n → byte w d j ≡ get_or bytes i 0
byte_in_region w d at n i j bytes place is lt = ap (byte w d) place ∙ sym (region_byte w d at n i lt) ∙ ap (λ (l : List ℕ). get_or l i 0) is

-- a region of a disk that is the same
pub region_of_disk : (v w : Disks) (d at n : ℕ) → w d ≡ v d → region w d at n ≡ region v d at n
region_of_disk v w d at n same = ap (λ (x : Option (List ℕ)). take n (drop at (bytes_of x))) same

-- a byte of a disk that is the same
pub byte_of_disk : (v w : Disks) (d i : ℕ) → w d ≡ v d → byte w d i ≡ byte v d i
byte_of_disk v w d i same = ap (λ (x : Option (List ℕ)). get_or (bytes_of x) i 0) same

-- a byte of a region that is the same
pub byte_of_region : (x y : Disks) (d at n i : ℕ) → region y d at n ≡ region x d at n → at ≤ i → i < at + n → byte y d i ≡ byte x d i
byte_of_region x y d at n i same low high =
    let place : i ≡ at + (i - at) = omega arith in
    let within : i - at < n = omega arith in
    byte_in_region y d at n (i - at) i (region x d at n) place same within ∙ sym (byte_in_region x d at n (i - at) i (region x d at n) place refl within)

-- a region within one that is the same
pub region_in : (x y : Disks) (d at len from n : ℕ) → size_of (y d) ≡ size_of (x d) → at ≤ from → from + n ≤ at + len → region y d at len ≡ region x d at len → region y d from n ≡ region x d from n
region_in x y d at len from n size low high same = region_ext x y d from n size (λ i after before. byte_of_region x y d at len i same (omega arith) (omega arith))
