-- What one frame leaves on the replica's disk.
use Rattle.std.proofs.Common.{◌≡◌, ◌≢◌, ◌⊎◌, ℕ, ◌+◌, ◌*◌, ◌^◌, ◌<◌, ◌≤◌, List, [], length, Some, IsTrue, inl, inr, ⊎_elim, sym, ap, subst, ◌∙◌, arith}
use Rattle.std.proofs.lemmas.Bool.{cases_eq, cases_lt}
use Rattle.std.proofs.lemmas.List.{length-set, get_or-set_same, get_or-set_other}
use Rattle.trap_bank.specs.Disks.{View, Disks, Area, Contents, Within, Quiet, Differs, Torn, region}
use Rattle.trap_bank.specs.Calls.{Fits}
use Rattle.trap_bank.specs.Steps.{Moves, Same, Always, PlacedThrough}
use Rattle.trap_bank.proofs.Regions.{region_beside, disk_apart}
use Rattle.trap_bank.proofs.Moves.{moves_then, moves_weaken, no_moves}
use Rattle.trap_block.specs.Xor.{xor}
use Rattle.trap_block.proofs.XorLemmas.{length-xor}
use Rattle.trap_cell.specs.Slots.{Place, Slots, Stands, cell_value, cell_len, cell_area, other_slot}
use Rattle.trap_cell.specs.Steps.{PutsIn}
use Rattle.trap_cell.proofs.Beside.{Apart, range_apart, cell_beside, stands_after, within_cell}
use Rattle.trap_format.specs.ReplicaDisk.{home_at, replica_size}
use Rattle.trap_format.specs.declared.shape.Shape.{Shape}
use Rattle.trap_model.specs.Image.{block_of}
use Rattle.trap_model.specs.Receiver.{xored}
use Rattle.trap_model.specs.declared.arrival.Arrival.{Arrival}
use Rattle.trap_replica.specs.OnDisk.{cell_place, home, value_bytes, HoldsImageBy}
use Rattle.trap_replica.specs.Applying.{Elsewhere, Leaves, LeavesOthers, HoldsEither}

-- a block ends where the next one begins, or before
pub block_inside : (a b n : ℕ) → a < b → a * n + n ≤ b * n
block_inside a b n less = grind arith

-- two blocks have no position in common
pub homes_apart : (s : Shape) (b c : ℕ) → b ≢ c → (home_at s b + s.block ≤ home_at s c) ⊎ (home_at s c + s.block ≤ home_at s b)
homes_apart s b c other = ⊎_elim
    (λ (less : b < c). inl (omega (arith, block_inside b c s.block less)))
    (λ (most : c ≤ b). let less : c < b = omega arith in inr (omega (arith, block_inside c b s.block less)))
    (cases_lt b c)

-- a block lies on the disk
pub home_fits : (s : Shape) (b at n : ℕ) (v : View) → b < s.volume → at ≡ home_at s b → n ≡ s.block → Fits v 17 (replica_size s) → Fits v 17 (at + n)
home_fits s b at n v inside is long there = (there.0, there.1, omega (arith, block_inside b s.volume s.block inside, there.2))

-- and so does the cell
pub cell_fits : (s : Shape) (p : Place) (v : View) → p ≡ cell_place s → Fits v 17 (replica_size s) → Fits v p.disk (p.at + cell_len p)
cell_fits s p v is there = subst (λ (q : Place). Fits v q.disk (q.at + cell_len q)) (sym is) (there.0, there.1, omega (arith, there.2))

-- a write of a block by its place
pub home_part : (s : Shape) (b at n : ℕ) (v w : View) → at ≡ home_at s b → n ≡ s.block → Moves v w (Differs (Within 17 at n)) (Differs (Within 17 at n))
    → Moves v w (Differs (home s b)) (Differs (home s b))
home_part s b at n v w is long moves =
    subst (λ (k : ℕ). Moves v w (Differs (Within 17 (home_at s b) k)) (Differs (Within 17 (home_at s b) k))) long
    (subst (λ (k : ℕ). Moves v w (Differs (Within 17 k n)) (Differs (Within 17 k n))) is moves)

-- the cell stands after it
pub stands_home : (s : Shape) (t : Slots) (b : ℕ) (v w : View) → t.place ≡ cell_place s → Moves v w (Differs (home s b)) (Differs (home s b)) → Always v (Stands t) → Always w (Stands t)
stands_home s t b v w place moves stands = stands_after t (home s b) v w (Differs (home s b))
    (subst (λ (p : Place). Apart (home s b) p) (sym place) (range_apart (cell_place s) (home_at s b) s.block (inr (omega arith)))) moves stands

module _ (s : Shape) (block number time : ℕ) (image : List (List ℕ)) where
  -- the disk holds the image, and the cell's block stands at home too
  pub record IsHome (disks : Disks) : Type 0 where
    pub holds : HoldsImageBy s block number time image disks
    pub there : region disks 17 (home_at s block) s.block ≡ block_of image block

  -- whatever lands at home of the cell's block
  pub home_torn : (x y : Disks) → HoldsImageBy s block number time image x → Differs (home s block) x y → HoldsImageBy s block number time image y
  home_torn x y holds torn = record {
    id = holds.id;
    header = region_beside 17 (home_at s block) s.block x y 0 32 torn (inl (omega arith)) ∙ holds.header;
    size = torn.sizes 17 ∙ holds.size;
    most = holds.most;
    fits = holds.fits;
    inside = holds.inside;
    long = holds.long;
    sized = holds.sized;
    value = cell_beside (cell_place s) (home s block) x y torn (range_apart (cell_place s) (home_at s block) s.block (inr (omega arith))) ∙ holds.value;
    others = λ b within other. region_beside 17 (home_at s block) s.block x y (home_at s b) s.block torn (homes_apart s b block other) ∙ holds.others b within other;
  }

  -- and when it stands there
  pub home_done : (v : View) (at : ℕ) (contents : List ℕ) (x y : Disks) → at ≡ home_at s block → length contents ≡ s.block → contents ≡ block_of image block
      → HoldsImageBy s block number time image x → PlacedThrough v 17 at contents x y → IsHome y
  home_done v at contents x y is long same holds placed =
      let torn : Differs (Within 17 at (length contents)) x y = placed.placed.differs in
      let here : Differs (home s block) x y = subst (λ (k : ℕ). Differs (Within 17 (home_at s block) k) x y) long (subst (λ (k : ℕ). Differs (Within 17 k (length contents)) x y) is torn) in
      record {
        holds = home_torn x y holds here;
        there = ap (λ (k : ℕ). region y 17 (home_at s block) k) (sym long) ∙ ap (λ (k : ℕ). region y 17 k (length contents)) (sym is) ∙ placed.placed.there ∙ same;
      }

  -- each block stands at home then
  pub block_there : (x : Disks) (b : ℕ) → IsHome x → b < s.volume → region x 17 (home_at s b) s.block ≡ block_of image b
  block_there x b at_home within = ⊎_elim
      (λ (same : b ≡ block). ap (λ (c : ℕ). region x 17 (home_at s c) s.block) same ∙ at_home.there ∙ ap (block_of image) (sym same))
      (λ (other : b ≢ block). at_home.holds.others b within other)
      (cases_eq b block)

  -- what changes in the cell leaves the header and the image area
  in_cell : (t : Slots) (x y : Disks) → t.place ≡ cell_place s → Differs (other_slot t) x y → Differs (cell_area (cell_place s)) x y
  in_cell t x y place differs = subst (λ (p : Place). Differs (cell_area p) x y) place (within_cell t x y differs)

  home_same : (x y : Disks) (b : ℕ) → Differs (cell_area (cell_place s)) x y → region y 17 (home_at s b) s.block ≡ region x 17 (home_at s b) s.block
  home_same x y b torn = region_beside 17 32 (cell_len (cell_place s)) x y (home_at s b) s.block torn (inr (omega arith))

  header_same : (x y : Disks) → Differs (cell_area (cell_place s)) x y → region y 17 0 32 ≡ region x 17 0 32
  header_same x y torn = region_beside 17 32 (cell_len (cell_place s)) x y 0 32 torn (inl (omega arith))

  -- a put that left the old value
  pub put_old : (t : Slots) (x y : Disks) → t.place ≡ cell_place s → IsHome x → Differs (other_slot t) x y → cell_value t.place y ≡ cell_value t.place x → HoldsImageBy s block number time image y
  put_old t x y place at_home differs same =
      let torn = in_cell t x y place differs in
      let holds = at_home.holds in
      record {
        id = holds.id;
        header = header_same x y torn ∙ holds.header;
        size = torn.sizes 17 ∙ holds.size;
        most = holds.most;
        fits = holds.fits;
        inside = holds.inside;
        long = holds.long;
        sized = holds.sized;
        value = subst (λ (p : Place). cell_value p y ≡ cell_value p x) place same ∙ holds.value;
        others = λ b within other. home_same x y b torn ∙ holds.others b within other;
      }

  module _ (f : Arrival) (seq : ℕ) (contents : List ℕ) (next : number + 1 ≡ seq) (last : seq ≤ 2 ^ 40) (fits : f.time < 2 ^ 64) (inside : f.block < s.volume) (sized : length f.parity ≡ s.block) where
    -- the frame's block after it
    changed_block : (x : Disks) → HoldsImageBy s block number time image x → block_of (xored image f) f.block ≡ xor (block_of image f.block) f.parity
    changed_block x holds = get_or-set_same image f.block (xor (block_of image f.block) f.parity) [] (omega (arith, holds.long))

    other_block : (b : ℕ) → b ≢ f.block → block_of (xored image f) b ≡ block_of image b
    other_block b other = get_or-set_other image f.block b (xor (block_of image f.block) f.parity) [] other

    changed_size : (x : Disks) (b : ℕ) → HoldsImageBy s block number time image x → b < s.volume → length (block_of (xored image f) b) ≡ s.block
    changed_size x b holds within = ⊎_elim
        (λ (same : b ≡ f.block). ap (λ (c : ℕ). length (block_of (xored image f) c)) same ∙ ap length (changed_block x holds)
        ∙ length-xor (block_of image f.block) f.parity (sized ∙ sym (holds.sized f.block inside)) ∙ holds.sized f.block inside)
        (λ (other : b ≢ f.block). ap length (other_block b other) ∙ holds.sized b within)
        (cases_eq b f.block)

    -- a put that wrote the new one
    pub put_new : (t : Slots) (x y : Disks) → t.place ≡ cell_place s → IsHome x → contents ≡ xor (block_of image f.block) f.parity → Differs (other_slot t) x y
        → cell_value t.place y ≡ Some (value_bytes seq f.time f.block contents) → HoldsImageBy s f.block seq f.time (xored image f) y
    put_new t x y place at_home is differs fresh =
        let torn = in_cell t x y place differs in
        let holds = at_home.holds in
        record {
          id = holds.id;
          header = header_same x y torn ∙ holds.header;
          size = torn.sizes 17 ∙ holds.size;
          most = last;
          fits = fits;
          inside = inside;
          long = length-set image f.block (xor (block_of image f.block) f.parity) ∙ holds.long;
          sized = λ b within. changed_size x b holds within;
          value = subst (λ (p : Place). cell_value p y ≡ Some (value_bytes seq f.time f.block contents)) place fresh
              ∙ ap (λ (l : List ℕ). Some (value_bytes seq f.time f.block l)) (is ∙ sym (changed_block x holds));
          others = λ b within other. home_same x y b torn ∙ block_there x b at_home within ∙ sym (other_block b other);
        }

    -- a put that is stopped
    pub put_either : (t : Slots) (x y : Disks) → t.place ≡ cell_place s → IsHome x → contents ≡ xor (block_of image f.block) f.parity
        → PutsIn t (value_bytes seq f.time f.block contents) x y → HoldsEither s number time image f y
    put_either t x y place at_home is puts = ⊎_elim
        (λ old. inl (block, put_old t x y place at_home puts.differs old))
        (λ new. inr (f.block, subst (λ (n : ℕ). HoldsImageBy s f.block n f.time (xored image f) y) (sym next) (put_new t x y place at_home is puts.differs new)))
        puts.either

-- no call yet
pub leaves_none : (v : View) (has leaves : Disks → Type 0) → Always v has → ((x : Disks) → has x → leaves x) → Leaves v v leaves
leaves_none v has leaves always more = no_moves v (λ x y. leaves y) (λ x y. leaves y) (λ x was. more x.disks (always x was))

-- one call more
pub leaves_then : (a b c : View) (has leaves : Disks → Type 0) (during after : Disks → Disks → Type 0) → Leaves a b leaves → Moves b c during after → Always b has
    → ((x y : Disks) → IsTrue b.tells → has x → during x y → leaves y) → ((x y : Disks) → IsTrue b.tells → has x → after x y → leaves y) → Leaves a c leaves
leaves_then a b c has leaves during after first second always in_run at_end = moves_then a b c (λ x y. leaves y) (λ x y. leaves y) during after (λ x y. leaves y) (λ x y. leaves y) first second
    (λ x y was left. left)
    (λ x y z was left mid step. in_run y.disks z.disks mid.told (always y mid) step)
    (λ x y z was left mid step. at_end y.disks z.disks mid.told (always y mid) step)

-- a change on disk 17 alone
pub else_apart : (area : Area) (x y : Disks) → ((e i : ℕ) → area e i → e ≡ 17) → Differs area x y → Elsewhere x y
else_apart area x y only torn e other = disk_apart area x y e torn (λ i within. other (only e i within))

pub else_moves : (at n : ℕ) (a b : View) → Moves a b (Differs (Within 17 at n)) (Differs (Within 17 at n)) → Moves a b Elsewhere Elsewhere
else_moves at n a b moves = moves_weaken a b (Differs (Within 17 at n)) (Differs (Within 17 at n)) Elsewhere Elsewhere moves
    (λ x y was torn. else_apart (Within 17 at n) x.disks y.disks (λ e i within. within.disk) torn)
    (λ x y was left torn. else_apart (Within 17 at n) x.disks y.disks (λ e i within. within.disk) torn)

pub else_same : (a b : View) → Moves a b Same Same → Moves a b Elsewhere Elsewhere
else_same a b moves = moves_weaken a b Same Same Elsewhere Elsewhere moves
    (λ x y was same e other. ap (λ (d : Disks). d e) same)
    (λ x y was left same e other. ap (λ (d : Disks). d e) same)

put_else : (s : Shape) (t : Slots) (fresh : List ℕ) (x y : Disks) → t.place ≡ cell_place s → PutsIn t fresh x y → Elsewhere x y
put_else s t fresh x y place puts = else_apart (other_slot t) x y (λ e i within. within.disk ∙ ap (λ (p : Place). p.disk) place) puts.differs

pub else_put : (s : Shape) (t : Slots) (fresh : List ℕ) (a b : View) → t.place ≡ cell_place s → Moves a b (PutsIn t fresh) (PutsIn t fresh) → Moves a b Elsewhere Elsewhere
else_put s t fresh a b place moves = moves_weaken a b (PutsIn t fresh) (PutsIn t fresh) Elsewhere Elsewhere moves
    (λ x y was puts. put_else s t fresh x.disks y.disks place puts)
    (λ x y was left puts. put_else s t fresh x.disks y.disks place puts)

pub else_then : (a b c : View) → Moves a b Elsewhere Elsewhere → Moves b c Elsewhere Elsewhere → Moves a c Elsewhere Elsewhere
else_then a b c first second = moves_then a b c Elsewhere Elsewhere Elsewhere Elsewhere Elsewhere Elsewhere first second
    (λ x y was step. step)
    (λ x y z was step mid next e other. next e other ∙ step e other)
    (λ x y z was step mid next e other. next e other ∙ step e other)

-- what a read gives of the other disks
abbrev pub Touches : View → View → Type 0
Touches a b = IsTrue a.tells → Quiet Elsewhere a.now b.now

pub touch_torn : (at n : ℕ) (a b : View) → (IsTrue a.tells → Torn (Within 17 at n) a.now b.now) → Touches a b
touch_torn at n a b torn told = let t = torn told in record { disks = else_apart (Within 17 at n) a.now.disks b.now.disks (λ e i within. within.disk) t.disks; said = t.said }

pub touch_same : (a b : View) → (IsTrue a.tells → b.now ≡ a.now) → Touches a b
touch_same a b same told = record { disks = λ e other. ap (λ (c : Contents). c.disks e) (same told); said = ap (λ (c : Contents). c.said) (same told) }

pub touch_put : (s : Shape) (t : Slots) (fresh : List ℕ) (a b : View) → t.place ≡ cell_place s → (IsTrue a.tells → Quiet (PutsIn t fresh) a.now b.now) → Touches a b
touch_put s t fresh a b place puts told = let p = puts told in record { disks = put_else s t fresh a.now.disks b.now.disks place p.disks; said = p.said }

pub touch_then : (a b c : View) → b.tells ≡ a.tells → Touches a b → Touches b c → Touches a c
touch_then a b c tells first second told =
    let one = first told in
    let two = second (subst IsTrue (sym tells) told) in
    record { disks = λ e other. two.disks e other ∙ one.disks e other; said = two.said ∙ one.said }

-- a write of a block, a read of one and a put of the cell leave every other disk
pub others_torn : (at n : ℕ) (a b : View) → ((e : ℕ) → b.sizes e ≡ a.sizes e) → Moves a b (Differs (Within 17 at n)) (Differs (Within 17 at n))
    → (IsTrue a.tells → Torn (Within 17 at n) a.now b.now) → LeavesOthers a b
others_torn at n a b sizes moves torn = record { sizes = sizes; elsewhere = else_moves at n a b moves; touches = touch_torn at n a b torn }

pub others_same : (a b : View) → ((e : ℕ) → b.sizes e ≡ a.sizes e) → Moves a b Same Same → (IsTrue a.tells → b.now ≡ a.now) → LeavesOthers a b
others_same a b sizes moves same = record { sizes = sizes; elsewhere = else_same a b moves; touches = touch_same a b same }

pub others_put : (s : Shape) (t : Slots) (fresh : List ℕ) (a b : View) → ((e : ℕ) → b.sizes e ≡ a.sizes e) → t.place ≡ cell_place s
    → Moves a b (PutsIn t fresh) (PutsIn t fresh) → (IsTrue a.tells → Quiet (PutsIn t fresh) a.now b.now) → LeavesOthers a b
others_put s t fresh a b sizes place moves puts = record { sizes = sizes; elsewhere = else_put s t fresh a b place moves; touches = touch_put s t fresh a b place puts }

-- and so do two, one after the other
pub others_then : (a b c : View) → LeavesOthers a b → LeavesOthers b c → LeavesOthers a c
others_then a b c first second = record {
  sizes = λ e. second.sizes e ∙ first.sizes e;
  elsewhere = else_then a b c first.elsewhere second.elsewhere;
  touches = touch_then a b c first.elsewhere.tells first.touches second.touches;
}
