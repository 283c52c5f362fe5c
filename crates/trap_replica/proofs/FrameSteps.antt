-- How one frame is applied, call by call.
use Rattle.std.proofs.Common.{◌≡◌, ℕ, ◌+◌, ◌^◌, ◌<◌, ◌≤◌, List, [], length, IsTrue, inl, sym, ap, subst, ◌∙◌, arith}
use Rattle.std.proofs.lemmas.List.{get_or-set_same}
use Rattle.trap_bank.specs.Disks.{View, Disks, Within, Differs, region}
use Rattle.trap_bank.specs.Steps.{Moves, Same, Always, PlacedThrough}
use Rattle.trap_bank.proofs.Moves.{always_same, read_is_left}
use Rattle.trap_block.specs.Xor.{xor}
use Rattle.trap_cell.specs.Slots.{Slots}
use Rattle.trap_cell.specs.Steps.{PutsIn, IsPut}
use Rattle.trap_format.specs.ReplicaDisk.{home_at}
use Rattle.trap_format.specs.declared.shape.Shape.{Shape}
use Rattle.trap_model.specs.Image.{block_of}
use Rattle.trap_model.specs.Receiver.{xored}
use Rattle.trap_model.specs.declared.arrival.Arrival.{Arrival}
use Rattle.trap_replica.specs.OnDisk.{cell_place, home, value_bytes, HoldsImageBy}
use Rattle.trap_replica.specs.Applying.{Leaves, HoldsEither}
use Rattle.trap_replica.proofs.OneFrame.{home_part, IsHome, home_torn, home_done, block_there, put_new, put_either, leaves_none, leaves_then}

-- the frame's block in the image after it
pub frame_block : (s : Shape) (image : List (List ℕ)) (f : Arrival) → length image ≡ s.volume → f.block < s.volume → block_of (xored image f) f.block ≡ xor (block_of image f.block) f.parity
frame_block s image f long inside = get_or-set_same image f.block (xor (block_of image f.block) f.parity) [] (omega arith)

module _ (s : Shape) (block number time : ℕ) (image : List (List ℕ)) where
  abbrev Has : Disks → Type 0
  Has = HoldsImageBy s block number time image

  abbrev pub AtHome : Disks → Type 0
  AtHome = IsHome s block number time image

  module _ (a b : View) (at : ℕ) (contents : List ℕ) (is : at ≡ home_at s block) (long : length contents ≡ s.block)
      (same : IsTrue a.tells → contents ≡ block_of image block) (always : Always a Has) where
    -- while the cell's block is sent home
    pub sent_part : (f : Arrival) → Moves a b (Differs (Within 17 at (length contents))) (Differs (Within 17 at (length contents))) → Leaves a b (HoldsEither s number time image f)
    sent_part f moves = leaves_then a a b Has (HoldsEither s number time image f) (Differs (home s block)) (Differs (home s block))
        (leaves_none a Has (HoldsEither s number time image f) always (λ x has. inl (block, has)))
        (home_part s block at (length contents) a b is long moves) always
        (λ x y told has torn. inl (block, home_torn s block number time image x y has torn))
        (λ x y told has torn. inl (block, home_torn s block number time image x y has torn))

    -- and when it is there
    pub sent_home : Moves a b (Differs (Within 17 at (length contents))) (PlacedThrough b 17 at contents) → Always b AtHome
    sent_home moves w left =
        let from = moves.now w left in
        home_done s block number time image b at contents from.origin.disks w.disks is long (same from.was.told) (always from.origin from.was) from.by.disks

  -- while the frame's block is read
  pub read_part : (f : Arrival) (a b r : View) → Leaves a b (HoldsEither s number time image f) → Moves b r Same Same → Always b AtHome → Leaves a r (HoldsEither s number time image f)
  read_part f a b r first moves at_home = leaves_then a b r AtHome (HoldsEither s number time image f) Same Same first moves at_home
      (λ x y told has e. inl (block, subst Has (sym e) has.holds))
      (λ x y told has e. inl (block, subst Has (sym e) has.holds))

  pub read_home : (b r : View) → Moves b r Same Same → Always b AtHome → Always r AtHome
  read_home b r moves at_home = always_same b r AtHome moves at_home

  -- what was read, with the frame's parity
  pub got : (f : Arrival) (b : View) (at n : ℕ) (buf dst parity : List ℕ) → at ≡ home_at s f.block → n ≡ s.block → f.block < s.volume → Always b AtHome
      → (IsTrue b.tells → buf ≡ region b.now.disks 17 at n) → dst ≡ xor buf parity → parity ≡ f.parity → IsTrue b.tells → dst ≡ xor (block_of image f.block) f.parity
  got f b at n buf dst parity is long inside at_home read mixed same told =
      mixed ∙ ap (xor buf) same ∙ ap (λ (l : List ℕ). xor l f.parity)
      (read told ∙ ap (λ (k : ℕ). region b.now.disks 17 k n) is ∙ ap (λ (k : ℕ). region b.now.disks 17 (home_at s f.block) k) long
      ∙ block_there s block number time image b.now.disks f.block (at_home b.now (read_is_left b told)) inside)

  module _ (f : Arrival) (seq : ℕ) (contents : List ℕ) (next : number + 1 ≡ seq) (last : seq ≤ 2 ^ 40) (fits : f.time < 2 ^ 64) (inside : f.block < s.volume) (sized : length f.parity ≡ s.block)
      (t : Slots) (value : List ℕ) (place : t.place ≡ cell_place s) (spelled : value ≡ value_bytes seq f.time f.block contents) where
    -- while the cell is put
    pub put_part : (a r d : View) → Leaves a r (HoldsEither s number time image f) → Moves r d (PutsIn t value) (PutsIn t value) → Always r AtHome
        → (IsTrue r.tells → contents ≡ xor (block_of image f.block) f.parity) → Leaves a d (HoldsEither s number time image f)
    put_part a r d first moves at_home is = leaves_then a r d AtHome (HoldsEither s number time image f) (PutsIn t value) (PutsIn t value) first moves at_home
        (λ x y told has puts. put_either s block number time image f seq contents next last fits inside sized t x y place has (is told) (subst (λ (l : List ℕ). PutsIn t l x y) spelled puts))
        (λ x y told has puts. put_either s block number time image f seq contents next last fits inside sized t x y place has (is told) (subst (λ (l : List ℕ). PutsIn t l x y) spelled puts))

    -- and when it is put
    pub put_home : (u : Slots) (r d : View) → Moves r d (PutsIn t value) (IsPut d t u value) → Always r AtHome
        → (IsTrue r.tells → contents ≡ xor (block_of image f.block) f.parity) → Always d (HoldsImageBy s f.block seq f.time (xored image f))
    put_home u r d moves at_home is w left =
        let from = moves.now w left in
        put_new s block number time image f seq contents next last fits inside sized t from.origin.disks w.disks place (at_home from.origin from.was) (is from.was.told) from.by.disks.differs
        (subst (λ (l : List ℕ). IsPut d t u l from.origin.disks w.disks) spelled from.by.disks).value
