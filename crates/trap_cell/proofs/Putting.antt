-- The steps of a put, with a crash at any moment.
use Rattle.std.proofs.Common.{◌≡◌, ℕ, ◌+◌, ◌≤◌, List, [], ◌∷◌, length, IsTrue, true, false, not, inl, inr, refl, sym, ap, ap₂, subst, ◌∙◌, arith}
use Rattle.trap_bank.specs.Disks.{View, Disks, Within, Differs, Torn, Quiet, byte, region}
use Rattle.trap_bank.specs.Steps.{Moves, Always, PlacedThrough}
use Rattle.trap_bank.proofs.Regions.{differs_at, differs_mono, differs_again, byte_beside, byte_in_region, byte_of_disk}
use Rattle.trap_bank.proofs.Moves.{read_is_left, moves_then, moves_weaken, no_moves, always_after}
use Rattle.trap_cell.specs.Slots.{Slots, Stands, slot_at, next_turn, shut_of, turned, turn_of, value_in}
use Rattle.trap_cell.specs.Steps.{PutsIn, IsPut, Keeps, Shuts, StaysShut, FillsSlot, IsSlotReady}
use Rattle.trap_cell.proofs.Keeping.{keeps_torn, shuts_written, shuts_none, keeps_none, shuts_stands, keeps_then, keeps_puts, keeps_puts_then, fills_ready, puts_torn, put_written, shuts_torn}

-- a change of the other slot's gate byte, where disk and start have names of their own
pub at_gate : (s : Slots) (d start : ℕ) (x y : Disks) → d ≡ s.place.disk → start ≡ slot_at s.place (not s.second) → Differs (Within d start 1) x y
    → Differs (Within s.place.disk (slot_at s.place (not s.second)) 1) x y
at_gate s d start x y same place torn = differs_at d start 1 s.place.disk (slot_at s.place (not s.second)) 1 x y same place refl torn

-- and the byte that stands there
gate_there : (s : Slots) (d start b : ℕ) (y : Disks) → d ≡ s.place.disk → start ≡ slot_at s.place (not s.second) → region y d start 1 ≡ b ∷ []
    → region y s.place.disk (slot_at s.place (not s.second)) 1 ≡ b ∷ []
gate_there s d start b y same place there = ap₂ (λ (e i : ℕ). region y e i 1) (sym same) (sym place) ∙ there

-- the gate is being shut
pub shut_torn : (s : Slots) (d start : ℕ) (a b : View) → s.other_open ≡ true → Always a (Stands s) → d ≡ s.place.disk → start ≡ slot_at s.place (not s.second)
    → Moves a b (Differs (Within d start 1)) (Differs (Within d start 1))
    → Moves a b (Keeps s) (Keeps s)
shut_torn s d start a b open_ stands same place moves = moves_weaken a b _ _ (Keeps s) (Keeps s) moves
    (λ x y was torn. keeps_torn s x.disks y.disks open_ (stands x was) (at_gate s d start x.disks y.disks same place torn))
    (λ x y was left torn. keeps_torn s x.disks y.disks open_ (stands x was) (at_gate s d start x.disks y.disks same place torn))

-- the gate is shut
pub shut_done : (s : Slots) (d start : ℕ) (a b : View) → s.other_open ≡ true → Always a (Stands s) → d ≡ s.place.disk → start ≡ slot_at s.place (not s.second)
    → Moves a b (Differs (Within d start 1)) (PlacedThrough b d start (0 ∷ []))
    → Moves a b (Keeps s) (Shuts s)
shut_done s d start a b open_ stands same place moves = moves_weaken a b _ _ (Keeps s) (Shuts s) moves
    (λ x y was torn. keeps_torn s x.disks y.disks open_ (stands x was) (at_gate s d start x.disks y.disks same place torn))
    (λ x y was left put. shuts_written s x.disks y.disks open_ (stands x was) (at_gate s d start x.disks y.disks same place put.placed.differs)
    (gate_there s d start 0 y.disks same place put.placed.there))

-- the gate was shut before
pub shut_before : (s : Slots) (a : View) → s.other_open ≡ false → Always a (Stands s) → Moves a a (Keeps s) (Shuts s)
shut_before s a shut stands = no_moves a (Keeps s) (Shuts s) (λ x was. shuts_none s x.disks shut (stands x was))

-- a shut gate keeps the current slot
pub shuts_keep : (s : Slots) (a b : View) → Moves a b (Keeps s) (Shuts s) → Moves a b (Keeps s) (Keeps s)
shuts_keep s a b moves = moves_weaken a b (Keeps s) (Shuts s) (Keeps s) (Keeps s) moves (λ x y was keeps. keeps) (λ x y was left shuts. shuts.keeps)

-- a range after the gate of the other slot
behind : (s : Slots) (d at n : ℕ) (x y : Disks) → d ≡ s.place.disk → slot_at s.place (not s.second) + 1 ≤ at
    → at + n ≤ slot_at s.place (not s.second) + (2 + s.place.size) → Differs (Within d at n) x y → Differs (Within s.place.disk (slot_at s.place (not s.second) + 1) (1 + s.place.size)) x y
behind s d at n x y same low high torn = differs_mono (Within d at n) (Within s.place.disk (slot_at s.place (not s.second) + 1) (1 + s.place.size)) x y
    (λ e i within. record { disk = within.disk ∙ same; from = omega (arith, within.from); to = omega (arith, within.to) }) torn

-- some bytes after a gate that is shut are torn
pub fill_torn : (s : Slots) (d at n : ℕ) (a b : View) → Always a (Stands (shut_of s)) → d ≡ s.place.disk → slot_at s.place (not s.second) + 1 ≤ at
    → at + n ≤ slot_at s.place (not s.second) + (2 + s.place.size)
    → Moves a b (Differs (Within d at n)) (Differs (Within d at n))
    → Moves a b (StaysShut s) (StaysShut s)
fill_torn s d at n a b stands same low high moves = moves_weaken a b _ _ (StaysShut s) (StaysShut s) moves
    (λ x y was torn. shuts_torn s x.disks y.disks (stands x was) (behind s d at n x.disks y.disks same low high torn))
    (λ x y was left torn. shuts_torn s x.disks y.disks (stands x was) (behind s d at n x.disks y.disks same low high torn))

-- the turn is written, and the value is being written
pub fill_both : (s : Slots) (d start n : ℕ) (a b c : View) → Always a (Stands (shut_of s)) → d ≡ s.place.disk → start ≡ slot_at s.place (not s.second) → n ≡ s.place.size
    → Moves a b (Differs (Within d (start + 1) 1)) (Differs (Within d (start + 1) 1))
    → Moves b c (Differs (Within d (start + 2) n)) (Differs (Within d (start + 2) n))
    → Moves a c (StaysShut s) (StaysShut s)
fill_both s d start n a b c stands same place len first second = moves_then a b c _ _ _ _ (StaysShut s) (StaysShut s) first second
    (λ x y was torn. shuts_torn s x.disks y.disks (stands x was) (one x.disks y.disks torn))
    (λ x y z was torn mid more. shuts_torn s x.disks z.disks (stands x was) (differs_again _ x.disks y.disks z.disks (one x.disks y.disks torn) (two y.disks z.disks more)))
    (λ x y z was torn mid more. shuts_torn s x.disks z.disks (stands x was) (differs_again _ x.disks y.disks z.disks (one x.disks y.disks torn) (two y.disks z.disks more)))
  where
    one : (x y : Disks) → Differs (Within d (start + 1) 1) x y → Differs (Within s.place.disk (slot_at s.place (not s.second) + 1) (1 + s.place.size)) x y
    one x y torn = behind s d (start + 1) 1 x y same (omega arith) (omega arith) torn

    two : (x y : Disks) → Differs (Within d (start + 2) n) x y → Differs (Within s.place.disk (slot_at s.place (not s.second) + 1) (1 + s.place.size)) x y
    two x y torn = behind s d (start + 2) n x y same (omega arith) (omega arith) torn

-- turn and value are stable after the gate
pub fill_done : (s : Slots) (fresh : List ℕ) (d start turn : ℕ) (a b c : View) → Always a (Stands (shut_of s)) → d ≡ s.place.disk → start ≡ slot_at s.place (not s.second)
    → length fresh ≡ s.place.size → turn ≡ next_turn s.turn
    → Moves a b (Differs (Within d (start + 1) 1)) (Differs (Within d (start + 1) 1))
    → (IsTrue a.tells → region b.now.disks d (start + 1) 1 ≡ turn ∷ [])
    → Moves b c (Differs (Within d (start + 2) (length fresh))) (PlacedThrough c d (start + 2) fresh)
    → (IsTrue b.tells → Torn (Within d (start + 2) (length fresh)) b.now c.now)
    → Moves a c (StaysShut s) (FillsSlot s fresh)
fill_done s fresh d start turn a b c stands same place len next first written second contents = moves_then a b c _ _ _ _ (StaysShut s) (FillsSlot s fresh) first second
    (λ x y was torn. shuts_torn s x.disks y.disks (stands x was) (one x.disks y.disks torn))
    (λ x y z was torn mid more. shuts_torn s x.disks z.disks (stands x was) (differs_again _ x.disks y.disks z.disks (one x.disks y.disks torn) (two y.disks z.disks more)))
    (λ x y z was torn mid put. record {
      shuts = shuts_torn s x.disks z.disks (stands x was) (differs_again _ x.disks y.disks z.disks (one x.disks y.disks torn) (two y.disks z.disks put.placed.differs));
      turn = turn_there z.disks (written was.told) (contents mid.told) put.read;
      value = value_there z.disks put.placed.there;
    })
  where
    one : (x y : Disks) → Differs (Within d (start + 1) 1) x y → Differs (Within s.place.disk (slot_at s.place (not s.second) + 1) (1 + s.place.size)) x y
    one x y torn = behind s d (start + 1) 1 x y same (omega arith) (omega arith) torn

    two : (x y : Disks) → Differs (Within d (start + 2) (length fresh)) x y → Differs (Within s.place.disk (slot_at s.place (not s.second) + 1) (1 + s.place.size)) x y
    two x y torn = behind s d (start + 2) (length fresh) x y same (omega arith) (omega arith) torn

    turn_there : (z : Disks) → region b.now.disks d (start + 1) 1 ≡ turn ∷ [] → Torn (Within d (start + 2) (length fresh)) b.now c.now → z d ≡ c.now.disks d
        → turn_of s.place (not s.second) z ≡ next_turn s.turn
    turn_there z there torn read = ap₂ (λ (e i : ℕ). byte z e i) (sym same) (ap (λ (i : ℕ). i + 1) (sym place))
        ∙ byte_of_disk c.now.disks z d (start + 1) read
        ∙ byte_beside d (start + 2) (length fresh) b.now.disks c.now.disks (start + 1) torn.disks (inl (omega arith))
        ∙ byte_in_region b.now.disks d (start + 1) 1 0 (start + 1) (turn ∷ []) (omega arith) there (omega arith)
        ∙ next

    value_there : (z : Disks) → region z d (start + 2) (length fresh) ≡ fresh → value_in s.place (not s.second) z ≡ fresh
    value_there z there = ap₂ (λ (e i : ℕ). region z e i s.place.size) (sym same) (ap (λ (i : ℕ). i + 2) (sym place)) ∙ ap (region z d (start + 2)) (sym len) ∙ there

-- the gate is torn while it opens
pub open_torn : (s : Slots) (fresh : List ℕ) (d start : ℕ) (a b : View) → Always a (IsSlotReady s fresh) → d ≡ s.place.disk → start ≡ slot_at s.place (not s.second)
    → Moves a b (Differs (Within d start 1)) (Differs (Within d start 1))
    → Moves a b (PutsIn s fresh) (PutsIn s fresh)
open_torn s fresh d start a b ready same place moves = moves_weaken a b _ _ (PutsIn s fresh) (PutsIn s fresh) moves
    (λ x y was torn. puts_torn s fresh x.disks y.disks (ready x was) (at_gate s d start x.disks y.disks same place torn))
    (λ x y was left torn. puts_torn s fresh x.disks y.disks (ready x was) (at_gate s d start x.disks y.disks same place torn))

-- the gate is open
pub open_done : (s : Slots) (fresh : List ℕ) (d start : ℕ) (a b : View) → Always a (IsSlotReady s fresh) → d ≡ s.place.disk → start ≡ slot_at s.place (not s.second)
    → Moves a b (Differs (Within d start 1)) (PlacedThrough b d start (165 ∷ []))
    → Moves a b (PutsIn s fresh) (IsPut b s (turned s) fresh)
open_done s fresh d start a b ready same place moves = moves_weaken a b _ _ (PutsIn s fresh) (IsPut b s (turned s) fresh) moves
    (λ x y was torn. puts_torn s fresh x.disks y.disks (ready x was) (at_gate s d start x.disks y.disks same place torn))
    (λ x y was left put. done x.disks y.disks (ready x was) put)
  where
    done : (x y : Disks) → IsSlotReady s fresh x → PlacedThrough b d start (165 ∷ []) x y → IsPut b s (turned s) fresh x y
    done x y now put =
        let torn = at_gate s d start x y same place put.placed.differs in
        let both = put_written s fresh x y now torn (gate_there s d start 165 y same place put.placed.there) in
        record { differs = (puts_torn s fresh x y now torn).differs; value = both.0; stands = both.1; read = subst (λ (e : ℕ). y e ≡ b.now.disks e) same put.read }

-- after the gate is shut every crash leaves it so
pub stands_shut : (s : Slots) (a b : View) → Always a (Stands s) → Moves a b (Keeps s) (Shuts s) → Always b (Stands (shut_of s))
stands_shut s a b stands moves = always_after a b (Keeps s) (Shuts s) (Stands s) (Stands (shut_of s)) moves stands (λ x y was shuts. shuts_stands s x y shuts)

-- after the slot is filled every crash leaves it ready
pub ready_after : (s : Slots) (fresh : List ℕ) (b c : View) → Always b (Stands (shut_of s)) → Moves b c (StaysShut s) (FillsSlot s fresh) → Always c (IsSlotReady s fresh)
ready_after s fresh b c stands moves = always_after b c (StaysShut s) (FillsSlot s fresh) (Stands (shut_of s)) (IsSlotReady s fresh) moves stands (λ x y was fills. fills_ready s fresh x y fills)

-- a put that stopped while the gate was shut
pub put_shut : (s : Slots) (fresh : List ℕ) (a b : View) → Always a (Stands s) → Moves a b (Keeps s) (Keeps s) → Moves a b (PutsIn s fresh) (PutsIn s fresh)
put_shut s fresh a b stands moves = moves_weaken a b (Keeps s) (Keeps s) (PutsIn s fresh) (PutsIn s fresh) moves
    (λ x y was keeps. keeps_puts s fresh x.disks y.disks (stands x was) keeps)
    (λ x y was left keeps. keeps_puts s fresh x.disks y.disks (stands x was) keeps)

-- a put that stopped while the slot was filled
pub put_fill : (s : Slots) (fresh : List ℕ) (a b c : View) → Always a (Stands s) → Moves a b (Keeps s) (Shuts s) → Moves b c (StaysShut s) (StaysShut s) → Moves a c (PutsIn s fresh) (PutsIn s fresh)
put_fill s fresh a b c stands first second = moves_then a b c (Keeps s) (Shuts s) (StaysShut s) (StaysShut s) (PutsIn s fresh) (PutsIn s fresh) first second
    (λ x y was keeps. keeps_puts s fresh x.disks y.disks (stands x was) keeps)
    (λ x y z was one mid two. keeps_puts s fresh x.disks z.disks (stands x was) (keeps_then s x.disks y.disks z.disks one.keeps two.keeps))
    (λ x y z was one mid two. keeps_puts s fresh x.disks z.disks (stands x was) (keeps_then s x.disks y.disks z.disks one.keeps two.keeps))

-- a put as far as its slot is filled
put_ready : (s : Slots) (fresh : List ℕ) (a b c : View) → Always a (Stands s) → Moves a b (Keeps s) (Shuts s) → Moves b c (StaysShut s) (FillsSlot s fresh) → Moves a c (Keeps s) (Keeps s)
put_ready s fresh a b c stands first second = moves_then a b c (Keeps s) (Shuts s) (StaysShut s) (FillsSlot s fresh) (Keeps s) (Keeps s) first second
    (λ x y was keeps. keeps)
    (λ x y z was one mid two. keeps_then s x.disks y.disks z.disks one.keeps two.keeps)
    (λ x y z was one mid two. keeps_then s x.disks y.disks z.disks one.keeps two.shuts.keeps)

-- a put that stopped while the gate opened
pub put_open : (s : Slots) (fresh : List ℕ) (a b c d : View) → Always a (Stands s) → Moves a b (Keeps s) (Shuts s) → Moves b c (StaysShut s) (FillsSlot s fresh)
    → Moves c d (PutsIn s fresh) (PutsIn s fresh) → Moves a d (PutsIn s fresh) (PutsIn s fresh)
put_open s fresh a b c d stands first second third = moves_then a c d (Keeps s) (Keeps s) (PutsIn s fresh) (PutsIn s fresh) (PutsIn s fresh) (PutsIn s fresh)
    (put_ready s fresh a b c stands first second) third
    (λ x y was keeps. keeps_puts s fresh x.disks y.disks (stands x was) keeps)
    (λ x y z was keeps mid puts. keeps_puts_then s fresh x.disks y.disks z.disks (stands x was) keeps puts)
    (λ x y z was keeps mid puts. keeps_puts_then s fresh x.disks y.disks z.disks (stands x was) keeps puts)

-- a put that is done is a part of one
pub put_part : (s t : Slots) (fresh : List ℕ) (v : View) (x y : Disks) → IsPut v s t fresh x y → PutsIn s fresh x y
put_part s t fresh v x y put = record { differs = put.differs; either = inr put.value }

-- a put that is done, where the program knows of the cell what it is turned to
pub put_done : (s t : Slots) (fresh : List ℕ) (a b c d : View) → t ≡ turned s → Always a (Stands s) → Moves a b (Keeps s) (Shuts s)
    → Moves b c (StaysShut s) (FillsSlot s fresh) → Moves c d (PutsIn s fresh) (IsPut d s (turned s) fresh) → Moves a d (PutsIn s fresh) (IsPut d s t fresh)
put_done s t fresh a b c d known stands first second third = moves_then a c d (Keeps s) (Keeps s) (PutsIn s fresh) (IsPut d s (turned s) fresh) (PutsIn s fresh)
    (IsPut d s t fresh) (put_ready s fresh a b c stands first second) third
    (λ x y was keeps. keeps_puts s fresh x.disks y.disks (stands x was) keeps)
    (λ x y z was keeps mid puts. keeps_puts_then s fresh x.disks y.disks z.disks (stands x was) keeps puts)
    (λ x y z was keeps mid put. record {
      differs = (keeps_puts_then s fresh x.disks y.disks z.disks (stands x was) keeps (put_part s (turned s) fresh d y.disks z.disks put)).differs;
      value = put.value;
      stands = subst (λ (u : Slots). Stands u z.disks) (sym known) put.stands;
      read = put.read;
    })

-- what a read gives after the gate was written, whatever the write answered
pub shut_contents : (s : Slots) (d start : ℕ) (a b : View) → s.other_open ≡ true → Always a (Stands s) → d ≡ s.place.disk → start ≡ slot_at s.place (not s.second)
    → (IsTrue a.tells → Torn (Within d start 1) a.now b.now) → IsTrue a.tells → Quiet (Keeps s) a.now b.now
shut_contents s d start a b open_ stands same place contents told =
    let torn = contents told in
    record { disks = keeps_torn s a.now.disks b.now.disks open_ (stands a.now (read_is_left a told)) (at_gate s d start a.now.disks b.now.disks same place torn.disks); said = torn.said }

-- what a read gives where the gate was shut before
pub shut_nothing : (s : Slots) (a : View) → Always a (Stands s) → IsTrue a.tells → Quiet (Keeps s) a.now a.now
shut_nothing s a stands told = record { disks = keeps_none s a.now.disks (stands a.now (read_is_left a told)); said = refl }

-- what a read gives after a write after the gate
pub fill_part : (s : Slots) (d at n : ℕ) (a b : View) → Always a (Stands (shut_of s)) → d ≡ s.place.disk → slot_at s.place (not s.second) + 1 ≤ at
    → at + n ≤ slot_at s.place (not s.second) + (2 + s.place.size)
    → (IsTrue a.tells → Torn (Within d at n) a.now b.now) → IsTrue a.tells → Quiet (StaysShut s) a.now b.now
fill_part s d at n a b stands same low high contents told =
    let torn = contents told in
    record { disks = shuts_torn s a.now.disks b.now.disks (stands a.now (read_is_left a told)) (behind s d at n a.now.disks b.now.disks same low high torn.disks); said = torn.said }

-- what a read gives after both
pub fill_contents : (s : Slots) (d start n : ℕ) (a b c : View) → Always a (Stands (shut_of s)) → d ≡ s.place.disk → start ≡ slot_at s.place (not s.second) → n ≡ s.place.size → b.tells ≡ a.tells
    → (IsTrue a.tells → Torn (Within d (start + 1) 1) a.now b.now) → (IsTrue b.tells → Torn (Within d (start + 2) n) b.now c.now) → IsTrue a.tells → Quiet (StaysShut s) a.now c.now
fill_contents s d start n a b c stands same place len tells first second told =
    let one = first told in
    let two = second (subst IsTrue (sym tells) told) in
    record {
      disks = shuts_torn s a.now.disks c.now.disks (stands a.now (read_is_left a told))
          (differs_again _ a.now.disks b.now.disks c.now.disks (behind s d (start + 1) 1 a.now.disks b.now.disks same (omega arith) (omega arith) one.disks)
          (behind s d (start + 2) n b.now.disks c.now.disks same (omega arith) (omega arith) two.disks));
      said = two.said ∙ one.said;
    }

-- what a read gives after the gate was opened, whatever the write answered
pub open_contents : (s : Slots) (fresh : List ℕ) (d start : ℕ) (a b : View) → Always a (IsSlotReady s fresh) → d ≡ s.place.disk → start ≡ slot_at s.place (not s.second)
    → (IsTrue a.tells → Torn (Within d start 1) a.now b.now) → IsTrue a.tells → Quiet (PutsIn s fresh) a.now b.now
open_contents s fresh d start a b ready same place contents told =
    let torn = contents told in
    record { disks = puts_torn s fresh a.now.disks b.now.disks (ready a.now (read_is_left a told)) (at_gate s d start a.now.disks b.now.disks same place torn.disks); said = torn.said }

-- what a read gives after a put that stopped while the gate was shut
pub put_shut_contents : (s : Slots) (fresh : List ℕ) (a b : View) → Always a (Stands s) → (IsTrue a.tells → Quiet (Keeps s) a.now b.now) → IsTrue a.tells → Quiet (PutsIn s fresh) a.now b.now
put_shut_contents s fresh a b stands contents told =
    let keeps = contents told in
    record { disks = keeps_puts s fresh a.now.disks b.now.disks (stands a.now (read_is_left a told)) keeps.disks; said = keeps.said }

-- and while the slot was filled
pub put_fill_contents : (s : Slots) (fresh : List ℕ) (a b c : View) → Always a (Stands s) → b.tells ≡ a.tells → (IsTrue a.tells → Quiet (Keeps s) a.now b.now)
    → (IsTrue b.tells → Quiet (StaysShut s) b.now c.now) → IsTrue a.tells → Quiet (PutsIn s fresh) a.now c.now
put_fill_contents s fresh a b c stands tells first second told =
    let one = first told in
    let two = second (subst IsTrue (sym tells) told) in
    record {
      disks = keeps_puts s fresh a.now.disks c.now.disks (stands a.now (read_is_left a told))
          (keeps_then s a.now.disks b.now.disks c.now.disks one.disks two.disks.keeps);
      said = two.said ∙ one.said;
    }

-- and while the gate opened, or after
pub put_open_contents : (s : Slots) (fresh : List ℕ) (a b c d : View) → Always a (Stands s) → b.tells ≡ a.tells → c.tells ≡ b.tells
    → (IsTrue a.tells → Quiet (Keeps s) a.now b.now) → (IsTrue b.tells → Quiet (StaysShut s) b.now c.now) → (IsTrue c.tells → Quiet (PutsIn s fresh) c.now d.now)
    → IsTrue a.tells → Quiet (PutsIn s fresh) a.now d.now
put_open_contents s fresh a b c d stands tells tells' first second third told =
    let one = first told in
    let told' : IsTrue b.tells = subst IsTrue (sym tells) told in
    let two = second told' in
    let three = third (subst IsTrue (sym tells') told') in
    record {
      disks = keeps_puts_then s fresh a.now.disks c.now.disks d.now.disks (stands a.now (read_is_left a told)) (keeps_then s a.now.disks b.now.disks c.now.disks one.disks two.disks.keeps) three.disks;
      said = three.said ∙ (two.said ∙ one.said);
    }
