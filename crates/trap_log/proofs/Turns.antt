-- How the calls of a log follow one another: each keeps the state that it stands for, or turns it into the next one.
use Rattle.std.proofs.Common.{◌≡◌, ◌⊎◌, ℕ, List, false, IsTrue, inl, inr, ⊎_elim, refl, sym, subst, ◌∙◌, arith}
use Rattle.trap_bank.specs.Disks.{Disks, Contents, View, Area, Differs}
use Rattle.trap_bank.specs.Calls.{MayLeave}
use Rattle.trap_bank.specs.Steps.{Moves, Same, Always}
use Rattle.trap_bank.proofs.Moves.{moves_then, moves_weaken}
use Rattle.trap_bank.proofs.Regions.{differs_mono}
use Rattle.trap_cell.specs.Slots.{Slots}
use Rattle.trap_cell.specs.Steps.{PutsIn, IsPut}
use Rattle.trap_format.specs.HeadValue.{head_value}
use Rattle.trap_format.specs.declared.head.Head.{Head}
use Rattle.trap_index.specs.Indexed.{Indexed}
use Rattle.trap_index.specs.Describes.{Describes}
use Rattle.trap_model.specs.declared.history.State.{State}
use Rattle.trap_model.specs.declared.numbers.Geometry.{Geometry}
use Rattle.trap_stage.specs.Pending.{pending}
use Rattle.trap_stage.specs.Staged.{Staged}
use Rattle.trap_mount.specs.Holding.{head_place, MatchesHead, HoldsBy, Outside}
use Rattle.trap_log.specs.Growing.{IsLaterHead}
use Rattle.trap_log.specs.Calls.{Mounted, StandsFor, HoldsLike, SameArray, AtAnyMoment, StandsAfterCall}
use Rattle.trap_mount.proofs.Frames.{holds_outside, cell_stands}
use Rattle.trap_mount.proofs.Puts.{put_holds, put_held}

-- ---- the head
-- it may stay, and one call may follow another
pub later_same : (h : Head) → IsLaterHead h h
later_same h = record { grows = record { first = refl; base_time = refl; first_off = refl; end_off = omega arith; last = omega arith; drained = omega arith }; lost = refl; rebuilt = refl }

pub later_then : (h t u : Head) → IsLaterHead h t → IsLaterHead t u → IsLaterHead h u
later_then h t u one two = record {
  grows = record {
    first = two.grows.first ∙ one.grows.first;
    base_time = two.grows.base_time ∙ one.grows.base_time;
    first_off = two.grows.first_off ∙ one.grows.first_off;
    end_off = omega (arith, one.grows.end_off, two.grows.end_off);
    last = omega (arith, one.grows.last, two.grows.last);
    drained = omega (arith, one.grows.drained, two.grows.drained);
  };
  lost = two.lost ∙ one.lost;
  rebuilt = two.rebuilt ∙ one.rebuilt;
}

-- ---- inside a call, where something is known of the state
-- at a moment
abbrev pub MayTurnIf : Mounted → View → (State → Type 0) → (State → State) → Disks → Disks → Type 0
MayTurnIf a v asks next old new =
    (s : State) → Always v (StandsFor a s) → asks s → HoldsLike a.g a.head s new ⊎ HoldsLike a.g a.head (next s) new

-- afterwards
abbrev pub HasTurnedIf : Mounted → Mounted → View → (State → Type 0) → (State → State) → Disks → Disks → Type 0
HasTurnedIf a b v asks next old new = (s : State) → Always v (StandsFor a s) → asks s → StandsFor b (next s) new

-- the array stands for the state still
abbrev pub StillIf : Mounted → View → (State → Type 0) → Disks → Disks → Type 0
StillIf a v asks old new = (s : State) → Always v (StandsFor a s) → asks s → StandsFor a s new

-- a running array, with this head in its cell
abbrev pub put_as : Mounted → Head → Slots → List Staged → Indexed → Mounted
put_as a t cell writes index = record {
  g = a.g;
  head = t;
  cell = cell;
  pending = writes;
  index = index;
  blocks = 6;
  free = 6;
  is_stopped = false;
}

-- nothing is known
abbrev pub Whatever : State → Type 0
Whatever s = Unit {0}

module _ (a : Mounted) where
  pub holds_still : (s : State) (x : Disks) → StandsFor a s x → HoldsLike a.g a.head s x
  holds_still s x stands = record { head = a.head; by = stands.by; follows = later_same a.head }

  pub holds_next : (b : Mounted) → SameArray a b → (s : State) (x : Disks) → StandsFor b s x → HoldsLike a.g a.head s x
  holds_next b on s x stands = record {
    head = b.head;
    by = subst (λ (g : Geometry). HoldsBy g b.head s x) on.g stands.by;
    follows = on.follows;
  }

  pub holds_along : (b : Mounted) → SameArray a b → (s : State) (x : Disks) → HoldsLike b.g b.head s x → HoldsLike a.g a.head s x
  holds_along b on s x holds = record {
    head = holds.head;
    by = subst (λ (g : Geometry). HoldsBy g holds.head s x) on.g holds.by;
    follows = later_then a.head b.head holds.head on.follows holds.follows;
  }

  module _ (asks : State → Type 0) where
    -- only bytes changed that don't matter
    pub still_beside : (area : Area) (v w : View) → a.cell.place ≡ head_place
        → ((s : State) (x : Contents) → MayLeave v x → StandsFor a s x.disks → asks s → (e i : ℕ) → area e i → Outside a.g a.head s e i)
        → Moves v w (Differs area) (Differs area) → Moves v w (StillIf a v asks) (StillIf a v asks)
    still_beside area v w is_head apart moves =
        moves_weaken v w (Differs area) (Differs area) (StillIf a v asks) (StillIf a v asks) moves
        (λ x y was torn s always asked. still s x.disks y.disks (always x was) (apart s x was (always x was) asked) torn)
        (λ x y was left torn s always asked. still s x.disks y.disks (always x was) (apart s x was (always x was) asked) torn)
      where
        still : (s : State) (x y : Disks) → StandsFor a s x → ((e i : ℕ) → area e i → Outside a.g a.head s e i) → Differs area x y → StandsFor a s y
        still s x y stands within torn =
            let out = differs_mono area (Outside a.g a.head s) x y within torn in
            record {
              by = holds_outside a.g a.head s x y stands.by out;
              cell = cell_stands (Outside a.g a.head s) x y out (λ e i inside beside. beside.cell inside) a.cell is_head stands.cell;
              pending = stands.pending;
              index = stands.index;
            }

    pub still_same : (v w : View) → Moves v w Same Same → Moves v w (StillIf a v asks) (StillIf a v asks)
    still_same v w moves =
        moves_weaken v w Same Same (StillIf a v asks) (StillIf a v asks) moves
        (λ x y was same s always asked. subst (λ (d : Disks). StandsFor a s d) (sym same) (always x was))
        (λ x y was left same s always asked. subst (λ (d : Disks). StandsFor a s d) (sym same) (always x was))

    -- so every crash leaves it so
    pub always_still : (v w : View) (during : Disks → Disks → Type 0) → Moves v w during (StillIf a v asks) → (s : State) → Always v (StandsFor a s) → asks s → Always w (StandsFor a s)
    always_still v w during moves s always asked c left = let from = moves.now c left in from.by.disks s always asked

    pub still_then_still : (u v w : View) → Moves u v (StillIf a u asks) (StillIf a u asks) → Moves v w (StillIf a v asks) (StillIf a v asks) → Moves u w (StillIf a u asks) (StillIf a u asks)
    still_then_still u v w first second =
        moves_then u v w (StillIf a u asks) (StillIf a u asks) (StillIf a v asks) (StillIf a v asks) (StillIf a u asks) (StillIf a u asks) first second
        (λ x y was step. step)
        (λ x y z was step mid more s always asked. more s (always_still u v (StillIf a u asks) first s always asked) asked)
        (λ x y z was step mid more s always asked. more s (always_still u v (StillIf a u asks) first s always asked) asked)

    module _ (next : State → State) where
      pub still_may : (v w : View) → Moves v w (StillIf a v asks) (StillIf a v asks) → Moves v w (MayTurnIf a v asks next) (MayTurnIf a v asks next)
      still_may v w moves =
          moves_weaken v w (StillIf a v asks) (StillIf a v asks) (MayTurnIf a v asks next) (MayTurnIf a v asks next) moves
          (λ x y was still s always asked. inl (holds_still s y.disks (still s always asked)))
          (λ x y was left still s always asked. inl (holds_still s y.disks (still s always asked)))

      pub still_then_may : (u v w : View) → Moves u v (StillIf a u asks) (StillIf a u asks) → Moves v w (MayTurnIf a v asks next) (MayTurnIf a v asks next)
          → Moves u w (MayTurnIf a u asks next) (MayTurnIf a u asks next)
      still_then_may u v w first second =
          moves_then u v w (StillIf a u asks) (StillIf a u asks) (MayTurnIf a v asks next) (MayTurnIf a v asks next) (MayTurnIf a u asks next) (MayTurnIf a u asks next) first second
          (λ x y was step s always asked. inl (holds_still s y.disks (step s always asked)))
          (λ x y z was step mid more s always asked. more s (always_still u v (StillIf a u asks) first s always asked) asked)
          (λ x y z was step mid more s always asked. more s (always_still u v (StillIf a u asks) first s always asked) asked)

      pub still_then_has : (b : Mounted) (u v w : View) → Moves u v (StillIf a u asks) (StillIf a u asks)
          → Moves v w (MayTurnIf a v asks next) (HasTurnedIf a b v asks next) → Moves u w (MayTurnIf a u asks next) (HasTurnedIf a b u asks next)
      still_then_has b u v w first second =
          moves_then u v w (StillIf a u asks) (StillIf a u asks) (MayTurnIf a v asks next) (HasTurnedIf a b v asks next) (MayTurnIf a u asks next) (HasTurnedIf a b u asks next) first second
          (λ x y was step s always asked. inl (holds_still s y.disks (step s always asked)))
          (λ x y z was step mid more s always asked. more s (always_still u v (StillIf a u asks) first s always asked) asked)
          (λ x y z was step mid more s always asked. more s (always_still u v (StillIf a u asks) first s always asked) asked)

      -- where it is known of each state that the array stands for, nothing is left to ask
      pub asked_may : (v w : View) → ((s : State) → IsTrue v.tells → Always v (StandsFor a s) → asks s) → Moves v w (MayTurnIf a v asks next) (MayTurnIf a v asks next)
          → Moves v w (AtAnyMoment a v next) (AtAnyMoment a v next)
      asked_may v w known moves =
          moves_weaken v w (MayTurnIf a v asks next) (MayTurnIf a v asks next) (AtAnyMoment a v next) (AtAnyMoment a v next) moves
          (λ x y was step s always. step s always (known s was.told always))
          (λ x y was left step s always. step s always (known s was.told always))

      pub asked_has : (b : Mounted) (v w : View) → ((s : State) → IsTrue v.tells → Always v (StandsFor a s) → asks s)
          → Moves v w (MayTurnIf a v asks next) (HasTurnedIf a b v asks next) → Moves v w (AtAnyMoment a v next) (StandsAfterCall a b v next)
      asked_has b v w known moves =
          moves_weaken v w (MayTurnIf a v asks next) (HasTurnedIf a b v asks next) (AtAnyMoment a v next) (StandsAfterCall a b v next) moves
          (λ x y was step s always. step s always (known s was.told always))
          (λ x y was left step s always. step s always (known s was.told always))

      -- a put of a head that the disks fit already
      module _ (t : Head) (v w : View) (is_head : a.cell.place ≡ head_place) (later : IsLaterHead a.head t)
          (fits : (s : State) (x : Contents) → MayLeave v x → StandsFor a s x.disks → asks s → MatchesHead a.g t (next s) x.disks) where
        put_may_at : (s : State) (x y : Contents) → MayLeave v x → StandsFor a s x.disks → asks s → PutsIn a.cell (head_value t) x.disks y.disks
            → HoldsLike a.g a.head s y.disks ⊎ HoldsLike a.g a.head (next s) y.disks
        put_may_at s x y was stands asked puts =
            ⊎_elim (λ old. inl (record { head = a.head; by = old; follows = later_same a.head }))
            (λ new. inr (record { head = t; by = new; follows = later }))
            (put_holds a.g a.head t s (next s) a.cell is_head x.disks y.disks stands.by (fits s x was stands asked) puts)

        pub put_may : Moves v w (PutsIn a.cell (head_value t)) (PutsIn a.cell (head_value t)) → Moves v w (MayTurnIf a v asks next) (MayTurnIf a v asks next)
        put_may moves =
            moves_weaken v w (PutsIn a.cell (head_value t)) (PutsIn a.cell (head_value t)) (MayTurnIf a v asks next) (MayTurnIf a v asks next) moves
            (λ x y was puts s always asked. put_may_at s x y was (always x was) asked puts)
            (λ x y was left puts s always asked. put_may_at s x y was (always x was) asked puts)

        pub put_has : (cell : Slots) (writes : List Staged) (index : Indexed)
            → ((s : State) (x : Contents) → MayLeave v x → StandsFor a s x.disks → asks s → writes ≡ pending a.g (next s) t.drained)
            → ((s : State) (x : Contents) → MayLeave v x → StandsFor a s x.disks → asks s → Describes index (next s))
            → Moves v w (PutsIn a.cell (head_value t)) (IsPut w a.cell cell (head_value t))
            → Moves v w (MayTurnIf a v asks next) (HasTurnedIf a (put_as a t cell writes index) v asks next)
        put_has cell writes index are told moves =
            moves_weaken v w (PutsIn a.cell (head_value t)) (IsPut w a.cell cell (head_value t)) (MayTurnIf a v asks next)
            (HasTurnedIf a (put_as a t cell writes index) v asks next) moves
            (λ x y was puts s always asked. put_may_at s x y was (always x was) asked puts)
            (λ x y was left put s always asked. record {
              by = put_held a.g a.head t s (next s) a.cell is_head x.disks y.disks (always x was).by (fits s x was (always x was) asked) w cell put;
              cell = put.stands;
              pending = are s x was (always x was) asked;
              index = told s x was (always x was) asked;
            })

-- ---- one call after another
-- every crash leaves the next state
pub always_turned : (a b : Mounted) (v w : View) (next : State → State) (during : Disks → Disks → Type 0) → Moves v w during (StandsAfterCall a b v next) → (s : State)
    → Always v (StandsFor a s) → Always w (StandsFor b (next s))
always_turned a b v w next during moves s always c left = let from = moves.now c left in from.by.disks s always

module _ (a b : Mounted) (on : SameArray a b) (u v w : View) (next : State → State) where
  -- first one that keeps the state
  module _ (first : Moves u v (AtAnyMoment a u (λ s. s)) (StandsAfterCall a b u (λ s. s))) where
    abbrev kept_at : (s : State) (y : Disks) → HoldsLike a.g a.head s y ⊎ HoldsLike a.g a.head s y → HoldsLike a.g a.head s y ⊎ HoldsLike a.g a.head (next s) y
    kept_at s y either = ⊎_elim inl inl either

    abbrev along : (s : State) (z : Disks) → HoldsLike b.g b.head s z ⊎ HoldsLike b.g b.head (next s) z → HoldsLike a.g a.head s z ⊎ HoldsLike a.g a.head (next s) z
    along s z either = ⊎_elim (λ old. inl (holds_along a b on s z old)) (λ new. inr (holds_along a b on (next s) z new)) either

    pub keep_then_may : Moves v w (AtAnyMoment b v next) (AtAnyMoment b v next) → Moves u w (AtAnyMoment a u next) (AtAnyMoment a u next)
    keep_then_may second =
        moves_then u v w (AtAnyMoment a u (λ s. s)) (StandsAfterCall a b u (λ s. s)) (AtAnyMoment b v next) (AtAnyMoment b v next) (AtAnyMoment a u next) (AtAnyMoment a u next) first second
        (λ x y was step s always. kept_at s y.disks (step s always))
        (λ x y z was step mid more s always. along s z.disks (more s (always_turned a b u v (λ s. s) (AtAnyMoment a u (λ s. s)) first s always)))
        (λ x y z was step mid more s always. along s z.disks (more s (always_turned a b u v (λ s. s) (AtAnyMoment a u (λ s. s)) first s always)))

    pub keep_then_has : (c : Mounted) → Moves v w (AtAnyMoment b v next) (StandsAfterCall b c v next) → Moves u w (AtAnyMoment a u next) (StandsAfterCall a c u next)
    keep_then_has c second =
        moves_then u v w (AtAnyMoment a u (λ s. s)) (StandsAfterCall a b u (λ s. s)) (AtAnyMoment b v next) (StandsAfterCall b c v next) (AtAnyMoment a u next)
        (StandsAfterCall a c u next) first second
        (λ x y was step s always. kept_at s y.disks (step s always))
        (λ x y z was step mid more s always. along s z.disks (more s (always_turned a b u v (λ s. s) (AtAnyMoment a u (λ s. s)) first s always)))
        (λ x y z was step mid more s always. more s (always_turned a b u v (λ s. s) (AtAnyMoment a u (λ s. s)) first s always))

  -- first one that turns it
  module _ (first : Moves u v (AtAnyMoment a u next) (StandsAfterCall a b u next)) where
    abbrev onward : (s : State) (z : Disks) → HoldsLike b.g b.head (next s) z ⊎ HoldsLike b.g b.head (next s) z → HoldsLike a.g a.head s z ⊎ HoldsLike a.g a.head (next s) z
    onward s z either = inr (holds_along a b on (next s) z (⊎_elim (λ old. old) (λ new. new) either))

    pub then_keep_may : Moves v w (AtAnyMoment b v (λ s. s)) (AtAnyMoment b v (λ s. s)) → Moves u w (AtAnyMoment a u next) (AtAnyMoment a u next)
    then_keep_may second =
        moves_then u v w (AtAnyMoment a u next) (StandsAfterCall a b u next) (AtAnyMoment b v (λ s. s)) (AtAnyMoment b v (λ s. s)) (AtAnyMoment a u next) (AtAnyMoment a u next) first second
        (λ x y was step. step)
        (λ x y z was step mid more s always. onward s z.disks (more (next s) (always_turned a b u v next (AtAnyMoment a u next) first s always)))
        (λ x y z was step mid more s always. onward s z.disks (more (next s) (always_turned a b u v next (AtAnyMoment a u next) first s always)))

    pub then_keep_has : (c : Mounted) → Moves v w (AtAnyMoment b v (λ s. s)) (StandsAfterCall b c v (λ s. s)) → Moves u w (AtAnyMoment a u next) (StandsAfterCall a c u next)
    then_keep_has c second =
        moves_then u v w (AtAnyMoment a u next) (StandsAfterCall a b u next) (AtAnyMoment b v (λ s. s)) (StandsAfterCall b c v (λ s. s)) (AtAnyMoment a u next)
        (StandsAfterCall a c u next) first second
        (λ x y was step. step)
        (λ x y z was step mid more s always. onward s z.disks (more (next s) (always_turned a b u v next (AtAnyMoment a u next) first s always)))
        (λ x y z was step mid more s always. more (next s) (always_turned a b u v next (AtAnyMoment a u next) first s always))

-- a run that changes nothing keeps the state
pub same_keeps : (a : Mounted) (v w : View) → Moves v w Same Same → Moves v w (AtAnyMoment a v (λ s. s)) (StandsAfterCall a a v (λ s. s))
same_keeps a v w moves =
    moves_weaken v w Same Same (AtAnyMoment a v (λ s. s)) (StandsAfterCall a a v (λ s. s)) moves
    (λ x y was same s always. inl (holds_still a s y.disks (subst (λ (d : Disks). StandsFor a s d) (sym same) (always x was))))
    (λ x y was left same s always. subst (λ (d : Disks). StandsFor a s d) (sym same) (always x was))

-- and so it may be at any moment
pub turned_may : (a b : Mounted) → SameArray a b → (v w : View) (next : State → State) → Moves v w (AtAnyMoment a v next) (StandsAfterCall a b v next)
    → Moves v w (AtAnyMoment a v next) (AtAnyMoment a v next)
turned_may a b on v w next moves =
    moves_weaken v w (AtAnyMoment a v next) (StandsAfterCall a b v next) (AtAnyMoment a v next) (AtAnyMoment a v next) moves
    (λ x y was step. step)
    (λ x y was left step s always. inr (holds_next a b on (next s) y.disks (step s always)))

-- whatever the next state
pub same_may : (a : Mounted) (v w : View) (next : State → State) → Moves v w Same Same → Moves v w (AtAnyMoment a v next) (AtAnyMoment a v next)
same_may a v w next moves =
    moves_weaken v w Same Same (AtAnyMoment a v next) (AtAnyMoment a v next) moves
    (λ x y was same s always. inl (holds_still a s y.disks (subst (λ (d : Disks). StandsFor a s d) (sym same) (always x was))))
    (λ x y was left same s always. inl (holds_still a s y.disks (subst (λ (d : Disks). StandsFor a s d) (sym same) (always x was))))
