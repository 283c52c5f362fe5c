-- How a session has stopped, by other ways in which disks hold states.
use Rattle.std.proofs.Common.{◌≡◌, inl, inr, ⊎_elim, ℕ, List, ◌++◌, Some, sym, ap, subst, ◌∙◌}
use Rattle.trap_bank.specs.Disks.{Contents, Disks, View}
use Rattle.trap_bank.specs.Stream.{Stream}
use Rattle.trap_format.specs.declared.head.Head.{Head}
use Rattle.trap_model.specs.ArrayStep.{step}
use Rattle.trap_model.specs.declared.numbers.Geometry.{Geometry}
use Rattle.trap_model.specs.declared.history.State.{State}
use Rattle.trap_script.specs.Lines.{lines}
use Rattle.trap_script.specs.Walk.{first_texts, all_texts}
use Rattle.trap_array.specs.Holding.{Holds, HoldsBy}
use Rattle.trap_array.specs.Calls.{Mounted, HoldsLike}
use Rattle.trap_session.specs.declared.outcome.SessionFault.TheVariants as serving
use Rattle.trap_session.specs.Store.{Store, store_of, array_store}
use Rattle.trap_session.proofs.Arrays.{torn_also}
use Rattle.trap_session.specs.Serving.{StopsAfter, StopsTorn}
use Rattle.trap_cli.specs.declared.outcome.Ended.{Ended}
use Rattle.trap_cli.specs.declared.outcome.Ended.TheVariants.{Done, NotMounted, Stopped, Memory}
use Rattle.trap_cli.specs.Said.{held_store, SessionSaid}
use Rattle.trap_cli.specs.Left.{WasOut, HoldsSince}

module _ (g : Geometry) (has also : Disks → State → Type 0) (f : (disks : Disks) (t : State) → has disks t → also disks t)
    (s : State) (input : List ℕ) (x x' y : Contents) (same : x.said ≡ x'.said) where
  after_by : (j : ℕ) → StopsAfter (store_of g has) s input j x y → StopsAfter (store_of g also) s input j x' y
  after_by j after = record {
    within = after.within;
    said = after.said ∙ ap (λ (l : List ℕ). l ++ first_texts (step g) s (lines g.block input) j) same;
    holds = f y.disks _ after.holds;
  }

  torn_by : StopsTorn (store_of g has) s input x y → StopsTorn (store_of g also) s input x' y
  torn_by stops = record {
    j = stops.j;
    asked = stops.asked;
    rest = stops.rest;
    next = stops.next;
    said = stops.said ∙ ap (λ (l : List ℕ). l ++ first_texts (step g) s (lines g.block input) stops.j) same;
    torn = ⊎_elim (λ holds. inl (f y.disks _ holds)) (λ holds. inr (f y.disks _ holds)) stops.torn;
  }

  -- the same, where a state is held so, and as much was said before
  pub stops_by : (ended : Ended) (from to : Stream) → SessionSaid (store_of g has) ended s input x y from to
      → SessionSaid (store_of g also) ended s input x' y from to
  stops_by Done from to stops = record {
    said = stops.said ∙ ap (λ (l : List ℕ). l ++ all_texts (step g) s (lines g.block input)) same;
    holds = f y.disks _ stops.holds;
  }
  stops_by (NotMounted why) from to stops = (stops.0, after_by 0 stops.1)
  stops_by (Stopped (serving.Array why)) from to stops = torn_also (store_of g has) (store_of g also) why s s input x x' y from to torn_by stops
  stops_by (Stopped serving.ReadFault) from to stops = after_by _ stops
  stops_by (Stopped serving.WriteFault) from to stops = record {
    part = stops.part;
    rest = stops.rest;
    said = stops.said ∙ ap (λ (l : List ℕ). l ++ stops.part) same;
    front = stops.front;
    holds = ⊎_elim (λ holds. inl (f y.disks _ holds)) (λ holds. inr (f y.disks _ holds)) stops.holds;
  }
  stops_by (Stopped serving.TooLong) from to stops = after_by _ stops
  stops_by Memory from to stops = after_by 0 stops
  stops_by ended from to stops = absurd stops

-- what a mounted array's session holds, the disks hold
pub stops_held : (array : Mounted) (g : Geometry) (ended : Ended) (s : State) (input : List ℕ) (x x' y : Contents) (from to : Stream) → array.g ≡ g
    → x.said ≡ x'.said → SessionSaid (array_store array) ended s input x y from to → SessionSaid (held_store g) ended s input x' y from to
stops_held array g ended s input x x' y from to is same stops =
    subst (λ (g : Geometry). SessionSaid (held_store g) ended s input x' y from to) is
    (stops_by array.g (λ disks t. HoldsLike array.g array.head t disks) (λ disks t. Holds array.g t disks)
    (λ disks t like. record { head = like.head; by = like.by }) s input x x' y same ended from to stops)

-- a member that this head calls lost was out on entry
abbrev pub LostOn : Geometry → View → Head → Type 0
LostOn g old k = (h : Head) (s : State) → HoldsBy g h s old.now.disks → (m : ℕ) → k.lost ≡ Some m → WasOut h old m

-- the states of an array on disks that hold them, by a head that calls no member lost but one that was out on entry
abbrev pub since_store : Geometry → View → Store State
since_store g old = store_of g (λ disks t. HoldsSince g old disks t)

pub since_like : (g : Geometry) (old : View) (h : Head) (disks : Disks) (t : State) → LostOn g old h → HoldsLike g h t disks → HoldsSince g old disks t
since_like g old h disks t lost like = record {
  head = like.head;
  by = like.by;
  lost = λ k s was m is. lost k s was m (sym like.follows.lost ∙ is);
}

pub stops_since : (array : Mounted) (g : Geometry) (old : View) (ended : Ended) (s : State) (input : List ℕ) (x x' y : Contents) (from to : Stream) → array.g ≡ g
    → LostOn g old array.head → x.said ≡ x'.said → SessionSaid (array_store array) ended s input x y from to
    → SessionSaid (since_store g old) ended s input x' y from to
stops_since array g old ended s input x x' y from to is lost same stops =
    stops_by g (λ disks t. HoldsLike g array.head t disks) (λ disks t. HoldsSince g old disks t)
    (λ disks t like. since_like g old array.head disks t lost like) s input x x' y same ended from to
    (subst (λ (g : Geometry). SessionSaid (store_of g (λ disks t. HoldsLike g array.head t disks)) ended s input x y from to) is stops)
