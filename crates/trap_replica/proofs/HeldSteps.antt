-- How held frames are applied, one after the other.
use Rattle.std.proofs.Common.{◌≡◌, ⊎_elim, ℕ, zero, suc, ◌+◌, ◌^◌, ◌<◌, if◌then◌else◌, Bool, true}
use Rattle.std.proofs.Common.{List, ◌∷◌, length, ◌≤◌, IsTrue, refl, sym, ap, subst, ◌∙◌, arith}
use Rattle.std.proofs.lemmas.Bool.Decides.{nat_tests}
use Rattle.std.specs.List.{All}
use Rattle.std.proofs.lemmas.List.Elements.{All-head, All-tail, All-weaker}
use Rattle.trap_bank.specs.Disks.{View, Disks, Quiet}
use Rattle.trap_bank.specs.Steps.{Moves}
use Rattle.trap_bank.specs.Called.{CalledTimes, CalledAtMost}
use Rattle.trap_bank.proofs.Called.{not_called, called_then, called_at_most, at_most_then, at_most_more}
use Rattle.trap_bank.proofs.Moves.{no_moves, moves_then, moves_weaken}
use Rattle.trap_cell.specs.Slots.{Slots, turned}
use Rattle.trap_cell.specs.Steps.{put_calls}
use Rattle.trap_format.specs.declared.shape.Shape.{Shape}
use Rattle.trap_model.specs.Receiver.{Receiver, applied, xored}
use Rattle.trap_model.specs.declared.arrival.Arrival.{Arrival}
use Rattle.trap_replica.specs.Holding.{HeldFrames, Ascends, has_next, Suits, SuitAll}
use Rattle.trap_replica.specs.OnDisk.{HoldsImageBy, ReplicaHolds}
use Rattle.trap_replica.specs.Applying.{Elsewhere, Leaves, HoldsEither, take_calls, cell_after}
use Rattle.trap_replica.specs.Standing.{IsStoreReady, Mirrors, step_from, applied_held, seen, HoldsApplied, HasAppliedHeld, AppliesHeld}
use Rattle.trap_replica.specs.declared.store.Store.{Store}
use Rattle.trap_replica.proofs.OneFrame.{leaves_none, else_then, touch_then}

-- some steps, and then more
steps_add : (m n : ℕ) (r : Receiver) → applied_held m (applied_held n r) ≡ applied_held (m + n) r
steps_add zero n r = let e : n ≡ 0 + n = omega arith in ap (λ (k : ℕ). applied_held k r) e
steps_add (suc m) n r =
    let e : suc (m + n) ≡ suc m + n = omega arith in
    ap (λ (x : Receiver). step_from x x.held) (steps_add m n r) ∙ ap (λ (k : ℕ). applied_held k r) e

-- a crash between further steps is one between all of them
passed_later : (s : Shape) (n : ℕ) (r : Receiver) (x : Disks) → HoldsApplied s (applied_held n r) x → HoldsApplied s r x
passed_later s n r x holds = record {
  count = holds.count + n;
  holds = subst (λ (t : Receiver). ReplicaHolds s t.number t.time t.image x) (steps_add holds.count n r) holds.holds;
}

-- one run after another, of which each leaves something of its own
leaves_join : (a b c : View) (first second both : Disks → Type 0) → Leaves a b first → Leaves b c second → ((x : Disks) → first x → both x) → ((x : Disks) → second x → both x) → Leaves a c both
leaves_join a b c first second both one two less more = moves_then a b c (λ x y. first y) (λ x y. first y) (λ x y. second y) (λ x y. second y) (λ x y. both y) (λ x y. both y) one two
    (λ x y was left. less y.disks left)
    (λ x y z was left mid next. more z.disks next)
    (λ x y z was left mid next. more z.disks next)

leaves_wider : (a b : View) (first both : Disks → Type 0) → Leaves a b first → ((x : Disks) → first x → both x) → Leaves a b both
leaves_wider a b first both one less = moves_weaken a b (λ x y. first y) (λ x y. first y) (λ x y. both y) (λ x y. both y) one
    (λ x y was left. less y.disks left)
    (λ x y was mid left. less y.disks left)

-- the cell after some puts, and then more
pub cells_add : (c : Slots) (m n : ℕ) → cell_after (cell_after c n) m ≡ cell_after c (m + n)
cells_add c zero n = let e : n ≡ 0 + n = omega arith in ap (cell_after c) e
cells_add c (suc m) n =
    let e : suc (m + n) ≡ suc m + n = omega arith in
    ap turned (cells_add c m n) ∙ ap (cell_after c) e

-- and the calls for them
pub calls_add : (c : Slots) (m n : ℕ) → take_calls c n + take_calls (cell_after c n) m ≡ take_calls c (m + n)
calls_add c m zero = let e : m ≡ m + 0 = omega arith in omega (arith, ap (take_calls c) e)
calls_add c zero (suc n) = let e : suc n ≡ 0 + suc n = omega arith in omega (arith, ap (take_calls c) e)
calls_add c (suc m) (suc n) =
    let e : suc (m + suc n) ≡ suc m + suc n = omega arith in
    omega (arith, ap (take_calls c) e)

one_call : (c : Slots) → 3 + put_calls c ≡ take_calls c 1
one_call c = omega arith

-- nothing was applied yet
pub passed_none : (p : Store) (h : HeldFrames) (a : View) → IsStoreReady p a → SuitAll p.shape p.number p.number h → HasAppliedHeld p p h h a a
passed_none p h a ready suit = record {
  count = 0;
  is = λ image. refl;
  mirrors = λ image mirrors. mirrors;
  ready = ready;
  suit = suit;
  number = omega arith;
  cell = refl;
  fewer = omega arith;
  calls = not_called a;
}

pub passes_none : (p : Store) (h : HeldFrames) (a : View) → AppliesHeld p p h a a
passes_none p h a = record {
  shape = refl;
  sizes = λ e. refl;
  elsewhere = no_moves a Elsewhere Elsewhere (λ x was e other. refl);
  touches = λ told. record { disks = λ e other. refl; said = refl };
  most = called_at_most 0 (take_calls p.cell (length h.frames)) a a (omega arith) (not_called a);
  any_moment = λ image mirrors. leaves_none a (HoldsImageBy p.shape p.block p.number p.time image) (HoldsApplied p.shape (seen p h image)) mirrors.holds
      (λ x has. record { count = 0; holds = (p.block, has) });
}

-- some were applied, and then more
pub passed_then : (p q s : Store) (h k l : HeldFrames) (a b c : View) → HasAppliedHeld p q h k a b → HasAppliedHeld q s k l b c → HasAppliedHeld p s h l a c
passed_then p q s h k l a b c first second = record {
  count = second.count + first.count;
  is = λ image. subst (λ (r : Receiver). seen s l r.image ≡ r) (all image) (second.is (applied_held first.count (seen p h image)).image);
  mirrors = λ image mirrors. subst (λ (r : Receiver). Mirrors s c r.image) (all image) (second.mirrors (applied_held first.count (seen p h image)).image (first.mirrors image mirrors));
  ready = second.ready;
  suit = second.suit;
  number = omega (arith, first.number, second.number);
  cell = second.cell ∙ ap (λ (x : Slots). cell_after x second.count) first.cell ∙ cells_add p.cell second.count first.count;
  fewer = omega (arith, first.fewer, second.fewer);
  calls = subst (λ (n : ℕ). CalledTimes n a c) (ap (λ (x : Slots). take_calls p.cell first.count + take_calls x second.count) first.cell ∙ calls_add p.cell second.count first.count)
      (called_then (take_calls p.cell first.count) (take_calls q.cell second.count) a b c first.calls second.calls);
}
  where
    all : (image : List (List ℕ)) → applied_held second.count (seen q k (applied_held first.count (seen p h image)).image) ≡ applied_held (second.count + first.count) (seen p h image)
    all image = ap (applied_held second.count) (first.is image) ∙ steps_add second.count first.count (seen p h image)

pub passes_then : (p q s : Store) (h k : HeldFrames) (a b c : View) → AppliesHeld p q h a b → HasAppliedHeld p q h k a b → AppliesHeld q s k b c → AppliesHeld p s h a c
passes_then p q s h k a b c one first two = record {
  shape = two.shape ∙ one.shape;
  sizes = λ e. two.sizes e ∙ one.sizes e;
  elsewhere = else_then a b c one.elsewhere two.elsewhere;
  touches = touch_then a b c one.elsewhere.tells one.touches two.touches;
  most =
      let later = ap (λ (x : Slots). take_calls x (length k.frames)) first.cell in
      let all = calls_add p.cell (length k.frames) first.count in
      let fewer = ap (take_calls p.cell) first.fewer in
      at_most_then (take_calls p.cell first.count) (take_calls q.cell (length k.frames)) (take_calls p.cell (length h.frames)) a b c (omega (arith, later, all, fewer))
      (called_at_most (take_calls p.cell first.count) (take_calls p.cell first.count) a b (omega arith) first.calls) two.most;
  any_moment = λ image mirrors. leaves_join a b c (HoldsApplied p.shape (seen p h image)) (HoldsApplied q.shape (seen q k (applied_held first.count (seen p h image)).image))
      (HoldsApplied p.shape (seen p h image))
      (one.any_moment image mirrors) (two.any_moment (applied_held first.count (seen p h image)).image (first.mirrors image mirrors))
      (λ x left. left)
      (λ x left. passed_later p.shape first.count (seen p h image) x (subst (λ (r : Receiver). HoldsApplied p.shape r x) (first.is image)
      (subst (λ (t : Shape). HoldsApplied t (seen q k (applied_held first.count (seen p h image)).image) x) one.shape left)));
}

-- the first held frame is the next
next_is : (n : ℕ) (f : Arrival) (frames : List Arrival) → has_next n (f ∷ frames) ≡ true → f.seq ≡ n + 1
next_is n f frames next = grind (arith, nat_tests)

module _ (p q : Store) (h k : HeldFrames) (f : Arrival) (rest : List Arrival) (a b : View) (is : h.frames ≡ f ∷ rest) (next : has_next p.number h.frames ≡ true) where
  seq : f.seq ≡ p.number + 1
  seq = next_is p.number f rest (ap (has_next p.number) (sym is) ∙ next)

  one_step : (image : List (List ℕ)) → applied_held 1 (seen p h image) ≡ record { number = p.number + 1; time = f.time; image = xored image f; held = rest }
  one_step image = ap (step_from (seen p h image)) is ∙ ap (λ (t : Bool). if t then applied (seen p h image) f rest else seen p h image) (ap (has_next p.number) (sym is) ∙ next)

  -- what is known of the first held frame
  pub first_suits : (s : Shape) → SuitAll s p.number p.number h → Suits s p.number f
  first_suits s suit = All-head (Suits s p.number) f rest (subst (λ (l : List Arrival). All (Suits s p.number) l) is suit.each)

  pub first_room : (s : Shape) → SuitAll s p.number p.number h → p.number < 2 ^ 40
  first_room s suit = let e = seq in let last = (first_suits s suit).last in omega arith

  -- it takes at most what all of them do
  calls_first : 3 + put_calls p.cell ≤ take_calls p.cell (length h.frames)
  calls_first = let all = ap (λ (l : List Arrival). take_calls p.cell (length l)) is in omega (arith, all)

  -- it is applied
  pub first_passes : q.shape ≡ p.shape → CalledAtMost (3 + put_calls p.cell) a b → ((e : ℕ) → b.sizes e ≡ a.sizes e) → Moves a b Elsewhere Elsewhere → (IsTrue a.tells → Quiet Elsewhere a.now b.now)
      → ((image : List (List ℕ)) → Mirrors p a image → Leaves a b (HoldsEither p.shape p.number p.time image f)) → AppliesHeld p q h a b
  first_passes shape calls sizes elsewhere touches leaves = record {
    shape = shape;
    sizes = sizes;
    elsewhere = elsewhere;
    touches = touches;
    most = at_most_more (3 + put_calls p.cell) (take_calls p.cell (length h.frames)) a b calls_first calls;
    any_moment = λ image mirrors. leaves_wider a b (HoldsEither p.shape p.number p.time image f) (HoldsApplied p.shape (seen p h image)) (leaves image mirrors)
        (λ x either. ⊎_elim
        (λ old. record { count = 0; holds = old })
        (λ new. record { count = 1; holds = subst (λ (r : Receiver). ReplicaHolds p.shape r.number r.time r.image x) (sym (one_step image)) new })
        either);
  }

  pub first_passed : q.shape ≡ p.shape → q.number ≡ p.number + 1 → q.time ≡ f.time → k.size ≡ h.size → k.frames ≡ rest → IsStoreReady q b → SuitAll p.shape p.number p.number h
      → q.cell ≡ turned p.cell → CalledTimes (3 + put_calls p.cell) a b
      → ((image : List (List ℕ)) → Mirrors p a image → Mirrors q b (xored image f)) → HasAppliedHeld p q h k a b
  first_passed shape number time size frames ready suit cell calls mirrors = record {
    count = 1;
    is = λ image. subst (λ (r : Receiver). seen q k r.image ≡ r) (sym (one_step image)) (same image);
    mirrors = λ image mirrors_old. subst (λ (r : Receiver). Mirrors q b r.image) (sym (one_step image)) (mirrors image mirrors_old);
    ready = ready;
    number = number;
    cell = cell;
    fewer = let now = ap length frames in let before = ap length is in omega (arith, now, before);
    calls = subst (λ (n : ℕ). CalledTimes n a b) (one_call p.cell) calls;
    suit = record {
      size = size ∙ suit.size ∙ ap (λ (t : Shape). t.block) (sym shape);
      order = order;
      each = subst (λ (t : Shape). All (Suits t q.number) k.frames) (sym shape) (subst (λ (l : List Arrival). All (Suits p.shape q.number) l) (sym frames)
          (All-weaker (Suits p.shape p.number) (Suits p.shape q.number) (λ g fits. record {
            near = omega (arith, fits.near, number);
            last = fits.last;
            inside = fits.inside;
            sized =
                fits.sized;
          }) rest
          (All-tail (Suits p.shape p.number) f rest (subst (λ (l : List Arrival). All (Suits p.shape p.number) l) is suit.each))));
    };
  }
    where
      same : (image : List (List ℕ)) → seen q k (xored image f) ≡ record { number = p.number + 1; time = f.time; image = xored image f; held = rest }
      same image = cc (number, time, frames)

      order : Ascends q.number k.frames
      order = subst (λ (n : ℕ). Ascends n k.frames) (seq ∙ sym number) (subst (λ (l : List Arrival). Ascends f.seq l) (sym frames) (subst (λ (l : List Arrival). Ascends p.number l) is suit.order).1)
