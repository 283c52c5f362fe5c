-- How runs of calls compose: each call is a step, and steps follow one another by facts on contents alone.
use Rattle.std.proofs.Common.{◌≡◌, ◌≢◌, ◌⊎◌, ℕ, zero, suc, ◌+◌, ◌<◌, ◌≤◌, List, [], ◌∷◌, length, replicate, get_or, Option, Some, None, Bool, true, false, not, ◌&&◌, ◌==◌, if◌then◌else◌, IsTrue, Result, Ok, inl, inr, ⊎_elim, refl, sym, ap, subst, ◌∙◌, arith}
use Rattle.std.proofs.lemmas.Bool.{cases_eq}
use Rattle.std.proofs.lemmas.Bool.Decides.{nat_tests}
use Rattle.std.specs.Prelude.{nat_lt}
use Rattle.trap_bank.specs.Disks.{Contents, View, Disks, Area, Within, Either, Differs, Torn, Quiet, byte, bytes_of, size_of}
use Rattle.trap_bank.specs.Calls.{LeftOver, MayLeave, LeftMaking, LeftSaying, NoneUnsynced, IsLawful, Reads, Writes, Syncs, Says, Makes}
use Rattle.trap_bank.specs.Steps.{From, Steps, Moves, Same, Spoke, SpokePart, Always}
use Rattle.trap_bank.proofs.Regions.{disk_apart, same_length, differs_mono, differs_again, differs_same}

-- the same, and of this disk a crash leaves what a read gives
pub record Settled (v : View) (d : ℕ) (old new : Disks) : Type 0 where
  pub same : new ≡ old
  pub read : new d ≡ v.now.disks d

-- the disk is as before, or absent, or has at most n bytes, all zero; the others are the same
pub record RemadeDisk (d n : ℕ) (old new : Disks) : Type 0 where
  pub others : (e : ℕ) → e ≢ d → new e ≡ old e
  pub disk : (new d ≡ old d) ⊎ (new d ≡ None) ⊎ ((k : ℕ) × (k ≤ n) × (new d ≡ Some (replicate k 0)))

-- the disk has n zero bytes; the others are the same
pub record MadeDisk (d n : ℕ) (old new : Disks) : Type 0 where
  pub others : (e : ℕ) → e ≢ d → new e ≡ old e
  pub disk : new d ≡ Some (replicate n 0)

-- One run and then another: three facts on contents alone.
pub then_ : (a b c : View) (d1 a1 d2 a2 during after : Contents → Contents → Type 0) → Steps a b d1 a1 → Steps b c d2 a2
    → ((x y : Contents) → MayLeave a x → d1 x y → during x y)
    → ((x y z : Contents) → MayLeave a x → a1 x y → MayLeave b y → d2 y z → during x z)
    → ((x y z : Contents) → MayLeave a x → a1 x y → MayLeave b y → a2 y z → after x z)
    → Steps a c during after
then_ a b c d1 a1 d2 a2 during after first second in_first in_second at_end = record {
  tells = second.tells ∙ first.tells;
  faults = λ e. omega (arith, first.faults e, second.faults e);
  port_faults = omega (arith, first.port_faults, second.port_faults);
  later = omega (arith, first.later, second.later);
  in_run = λ t w le left. ⊎_elim (λ before. earlier t w le before) (λ from. inr (later_one w from)) (second.in_run t w (omega (arith, le, first.later)) left);
  now = λ w left.
      let last = second.now w left in
      let from = first.now last.origin last.was in
      record { origin = from.origin; was = from.was; by = at_end from.origin last.origin w from.was from.by last.was last.by };
}
  where
    earlier : (t : ℕ) (w : Contents) → t ≤ a.moment → b.left t w → a.left t w ⊎ From a during w
    earlier t w le left = ⊎_elim inl (λ from. inr (record { origin = from.origin; was = from.was; by = in_first from.origin w from.was from.by })) (first.in_run t w le left)

    later_one : (w : Contents) → From b d2 w → From a during w
    later_one w last = let from = first.now last.origin last.was in record { origin = from.origin; was = from.was; by = in_second from.origin last.origin w from.was from.by last.was last.by }

-- the same run, said by wider relations
pub weaken : (a b : View) (d1 a1 during after : Contents → Contents → Type 0) → Steps a b d1 a1
    → ((x y : Contents) → MayLeave a x → d1 x y → during x y)
    → ((x y : Contents) → MayLeave a x → MayLeave b y → a1 x y → after x y)
    → Steps a b during after
weaken a b d1 a1 during after steps in_run at_end = record {
  tells = steps.tells;
  faults = steps.faults;
  port_faults = steps.port_faults;
  later = steps.later;
  in_run = λ t w le left. ⊎_elim inl (λ from. inr (record { origin = from.origin; was = from.was; by = in_run from.origin w from.was from.by })) (steps.in_run t w le left);
  now = λ w left. let from = steps.now w left in record { origin = from.origin; was = from.was; by = at_end from.origin w from.was left from.by };
}

-- no call at all
pub nothing_done : (v : View) (during after : Contents → Contents → Type 0) → ((x : Contents) → MayLeave v x → after x x) → Steps v v during after
nothing_done v during after same = record {
  tells = refl;
  faults = λ e. omega arith;
  port_faults = omega arith;
  later = omega arith;
  in_run = λ t w le left. inl left;
  now = λ w left. record { origin = w; was = left; by = same w left };
}

-- one run and then another, where nothing is said
pub moves_then : (a b c : View) (d1 a1 d2 a2 during after : Disks → Disks → Type 0) → Moves a b d1 a1 → Moves b c d2 a2
    → ((x y : Contents) → MayLeave a x → d1 x.disks y.disks → during x.disks y.disks)
    → ((x y z : Contents) → MayLeave a x → a1 x.disks y.disks → MayLeave b y → d2 y.disks z.disks → during x.disks z.disks)
    → ((x y z : Contents) → MayLeave a x → a1 x.disks y.disks → MayLeave b y → a2 y.disks z.disks → after x.disks z.disks)
    → Moves a c during after
moves_then a b c d1 a1 d2 a2 during after first second in_first in_second at_end = then_ a b c (Quiet d1) (Quiet a1) (Quiet d2) (Quiet a2) (Quiet during) (Quiet after) first second
    (λ x y was step. record { disks = in_first x y was step.disks; said = step.said })
    (λ x y z was step mid next. record { disks = in_second x y z was step.disks mid next.disks; said = next.said ∙ step.said })
    (λ x y z was step mid next. record { disks = at_end x y z was step.disks mid next.disks; said = next.said ∙ step.said })

-- the same run by wider relations, where nothing is said
pub moves_weaken : (a b : View) (d1 a1 during after : Disks → Disks → Type 0) → Moves a b d1 a1
    → ((x y : Contents) → MayLeave a x → d1 x.disks y.disks → during x.disks y.disks)
    → ((x y : Contents) → MayLeave a x → MayLeave b y → a1 x.disks y.disks → after x.disks y.disks)
    → Moves a b during after
moves_weaken a b d1 a1 during after moves in_run at_end = weaken a b (Quiet d1) (Quiet a1) (Quiet during) (Quiet after) moves
    (λ x y was step. record { disks = in_run x y was step.disks; said = step.said })
    (λ x y was left step. record { disks = at_end x y was left step.disks; said = step.said })

-- no call at all, and nothing said
pub no_moves : (v : View) (during after : Disks → Disks → Type 0) → ((x : Contents) → MayLeave v x → after x.disks x.disks) → Moves v v during after
no_moves v during after same = nothing_done v (Quiet during) (Quiet after) (λ x was. record { disks = same x was; said = refl })

-- no call changes nothing
pub unmoved : (v : View) → Moves v v Same Same
unmoved v = no_moves v Same Same (λ x was. refl)

-- what a crash at any moment since entry leaves
pub since_entry : (old new : View) (during after : Contents → Contents → Type 0) → IsLawful old → ((x : Contents) → MayLeave old x → during x x)
    → Steps old new during after → (w : Contents) → new.left old.moment w → From old during w
since_entry old new during after lawful none steps w left = ⊎_elim (λ before. at_entry (lawful.only_now w before)) (λ from. from) (steps.in_run old.moment w (omega arith) left)
  where
    at_entry : MayLeave old w → From old during w
    at_entry was = record { origin = w; was = was; by = none w was }

-- what a read gives is among what a crash may leave
pub read_is_left : (v : View) → IsTrue v.tells → MayLeave v v.now
read_is_left v told = record { told = told; torn = record { disks = record { sizes = λ e. refl; bytes = λ e i apart. refl }; said = refl } }

-- two runs that change nothing
pub same_then : (a b c : View) → Moves a b Same Same → Moves b c Same Same → Moves a c Same Same
same_then a b c first second = moves_then a b c Same Same Same Same Same Same first second (λ x y was same. same) (λ x y z was same mid more. more ∙ same) (λ x y z was same mid more. more ∙ same)

-- a run that changes nothing keeps what every crash leaves
pub always_same : (a b : View) (has : Disks → Type 0) → Moves a b Same Same → Always a has → Always b has
always_same a b has moves always w left = let from = moves.now w left in subst has (sym from.by.disks) (always from.origin from.was)

-- what every crash leaves after a run, from what every crash leaves on entry
pub always_after : (a b : View) (during after : Disks → Disks → Type 0) (has also : Disks → Type 0) → Moves a b during after → Always a has
    → ((x y : Disks) → has x → after x y → also y) → Always b also
always_after a b during after has also moves always step w left = let from = moves.now w left in step from.origin.disks w.disks (always from.origin from.was) from.by.disks

-- a run that changes an area changes a larger one
pub moves_mono : (small large : Area) (a b : View) → ((e i : ℕ) → small e i → large e i) → Moves a b (Differs small) (Differs small) → Moves a b (Differs large) (Differs large)
moves_mono small large a b more moves = moves_weaken a b (Differs small) (Differs small) (Differs large) (Differs large) moves
    (λ x y was torn. differs_mono small large x.disks y.disks more torn)
    (λ x y was left torn. differs_mono small large x.disks y.disks more torn)

-- a run that changes a range changes a larger one
pub moves_wider : (d at n from len : ℕ) (a b : View) → from ≤ at → at + n ≤ from + len → Moves a b (Differs (Within d at n)) (Differs (Within d at n))
    → Moves a b (Differs (Within d from len)) (Differs (Within d from len))
moves_wider d at n from len a b low high moves = moves_mono (Within d at n) (Within d from len) a b
    (λ e i within. record { disk = within.disk; from = omega (arith, within.from); to = omega (arith, within.to) }) moves

-- two runs that change one area
pub moves_again : (area : Area) (a b c : View) → Moves a b (Differs area) (Differs area) → Moves b c (Differs area) (Differs area) → Moves a c (Differs area) (Differs area)
moves_again area a b c first second = moves_then a b c (Differs area) (Differs area) (Differs area) (Differs area) (Differs area) (Differs area) first second
    (λ x y was torn. torn)
    (λ x y z was torn mid more. differs_again area x.disks y.disks z.disks torn more)
    (λ x y z was torn mid more. differs_again area x.disks y.disks z.disks torn more)

-- a run that changes nothing changes an area at most
pub moves_same : (area : Area) (a b : View) → Moves a b Same Same → Moves a b (Differs area) (Differs area)
moves_same area a b moves = moves_weaken a b Same Same (Differs area) (Differs area) moves
    (λ x y was same. differs_same area x.disks y.disks same)
    (λ x y was left same. differs_same area x.disks y.disks same)

-- what a read gives after two calls that change one area
pub torn_again : (area : Area) (a b c : View) → b.tells ≡ a.tells → (IsTrue a.tells → Torn area a.now b.now) → (IsTrue b.tells → Torn area b.now c.now) → IsTrue a.tells → Torn area a.now c.now
torn_again area a b c tells first second told =
    let one = first told in
    let two = second (subst IsTrue (sym tells) told) in
    record { disks = differs_again area a.now.disks b.now.disks c.now.disks one.disks two.disks; said = two.said ∙ one.said }

-- what a read gives after a call that changes nothing
pub torn_same : (area : Area) (a b : View) → (IsTrue a.tells → b.now ≡ a.now) → IsTrue a.tells → Torn area a.now b.now
torn_same area a b same told = record { disks = differs_same area a.now.disks b.now.disks (ap (λ (c : Contents). c.disks) (same told)); said = ap (λ (c : Contents). c.said) (same told) }

-- what a read gives after a call that changes a smaller area
pub torn_mono : (small large : Area) (x y : Contents) → ((e i : ℕ) → small e i → large e i) → Torn small x y → Torn large x y
torn_mono small large x y more torn = record { disks = differs_mono small large x.disks y.disks more torn.disks; said = torn.said }

-- what a read gives after a call that changes a smaller range
pub torn_wider : (d at n from len : ℕ) (x y : Contents) → from ≤ at → at + n ≤ from + len → Torn (Within d at n) x y → Torn (Within d from len) x y
torn_wider d at n from len x y low high torn = torn_mono (Within d at n) (Within d from len) x y
    (λ e i within. record { disk = within.disk; from = omega (arith, within.from); to = omega (arith, within.to) }) torn

-- xs where the test holds, else ys
abbrev mix : (ℕ → Bool) → List ℕ → List ℕ → List ℕ
mix p [] ys = []
mix p (x ∷ xs) [] = []
mix p (x ∷ xs) (y ∷ ys) = (if p 0 then x else y) ∷ mix (λ i. p (suc i)) xs ys

length-mix : (p : ℕ → Bool) (xs ys : List ℕ) → length xs ≡ length ys → length (mix p xs ys) ≡ length xs
length-mix p [] ys e = refl
length-mix p (x ∷ xs) [] e = cc
length-mix p (x ∷ xs) (y ∷ ys) e = ap suc (length-mix (λ i. p (suc i)) xs ys (omega arith))

get_or-mix : (p : ℕ → Bool) (xs ys : List ℕ) (i : ℕ) → length xs ≡ length ys → get_or (mix p xs ys) i 0 ≡ (if p i then get_or xs i 0 else get_or ys i 0)
get_or-mix p [] [] i e = both (p i)
  where
    both : (b : Bool) → ◌≡◌ {A = ℕ} 0 (if b then 0 else 0)
    both true = refl
    both false = refl
get_or-mix p [] (y ∷ ys) i e = absurd (omega arith)
get_or-mix p (x ∷ xs) [] i e = absurd (omega arith)
get_or-mix p (x ∷ xs) (y ∷ ys) zero e = refl
get_or-mix p (x ∷ xs) (y ∷ ys) (suc i) e = get_or-mix (λ k. p (suc k)) xs ys i (omega arith)

-- a disk with the bytes of x where the test holds, else those of y
abbrev mixed : (ℕ → Bool) → Option (List ℕ) → Option (List ℕ) → Option (List ℕ)
mixed p None y = None
mixed p (Some xs) y = Some (mix p xs (bytes_of y))

size-mixed : (p : ℕ → Bool) (x y : Option (List ℕ)) → size_of y ≡ size_of x → size_of (mixed p x y) ≡ size_of x
size-mixed p None y e = refl
size-mixed p (Some xs) y e = ap {B = Option ℕ} Some (length-mix p xs (bytes_of y) (sym (same_length y (Some xs) e)))

byte-mixed : (p : ℕ → Bool) (x y : Option (List ℕ)) (i : ℕ) → size_of y ≡ size_of x → get_or (bytes_of (mixed p x y)) i 0 ≡ (if p i then get_or (bytes_of x) i 0 else get_or (bytes_of y) i 0)
byte-mixed p None None i e = get_or-mix p [] [] i refl
byte-mixed p None (Some ys) i e = cc
byte-mixed p (Some xs) y i e = get_or-mix p xs (bytes_of y) i (sym (same_length y (Some xs) e))

-- What is left over after a change in an area comes by that change from what was left before it: the area's bytes are put back.
pub split : (p : ℕ → ℕ → Bool) (area : Area) (v : View) (w : Contents) → ((e i : ℕ) → p e i ≡ true → area e i) → ((e i : ℕ) → area e i → p e i ≡ true)
    → LeftOver (Either v.unsynced area) v w → From v (Torn area) w
split p area v w in_area covers left = record { origin = before; was = was; by = by }
  where
    before : Contents
    before = record { disks = λ e. mixed (p e) (v.now.disks e) (w.disks e); said = w.said }

    is_mixed : (e i : ℕ) → byte before.disks e i ≡ (if p e i then byte v.now.disks e i else byte w.disks e i)
    is_mixed e i = byte-mixed (p e) (v.now.disks e) (w.disks e) i (left.torn.disks.sizes e)

    put_back : (e i : ℕ) → p e i ≡ true → byte before.disks e i ≡ byte v.now.disks e i
    put_back e i holds = subst (λ (b : Bool). byte before.disks e i ≡ (if b then byte v.now.disks e i else byte w.disks e i)) holds (is_mixed e i)

    kept : (e i : ℕ) → p e i ≡ false → byte before.disks e i ≡ byte w.disks e i
    kept e i not_in = subst (λ (b : Bool). byte before.disks e i ≡ (if b then byte v.now.disks e i else byte w.disks e i)) not_in (is_mixed e i)

    clean : (e i : ℕ) → (v.unsynced e i → ⊥) → (b : Bool) → p e i ≡ b → byte before.disks e i ≡ byte v.now.disks e i
    clean e i synced true holds = put_back e i holds
    clean e i synced false not_in = kept e i not_in ∙ left.torn.disks.bytes e i (λ either. ⊎_elim synced (λ within. absurd (two (sym (covers e i within) ∙ not_in))) either)
      where
        two : true ≡ false → ⊥
        two e = cc

    was : MayLeave v before
    was = record {
      told = left.told;
      torn = record {
        disks = record { sizes = λ e. size-mixed (p e) (v.now.disks e) (w.disks e) (left.torn.disks.sizes e); bytes = λ e i synced. clean e i synced (p e i) refl };
        said = left.torn.said;
      };
    }

    outside : (e i : ℕ) → (area e i → ⊥) → (b : Bool) → p e i ≡ b → byte w.disks e i ≡ byte before.disks e i
    outside e i apart true holds = absurd (apart (in_area e i holds))
    outside e i apart false not_in = sym (kept e i not_in)

    by : Torn area before w
    by = record {
      disks = record { sizes = λ e. left.torn.disks.sizes e ∙ sym (size-mixed (p e) (v.now.disks e) (w.disks e) (left.torn.disks.sizes e)); bytes = λ e i apart. outside e i apart (p e i) refl };
      said = refl;
    }

-- whether a position is in a range
abbrev covers : ℕ → ℕ → ℕ → ℕ → ℕ → Bool
covers d at n e i = (e == d) && (nat_lt i (at + n) && not (nat_lt i at))

covers_within : (d at n e i : ℕ) → covers d at n e i ≡ true → Within d at n e i
covers_within d at n e i holds = record { disk = grind (arith, nat_tests); from = grind (arith, nat_tests); to = grind (arith, nat_tests) }

within_covers : (d at n e i : ℕ) → Within d at n e i → covers d at n e i ≡ true
within_covers d at n e i within =
    let disk : e ≡ d = within.disk in
    let from : at ≤ i = within.from in
    let to : i < at + n = within.to in
    grind (arith, nat_tests)

-- the same contents with no more unsynced positions
still_left : (old new : View) → new.tells ≡ old.tells → (IsTrue old.tells → new.now ≡ old.now) → (IsTrue old.tells → NoneUnsynced old new) → (w : Contents) → MayLeave new w → MayLeave old w
still_left old new tells same fewer w left = record {
  told = told;
  torn = record {
    disks = record {
      sizes = λ e. left.torn.disks.sizes e ∙ ap (λ (c : Contents). size_of (c.disks e)) (same told);
      bytes = λ e i synced. left.torn.disks.bytes e i
          (λ more. synced (fewer told e i more)) ∙ ap (λ (c : Contents). byte c.disks e i) (same told);
    };
    said = left.torn.said ∙ ap (λ (c : Contents). c.said) (same told);
  };
}
  where
    told : IsTrue old.tells
    told = subst IsTrue tells left.told

-- a call of `read`
pub read_steps : {T E : Type 0} (result : Result T E) (old new : View) (d at : ℕ) (before after : List ℕ) → Reads d at before after result old new → Moves old new Same Same
read_steps result old new d at before after call = record {
  tells = call.goes.tells;
  faults = call.goes.faults;
  port_faults = call.goes.port_faults;
  later = call.goes.later;
  in_run = λ t w le left. ⊎_elim inl (λ in_call. inr (record { origin = w; was = in_call; by = record { disks = refl; said = refl } })) (call.time.nothing_else t w le left);
  now = λ w left. record { origin = w; was = still_left old new call.goes.tells call.same call.fewer w left; by = record { disks = refl; said = refl } };
}

-- a call of `sync`, whatever its result
pub sync_steps : {T E : Type 0} (result : Result T E) (old new : View) (d : ℕ) → Syncs d result old new → Moves old new Same Same
sync_steps result old new d call = record {
  tells = call.goes.tells;
  faults = call.goes.faults;
  port_faults = call.goes.port_faults;
  later = call.goes.later;
  in_run = λ t w le left. ⊎_elim inl (λ in_call. inr (record { origin = w; was = in_call; by = record { disks = refl; said = refl } })) (call.time.nothing_else t w le left);
  now = λ w left. record { origin = w; was = still_left old new call.goes.tells call.same call.fewer w left; by = record { disks = refl; said = refl } };
}

-- a call of `sync` that answered Ok: a crash leaves of this disk what a read gives
pub synced_steps : {T E : Type 0} (value : T) (old new : View) (d : ℕ) → Syncs {T = T} {E = E} d (Ok value) old new → Moves old new Same (Settled new d)
synced_steps value old new d call = record {
  tells = call.goes.tells;
  faults = call.goes.faults;
  port_faults = call.goes.port_faults;
  later = call.goes.later;
  in_run = λ t w le left. ⊎_elim inl (λ in_call. inr (record { origin = w; was = in_call; by = record { disks = refl; said = refl } })) (call.time.nothing_else t w le left);
  now = λ w left. record {
    origin = w;
    was = still_left old new call.goes.tells call.same call.fewer w left;
    by = record {
      disks = record { same = refl; read = disk_apart new.unsynced new.now.disks w.disks d left.torn.disks (call.synced (subst IsTrue call.goes.tells left.told)) };
      said = refl;
    };
  };
}

-- a call of `write`, whatever its result
pub write_steps : {T E : Type 0} (result : Result T E) (old new : View) (d at : ℕ) (bytes : List ℕ) → Writes d at bytes result old new
    → Moves old new (Differs (Within d at (length bytes))) (Differs (Within d at (length bytes)))
write_steps result old new d at bytes call = record {
  tells = call.goes.tells;
  faults = call.goes.faults;
  port_faults = call.goes.port_faults;
  later = call.goes.later;
  in_run = λ t w le left. ⊎_elim inl (λ in_call. inr (apart w in_call)) (call.time.nothing_else t w le left);
  now = λ w left. apart w (over w left);
}
  where
    apart : (w : Contents) → LeftOver (Either old.unsynced (Within d at (length bytes))) old w → From old (Torn (Within d at (length bytes))) w
    apart w left = split (covers d at (length bytes)) (Within d at (length bytes)) old w (covers_within d at (length bytes)) (within_covers d at (length bytes)) left

    over : (w : Contents) → MayLeave new w → LeftOver (Either old.unsynced (Within d at (length bytes))) old w
    over w left = record {
      told = told;
      torn = record {
        disks = record {
          sizes = λ e. left.torn.disks.sizes e ∙ (call.torn told).disks.sizes e;
          bytes = λ e i outside. left.torn.disks.bytes e i (λ more. outside (call.unsynced told e i more)) ∙ (call.torn told).disks.bytes e i (λ within. outside (inr within));
        };
        said = left.torn.said ∙ (call.torn told).said;
      };
    }
      where
        told : IsTrue old.tells
        told = subst IsTrue call.goes.tells left.told

-- a call of `say`, whatever its result
pub say_steps : {T E : Type 0} (result : Result T E) (old new : View) (piece : List ℕ) → Says piece result old new → Steps old new (SpokePart piece) (SpokePart piece)
say_steps result old new piece call = record {
  tells = call.goes.tells;
  faults = call.goes.faults;
  port_faults = call.goes.port_faults;
  later = call.goes.later;
  in_run = λ t w le left. ⊎_elim inl (λ in_call. inr (spoken w in_call)) (call.time.nothing_else t w le left);
  now = λ w left. spoken w (saying w left);
}
  where
    spoken : (w : Contents) → LeftSaying piece old w → From old (SpokePart piece) w
    spoken w left = record {
      origin = record { disks = w.disks; said = old.now.said };
      was = record { told = left.told; torn = record { disks = left.disks; said = refl } };
      by = record { disks = refl; says = record { part = left.says.part; rest = left.says.rest; whole = left.says.whole; said = left.says.said } };
    }

    saying : (w : Contents) → MayLeave new w → LeftSaying piece old w
    saying w left = record {
      told = told;
      disks = record {
        sizes = λ e. left.torn.disks.sizes e ∙ ap (λ (c : Disks). size_of (c e)) (call.disks told);
        bytes = λ e i synced. left.torn.disks.bytes e i (λ more. synced (call.fewer told e i more)) ∙ ap (λ (c : Disks). byte c e i) (call.disks told);
      };
      says = let some = call.part told in record { part = some.part; rest = some.rest; whole = some.whole; said = left.torn.said ∙ some.said };
    }
      where
        told : IsTrue old.tells
        told = subst IsTrue call.goes.tells left.told

-- a call of `say` that answered Ok: the whole piece was said
pub said_steps : {T E : Type 0} (value : T) (old new : View) (piece : List ℕ) → Says {T = T} {E = E} piece (Ok value) old new → Steps old new (SpokePart piece) (Spoke piece)
said_steps {T} {E} value old new piece call = record {
  tells = call.goes.tells;
  faults = call.goes.faults;
  port_faults = call.goes.port_faults;
  later = call.goes.later;
  in_run = (say_steps {T = T} {E = E} (Ok value) old new piece call).in_run;
  now = λ w left.
      let told = subst IsTrue call.goes.tells left.told in
      record {
        origin = record { disks = w.disks; said = old.now.said };
        was = record {
          told = told;
          torn = record {
            disks = record {
              sizes = λ e. left.torn.disks.sizes e ∙ ap (λ (c : Disks). size_of (c e)) (call.disks told);
              bytes = λ e i synced. left.torn.disks.bytes e i (λ more. synced (call.fewer told e i more)) ∙ ap (λ (c : Disks). byte c e i) (call.disks told);
            };
            said = refl;
          };
        };
        by = record { disks = refl; said = left.torn.said ∙ call.said told };
      };
}

-- x in place of the disk with this number
abbrev replaced : Disks → ℕ → Option (List ℕ) → Disks
replaced disks d x e = if e == d then x else disks e

replaced_at : (disks : Disks) (d : ℕ) (x : Option (List ℕ)) (e : ℕ) → e ≡ d → replaced disks d x e ≡ x
replaced_at disks d x e is = ap (λ (b : Bool). if b then x else disks e) test
  where
    test : (e == d) ≡ true
    test = grind (arith, nat_tests)

replaced_beside : (disks : Disks) (d : ℕ) (x : Option (List ℕ)) (e : ℕ) → e ≢ d → replaced disks d x e ≡ disks e
replaced_beside disks d x e other = ap (λ (b : Bool). if b then x else disks e) test
  where
    test : (e == d) ≡ false
    test = grind (arith, nat_tests)

-- a call of `make`, whatever its result
pub make_steps : {T E : Type 0} (result : Result T E) (old new : View) (d n : ℕ) → Makes d n result old new → Moves old new (RemadeDisk d n) (RemadeDisk d n)
make_steps result old new d n call = record {
  tells = call.goes.tells;
  faults = call.goes.faults;
  port_faults = call.goes.port_faults;
  later = call.goes.later;
  in_run = λ t w le left. ⊎_elim inl (λ in_call. inr (remade w in_call)) (call.time.nothing_else t w le left);
  now = λ w left. ⊎_elim (unmade w left) (settled w left) (call.stable (told_of w left));
}
  where
    told_of : (w : Contents) → MayLeave new w → IsTrue old.tells
    told_of w left = subst IsTrue call.goes.tells left.told

    remade : (w : Contents) → LeftMaking d n old w → From old (Quiet (RemadeDisk d n)) w
    remade w left = record {
      origin = left.from;
      was = record { told = left.told; torn = left.before };
      by = record
          { disks = record { others = left.step.others; disk = left.step.disk }; said = left.step.said };
    }

    -- the disk is as it was
    unmade : (w : Contents) → MayLeave new w → new.now.disks d ≡ old.now.disks d → From old (Quiet (RemadeDisk d n)) w
    unmade w left same = record {
      origin = w;
      was = record {
        told = told_of w left;
        torn = record {
          disks = record {
            sizes = λ e. left.torn.disks.sizes e ∙ ap size_of (each e);
            bytes = λ e i synced. left.torn.disks.bytes e i (λ more. synced (call.fewer (told_of w left) e i more)) ∙ ap (λ (x : Option (List ℕ)). get_or (bytes_of x) i 0) (each e);
          };
          said = left.torn.said ∙ (call.step (told_of w left)).said;
        };
      };
      by = record { disks = record { others = λ e other. refl; disk = inl refl }; said = refl };
    }
      where
        each : (e : ℕ) → new.now.disks e ≡ old.now.disks e
        each e = ⊎_elim (λ (is : e ≡ d). ap new.now.disks is ∙ same ∙ sym (ap old.now.disks is)) (λ other. (call.step (told_of w left)).others e other) (cases_eq e d)

    -- a crash leaves of the disk what a read gives
    settled : (w : Contents) → MayLeave new w → ((i : ℕ) → new.unsynced d i → ⊥) → From old (Quiet (RemadeDisk d n)) w
    settled w left synced = record {
      origin = before;
      was = record {
        told = told_of w left;
        torn = record {
          disks = record { sizes = size; bytes = bytes };
          said = left.torn.said ∙ (call.step (told_of w left)).said;
        };
      };
      by = record { disks = record { others = λ e other. sym (replaced_beside w.disks d (old.now.disks d) e other); disk = disk }; said = refl };
    }
      where
        before : Contents
        before = record { disks = replaced w.disks d (old.now.disks d); said = w.said }

        here : before.disks d ≡ old.now.disks d
        here = replaced_at w.disks d (old.now.disks d) d refl

        read : w.disks d ≡ new.now.disks d
        read = disk_apart new.unsynced new.now.disks w.disks d left.torn.disks synced

        disk : (w.disks d ≡ before.disks d) ⊎ (w.disks d ≡ None) ⊎ ((k : ℕ) × (k ≤ n) × (w.disks d ≡ Some (replicate k 0)))
        disk = ⊎_elim (λ same. inl (read ∙ same ∙ sym here)) (λ rest. inr (⊎_elim (λ none. inl (read ∙ none)) (λ zeros. inr (zeros.0, zeros.1, read ∙ zeros.2)) rest)) (call.step (told_of w left)).disk

        size : (e : ℕ) → size_of (before.disks e) ≡ size_of (old.now.disks e)
        size e = ⊎_elim (λ (is : e ≡ d). ap size_of (replaced_at w.disks d (old.now.disks d) e is ∙ sym (ap old.now.disks is)))
            (λ other. ap size_of (replaced_beside w.disks d (old.now.disks d) e other) ∙ left.torn.disks.sizes e ∙ ap size_of ((call.step (told_of w left)).others e other)) (cases_eq e d)

        bytes : (e i : ℕ) → (old.unsynced e i → ⊥) → byte before.disks e i ≡ byte old.now.disks e i
        bytes e i clean = ⊎_elim (λ (is : e ≡ d). ap (λ (x : Option (List ℕ)). get_or (bytes_of x) i 0) (replaced_at w.disks d (old.now.disks d) e is ∙ sym (ap old.now.disks is)))
            (λ other. ap (λ (x : Option (List ℕ)). get_or (bytes_of x) i 0) (replaced_beside w.disks d (old.now.disks d) e other)
            ∙ left.torn.disks.bytes e i (λ more. clean (call.fewer (told_of w left) e i more))
            ∙ ap (λ (x : Option (List ℕ)). get_or (bytes_of x) i 0) ((call.step (told_of w left)).others e other)) (cases_eq e d)

-- a call of `make` that answered Ok: every crash leaves the zeros
pub made_steps : {T E : Type 0} (value : T) (old new : View) (d n : ℕ) → Makes {T = T} {E = E} d n (Ok value) old new → Moves old new (RemadeDisk d n) (MadeDisk d n)
made_steps {T} {E} value old new d n call = moves_weaken old new (RemadeDisk d n) (RemadeDisk d n) (RemadeDisk d n) (MadeDisk d n) (make_steps {T = T} {E = E} (Ok value) old new d n call)
    (λ x y was step. step)
    (λ x y was left step. record { others = step.others; disk = disk_apart new.unsynced new.now.disks y.disks d left.torn.disks (call.settled was.told) ∙ call.zeros was.told })
