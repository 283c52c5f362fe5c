-- How far a receiver comes: exactly as far as the numbers that came within its window go without a gap.
use Rattle.std.proofs.Common.{◌≡◌, ◌≢◌, ◌⊎◌, ℕ, ◌+◌, ◌<◌, ◌≤◌, List, [], ◌∷◌, ◌++◌, map, Bool, true, false, ◌||◌, ◌==◌, nat_lt, nat_le, if◌then◌else◌, inl, inr, ⊎_elim, refl, sym, ◌∙◌, ap, subst, arith, append_assoc, append-nil, eq-eqb}
use Rattle.std.specs.List.{All}
use Rattle.std.proofs.lemmas.Bool.{cases_lt}
use Rattle.std.proofs.lemmas.List.Elements.{All-nil, All-cons, All-head, All-tail}
use Rattle.trap_model.specs.declared.arrival.Arrival.{Arrival}
use Rattle.trap_model.specs.declared.arrival.Taken.TheVariants.{Applied, Held, Repeat, Beyond}
use Rattle.trap_model.specs.Receiver.{window, Receiver, starting, hold, is_held, applied, settled, is_known, is_beyond, with_frame, after_frame, answer, receive, answers, bare, gapless, CameWithin, IsGapless}

-- the numbers rise, and the first is above this one
abbrev pub Ascends : ℕ → List Arrival → Type 0
Ascends low [] = Unit {0}
Ascends low (f ∷ held) = (low < f.seq) × Ascends f.seq held

-- what a receiver with this number and these held frames knows of the numbers that came
pub record Knows (n : ℕ) (before : List ℕ) (low number : ℕ) (held : List Arrival) : Type 0 where
  pub least : n ≤ number
  pub each : (q : ℕ) → n < q → q ≤ number → CameWithin n before q
  pub came : (q : ℕ) → is_held q held ≡ true → CameWithin n before q
  pub order : Ascends low held
  pub known : (q : ℕ) → CameWithin n before q → (q ≤ number) ⊎ (is_held q held ≡ true)

or_cases : (a b : Bool) → a || b ≡ true → (a ≡ true) ⊎ (b ≡ true)
or_cases true b e = inl refl
or_cases false b e = inr e

or_left : (a b : Bool) → a ≡ true → a || b ≡ true
or_left true b e = refl
or_left false b e = cc

or_right : (a b : Bool) → b ≡ true → a || b ≡ true
or_right true b e = refl
or_right false b e = e

or_none : (a b : Bool) → a || b ≡ false → (a ≡ false) × (b ≡ false)
or_none true b e = cc
or_none false b e = (refl, e)

same_of : (m q : ℕ) → (m == q) ≡ true → m ≡ q
same_of m q e = grind arith

other_of : (m q : ℕ) → (m == q) ≡ false → m ≢ q
other_of m q e = grind arith

-- what is held is above the low end
held_above : (low q : ℕ) (held : List Arrival) → Ascends low held → is_held q held ≡ true → low < q
held_above low q [] order e = cc
held_above low q (f ∷ held) order e = ⊎_elim
    (λ (here : (f.seq == q) ≡ true). let same = same_of f.seq q here in let above = order.0 in omega arith)
    (λ (later : is_held q held ≡ true). let above = order.0 in let next = held_above f.seq q held order.1 later in omega arith)
    (or_cases (f.seq == q) (is_held q held) e)

-- a frame that is held is among the others
pub is_held-hold : (f : Arrival) (q : ℕ) (held : List Arrival) → is_held q (hold f held) ≡ true → (f.seq ≡ q) ⊎ (is_held q held ≡ true)
is_held-hold f q [] e = ⊎_elim (λ (here : (f.seq == q) ≡ true). inl (same_of f.seq q here)) (λ (none : false ≡ true). cc) (or_cases (f.seq == q) false e)
is_held-hold f q (g ∷ held) e = at (nat_lt f.seq g.seq) e (is_held-hold f q held)
  where
    at : (b : Bool) → is_held q (if b then f ∷ g ∷ held else g ∷ hold f held) ≡ true → (is_held q (hold f held) ≡ true → (f.seq ≡ q) ⊎ (is_held q held ≡ true))
        → (f.seq ≡ q) ⊎ (is_held q (g ∷ held) ≡ true)
    at true e rest = ⊎_elim (λ (here : (f.seq == q) ≡ true). inl (same_of f.seq q here)) (λ later. inr later) (or_cases (f.seq == q) (is_held q (g ∷ held)) e)
    at false e rest = ⊎_elim (λ (here : (g.seq == q) ≡ true). inr (or_left (g.seq == q) (is_held q held) here))
        (λ (later : is_held q (hold f held) ≡ true). ⊎_elim (λ same. inl same) (λ among. inr (or_right (g.seq == q) (is_held q held) among)) (rest later))
        (or_cases (g.seq == q) (is_held q (hold f held)) e)

hold-held : (f : Arrival) (q : ℕ) (held : List Arrival) → (f.seq ≡ q) ⊎ (is_held q held ≡ true) → is_held q (hold f held) ≡ true
hold-held f q [] (inl same) = or_left (f.seq == q) false (eq-eqb f.seq q same)
hold-held f q [] (inr none) = cc
hold-held f q (g ∷ held) which = at (nat_lt f.seq g.seq) (hold-held f q held) which
  where
    at : (b : Bool) → ((f.seq ≡ q) ⊎ (is_held q held ≡ true) → is_held q (hold f held) ≡ true) → (f.seq ≡ q) ⊎ (is_held q (g ∷ held) ≡ true)
        → is_held q (if b then f ∷ g ∷ held else g ∷ hold f held) ≡ true
    at true rest (inl same) = or_left (f.seq == q) (is_held q (g ∷ held)) (eq-eqb f.seq q same)
    at true rest (inr among) = or_right (f.seq == q) (is_held q (g ∷ held)) among
    at false rest (inl same) = or_right (g.seq == q) (is_held q (hold f held)) (rest (inl same))
    at false rest (inr among) = ⊎_elim (λ (here : (g.seq == q) ≡ true). or_left (g.seq == q) (is_held q (hold f held)) here)
        (λ (later : is_held q held ≡ true). or_right (g.seq == q) (is_held q (hold f held)) (rest (inr later))) (or_cases (g.seq == q) (is_held q held) among)

-- a frame that isn't held yet finds its place
pub Ascends-hold : (f : Arrival) (low : ℕ) (held : List Arrival) → low < f.seq → is_held f.seq held ≡ false → Ascends low held → Ascends low (hold f held)
Ascends-hold f low [] above none order = (above, tt)
Ascends-hold f low (g ∷ held) above none order = at (nat_lt f.seq g.seq) refl (Ascends-hold f g.seq held)
  where
    parts : ((g.seq == f.seq) ≡ false) × (is_held f.seq held ≡ false)
    parts = or_none (g.seq == f.seq) (is_held f.seq held) none

    at : (b : Bool) → nat_lt f.seq g.seq ≡ b → (g.seq < f.seq → is_held f.seq held ≡ false → Ascends g.seq held → Ascends g.seq (hold f held))
        → Ascends low (if b then f ∷ g ∷ held else g ∷ hold f held)
    at true less rest = (above, (let below : f.seq < g.seq = grind arith in below, order.1))
    at false most rest =
        let other = other_of g.seq f.seq parts.0 in
        let less : g.seq < f.seq = grind arith in
        (order.0, rest less parts.1 order.1)

-- applying the held frames that follow keeps what is known
settles : (n : ℕ) (before : List ℕ) (r : Receiver) (held : List Arrival) → Knows n before r.number r.number held
    → Knows n before ((settled r held).number + 1) (settled r held).number (settled r held).held
settles n before r [] knows = record { least = knows.least; each = knows.each; came = knows.came; order = tt; known = knows.known }
settles n before r (f ∷ held) knows = at (f.seq == r.number + 1) refl (settles n before (applied r f held) held)
  where
    at : (b : Bool) → (f.seq == r.number + 1) ≡ b → (Knows n before (r.number + 1) (r.number + 1) held
        → Knows n before ((settled (applied r f held) held).number + 1) (settled (applied r f held) held).number (settled (applied r f held) held).held)
        → (let s = (if b then settled (applied r f held) held else record r { held = f ∷ held }) in Knows n before (s.number + 1) s.number s.held)
    at true is rest =
        let same = same_of f.seq (r.number + 1) is in
        let least = knows.least in
        rest (record {
          least = omega arith;
          each = λ q above most. ⊎_elim (λ (less : q < r.number + 1). knows.each q above (omega arith))
              (λ (more : r.number + 1 ≤ q). knows.came q (or_left (f.seq == q) (is_held q held) (eq-eqb f.seq q (omega arith)))) (cases_lt q (r.number + 1));
          came = λ q is_in. knows.came q (or_right (f.seq == q) (is_held q held) is_in);
          order = subst (λ low. Ascends low held) same knows.order.1;
          known = λ q within. ⊎_elim (λ (applied_ : q ≤ r.number). inl (omega arith))
              (λ (among : is_held q (f ∷ held) ≡ true). ⊎_elim (λ (here : (f.seq == q) ≡ true). let e = same_of f.seq q here in inl (omega arith)) (λ (later : is_held q held ≡ true). inr later)
              (or_cases (f.seq == q) (is_held q held) among)) (knows.known q within);
        })
    at false is rest = record {
      least = knows.least;
      each = knows.each;
      came = knows.came;
      order = (let other = other_of f.seq (r.number + 1) is in let above = knows.order.0 in omega arith, knows.order.1);
      known = knows.known;
    }

-- a number that came stays among those that came
came_more : (n m q : ℕ) (before : List ℕ) → CameWithin n before q → CameWithin n (before ++ m ∷ []) q
came_more n m q before c = record {
  before = c.before;
  later = c.later ++ m ∷ [];
  parts = ap (λ (l : List ℕ). l ++ m ∷ []) c.parts ∙ append_assoc c.before (q ∷ c.later) (m ∷ []);
  within = c.within;
}

-- a number in a list is the last one or stands before it
snoc_split : (a b l : List ℕ) (q m : ℕ) → a ++ q ∷ l ≡ b ++ m ∷ [] → ((a ≡ b) × (q ≡ m)) ⊎ ((k : List ℕ) × (b ≡ a ++ q ∷ k))
snoc_split [] [] l q m e = inl (refl, cc)
snoc_split [] (x ∷ b) l q m e = inr (b, cc)
snoc_split (y ∷ []) [] l q m e = cc
snoc_split (y ∷ z ∷ a) [] l q m e = cc
snoc_split (y ∷ a) (x ∷ b) l q m e =
    let rest : a ++ q ∷ l ≡ b ++ m ∷ [] = cc in
    let first : y ≡ x = cc in
    ⊎_elim (λ (same : (a ≡ b) × (q ≡ m)). inl (ap (λ (l : List ℕ). y ∷ l) same.0 ∙ ap (λ (h : ℕ). h ∷ b) first, same.1))
    (λ (more : (k : List ℕ) × (b ≡ a ++ q ∷ k)). inr (more.0, ap (λ (h : ℕ). h ∷ b) (sym first) ∙ ap (λ (l : List ℕ). y ∷ l) more.1)) (snoc_split a b l q m rest)

came_less : (n m q : ℕ) (before : List ℕ) → CameWithin n (before ++ m ∷ []) q → CameWithin n before q ⊎ ((q ≡ m) × (q ≤ gapless n before + window))
came_less n m q before c = ⊎_elim
    (λ (same : (c.before ≡ before) × (q ≡ m)). inr (same.1, subst (λ l. q ≤ gapless n l + window) same.0 c.within))
    (λ (more : (k : List ℕ) × (before ≡ c.before ++ q ∷ k)). inl (record { before = c.before; later = more.0; parts = more.1; within = c.within }))
    (snoc_split c.before before c.later q m (sym c.parts))

ascends_lower : (a b : ℕ) (held : List Arrival) → a ≤ b → Ascends b held → Ascends a held
ascends_lower a b [] le order = tt
ascends_lower a b (f ∷ held) le order = (let above = order.0 in omega arith, order.1)

-- one more number
takes : (n m : ℕ) (before : List ℕ) (r : Receiver) → r.number ≡ gapless n before → Knows n before (r.number + 1) r.number r.held
    → (let s = after_frame r (bare m) in Knows n (before ++ m ∷ []) (s.number + 1) s.number s.held)
takes n m before r is knows = at (is_known r (bare m)) (is_beyond r (bare m)) refl refl
  where
    at : (k b : Bool) → is_known r (bare m) ≡ k → is_beyond r (bare m) ≡ b → (let s = (if k || b then r else with_frame r (bare m)) in Knows n (before ++ m ∷ []) (s.number + 1) s.number s.held)
    at true b known beyond = record {
      least = knows.least;
      each = λ q above most. came_more n m q before (knows.each q above most);
      came = λ q is_in. came_more n m q before (knows.came q is_in);
      order = knows.order;
      known = λ q within. ⊎_elim (λ old. knows.known q old)
          (λ (new : (q ≡ m) × (q ≤ gapless n before + window)). ⊎_elim (λ (low : nat_le m r.number ≡ true). let same = new.0 in let le : m ≤ r.number = grind arith in inl (omega arith))
          (λ (among : is_held m r.held ≡ true). inr (subst (λ x. is_held x r.held ≡ true) (sym new.0) among)) (or_cases (nat_le m r.number) (is_held m r.held) known))
          (came_less n m q before within);
    }
    at false true known beyond = record {
      least = knows.least;
      each = λ q above most. came_more n m q before (knows.each q above most);
      came = λ q is_in. came_more n m q before (knows.came q is_in);
      order = knows.order;
      known = λ q within. ⊎_elim (λ old. knows.known q old)
          (λ (new : (q ≡ m) × (q ≤ gapless n before + window)). let same = new.0 in let inside = new.1 in let far : r.number + window < m = grind arith in absurd (omega arith))
          (came_less n m q before within);
    }
    at false false known beyond =
        let none = or_none (nat_le m r.number) (is_held m r.held) known in
        let above : r.number < m = (let p = none.0 in grind arith) in
        let inside : m ≤ r.number + window = grind arith in
        let here : CameWithin n (before ++ m ∷ []) m = record { before = before; later = []; parts = refl; within = subst (λ x. m ≤ x + window) is inside } in
        settles n (before ++ m ∷ []) r (hold (bare m) r.held) (record {
          least = knows.least;
          each = λ q low most. came_more n m q before (knows.each q low most);
          came = λ q is_in. ⊎_elim (λ (same : m ≡ q). subst (λ x. CameWithin n (before ++ m ∷ []) x) same here)
              (λ (among : is_held q r.held ≡ true). came_more n m q before (knows.came q among)) (is_held-hold (bare m) q r.held is_in);
          order = Ascends-hold (bare m) r.number r.held above none.1 (ascends_lower r.number (r.number + 1) r.held (omega arith) knows.order);
          known = λ q within. ⊎_elim (λ old. ⊎_elim (λ low. inl low) (λ among. inr (hold-held (bare m) q r.held (inr among))) (knows.known q old))
              (λ (new : (q ≡ m) × (q ≤ gapless n before + window)). inr (hold-held (bare m) q r.held (inl (sym new.0)))) (came_less n m q before within);
        })

receive-append : (r : Receiver) (a b : List Arrival) → receive r (a ++ b) ≡ receive (receive r a) b
receive-append r [] b = refl
receive-append r (f ∷ a) b = receive-append (after_frame r f) a b

map_bare-append : (a b : List ℕ) → map bare (a ++ b) ≡ map bare a ++ map bare b
map_bare-append [] b = refl
map_bare-append (x ∷ a) b = ap (λ (l : List Arrival). bare x ∷ l) (map_bare-append a b)

abbrev after_numbers : ℕ → List ℕ → Receiver
after_numbers n numbers = receive (starting n 0 []) (map bare numbers)

after_one_more : (n m : ℕ) (before : List ℕ) → after_numbers n (before ++ m ∷ []) ≡ after_frame (after_numbers n before) (bare m)
after_one_more n m before = ap (receive (starting n 0 [])) (map_bare-append before (m ∷ [])) ∙ receive-append (starting n 0 []) (map bare before) (bare m ∷ [])

abbrev AllKnown : ℕ → List ℕ → Type 0
AllKnown n before = (let r = after_numbers n before in Knows n before (r.number + 1) r.number r.held)

all_known : (n : ℕ) (before numbers : List ℕ) → AllKnown n before → AllKnown n (before ++ numbers)
all_known n before [] knows = subst (AllKnown n) (sym (append-nil before)) knows
all_known n before (m ∷ numbers) knows =
    let one : (let r = after_frame (after_numbers n before) (bare m) in Knows n (before ++ m ∷ []) (r.number + 1) r.number r.held) =
    takes n m before (after_numbers n before) refl knows in
    let next : AllKnown n (before ++ m ∷ []) = subst (λ (r : Receiver). Knows n (before ++ m ∷ []) (r.number + 1) r.number r.held) (sym (after_one_more n m before)) one in
    subst (AllKnown n) (append_assoc before (m ∷ []) numbers) (all_known n (before ++ m ∷ []) numbers next)

none_came : (n q : ℕ) → CameWithin n [] q → ⊥
none_came n q c = at c.before c.parts
  where
    at : (b : List ℕ) → [] ≡ b ++ q ∷ c.later → ⊥
    at [] e = cc
    at (x ∷ b) e = cc

pub gapless-longest : (n : ℕ) (numbers : List ℕ) → IsGapless n numbers (gapless n numbers)
gapless-longest n numbers =
    let start : AllKnown n [] = record {
      least = omega arith;
      each = λ q above most. absurd (omega arith);
      came = λ q e. cc;
      order = tt;
      known = λ q c. absurd (none_came n q c);
    } in
    let knows = all_known n [] numbers start in
    record {
      least = knows.least;
      each = knows.each;
      no_more = λ c. ⊎_elim (λ (low : gapless n numbers + 1 ≤ gapless n numbers). omega arith)
          (λ (among : is_held (gapless n numbers + 1) (after_numbers n numbers).held ≡ true). let above = held_above (gapless n numbers + 1) (gapless n numbers + 1)
          (after_numbers n numbers).held knows.order among in omega arith)
          (knows.known (gapless n numbers + 1) c);
    }

-- the number never falls
settled-grows : (r : Receiver) (held : List Arrival) → r.number ≤ (settled r held).number
settled-grows r [] = omega arith
settled-grows r (f ∷ held) = at (f.seq == r.number + 1) (settled-grows (applied r f held) held)
  where
    at : (b : Bool) → r.number + 1 ≤ (settled (applied r f held) held).number → r.number ≤ (if b then settled (applied r f held) held else record r { held = f ∷ held }).number
    at true rest = omega arith
    at false rest = omega arith

pub taken-grows : (r : Receiver) (f : Arrival) → r.number ≤ (after_frame r f).number
taken-grows r f = at (is_known r f || is_beyond r f)
  where
    at : (b : Bool) → r.number ≤ (if b then r else with_frame r f).number
    at true = omega arith
    at false = settled-grows r (hold f r.held)

answer-not_beyond : (k b s : Bool) (upto : ℕ) → b ≡ false → (if k then Repeat else (if b then Beyond else (if s then Applied upto else Held))) ≡ Beyond → ⊥
answer-not_beyond true b s upto e is = cc
answer-not_beyond false true s upto e is = cc
answer-not_beyond false false true upto e is = cc
answer-not_beyond false false false upto e is = cc

not_above : (a b : ℕ) → b ≤ a → nat_lt a b ≡ false
not_above a b le = grind arith

pub none-beyond : (n : ℕ) (r : Receiver) (frames : List Arrival) → n ≤ r.number → All (λ f. f.seq ≤ n + window) frames → All (λ a. a ≢ Beyond) (answers r frames)
none-beyond n r [] least all = All-nil (λ a. a ≢ Beyond)
none-beyond n r (f ∷ frames) least all =
    let inside : f.seq ≤ n + window = All-head (λ g. g.seq ≤ n + window) f frames all in
    let near : f.seq ≤ r.number + window = omega arith in
    All-cons (λ a. a ≢ Beyond) (answer r f) (answers (after_frame r f) frames)
    (answer-not_beyond (is_known r f) (is_beyond r f) (f.seq == r.number + 1) (with_frame r f).number (not_above (r.number + window) f.seq near))
    (none-beyond n (after_frame r f) frames (let grows = taken-grows r f in omega arith) (All-tail (λ g. g.seq ≤ n + window) f frames all))

-- what tells how far a receiver comes: its number, and the numbers that it holds
abbrev bared : Arrival → Arrival
bared f = bare f.seq

abbrev shadow : Receiver → Receiver
shadow r = record { number = r.number; time = 0; image = []; held = map bared r.held }

shadow-settled : (r : Receiver) (held : List Arrival) → shadow (settled r held) ≡ settled (shadow r) (map bared held)
shadow-settled r [] = refl
shadow-settled r (f ∷ held) = at (f.seq == r.number + 1) (shadow-settled (applied r f held) held)
  where
    at : (b : Bool) → shadow (settled (applied r f held) held) ≡ settled (shadow (applied r f held)) (map bared held)
        → shadow (if b then settled (applied r f held) held else record r { held = f ∷ held }) ≡
        (if b then settled (applied (shadow r) (bared f) (map bared held)) (map bared held) else record (shadow r) { held = bared f ∷ map bared held })
    at true rest = rest
    at false rest = refl

shadow-hold : (f : Arrival) (held : List Arrival) → map bared (hold f held) ≡ hold (bared f) (map bared held)
shadow-hold f [] = refl
shadow-hold f (g ∷ held) = at (nat_lt f.seq g.seq) (shadow-hold f held)
  where
    at : (b : Bool) → map bared (hold f held) ≡ hold (bared f) (map bared held) → map bared (if b then f ∷ g ∷ held else g ∷ hold f held) ≡
        (if b then bared f ∷ bared g ∷ map bared held else bared g ∷ hold (bared f) (map bared held))
    at true rest = refl
    at false rest = ap (λ (l : List Arrival). bared g ∷ l) rest

shadow-is_held : (q : ℕ) (held : List Arrival) → is_held q (map bared held) ≡ is_held q held
shadow-is_held q [] = refl
shadow-is_held q (f ∷ held) = ap (λ (b : Bool). (f.seq == q) || b) (shadow-is_held q held)

shadow-taken : (r : Receiver) (f : Arrival) → shadow (after_frame r f) ≡ after_frame (shadow r) (bared f)
shadow-taken r f = at (is_known r f || is_beyond r f) ∙ ap (λ (b : Bool). if (nat_le f.seq r.number || b) || is_beyond r f then shadow r else with_frame (shadow r)
    (bared f)) (sym (shadow-is_held f.seq r.held))
  where
    at : (b : Bool) → shadow (if b then r else with_frame r f) ≡ (if b then shadow r else with_frame (shadow r) (bared f))
    at true = refl
    at false = shadow-settled r (hold f r.held) ∙ ap (settled (shadow r)) (shadow-hold f r.held)

shadow-receive : (r : Receiver) (frames : List Arrival) → shadow (receive r frames) ≡ receive (shadow r) (map bared frames)
shadow-receive r [] = refl
shadow-receive r (f ∷ frames) = shadow-receive (after_frame r f) frames ∙ ap (λ (s : Receiver). receive s (map bared frames)) (shadow-taken r f)

map_bared : (frames : List Arrival) → map bared frames ≡ map bare (map (λ f. f.seq) frames)
map_bared [] = refl
map_bared (f ∷ frames) = ap (λ (l : List Arrival). bared f ∷ l) (map_bared frames)

pub receive-number : (n time : ℕ) (image : List (List ℕ)) (frames : List Arrival) → (receive (starting n time image) frames).number ≡ gapless n (map (λ f. f.seq) frames)
receive-number n time image frames =
    ap (λ (r : Receiver). r.number) (shadow-receive (starting n time image) frames ∙ ap (receive (starting n 0 [])) (map_bared frames))
