-- Entries that are dropped: what stays is valid, and dropping in steps is dropping at once.
use Rattle.std.proofs.Common.{◌≡◌, ℕ, ◌+◌, ◌-◌, ◌≤◌, List, [], ◌∷◌, ◌++◌, length, take, drop, refl, ap, sym, ◌∙◌, arith, subst, length-drop}
use Rattle.std.proofs.Math.Seq.{take-add}
use Rattle.std.proofs.lemmas.List.{take-append-drop, drop-drop}
use Rattle.std.proofs.lemmas.List.Elements.{All-take, All-drop}
use Rattle.trap_model.specs.declared.numbers.Geometry.{Geometry}
use Rattle.trap_model.specs.declared.history.Entry.{Entry}
use Rattle.trap_model.specs.declared.history.State.{State}
use Rattle.trap_model.specs.Image.{written, image_after}
use Rattle.trap_model.specs.Size.{size_over}
use Rattle.trap_model.specs.State.{time_after, last, IsEntry, NeverFall, IsValid}
use Rattle.trap_model.specs.ArrayStep.{kept_from}
use Rattle.trap_model.proofs.Histories.{size_over-append}
use Rattle.trap_model.proofs.Validity.{image_after_is_image}

pub image_after-append : (base : List (List ℕ)) (xs ys : List Entry) → image_after base (xs ++ ys) ≡ image_after (image_after base xs) ys
image_after-append base [] ys = refl
image_after-append base (x ∷ xs) ys = image_after-append (written base x) xs ys

pub time_after-append : (before : ℕ) (xs ys : List Entry) → time_after before (xs ++ ys) ≡ time_after (time_after before xs) ys
time_after-append before [] ys = refl
time_after-append before (x ∷ xs) ys = time_after-append x.time xs ys

-- later times don't fall either
never_fall-append : (before : ℕ) (xs ys : List Entry) → NeverFall before (xs ++ ys) → NeverFall (time_after before xs) ys
never_fall-append before [] ys h = h
never_fall-append before (x ∷ xs) ys h = never_fall-append x.time xs ys h.1

same_state : (first time : ℕ) (a b : List (List ℕ)) (t : ℕ) (xs ys : List Entry) → a ≡ b → time ≡ t → xs ≡ ys
    → ◌≡◌ {A = State} (record { first = first; base_time = time; base = a; entries = xs }) (record { first = first; base_time = t; base = b; entries = ys })
same_state first time a b t xs ys p q r = cc

-- dropped up to one number, and then up to a later one
pub kept_from-twice : (s : State) (p q : ℕ) → s.first ≤ p → p ≤ q → kept_from (kept_from s p) q ≡ kept_from s q
kept_from-twice s p q low high =
    let i = p - s.first in
    let j = q - p in
    let sum : q - s.first ≡ i + j = omega arith in
    let parts : take (q - s.first) s.entries ≡ take i s.entries ++ take j (drop i s.entries) =
    ap (λ (n : ℕ). take n s.entries) sum ∙ take-add i j s.entries in
    let images : image_after (image_after s.base (take i s.entries)) (take j (drop i s.entries)) ≡ image_after s.base (take (q - s.first) s.entries) =
    sym (ap (image_after s.base) parts ∙ image_after-append s.base (take i s.entries) (take j (drop i s.entries))) in
    let times : time_after (time_after s.base_time (take i s.entries)) (take j (drop i s.entries)) ≡ time_after s.base_time (take (q - s.first) s.entries) =
    sym (ap (time_after s.base_time) parts ∙ time_after-append s.base_time (take i s.entries) (take j (drop i s.entries))) in
    let rest : drop j (drop i s.entries) ≡ drop (q - s.first) s.entries = drop-drop j i s.entries ∙ ap (λ (n : ℕ). drop n s.entries) (sym sum) in
    same_state q _ _ _ _ _ _ images times rest

-- nothing is dropped up to the first number
pub kept_from-first : (s : State) → kept_from s s.first ≡ s
kept_from-first s =
    let none : s.first - s.first ≡ 0 = omega arith in
    rw none refl

-- what stays is valid
pub kept_from_valid : (g : Geometry) (s : State) (q : ℕ) → IsValid g s → s.first ≤ q → q ≤ last s → IsValid g (kept_from s q)
kept_from_valid g s q valid low high =
    let k = q - s.first in
    let whole = take-append-drop k s.entries in
    let long : length (drop k s.entries) ≡ length s.entries - k = length-drop k s.entries in
    let sizes : size_over s.base s.entries ≡ size_over s.base (take k s.entries) + size_over (image_after s.base (take k s.entries)) (drop k s.entries) =
    ap (size_over s.base) (sym whole) ∙ size_over-append s.base (take k s.entries) (drop k s.entries) in
    let fits : size_over (image_after s.base (take k s.entries)) (drop k s.entries) ≤ g.ring = omega (arith, valid.fits) in
    record {
      base = image_after_is_image g s.base (take k s.entries) valid.base (All-take (IsEntry g) k s.entries valid.entries);
      entries = All-drop (IsEntry g) k s.entries valid.entries;
      times = never_fall-append s.base_time (take k s.entries) (drop k s.entries) (subst (NeverFall s.base_time) (sym whole) valid.times);
      last_most = omega (arith, valid.last_most);
      few = omega (arith, valid.few);
      fits = fits;
    }

-- some of the entries up to a number are dropped
pub record KeptTo (s t : State) (seq : ℕ) : Type 0 where
  pub is : t ≡ kept_from s t.first
  pub low : s.first ≤ t.first
  pub high : t.first ≤ seq
