-- The times and sizes of entries, and the images by a time.
use Rattle.std.proofs.Common.{◌≡◌, ◌≢◌, ℕ, ◌+◌, ◌<◌, ◌≤◌, List, [], ◌∷◌, ◌++◌, length, get_or, take, refl, ap, sym, ◌∙◌, arith, drop, filter, nat_le, true, false, append-nil, ⊎_elim}
use Rattle.std.proofs.lemmas.Bool.{cases_Bool}
use Rattle.std.proofs.lemmas.List.{take-append-drop}
use Rattle.std.proofs.lemmas.List.Elements.{filter-append}
use Rattle.trap_model.specs.declared.history.Entry.{Entry}
use Rattle.trap_model.specs.Image.{block_of, written, image_after}
use Rattle.trap_model.specs.Size.{entry_size, size_over}
use Rattle.trap_model.specs.State.{time_after}
use Rattle.trap_model.proofs.Images.{take_more_read, image_after-push, length-image_after, block_written_same, block_written_other}

pub time_after-push : (before : ℕ) (xs : List Entry) (entry : Entry) → time_after before (xs ++ entry ∷ []) ≡ entry.time
time_after-push before [] entry = refl
time_after-push before (x ∷ xs) entry = time_after-push x.time xs entry

pub time_after_more : (before : ℕ) (xs : List Entry) (i : ℕ) (x : Entry) → i < length xs → x ≡ get_or xs i x → time_after before (take (i + 1) xs) ≡ x.time
time_after_more before xs i x inside is = ap (time_after before) (take_more_read xs i x inside is) ∙ time_after-push before (take i xs) x

pub size_over-push : (base : List (List ℕ)) (xs : List Entry) (entry : Entry) → size_over base (xs ++ entry ∷ []) ≡ size_over base xs + entry_size (block_of (image_after base xs) entry.block) entry
size_over-push base [] entry = omega arith
size_over-push base (x ∷ xs) entry = omega (arith, size_over-push (written base x) xs entry)

pub size_over_more : (base : List (List ℕ)) (xs : List Entry) (i : ℕ) (x : Entry) → i < length xs → x ≡ get_or xs i x
    → size_over base (take (i + 1) xs) ≡ size_over base (take i xs) + entry_size (block_of (image_after base (take i xs)) x.block) x
size_over_more base xs i x inside is = ap (size_over base) (take_more_read xs i x inside is) ∙ size_over-push base (take i xs) x

-- some first entries take no more than all
pub size_over-append : (base : List (List ℕ)) (xs ys : List Entry) → size_over base (xs ++ ys) ≡ size_over base xs + size_over (image_after base xs) ys
size_over-append base [] ys = omega arith
size_over-append base (x ∷ xs) ys = omega (arith, size_over-append (written base x) xs ys)

pub size_over-take : (base : List (List ℕ)) (xs : List Entry) (i : ℕ) → size_over base (take i xs) ≤ size_over base xs
size_over-take base xs i =
    let parts : size_over base (take i xs ++ drop i xs) ≡ size_over base (take i xs) + size_over (image_after base (take i xs)) (drop i xs) =
    size_over-append base (take i xs) (drop i xs) in
    let whole : size_over base (take i xs ++ drop i xs) ≡ size_over base xs = ap (size_over base) (take-append-drop i xs) in
    omega arith

-- a block by a time, with one more entry, which counts and writes it or doesn't
module _ (base : List (List ℕ)) (xs : List Entry) (time i : ℕ) (x : Entry) (number : ℕ) (inside : i < length xs) (is : x ≡ get_or xs i x) where
  kept_more : filter (λ (entry : Entry). nat_le entry.time time) (take (i + 1) xs) ≡ filter (λ (entry : Entry). nat_le entry.time time) (take i xs) ++ filter
      (λ (entry : Entry). nat_le entry.time time) (x ∷ [])
  kept_more = ap (filter (λ (entry : Entry). nat_le entry.time time)) (take_more_read xs i x inside is) ∙ filter-append (λ (entry : Entry). nat_le entry.time time) (take i xs) (x ∷ [])

  pub block_by_same : nat_le x.time time ≡ true → x.block ≡ number → number < length base → x.bytes ≡ block_of
      (image_after base (filter (λ (entry : Entry). nat_le entry.time time) (take (i + 1) xs))) number
  block_by_same counts same within =
      let front = filter (λ (entry : Entry). nat_le entry.time time) (take i xs) in
      let one : filter (λ (entry : Entry). nat_le entry.time time) (x ∷ []) ≡ x ∷ [] = rw counts refl in
      let long : length (image_after base front) ≡ length base = length-image_after base front in
      sym (ap (λ (es : List Entry). block_of (image_after base es) number) (kept_more ∙ ap (λ (es : List Entry). front ++ es) one)
      ∙ ap (λ (im : List (List ℕ)). block_of im number) (image_after-push base front x)
      ∙ block_written_same (image_after base front) x number same (omega arith))

  pub block_by_later : nat_le x.time time ≡ false → block_of (image_after base (filter (λ (entry : Entry). nat_le entry.time time) (take i xs))) number ≡ block_of
      (image_after base (filter (λ (entry : Entry). nat_le entry.time time) (take (i + 1) xs))) number
  block_by_later later =
      let front = filter (λ (entry : Entry). nat_le entry.time time) (take i xs) in
      let none : filter (λ (entry : Entry). nat_le entry.time time) (x ∷ []) ≡ [] = rw later refl in
      sym (ap (λ (es : List Entry). block_of (image_after base es) number) (kept_more ∙ ap (λ (es : List Entry). front ++ es) none ∙ append-nil front))

  pub block_by_other : x.block ≢ number → block_of (image_after base (filter (λ (entry : Entry). nat_le entry.time time) (take i xs))) number ≡ block_of
      (image_after base (filter (λ (entry : Entry). nat_le entry.time time) (take (i + 1) xs))) number
  block_by_other other =
      ⊎_elim
      (λ (counts : nat_le x.time time ≡ true).
      let front = filter (λ (entry : Entry). nat_le entry.time time) (take i xs) in
      let one : filter (λ (entry : Entry). nat_le entry.time time) (x ∷ []) ≡ x ∷ [] = rw counts refl in
      sym (ap (λ (es : List Entry). block_of (image_after base es) number) (kept_more ∙ ap (λ (es : List Entry). front ++ es) one)
      ∙ ap (λ (im : List (List ℕ)). block_of im number) (image_after-push base front x)
      ∙ block_written_other (image_after base front) x number other))
      (λ (later : nat_le x.time time ≡ false). block_by_later later)
      (cases_Bool (nat_le x.time time))
