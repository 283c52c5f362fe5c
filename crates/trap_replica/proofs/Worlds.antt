-- A receiver follows its primary.
use Rattle.std.proofs.Common.{◌≡◌, ◌≢◌, ⊎_elim, ℕ, zero, suc, ◌+◌, ◌-◌, ◌<◌, ◌≤◌, List, [], ◌∷◌, ◌++◌, length, take, drop, refl, sym, ap, subst, ◌∙◌, arith, length-append}
use Rattle.std.specs.List.{All}
use Rattle.std.proofs.Math.ListN.{set}
use Rattle.std.proofs.Math.Seq.{drop-append_seam}
use Rattle.std.proofs.lemmas.Bool.{cases_eq, cases_lt}
use Rattle.std.proofs.lemmas.List.{take-append-le, take_all, length-set, get_or-set_same, get_or-set_other}
use Rattle.std.proofs.lemmas.List.Elements.{All-same, All-head, All-tail, All-push, All-take, All-drop}
use Rattle.trap_block.specs.Xor.{xor, zeros}
use Rattle.trap_block.proofs.XorLemmas.{xor-comm, xor-assoc, xor-self, xor-zeros}
use Rattle.trap_model.specs.Image.{block_of, written, image_after}
use Rattle.trap_model.specs.Receiver.{gapless}
use Rattle.trap_model.specs.declared.history.Entry.{Entry}
use Rattle.trap_model.proofs.Windows.{gapless-longest}
use Rattle.trap_replica.specs.World.{World, primary, with_parity, delivered, IsVolume, WritesWithin, FollowsPrimary, Event, Commit, Deliver, Happens, HappenAll}

-- a parity undoes the block that it was made with
undo : (xs ys : List ℕ) → length ys ≡ length xs → xor xs (xor xs ys) ≡ ys
undo xs ys same = sym (xor-assoc xs xs ys) ∙ ap (λ (l : List ℕ). xor l ys) (xor-self xs) ∙ xor-comm (zeros (length xs)) ys ∙ xor-zeros ys (length xs) same

-- entries, and then more entries
after_append : (base : List (List ℕ)) (xs ys : List Entry) → image_after base (xs ++ ys) ≡ image_after (image_after base xs) ys
after_append base [] ys = refl
after_append base (x ∷ xs) ys = after_append (written base x) xs ys

take_add : (n k : ℕ) (xs : List Entry) → take (n + k) xs ≡ take n xs ++ take k (drop n xs)
take_add zero k xs = let e : 0 + k ≡ k = omega arith in ap (λ (j : ℕ). take j xs) e
take_add (suc n) k [] = let e : suc n + k ≡ suc (n + k) = omega arith in ap (λ (j : ℕ). take j []) e ∙ sym (take_all k [] (omega arith))
take_add (suc n) k (x ∷ xs) = let e : suc n + k ≡ suc (n + k) = omega arith in ap (λ (j : ℕ). take j (x ∷ xs)) e ∙ ap (λ (l : List Entry). x ∷ l) (take_add n k xs)

module _ (volume size : ℕ) where
  -- an entry leaves an image of the same shape
  pub written_volume : (image : List (List ℕ)) (e : Entry) → IsVolume volume size image → WritesWithin volume size e → IsVolume volume size (written image e)
  written_volume image e is writes = record {
    long = length-set image e.block e.bytes ∙ is.long;
    sized = λ b within. ⊎_elim
        (λ (same : b ≡ e.block). ap (λ (n : ℕ). length (block_of (written image e) n)) same
        ∙ ap length (get_or-set_same image e.block e.bytes [] (omega (arith, is.long, writes.inside))) ∙ writes.sized)
        (λ (other : b ≢ e.block). ap length (get_or-set_other image e.block b e.bytes [] other) ∙ is.sized b within)
        (cases_eq b e.block);
  }

  pub after_volume : (base : List (List ℕ)) (xs : List Entry) → IsVolume volume size base → All (WritesWithin volume size) xs → IsVolume volume size (image_after base xs)
  after_volume base [] is all = is
  after_volume base (x ∷ xs) is all = after_volume (written base x) xs (written_volume base x is (All-head (WritesWithin volume size) x xs all)) (All-tail (WritesWithin volume size) x xs all)

  -- over the primary's own image a parity gives the entry's bytes
  pub same_image : (image : List (List ℕ)) (e : Entry) → IsVolume volume size image → WritesWithin volume size e → with_parity image image e ≡ written image e
  same_image image e is writes = ap (λ (l : List ℕ). set image e.block l) (undo (block_of image e.block) e.bytes (writes.sized ∙ sym (is.sized e.block writes.inside)))

  follows_all : (image : List (List ℕ)) (xs : List Entry) → IsVolume volume size image → All (WritesWithin volume size) xs → delivered image image xs ≡ image_after image xs
  follows_all image [] is all = refl
  follows_all image (x ∷ xs) is all =
      let writes = All-head (WritesWithin volume size) x xs all in
      ap (λ (im : List (List ℕ)). delivered (written image x) im xs) (same_image image x is writes)
      ∙ follows_all (written image x) xs (written_volume image x is writes) (All-tail (WritesWithin volume size) x xs all)

  -- numbers of entries lead to no number beyond them
  within : (count n : ℕ) (numbers : List ℕ) → n ≤ count → All (λ q. q ≤ count) numbers → gapless n numbers ≤ count
  within count n numbers least all = ⊎_elim
      (λ (more : n < gapless n numbers).
      let m = gapless n numbers in
      let came = (gapless-longest n numbers).each m more (omega arith) in
      let parts : All (λ q. q ≤ count) (came.before ++ m ∷ came.later) = All-same (λ q. q ≤ count) (came.before ++ m ∷ came.later) numbers (sym came.parts) all in
      All-head (λ q. q ≤ count) m came.later (All-same (λ q. q ≤ count) (m ∷ came.later) (drop (length came.before) (came.before ++ m ∷ came.later))
      (sym (drop-append_seam came.before (m ∷ came.later))) (All-drop (λ q. q ≤ count) (length came.before) (came.before ++ m ∷ came.later) parts)))
      (λ (less : gapless n numbers ≤ n). omega arith)
      (cases_lt n (gapless n numbers))

  committed : (w : World) (e : Entry) → FollowsPrimary volume size w → WritesWithin volume size e → FollowsPrimary volume size (record w { all = w.all ++ e ∷ [] })
  committed w e follows writes = record {
    start = follows.start;
    each = All-push (WritesWithin volume size) w.all e follows.each writes;
    most = omega (arith, follows.most, length-append w.all (e ∷ []));
    image = follows.image ∙ ap (image_after w.start) (sym (take-append-le w.number w.all (e ∷ []) follows.most));
  }

  moved : (w : World) (stop : ℕ) → FollowsPrimary volume size w → w.number ≤ stop → stop ≤ length w.all
      → FollowsPrimary volume size (record w { number = stop; image = delivered (primary w w.number) w.image (take (stop - w.number) (drop w.number w.all)) })
  moved w stop follows least most =
      let n = w.number in
      let k = stop - n in
      let rest = take k (drop n w.all) in
      let front = All-take (WritesWithin volume size) n w.all follows.each in
      let each : All (WritesWithin volume size) rest = All-take (WritesWithin volume size) k (drop n w.all) (All-drop (WritesWithin volume size) n w.all follows.each) in
      let sum : n + k ≡ stop = omega arith in
      record {
        start = follows.start;
        each = follows.each;
        most = most;
        image = ap (λ (im : List (List ℕ)). delivered (primary w n) im rest) follows.image
            ∙ follows_all (primary w n) rest (after_volume w.start (take n w.all) follows.start front) each
            ∙ sym (after_append w.start (take n w.all) rest)
            ∙ ap (image_after w.start) (sym (take_add n k w.all))
            ∙ ap (λ (j : ℕ). image_after w.start (take j w.all)) sum;
      }

  happens : (w v : World) (event : Event) → FollowsPrimary volume size w → Happens volume size event w v → FollowsPrimary volume size v × (w.number ≤ v.number)
  happens w v (Commit e) follows step = (
    subst (λ (u : World). FollowsPrimary volume size u) (sym step.1) (committed w e follows step.0),
    subst (λ (u : World). w.number ≤ u.number) (sym step.1) (omega arith),
  )
  happens w v (Deliver numbers stop) follows step = (
    subst (λ (u : World). FollowsPrimary volume size u) (sym step.3) (moved w stop follows step.1 (omega (arith, step.2, within (length w.all) w.number numbers follows.most step.0))),
    subst (λ (u : World). w.number ≤ u.number) (sym step.3) step.1,
  )

  pub happen_all : (w v : World) (events : List Event) → FollowsPrimary volume size w → HappenAll volume size events w v → FollowsPrimary volume size v × (w.number ≤ v.number)
  happen_all w v [] follows same = (
    subst (λ (u : World). FollowsPrimary volume size u) (sym same) follows,
    subst (λ (u : World). w.number ≤ u.number) (sym same) (omega arith),
  )
  happen_all w v (event ∷ events) follows steps =
      let first = happens w steps.0 event follows steps.1 in
      let rest = happen_all steps.0 v events first.0 steps.2 in
      (rest.0, omega (arith, first.1, rest.1))
