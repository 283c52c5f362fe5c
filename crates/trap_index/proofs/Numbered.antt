-- Records with successive numbers, in the order of their times.
use Rattle.std.proofs.Common.{◌≡◌, ℕ, zero, suc, ◌+◌, ◌<◌, ◌≤◌, List, [], ◌∷◌, ◌++◌, length, get_or, take, drop, refl, ap, ◌∙◌, subst, arith}
use Rattle.trap_model.specs.declared.log_record.LogRec.{LogRec}
use Rattle.trap_index.specs.declared.item.Item.{Item}
use Rattle.trap_index.specs.Indexed.{time_of_last, rec_len, recs_len, no_rec}
use Rattle.trap_index.specs.Keeping.{AreNumbered, TimesNeverFall, rec_of_item, recs_of}

pub length-recs_of : (before : ℕ) (items : List Item) → length (recs_of before items) ≡ length items
length-recs_of before [] = refl
length-recs_of before (item ∷ later) = ap suc (length-recs_of (before + 1) later)

pub recs_of-push : (before q : ℕ) (items : List Item) (item : Item) → q ≡ before + length items + 1 → recs_of before (items ++ item ∷ []) ≡ recs_of before items ++ rec_of_item q item ∷ []
recs_of-push before q [] item is = ap (λ (n : ℕ). rec_of_item n item ∷ []) (let same : before + 1 ≡ q = omega arith in same)
recs_of-push before q (x ∷ items) item is = ap (λ (l : List LogRec). rec_of_item (before + 1) x ∷ l) (recs_of-push (before + 1) q items item (omega arith))

pub recs_of_numbered : (before : ℕ) (items : List Item) → AreNumbered before (recs_of before items)
recs_of_numbered before [] = tt
recs_of_numbered before (item ∷ later) = (refl, recs_of_numbered (before + 1) later)

pub numbered-take : (before : ℕ) (recs : List LogRec) (k : ℕ) → AreNumbered before recs → AreNumbered before (take k recs)
numbered-take before recs zero is = tt
numbered-take before [] (suc k) is = tt
numbered-take before (rec ∷ later) (suc k) is = (is.0, numbered-take (before + 1) later k is.1)

pub numbered-push : (before : ℕ) (recs : List LogRec) (rec : LogRec) → AreNumbered before recs → rec.seq ≡ before + length recs + 1 → AreNumbered before (recs ++ rec ∷ [])
numbered-push before [] rec is next = (let same : rec.seq ≡ before + 1 = omega arith in same, tt)
numbered-push before (x ∷ recs) rec is next = (is.0, numbered-push (before + 1) recs rec is.1 (omega arith))

pub seq_at : (before : ℕ) (recs : List LogRec) (k : ℕ) → AreNumbered before recs → k < length recs → (get_or recs k no_rec).seq ≡ before + 1 + k
seq_at before [] k is inside = absurd (omega arith)
seq_at before (rec ∷ later) zero is inside = let first = is.0 in omega arith
seq_at before (rec ∷ later) (suc k) is inside = let rest = seq_at (before + 1) later k is.1 (omega arith) in omega arith

pub times-push : (before : ℕ) (recs : List LogRec) (rec : LogRec) → TimesNeverFall before recs → time_of_last before recs ≤ rec.time → TimesNeverFall before (recs ++ rec ∷ [])
times-push before [] rec h later = (later, tt)
times-push before (x ∷ recs) rec h later = (h.0, times-push x.time recs rec h.1 later)

pub time_of_last-push : (before : ℕ) (recs : List LogRec) (rec : LogRec) → time_of_last before (recs ++ rec ∷ []) ≡ rec.time
time_of_last-push before [] rec = refl
time_of_last-push before (x ∷ recs) rec = time_of_last-push x.time recs rec

-- no time is below the one before all
pub time_least : (before : ℕ) (recs : List LogRec) (k : ℕ) → TimesNeverFall before recs → k < length recs → before ≤ (get_or recs k no_rec).time
time_least before [] k h inside = absurd (omega arith)
time_least before (rec ∷ later) zero h inside = h.0
time_least before (rec ∷ later) (suc k) h inside =
    let first = h.0 in
    let rest = time_least rec.time later k h.1 (omega arith) in
    omega arith

-- nor below that of a record before it
pub times_in_order : (before : ℕ) (recs : List LogRec) (j k : ℕ) → TimesNeverFall before recs → j ≤ k → k < length recs → (get_or recs j no_rec).time ≤ (get_or recs k no_rec).time
times_in_order before [] j k h order inside = absurd (omega arith)
times_in_order before (rec ∷ later) zero zero h order inside = omega arith
times_in_order before (rec ∷ later) zero (suc k) h order inside = time_least rec.time later k h.1 (omega arith)
times_in_order before (rec ∷ later) (suc j) zero h order inside = absurd (omega arith)
times_in_order before (rec ∷ later) (suc j) (suc k) h order inside = times_in_order rec.time later j k h.1 (omega arith) (omega arith)

pub recs_len-push : (recs : List LogRec) (rec : LogRec) → recs_len (recs ++ rec ∷ []) ≡ recs_len recs + rec_len rec
recs_len-push [] rec = omega arith
recs_len-push (x ∷ recs) rec = let rest = recs_len-push recs rec in omega arith

-- ---- the first so many records, and those after them
pub numbered-drop : (before : ℕ) (recs : List LogRec) (d : ℕ) → AreNumbered before recs → d ≤ length recs → AreNumbered (before + d) (drop d recs)
numbered-drop before recs zero is within = subst (λ (n : ℕ). AreNumbered n recs) (let same : before ≡ before + 0 = omega arith in same) is
numbered-drop before [] (suc d) is within = absurd (omega arith)
numbered-drop before (rec ∷ later) (suc d) is within =
    subst (λ (n : ℕ). AreNumbered n (drop d later)) (let same : before + 1 + d ≡ before + suc d = omega arith in same) (numbered-drop (before + 1) later d is.1 (omega arith))

pub times-drop : (before : ℕ) (recs : List LogRec) (d : ℕ) → TimesNeverFall before recs → TimesNeverFall (time_of_last before (take d recs)) (drop d recs)
times-drop before recs zero h = h
times-drop before [] (suc d) h = tt
times-drop before (rec ∷ later) (suc d) h = times-drop rec.time later d h.1

pub time_of_last-parts : (before : ℕ) (recs : List LogRec) (d : ℕ) → time_of_last (time_of_last before (take d recs)) (drop d recs) ≡ time_of_last before recs
time_of_last-parts before recs zero = refl
time_of_last-parts before [] (suc d) = refl
time_of_last-parts before (rec ∷ later) (suc d) = time_of_last-parts rec.time later d

pub recs_len-parts : (recs : List LogRec) (d : ℕ) → recs_len (take d recs) + recs_len (drop d recs) ≡ recs_len recs
recs_len-parts recs zero = omega arith
recs_len-parts [] (suc d) = omega arith
recs_len-parts (rec ∷ later) (suc d) = let rest = recs_len-parts later d in omega arith

-- the time after so many records is the last one's
pub time_of_last-at : (before : ℕ) (recs : List LogRec) (k : ℕ) → k < length recs → time_of_last before (take (suc k) recs) ≡ (get_or recs k no_rec).time
time_of_last-at before [] k inside = absurd (omega arith)
time_of_last-at before (rec ∷ later) zero inside = refl
time_of_last-at before (rec ∷ later) (suc k) inside = time_of_last-at rec.time later k (omega arith)

pub recs_of-drop : (before : ℕ) (items : List Item) (d : ℕ) → d ≤ length items → recs_of (before + d) (drop d items) ≡ drop d (recs_of before items)
recs_of-drop before items zero within = ap (λ (n : ℕ). recs_of n items) (let same : before + 0 ≡ before = omega arith in same)
recs_of-drop before [] (suc d) within = absurd (omega arith)
recs_of-drop before (item ∷ later) (suc d) within =
    ap (λ (n : ℕ). recs_of n (drop d later)) (let same : before + suc d ≡ before + 1 + d = omega arith in same) ∙ recs_of-drop (before + 1) later d (omega arith)
