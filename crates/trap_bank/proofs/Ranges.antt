-- Ranges of a disk, and bytes that are laid over it.
use Rattle.std.proofs.Common.{◌≡◌, ◌⊎◌, ℕ, ◌+◌, ◌-◌, ◌<◌, ◌≤◌, List, [], ◌∷◌, ◌++◌, length, take, drop, slice_index, slice_range, get_or, refl, sym, ◌∙◌, ap, subst, inl, inr, ⊎_elim, arith, length-append, length-take, length-drop, All, drop-cons, add-one}
use Rattle.std.proofs.Math.Seq.{drop-length, take-append_seam, drop-append_seam}
use Rattle.std.proofs.lemmas.List.{ext_get_or, get_or_append_left, get_or-append_right, get_or-take, get_or-drop}
use Rattle.std.proofs.lemmas.Bool.{cases_lt}
use Rattle.std.proofs.lemmas.List.Elements.{All-push}
use Rattle.trap_bank.specs.declared.disk.Range.{Range}
use Rattle.trap_bank.specs.Kept.{InRanges, AgreeOutside, IsStableBut, overlaid}

-- a position in the first ranges is in all of them
pub in_more : (ranges : List Range) (range : Range) (i : ℕ) → InRanges ranges i → InRanges (ranges ++ range ∷ []) i
in_more [] range i h = absurd h
in_more (r ∷ rs) range i h = ⊎_elim (λ here. inl here) (λ there. inr (in_more rs range i there)) h

-- a position in the last range is in one of all
pub in_last : (ranges : List Range) (range : Range) (i : ℕ) → range.at ≤ i → i < range.at + range.len → InRanges (ranges ++ range ∷ []) i
in_last [] range i from to = inl (from, to)
in_last (r ∷ rs) range i from to = inr (in_last rs range i from to)

pub length-overlaid : (old : List ℕ) (at : ℕ) (bytes : List ℕ) → at + length bytes ≤ length old → length (overlaid old at bytes) ≡ length old
length-overlaid old at bytes fits = simp (length-append, length-take, length-drop) (omega arith)

-- before the offset the bytes are as before
pub overlaid-before : (old : List ℕ) (at : ℕ) (bytes : List ℕ) (i : ℕ) → at + length bytes ≤ length old → i < at → slice_index (overlaid old at bytes) i ≡ slice_index old i
overlaid-before old at bytes i fits below =
    let long : i < length (take at old) = simp length-take (omega arith) in
    get_or_append_left (take at old) (bytes ++ drop (at + length bytes) old) 0 i long ∙ get_or-take at old i 0 below

-- after them the bytes are as before
pub overlaid-after : (old : List ℕ) (at : ℕ) (bytes : List ℕ) (i : ℕ) → at + length bytes ≤ length old → at + length bytes ≤ i → slice_index (overlaid old at bytes) i ≡ slice_index old i
overlaid-after old at bytes i fits behind =
    let long : length (take at old) ≡ at = simp length-take (omega arith) in
    let first : at ≤ i = omega arith in
    let second : length bytes ≤ i - at = omega arith in
    let back : at + length bytes + (i - at - length bytes) ≡ i = omega arith in
    get_or-append_right (take at old) (bytes ++ drop (at + length bytes) old) at i 0 long first
    ∙ get_or-append_right bytes (drop (at + length bytes) old) (length bytes) (i - at) 0 refl second
    ∙ get_or-drop (at + length bytes) old (i - at - length bytes) 0
    ∙ ap (λ (j : ℕ). get_or old j 0) back

-- in the range stand the new bytes
pub overlaid-within : (old : List ℕ) (at : ℕ) (bytes : List ℕ) (k : ℕ) → at + length bytes ≤ length old → k < length bytes → slice_index (overlaid old at bytes) (at + k) ≡ slice_index bytes k
overlaid-within old at bytes k fits below =
    let long : length (take at old) ≡ at = simp length-take (omega arith) in
    let first : at ≤ at + k = omega arith in
    let back : at + k - at ≡ k = omega arith in
    get_or-append_right (take at old) (bytes ++ drop (at + length bytes) old) at (at + k) 0 long first
    ∙ ap (λ (j : ℕ). get_or (bytes ++ drop (at + length bytes) old) j 0) back
    ∙ get_or_append_left bytes (drop (at + length bytes) old) 0 k below

-- outside of the range the bytes are as before
pub overlaid-outside : (old : List ℕ) (at : ℕ) (bytes : List ℕ) (i : ℕ) → at + length bytes ≤ length old → (at ≤ i → i < at + length bytes → ⊥)
    → slice_index (overlaid old at bytes) i ≡ slice_index old i
overlaid-outside old at bytes i fits out =
    ⊎_elim (overlaid-before old at bytes i fits)
    (λ (behind : at ≤ i). ⊎_elim (λ (within : i < at + length bytes). absurd (out behind within)) (overlaid-after old at bytes i fits) (cases_lt i (at + length bytes)))
    (cases_lt i at)

-- a disk that was written is still well kept
pub written_is_kept : (bytes stable : List ℕ) (ranges : List Range) (at : ℕ) (fresh : List ℕ) → at + length fresh ≤ length bytes → IsStableBut bytes stable ranges
    → IsStableBut (overlaid bytes at fresh) stable (ranges ++ record { at = at; len = length fresh } ∷ [])
written_is_kept bytes stable ranges at fresh fits kept =
    let long : length (overlaid bytes at fresh) ≡ length bytes = length-overlaid bytes at fresh fits in
    let last : Range = record { at = at; len = length fresh } in
    record {
      same = kept.same ∙ sym long;
      inside = subst (λ (n : ℕ). All (λ (range : Range). range.at + range.len ≤ n) (ranges ++ last ∷ [])) (sym long)
          (All-push (λ (range : Range). range.at + range.len ≤ length bytes) ranges last kept.inside fits);
      agree = λ i out. kept.agree i (λ in_. out (in_more ranges last i in_))
          ∙ sym (overlaid-outside bytes at fresh i fits (λ from to. out (in_last ranges last i from to)));
    }

-- what is in the ranges from one on is in the first of them or after it
pub in_first : (ranges : List Range) (k : ℕ) (first : Range) (i : ℕ) → drop k ranges ≡ first ∷ drop (k + 1) ranges
    → InRanges (drop k ranges) i → ((first.at ≤ i) × (i < first.at + first.len)) ⊎ InRanges (drop (k + 1) ranges) i
in_first ranges k first i split h = subst (λ (rs : List Range). InRanges rs i) split h

pub apart_before : (i n : ℕ) → i < n → n ≤ i → ⊥
apart_before i n below above = omega arith

pub copied_within : (to from : List ℕ) (range : Range) (i : ℕ) (part : List ℕ) → part ≡ slice_range from range.at (range.at + range.len) → length part ≡ range.len
    → range.at + length part ≤ length to → range.at ≤ i → i < range.at + range.len → slice_index (overlaid to range.at part) i ≡ slice_index from i
copied_within to from range i part is long fits behind within =
    let k : ℕ = i - range.at in
    let at_i : range.at + k ≡ i = omega arith in
    let below : k < length part = omega arith in
    let inner : k < range.at + range.len - range.at = omega arith in
    let copied : slice_index part k ≡ slice_index from (range.at + k) =
    ap (λ (xs : List ℕ). slice_index xs k) is ∙ get_or-take (range.at + range.len - range.at) (drop range.at from) k 0 inner ∙ get_or-drop range.at from k 0 in
    subst (λ (j : ℕ). slice_index (overlaid to range.at part) j ≡ slice_index from j) at_i (overlaid-within to range.at part k fits below ∙ copied)

-- one more range is copied
pub copied_more : (to from : List ℕ) (ranges : List Range) (k : ℕ) (range : Range) → length to ≡ length from → range.at + range.len ≤ length from
    → drop k ranges ≡ range ∷ drop (k + 1) ranges → AgreeOutside (drop k ranges) to from
    → AgreeOutside (drop (k + 1) ranges) (overlaid to range.at (slice_range from range.at (range.at + range.len))) from
copied_more to from ranges k range same inside split agree i out =
    let part : List ℕ = slice_range from range.at (range.at + range.len) in
    let long : length part ≡ range.len = simp (length-take, length-drop) (omega arith) in
    let fits : range.at + length part ≤ length to = omega arith in
    let outside : (range.at ≤ i → i < range.at + range.len → ⊥) → slice_index (overlaid to range.at part) i ≡ slice_index from i =
    λ apart. overlaid-outside to range.at part i fits (λ a b. apart a (omega arith))
    ∙ agree i (λ h. ⊎_elim (λ (here : (range.at ≤ i) × (i < range.at + range.len)). apart here.0 here.1) out (in_first ranges k range i split h)) in
    ⊎_elim (λ (before : i < range.at). outside (λ a b. absurd (apart_before i range.at before a)))
    (λ (behind : range.at ≤ i). ⊎_elim
    (λ (within : i < range.at + range.len). copied_within to from range i part refl long fits behind within)
    (λ (beyond : range.at + range.len ≤ i). outside (λ a b. absurd (apart_before i (range.at + range.len) b beyond)))
    (cases_lt i (range.at + range.len)))
    (cases_lt i range.at)

-- with the same bytes everywhere they are equal
pub agree_everywhere : (to from : List ℕ) (ranges : List Range) → length to ≡ length from → AgreeOutside (drop (length ranges) ranges) to from → to ≡ from
agree_everywhere to from ranges same agree =
    let none_left : drop (length ranges) ranges ≡ [] = drop-length ranges in
    ext_get_or 0 to from same (λ i below. agree i (λ h. subst (λ (rs : List Range). InRanges rs i) none_left h))

-- a list with more after it, cut to its length
pub cut_to_length : {A : Type 0} (xs ys : List A) (n : ℕ) → length xs ≡ n → take n (xs ++ ys) ≡ xs
cut_to_length xs ys n long = subst (λ (k : ℕ). take k (xs ++ ys) ≡ xs) long (take-append_seam xs ys)

pub length-copied : (to from : List ℕ) (range : Range) → length to ≡ length from → range.at + range.len ≤ length from
    → length (overlaid to range.at (slice_range from range.at (range.at + range.len))) ≡ length from
length-copied to from range same inside =
    let part : List ℕ = slice_range from range.at (range.at + range.len) in
    let long : length part ≡ range.len = simp (length-take, length-drop) (omega arith) in
    let fits : range.at + length part ≤ length to = omega arith in
    length-overlaid to range.at part fits ∙ same

-- the ranges from one on begin with it
pub split_at : (ranges : List Range) (k : ℕ) → k < length ranges → drop k ranges ≡ get_or ranges k (record { at = 0; len = 0 }) ∷ drop (k + 1) ranges
split_at ranges k below = rw (add-one, drop-cons ranges k (record { at = 0; len = 0 }) below) refl

-- a position in one of these ranges is in the last or in an earlier one
pub in_split : (ranges : List Range) (range : Range) (i : ℕ) → InRanges (ranges ++ range ∷ []) i → InRanges ranges i ⊎ ((range.at ≤ i) × (i < range.at + range.len))
in_split [] range i h = ⊎_elim (λ here. inr here) (λ none. absurd none) h
in_split (r ∷ rs) range i h = ⊎_elim (λ here. inl (inl here)) (λ there. ⊎_elim (λ earlier. inl (inr earlier)) (λ last. inr last) (in_split rs range i there)) h

-- the range that was laid over holds the new bytes
pub overlaid_there : (old : List ℕ) (at : ℕ) (bytes : List ℕ) → at + length bytes ≤ length old → take (length bytes) (drop at (overlaid old at bytes)) ≡ bytes
overlaid_there old at bytes fits =
    let front : List ℕ = take at old in
    let back : List ℕ = drop (at + length bytes) old in
    let long : length front ≡ at = simp length-take (omega arith) in
    let skipped : drop at (front ++ (bytes ++ back)) ≡ bytes ++ back =
    subst (λ (n : ℕ). drop n (front ++ (bytes ++ back)) ≡ bytes ++ back) long (drop-append_seam front (bytes ++ back)) in
    ap (λ (xs : List ℕ). take (length bytes) xs) skipped ∙ take-append_seam bytes back
