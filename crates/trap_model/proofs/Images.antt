-- Images after entries, block by block.
use Rattle.std.proofs.Common.{◌≡◌, ◌≢◌, ℕ, ◌+◌, ◌<◌, List, [], ◌∷◌, ◌++◌, length, get_or, take, refl, ap, sym, ◌∙◌, arith, length-set, get_or-set_same, get_or-set_other, subst}
use Rattle.std.proofs.lemmas.List.Sums.{fold_more}
use Rattle.std.proofs.lemmas.List.{take_more}
use Rattle.trap_model.specs.declared.history.Entry.{Entry}
use Rattle.trap_model.specs.Image.{block_of, written, image_after}

-- one more entry at the end
pub image_after-push : (base : List (List ℕ)) (xs : List Entry) (entry : Entry) → image_after base (xs ++ entry ∷ []) ≡ written (image_after base xs) entry
image_after-push base [] entry = refl
image_after-push base (x ∷ xs) entry = image_after-push (written base x) xs entry

pub image_after_more : (base : List (List ℕ)) (xs : List Entry) (i : ℕ) (d : Entry) → i < length xs → image_after base (take (i + 1) xs) ≡ written (image_after base (take i xs)) (get_or xs i d)
image_after_more base xs i d inside = fold_more written base xs i d inside

-- entries change no number of blocks
pub length-image_after : (base : List (List ℕ)) (xs : List Entry) → length (image_after base xs) ≡ length base
length-image_after base [] = refl
length-image_after base (x ∷ xs) = length-image_after (written base x) xs ∙ length-set base x.block x.bytes

-- the block that an entry writes, and the others
pub block_written_same : (image : List (List ℕ)) (entry : Entry) (number : ℕ) → entry.block ≡ number → number < length image → block_of (written image entry) number ≡ entry.bytes
block_written_same image entry number same inside =
    subst (λ n. get_or (written image entry) n [] ≡ entry.bytes) same
    (get_or-set_same image entry.block entry.bytes [] (omega arith))

pub block_written_other : (image : List (List ℕ)) (entry : Entry) (number : ℕ) → entry.block ≢ number → block_of (written image entry) number ≡ block_of image number
block_written_other image entry number other =
    get_or-set_other image entry.block number entry.bytes [] (λ e. other (sym e))

-- one more entry of a list
pub take_more_read : (xs : List Entry) (i : ℕ) (x : Entry) → i < length xs → x ≡ get_or xs i x → take (i + 1) xs ≡ take i xs ++ x ∷ []
take_more_read xs i x inside is = take_more xs i x inside ∙ ap (λ (e : Entry). take i xs ++ e ∷ []) (sym is)

-- a block after one more entry, which writes it or doesn't
pub block_more_same : (base : List (List ℕ)) (xs : List Entry) (i : ℕ) (x : Entry) (number : ℕ) → i < length xs → x ≡ get_or xs i x → x.block ≡ number
    → number < length base → x.bytes ≡ block_of (image_after base (take (i + 1) xs)) number
block_more_same base xs i x number inside is same within =
    let image = image_after base (take i xs) in
    let long : length image ≡ length base = length-image_after base (take i xs) in
    sym (ap (λ (es : List Entry). block_of (image_after base es) number) (take_more_read xs i x inside is)
    ∙ ap (λ (im : List (List ℕ)). block_of im number) (image_after-push base (take i xs) x)
    ∙ block_written_same image x number same (omega arith))

pub block_more_other : (base : List (List ℕ)) (xs : List Entry) (i : ℕ) (x : Entry) (number : ℕ) → i < length xs → x ≡ get_or xs i x → x.block ≢ number
    → block_of (image_after base (take i xs)) number ≡ block_of (image_after base (take (i + 1) xs)) number
block_more_other base xs i x number inside is other =
    sym (ap (λ (es : List Entry). block_of (image_after base es) number) (take_more_read xs i x inside is)
    ∙ ap (λ (im : List (List ℕ)). block_of im number) (image_after-push base (take i xs) x)
    ∙ block_written_other (image_after base (take i xs)) x number other)
