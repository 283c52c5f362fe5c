-- The headers of a history's records, one for each entry.
use Rattle.std.proofs.Common.{◌≡◌, ℕ, zero, suc, ◌+◌, ◌<◌, ◌≤◌, List, [], ◌∷◌, ◌++◌, length, get_or, take, drop, Bool, true, false, ◌==◌, if◌then◌else◌, refl, ap, ◌∙◌, arith}
use Rattle.trap_model.specs.declared.history.Entry.{Entry}
use Rattle.trap_model.specs.declared.log_record.LogRec.{LogRec}
use Rattle.trap_model.specs.Image.{block_of, written, image_after}
use Rattle.trap_model.specs.Path as entries
use Rattle.trap_model.proofs.Records.{snapshot_size}
use Rattle.trap_model.specs.Records.{rec_of, no_entry}
use Rattle.trap_model.specs.Size.{entry_size, size_over}
use Rattle.trap_model.specs.State.{time_after}
use Rattle.trap_index.specs.Indexed.{time_of_last, rec_len, recs_len, of_block, no_rec}
use Rattle.trap_index.specs.Keeping.{AreNumbered}
use Rattle.trap_index.specs.Describes.{headers_from}

pub length-headers : (image : List (List ℕ)) (q : ℕ) (xs : List Entry) → length (headers_from image q xs) ≡ length xs
length-headers image q [] = refl
length-headers image q (x ∷ xs) = ap suc (length-headers (written image x) (q + 1) xs)

pub headers-take : (image : List (List ℕ)) (q k : ℕ) (xs : List Entry) → take k (headers_from image q xs) ≡ headers_from image q (take k xs)
headers-take image q zero xs = refl
headers-take image q (suc k) [] = refl
headers-take image q (suc k) (x ∷ xs) = ap (λ (l : List LogRec). rec_of (q + 1) (block_of image x.block) x ∷ l) (headers-take (written image x) (q + 1) k xs)

pub headers-push : (image : List (List ℕ)) (q n : ℕ) (xs : List Entry) (x : Entry) → n ≡ q + length xs + 1
    → headers_from image q (xs ++ x ∷ []) ≡ headers_from image q xs ++ rec_of n (block_of (image_after image xs) x.block) x ∷ []
headers-push image q n [] x is = ap (λ (k : ℕ). rec_of k (block_of image x.block) x ∷ []) (let same : q + 1 ≡ n = omega arith in same)
headers-push image q n (y ∷ xs) x is = ap (λ (l : List LogRec). rec_of (q + 1) (block_of image y.block) y ∷ l) (headers-push (written image y) (q + 1) n xs x (omega arith))

-- the header with so many before it
pub headers-at : (image : List (List ℕ)) (q n k : ℕ) (xs : List Entry) → k < length xs → n ≡ q + 1 + k
    → get_or (headers_from image q xs) k no_rec ≡ rec_of n (block_of (image_after image (take k xs)) (get_or xs k no_entry).block) (get_or xs k no_entry)
headers-at image q n k [] inside is = absurd (omega arith)
headers-at image q n zero (x ∷ xs) inside is = ap (λ (m : ℕ). rec_of m (block_of image x.block) x) (let same : q + 1 ≡ n = omega arith in same)
headers-at image q n (suc k) (x ∷ xs) inside is = headers-at (written image x) (q + 1) n k xs (omega arith) (omega arith)

pub headers-numbered : (image : List (List ℕ)) (q : ℕ) (xs : List Entry) → AreNumbered q (headers_from image q xs)
headers-numbered image q [] = tt
headers-numbered image q (x ∷ xs) = (refl, headers-numbered (written image x) (q + 1) xs)

pub headers-time : (image : List (List ℕ)) (q before : ℕ) (xs : List Entry) → time_of_last before (headers_from image q xs) ≡ time_after before xs
headers-time image q before [] = refl
headers-time image q before (x ∷ xs) = headers-time (written image x) (q + 1) x.time xs

-- a record is as long as its entry's size
pub rec_len-entry : (q : ℕ) (old : List ℕ) (x : Entry) → rec_len (rec_of q old x) ≡ entry_size old x
rec_len-entry q old x = let second = snapshot_size x.snap x.bytes in omega arith

pub headers-len : (image : List (List ℕ)) (q : ℕ) (xs : List Entry) → recs_len (headers_from image q xs) ≡ size_over image xs
headers-len image q [] = refl
headers-len image q (x ∷ xs) =
    let one = rec_len-entry (q + 1) (block_of image x.block) x in
    let rest = headers-len (written image x) (q + 1) xs in
    omega arith

one_more : (b : Bool) (rec : LogRec) (x : Entry) (recs : List LogRec) (xs : List Entry) → length recs ≡ length xs → length (if b then rec ∷ recs else recs) ≡ length (if b then x ∷ xs else xs)
one_more true rec x recs xs e = ap suc e
one_more false rec x recs xs e = e

-- as many headers are of a block as entries write it
pub headers-of_block : (image : List (List ℕ)) (q block k : ℕ) (xs : List Entry) → length (of_block block (drop k (headers_from image q xs))) ≡ length (entries.entries_of_block block (drop k xs))
headers-of_block image q block zero [] = refl
headers-of_block image q block (suc k) [] = refl
headers-of_block image q block zero (x ∷ xs) =
    one_more (x.block == block) (rec_of (q + 1) (block_of image x.block) x) x (of_block block (headers_from (written image x) (q + 1) xs)) (entries.entries_of_block block xs)
    (headers-of_block (written image x) (q + 1) block zero xs)
headers-of_block image q block (suc k) (x ∷ xs) = headers-of_block (written image x) (q + 1) block k xs

-- those after so many are of the entries after so many
pub headers-drop : (image : List (List ℕ)) (q d : ℕ) (xs : List Entry) → d ≤ length xs → drop d (headers_from image q xs) ≡ headers_from (image_after image (take d xs)) (q + d) (drop d xs)
headers-drop image q zero xs within = ap (λ (n : ℕ). headers_from image n xs) (let same : q ≡ q + 0 = omega arith in same)
headers-drop image q (suc d) [] within = absurd (omega arith)
headers-drop image q (suc d) (x ∷ xs) within =
    headers-drop (written image x) (q + 1) d xs (omega arith)
    ∙ ap (λ (n : ℕ). headers_from (image_after (written image x) (take d xs)) n (drop d xs)) (let same : q + 1 + d ≡ q + suc d = omega arith in same)
