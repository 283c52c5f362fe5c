-- A list of bytes that is read piece by piece, from its end on, or written so, from its front.
use Rattle.std.proofs.Common.{◌≡◌, ℕ, ◌+◌, ◌<◌, ◌≤◌, List, ◌∷◌, ◌++◌, length, take, drop, get_or, ap, sym, ◌∙◌, take_at, drop_at}
use Rattle.std.specs.List.{slice_range}
use Rattle.std.proofs.lemmas.List.{drop_more, take-append-drop, drop-drop}
use Rattle.std.proofs.lemmas.List.Folds.{drop_split}
use Rattle.trap_block.specs.Fields.{put_over}

-- what stands from a place on is a piece, and what stands after it
pub piece : (xs p rest : List ℕ) (at end : ℕ) → at ≤ end → p ≡ slice_range xs at end → drop end xs ≡ rest → drop at xs ≡ p ++ rest
piece xs p rest at end low is behind =
    drop_split xs at end low ∙ ap (λ (q : List ℕ). q ++ drop end xs) (sym is) ∙ ap (λ (r : List ℕ). p ++ r) behind

pub byte : (xs rest : List ℕ) (at : ℕ) → at < length xs → drop (at + 1) xs ≡ rest → drop at xs ≡ get_or xs at 0 ∷ rest
byte xs rest at inside behind = drop_more xs at 0 inside ∙ ap (λ (r : List ℕ). get_or xs at 0 ∷ r) behind

pub byte_is : (xs : List ℕ) (b : ℕ) (rest : List ℕ) (at : ℕ) → at < length xs → b ≡ get_or xs at 0 → drop (at + 1) xs ≡ rest → drop at xs ≡ b ∷ rest
byte_is xs b rest at inside is behind = byte xs rest at inside behind ∙ ap (λ (c : ℕ). c ∷ rest) (sym is)

pub front : (xs p rest : List ℕ) (at : ℕ) → take at xs ≡ p → drop at xs ≡ rest → xs ≡ p ++ rest
front xs p rest at is behind = sym (take-append-drop at xs) ∙ ap (λ (q : List ℕ). q ++ drop at xs) is ∙ ap (λ (r : List ℕ). p ++ r) behind

-- a piece written after what is done
pub put-next : (done piece out : List ℕ) (at n : ℕ) → length done ≡ at → length piece ≡ n → put_over at piece (done ++ drop at out) ≡ (done ++ piece) ++ drop (at + n) out
put-next done piece out at n len size =
    ap (λ (l : List ℕ). l ++ piece ++ drop (at + length piece) (done ++ drop at out)) (take_at done (drop at out) at len)
    ∙ ap (λ (l : List ℕ). done ++ piece ++ l)
    (sym (drop-drop (length piece) at (done ++ drop at out)) ∙ ap (λ (l : List ℕ). drop (length piece) l) (drop_at done (drop at out) at len) ∙ drop-drop (length piece) at out
    ∙ ap (λ (m : ℕ). drop (at + m) out) size)
