-- Links as they are read.
use Rattle.std.proofs.Common.{◌≡◌, ◌⊎◌, ℕ, ◌+◌, ◌<◌, ◌≤◌, List, [], ◌∷◌, ◌++◌, length, take, drop, ◌==◌, refl, ap, sym, ◌∙◌, inl, inr, ⊎_elim, arith}
use Rattle.std.proofs.lemmas.Bool.Decides.{nat_tests}
use Rattle.std.proofs.lemmas.List.{take-append-drop, length-take-le}
use Rattle.std.proofs.lemmas.List.Elements.{filter-append}
use Rattle.trap_model.specs.declared.log_record.LogRec.{LogRec}
use Rattle.trap_index.specs.Indexed.{of_block, seq_after, newest}
use Rattle.trap_index.specs.Keeping.{AreNumbered, link}
use Rattle.trap_index.proofs.Numbered.{numbered-take, numbered-drop}
use Rattle.trap_index.proofs.Chains.{IsNewest, HasNone, newest_cases, newest_most}

pub link-none : (first n : ℕ) → n ≤ first → link first n ≡ 0
link-none first n h = grind (arith, nat_tests)

pub link-some : (first n : ℕ) → first < n → link first n ≡ n
link-some first n h = grind (arith, nat_tests)

-- what isn't retained any more wasn't newly lost: reading by the later number alone gives the same
pub link-twice : (first seq n : ℕ) → first ≤ seq → link seq (link first n) ≡ link seq n
link-twice first seq n h = grind (arith, nat_tests)

seq_after-append : (before : ℕ) (xs ys : List LogRec) → seq_after before (xs ++ ys) ≡ seq_after (seq_after before xs) ys
seq_after-append before [] ys = refl
seq_after-append before (x ∷ xs) ys = seq_after-append x.seq xs ys

-- the last number of some records after others, read as a link
after_linked : (bound m : ℕ) (xs : List LogRec) → m ≤ bound → (xs ≡ []) ⊎ (bound < seq_after 0 xs) → seq_after 0 xs ≡ link bound (seq_after m xs)
after_linked bound m [] low cases = sym (link-none bound m low)
after_linked bound m (x ∷ xs) low cases = ⊎_elim (λ none. absurd (cc)) (λ above. sym (link-some bound (seq_after x.seq xs) above)) cases

-- a block's newest number among the records that stay
pub newest-drop : (first block : ℕ) (recs : List LogRec) (d : ℕ) → AreNumbered first recs → d ≤ length recs → newest block (drop d recs) ≡ link (first + d) (newest block recs)
newest-drop first block recs d is within =
    let front = take d recs in
    let rest = drop d recs in
    let size : length (take d recs) ≡ d = length-take-le d recs within in
    let most = newest_most first block front (numbered-take first recs d is) in
    let whole : newest block recs ≡ seq_after (newest block front) (of_block block rest) =
    ap (newest block) (sym (take-append-drop d recs))
    ∙ ap (seq_after 0) (filter-append (λ (rec : LogRec). rec.block == block) front rest)
    ∙ seq_after-append 0 (of_block block front) (of_block block rest) in
    after_linked (first + d) (newest block front) (of_block block rest) (omega arith)
    (⊎_elim (λ (none : HasNone 0 block rest). inl none.none) (λ (found : IsNewest (first + d) block rest (newest block rest)). inr found.low)
    (newest_cases (first + d) block rest (numbered-drop first recs d is within)))
    ∙ ap (link (first + d)) (sym whole)
