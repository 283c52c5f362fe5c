-- The chain of a block's records: where its last one stands, and what lies before it.
use Rattle.std.proofs.Common.{◌≡◌, ◌⊎◌, ℕ, zero, suc, ◌+◌, ◌-◌, ◌<◌, ◌≤◌, List, [], ◌∷◌, ◌++◌, length, get_or, take, drop, true, false, ◌==◌, refl, ap, sym, ◌∙◌, inl, inr, ⊎_elim, arith, subst, length-append, append-nil}
use Rattle.std.proofs.lemmas.Bool.{cases_Bool, eqb-true, eq-eqb, ne_eqb}
use Rattle.std.proofs.lemmas.List.{take-append-drop, take-take}
use Rattle.std.proofs.lemmas.List.Elements.{filter-append}
use Rattle.trap_model.specs.declared.log_record.LogRec.{LogRec}
use Rattle.trap_index.specs.Indexed.{of_block, seq_after, newest, no_rec}
use Rattle.trap_index.specs.Keeping.{AreNumbered}

-- Records with the numbers after `first`; n is the number of the block's last one, and before that stand the others.
pub record IsNewest (first block : ℕ) (recs : List LogRec) (n : ℕ) : Type 0 where
  pub low : first < n
  pub high : n ≤ first + length recs
  pub writes : (get_or recs (n - (first + 1)) no_rec).block ≡ block
  pub number : (get_or recs (n - (first + 1)) no_rec).seq ≡ n
  pub others : of_block block recs ≡ of_block block (take (n - (first + 1)) recs) ++ get_or recs (n - (first + 1)) no_rec ∷ []
  pub upto : of_block block recs ≡ of_block block (take (n - first) recs)

-- none writes the block, and the number is the one before them
pub record HasNone (before block : ℕ) (recs : List LogRec) : Type 0 where
  pub none : of_block block recs ≡ []
  pub number : seq_after before (of_block block recs) ≡ before

of_block-writes : (block : ℕ) (rec : LogRec) (recs : List LogRec) → (rec.block == block) ≡ true → of_block block (rec ∷ recs) ≡ rec ∷ of_block block recs
of_block-writes block rec recs is = rw is refl

of_block-other : (block : ℕ) (rec : LogRec) (recs : List LogRec) → (rec.block == block) ≡ false → of_block block (rec ∷ recs) ≡ of_block block recs
of_block-other block rec recs is = rw is refl

-- one record in front, which isn't the last of the block
newest-after : (first block : ℕ) (rec : LogRec) (recs : List LogRec) (n : ℕ) → IsNewest (first + 1) block recs n → IsNewest first block (rec ∷ recs) n
newest-after first block rec recs n is =
    let low = is.low in
    let high = is.high in
    let m = n - (first + 1 + 1) in
    let at : n - (first + 1) ≡ suc m = omega arith in
    let end : n - first ≡ suc (n - (first + 1)) = omega arith in
    let here : get_or (rec ∷ recs) (n - (first + 1)) no_rec ≡ get_or recs m no_rec = ap (λ (k : ℕ). get_or (rec ∷ recs) k no_rec) at in
    let front : (xs ys : List LogRec) → of_block block xs ≡ of_block block ys → of_block block (rec ∷ xs) ≡ of_block block (rec ∷ ys) = λ (xs ys : List LogRec)
    (e : of_block block xs ≡ of_block block ys). same_front block rec xs ys e in
    record {
      low = omega arith;
      high = omega arith;
      writes = ap (λ (r : LogRec). r.block) here ∙ is.writes;
      number = ap (λ (r : LogRec). r.seq) here ∙ is.number;
      others =
          after_front block rec recs (take m recs) (get_or recs m no_rec) is.others
          ∙ ap (λ (r : LogRec). of_block block (rec ∷ take m recs) ++ r ∷ []) (sym here)
          ∙ ap (λ (k : ℕ). of_block block (take k (rec ∷ recs)) ++ get_or (rec ∷ recs) (n - (first + 1)) no_rec ∷ []) (sym at);
      upto = front recs (take (n - (first + 1)) recs) is.upto ∙ ap (λ (k : ℕ). of_block block (take k (rec ∷ recs))) (sym end);
    }
  where
    same_front : (block : ℕ) (rec : LogRec) (xs ys : List LogRec) → of_block block xs ≡ of_block block ys → of_block block (rec ∷ xs) ≡ of_block block (rec ∷ ys)
    same_front block rec xs ys e = ⊎_elim
        (λ (t : (rec.block == block) ≡ true). of_block-writes block rec xs t ∙ ap (λ (l : List LogRec). rec ∷ l) e ∙ sym (of_block-writes block rec ys t))
        (λ (f : (rec.block == block) ≡ false). of_block-other block rec xs f ∙ e ∙ sym (of_block-other block rec ys f))
        (cases_Bool (rec.block == block))

    after_front : (block : ℕ) (rec : LogRec) (xs ys : List LogRec) (r : LogRec) → of_block block xs ≡ of_block block ys ++ r ∷ [] → of_block block (rec ∷ xs) ≡ of_block block (rec ∷ ys) ++ r ∷ []
    after_front block rec xs ys r e = ⊎_elim
        (λ (t : (rec.block == block) ≡ true). of_block-writes block rec xs t ∙ ap (λ (l : List LogRec). rec ∷ l) e ∙ sym (ap (λ (l : List LogRec). l ++ r ∷ []) (of_block-writes block rec ys t)))
        (λ (f : (rec.block == block) ≡ false). of_block-other block rec xs f ∙ e ∙ sym (ap (λ (l : List LogRec). l ++ r ∷ []) (of_block-other block rec ys f)))
        (cases_Bool (rec.block == block))

-- the first record is the block's last one
newest-first : (first block : ℕ) (rec : LogRec) (recs : List LogRec) (n : ℕ) → rec.seq ≡ first + 1 → (rec.block == block) ≡ true → of_block block recs ≡ []
    → n ≡ first + 1 → IsNewest first block (rec ∷ recs) n
newest-first first block rec recs n seq writes none is =
    let at : n - (first + 1) ≡ 0 = omega arith in
    let end : n - first ≡ 1 = omega arith in
    let here : get_or (rec ∷ recs) (n - (first + 1)) no_rec ≡ rec = ap (λ (k : ℕ). get_or (rec ∷ recs) k no_rec) at in
    let one : of_block block (rec ∷ recs) ≡ rec ∷ [] = of_block-writes block rec recs writes ∙ ap (λ (l : List LogRec). rec ∷ l) none in
    record {
      low = omega arith;
      high = omega arith;
      writes = ap (λ (r : LogRec). r.block) here ∙ eqb-true rec.block block writes;
      number = ap (λ (r : LogRec). r.seq) here ∙ seq ∙ sym is;
      others = one
          ∙ ap (λ (r : LogRec). r ∷ []) (sym here)
          ∙ ap (λ (k : ℕ). of_block block (take k (rec ∷ recs)) ++ get_or (rec ∷ recs) (n - (first + 1)) no_rec ∷ []) (sym at);
      upto = one ∙ sym (of_block-writes block rec [] writes) ∙ ap (λ (k : ℕ). of_block block (take k (rec ∷ recs))) (sym end);
    }

newest_after : (before first block : ℕ) (recs : List LogRec) → AreNumbered first recs → HasNone before block recs ⊎ IsNewest first block recs (seq_after before (of_block block recs))
newest_after before first block [] is = inl (record { none = refl; number = refl })
newest_after before first block (rec ∷ recs) is = ⊎_elim
    (λ (t : (rec.block == block) ≡ true).
    let number : seq_after before (of_block block (rec ∷ recs)) ≡ seq_after rec.seq (of_block block recs) = ap (seq_after before) (of_block-writes block rec recs t) in
    ⊎_elim
    (λ (none : HasNone rec.seq block recs). inr (newest-first first block rec recs (seq_after before (of_block block (rec ∷ recs))) is.0 t none.none (number ∙ none.number ∙ is.0)))
    (λ (found : IsNewest (first + 1) block recs (seq_after rec.seq (of_block block recs))).
    inr (subst (IsNewest first block (rec ∷ recs)) (sym number) (newest-after first block rec recs (seq_after rec.seq (of_block block recs)) found)))
    (newest_after rec.seq (first + 1) block recs is.1))
    (λ (f : (rec.block == block) ≡ false).
    let same = of_block-other block rec recs f in
    let number : seq_after before (of_block block (rec ∷ recs)) ≡ seq_after before (of_block block recs) = ap (seq_after before) same in
    ⊎_elim
    (λ (none : HasNone before block recs). inl (record { none = same ∙ none.none; number = number ∙ none.number }))
    (λ (found : IsNewest (first + 1) block recs (seq_after before (of_block block recs))).
    inr (subst (IsNewest first block (rec ∷ recs)) (sym number) (newest-after first block rec recs (seq_after before (of_block block recs)) found)))
    (newest_after before (first + 1) block recs is.1))
    (cases_Bool (rec.block == block))

-- a block has no record, or its last one is the newest
pub newest_cases : (first block : ℕ) (recs : List LogRec) → AreNumbered first recs → HasNone 0 block recs ⊎ IsNewest first block recs (newest block recs)
newest_cases first block recs is = newest_after 0 first block recs is

-- the newest number is no greater than the last
pub newest_most : (first block : ℕ) (recs : List LogRec) → AreNumbered first recs → newest block recs ≤ first + length recs
newest_most first block recs is = ⊎_elim
    (λ (none : HasNone 0 block recs). let zero_is = none.number in omega arith)
    (λ (found : IsNewest first block recs (newest block recs)). found.high)
    (newest_cases first block recs is)

-- of more records no fewer are of the block
pub of_block_more : (block : ℕ) (recs : List LogRec) (j k : ℕ) → j ≤ k → length (of_block block (take j recs)) ≤ length (of_block block (take k recs))
of_block_more block recs j k order =
    let parts : take j recs ++ drop j (take k recs) ≡ take k recs = ap (λ (l : List LogRec). l ++ drop j (take k recs)) (sym (take-take j k recs order)) ∙ take-append-drop j (take k recs) in
    let split : of_block block (take j recs ++ drop j (take k recs)) ≡ of_block block (take j recs) ++ of_block block (drop j (take k recs)) = filter-append
    (λ (rec : LogRec). rec.block == block) (take j recs) (drop j (take k recs)) in
    let long : length (of_block block (take k recs)) ≡ length (of_block block (take j recs) ++ of_block block (drop j (take k recs))) = ap (λ (l : List LogRec). length l)
    (sym (ap (of_block block) parts) ∙ split) in
    let sum = length-append (of_block block (take j recs)) (of_block block (drop j (take k recs))) in
    omega arith

-- those of the block up to a number and above it are all of them
pub of_block_parts : (block : ℕ) (recs : List LogRec) (k : ℕ) → length (of_block block (take k recs)) + length (of_block block (drop k recs)) ≡ length (of_block block recs)
of_block_parts block recs k =
    let split : of_block block (take k recs ++ drop k recs) ≡ of_block block (take k recs) ++ of_block block (drop k recs) = filter-append
    (λ (rec : LogRec). rec.block == block) (take k recs) (drop k recs) in
    let long : length (of_block block recs) ≡ length (of_block block (take k recs) ++ of_block block (drop k recs)) = ap (λ (l : List LogRec). length l)
    (sym (ap (of_block block) (take-append-drop k recs)) ∙ split) in
    let sum = length-append (of_block block (take k recs)) (of_block block (drop k recs)) in
    omega arith

-- a further record is the newest of its block, and of no other
pub newest-push : (block : ℕ) (recs : List LogRec) (rec : LogRec) → rec.block ≡ block → newest block (recs ++ rec ∷ []) ≡ rec.seq
newest-push block recs rec is =
    let t : (rec.block == block) ≡ true = eq_is is in
    ap (seq_after 0) (filter-append (λ (r : LogRec). r.block == block) recs (rec ∷ []) ∙ ap (λ (l : List LogRec). of_block block recs ++ l) (of_block-writes block rec [] t))
    ∙ at_end 0 (of_block block recs)
  where
    eq_is : rec.block ≡ block → (rec.block == block) ≡ true
    eq_is e = eq-eqb rec.block block e

    at_end : (before : ℕ) (xs : List LogRec) → seq_after before (xs ++ rec ∷ []) ≡ rec.seq
    at_end before [] = refl
    at_end before (x ∷ xs) = at_end x.seq xs

pub newest-push_other : (block : ℕ) (recs : List LogRec) (rec : LogRec) → (rec.block ≡ block → ⊥) → newest block (recs ++ rec ∷ []) ≡ newest block recs
newest-push_other block recs rec other =
    ap (seq_after 0) (filter-append (λ (r : LogRec). r.block == block) recs (rec ∷ []) ∙ ap (λ (l : List LogRec). of_block block recs ++ l)
    (of_block-other block rec [] (ne_eqb rec.block block other)) ∙ append-nil (of_block block recs))

-- no more are of a block than there are
pub of_block_few : (block : ℕ) (recs : List LogRec) → length (of_block block recs) ≤ length recs
of_block_few block [] = omega arith
of_block_few block (rec ∷ recs) =
    let rest = of_block_few block recs in
    ⊎_elim
    (λ (t : (rec.block == block) ≡ true).
    let one : length (of_block block (rec ∷ recs)) ≡ suc (length (of_block block recs)) = ap (λ (l : List LogRec). length l) (of_block-writes block rec recs t) in
    omega arith)
    (λ (f : (rec.block == block) ≡ false).
    let same : length (of_block block (rec ∷ recs)) ≡ length (of_block block recs) = ap (λ (l : List LogRec). length l) (of_block-other block rec recs f) in
    omega arith)
    (cases_Bool (rec.block == block))

-- where none is of a block, none writes it
pub none_of_block : (block : ℕ) (recs : List LogRec) (k : ℕ) → length (of_block block recs) ≡ 0 → k < length recs → (get_or recs k no_rec).block ≡ block → ⊥
none_of_block block [] k none inside writes = absurd (omega arith)
none_of_block block (rec ∷ recs) zero none inside writes =
    let one : length (of_block block (rec ∷ recs)) ≡ suc (length (of_block block recs)) = ap (λ (l : List LogRec). length l) (of_block-writes block rec recs (eq-eqb rec.block block writes)) in
    absurd (omega arith)
none_of_block block (rec ∷ recs) (suc k) none inside writes = ⊎_elim
    (λ (t : (rec.block == block) ≡ true).
    let one : length (of_block block (rec ∷ recs)) ≡ suc (length (of_block block recs)) = ap (λ (l : List LogRec). length l) (of_block-writes block rec recs t) in
    absurd (omega arith))
    (λ (f : (rec.block == block) ≡ false).
    none_of_block block recs k (sym (ap (λ (l : List LogRec). length l) (of_block-other block rec recs f)) ∙ none) (omega arith) writes)
    (cases_Bool (rec.block == block))
