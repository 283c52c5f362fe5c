-- What the scans for zero bytes keep and find.
use Rattle.std.proofs.Common.{◌≡◌, ℕ, ◌+◌, ◌-◌, ◌<◌, ◌≤◌, List, length, get_or, take, slice_range, sym, ◌∙◌, ap, subst, ⊎_elim, arith, length-take-le}
use Rattle.std.proofs.lemmas.Bool.{cases_lt}
use Rattle.std.proofs.lemmas.List.{get_or_past, get_or-take}
use Rattle.std.proofs.lemmas.List.Edits.{length-between, get_or-between}
use Rattle.trap_model.specs.ZeroRun.{AreZeros, IsLiteral}
use Rattle.trap_zrun.specs.Scans.{ZerosFollow}

-- from a nonzero byte to another one, where no four zero bytes stand, is a literal
pub literal-found : (block : List ℕ) (at stop end : ℕ) → at < end → end ≤ stop → stop ≤ length block → 0 < get_or block at 0 → 0 < get_or block (end - 1) 0
    → ((place : ℕ) → at ≤ place → place < stop → ¬ AreZeros block place 4) → IsLiteral (slice_range block at end)
literal-found block at stop end some order within first last apart = record {
  begins = subst (λ (b : ℕ). 0 < b) (sym (get_or-between block at end 0 0 (omega arith))) (subst (λ (i : ℕ). 0 < get_or block i 0) (let same : at ≡ at + 0 = omega arith in same) first);
  ends =
      (let len = length-between block at end (omega arith) in
      let same : end - 1 ≡ at + (length (slice_range block at end) - 1) = omega arith in
      subst (λ (b : ℕ). 0 < b) (sym (get_or-between block at end (length (slice_range block at end) - 1) 0 (omega arith))) (subst (λ (i : ℕ). 0 < get_or block i 0) same last));
  apart = λ place four.
      let len = length-between block at end (omega arith) in
      let inside = four.inside in
      apart (at + place) (omega arith) (omega arith) (record {
        inside = omega arith;
        zeros = λ k below.
            let same : at + place + k ≡ at + (place + k) = omega arith in
            ap (λ (i : ℕ). get_or block i 0) same ∙ sym (get_or-between block at end (place + k) 0 (omega arith)) ∙ four.zeros k below;
      });
}

-- after the last nonzero byte before four zero bytes, or before the end, zero bytes follow
pub zeros-after : (block : List ℕ) (stop end : ℕ) → end ≤ stop → AreZeros block end (stop - end) → (stop < length block → AreZeros block stop 4) → stop ≤ length block → ZerosFollow block end
zeros-after block stop end order run found within k below = ⊎_elim
    (λ (before : end + k < stop). run.zeros k (omega arith))
    (λ (behind : stop ≤ end + k). ⊎_elim
    (λ (inside : stop < length block).
    let four = found inside in
    let at : stop + (end + k - stop) ≡ end + k = omega arith in
    subst (λ (i : ℕ). get_or block i 0 ≡ 0) at (four.zeros (end + k - stop) (omega arith)))
    (λ (past : length block ≤ stop). get_or_past block (end + k) 0 (omega arith))
    (cases_lt stop (length block)))
    (cases_lt (end + k) stop)

-- where four zero bytes begin nowhere before its end, nonzero ends make a literal
pub literal_by : (bytes : List ℕ) (len stop : ℕ) → 1 ≤ len → len ≤ length bytes → 0 < get_or bytes 0 0 → 0 < get_or bytes (len - 1) 0
    → ((place : ℕ) → 0 ≤ place → place < stop → ¬ AreZeros bytes place 4) → stop ≡ len → IsLiteral (take len bytes)
literal_by bytes len stop some inside first last apart whole =
    let size = length-take-le len bytes inside in
    record {
      begins = subst (λ (b : ℕ). 0 < b) (sym (get_or-take len bytes 0 0 (omega arith))) first;
      ends =
          (let same : length (take len bytes) - 1 ≡ len - 1 = omega arith in
          subst (λ (i : ℕ). 0 < get_or (take len bytes) i 0) (sym same) (subst (λ (b : ℕ). 0 < b) (sym (get_or-take len bytes (len - 1) 0 (omega arith))) last));
      apart = λ place four.
          let within = four.inside in
          apart place (omega arith) (omega arith) (record {
            inside = omega arith;
            zeros = λ k below. sym (get_or-take len bytes (place + k) 0 (omega arith)) ∙ four.zeros k below;
          });
    }

-- in a literal four zero bytes begin nowhere, and none that begin in it reach past its end
pub literal_whole : (bytes : List ℕ) (len stop : ℕ) → len ≤ length bytes → stop ≤ len → (stop < len → AreZeros bytes stop 4) → IsLiteral (take len bytes) → stop ≡ len
literal_whole bytes len stop inside within found is =
    let size = length-take-le len bytes inside in
    ⊎_elim
    (λ (before : stop < len).
    let four = found before in
    ⊎_elim
    (λ (past : len < stop + 4).
    let same : stop + (len - 1 - stop) ≡ length (take len bytes) - 1 = omega arith in
    let here : get_or (take len bytes) (length (take len bytes) - 1) 0 ≡ 0 =
    get_or-take len bytes (length (take len bytes) - 1) 0 (omega arith) ∙ subst (λ (i : ℕ). get_or bytes i 0 ≡ 0) same (four.zeros (len - 1 - stop) (omega arith)) in
    let ends = is.ends in
    absurd (omega arith))
    (λ (fits : stop + 4 ≤ len).
    absurd (is.apart stop (record {
      inside = omega arith;
      zeros = λ k below. get_or-take len bytes (stop + k) 0 (omega arith) ∙ four.zeros k below;
    })))
    (cases_lt len (stop + 4)))
    (λ (whole : len ≤ stop). let same : stop ≡ len = omega arith in same)
    (cases_lt stop len)
