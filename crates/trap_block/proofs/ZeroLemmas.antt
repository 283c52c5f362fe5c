-- Lists of zero bytes.
use Rattle.std.proofs.Common.{◌≡◌, ℕ, suc, ◌+◌, ◌<◌, ◌≤◌, List, [], ◌∷◌, length, get_or, refl, ap, subst, ◌∙◌, arith, ⊎_elim}
use Rattle.std.proofs.lemmas.Bool.{cases_lt}
use Rattle.std.proofs.lemmas.List.{get_or-replicate}
use Rattle.trap_block.specs.Xor.{zeros}
use Rattle.trap_block.specs.Zeros.{AreZeros}

-- each byte below n is zero
abbrev pub ZeroBelow : List ℕ → ℕ → Type 0
ZeroBelow bytes n = (k : ℕ) → k < n → get_or bytes k 0 ≡ 0

-- all bytes are zero where the list is one of zeros, and the other way round
pub zeros_from : (bytes : List ℕ) → ZeroBelow bytes (length bytes) → bytes ≡ zeros (length bytes)
zeros_from [] all = refl
zeros_from (x ∷ xs) all =
    let first : x ≡ 0 = all 0 (omega arith) in
    let rest = zeros_from xs (λ k below. all (suc k) (omega arith)) in
    cc

zeros_to : (bytes : List ℕ) → bytes ≡ zeros (length bytes) → ZeroBelow bytes (length bytes)
zeros_to bytes e = λ k below. ap (λ (xs : List ℕ). get_or xs k 0) e ∙ get_or-replicate (length bytes) k 0 0 below

-- the zero bytes at the front are all bytes exactly where the list is one of zeros
pub zero_all : (bytes : List ℕ) (count : ℕ) → count ≡ length bytes → AreZeros bytes 0 count → bytes ≡ zeros (length bytes)
zero_all bytes count whole run = zeros_from bytes (λ k below. let same : k ≡ 0 + k = omega arith in ap (λ (i : ℕ). get_or bytes i 0) same ∙ run.zeros k (omega arith))

pub zero_whole : (bytes : List ℕ) (count : ℕ) → bytes ≡ zeros (length bytes) → AreZeros bytes 0 count
    → (0 + count < length bytes → 0 < get_or bytes (0 + count) 0) → count ≡ length bytes
zero_whole bytes count e run stop = ⊎_elim
    (λ (before : count < length bytes).
    let same : 0 + count ≡ count = omega arith in
    let nonzero : 0 < get_or bytes count 0 = subst (λ (i : ℕ). 0 < get_or bytes i 0) same (stop (omega arith)) in
    let here : get_or bytes count 0 ≡ 0 = zeros_to bytes e count before in
    absurd (omega arith))
    (λ (whole : length bytes ≤ count). let inside = run.inside in let same : count ≡ length bytes = omega arith in same)
    (cases_lt count (length bytes))
