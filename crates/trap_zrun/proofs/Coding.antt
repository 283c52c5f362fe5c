-- What the writer's loop keeps.
use Rattle.std.proofs.Common.{◌≡◌, ℕ, ◌+◌, ◌-◌, ◌<◌, ◌≤◌, List, [], ◌++◌, length, take, get_or, replicate, slice_range, refl, sym, ◌∙◌, ap, subst, inl, inr, ⊎_elim, arith, append_assoc, length-append, length-take-le, take-add, take_all}
use Rattle.std.proofs.lemmas.Bool.{cases_lt}
use Rattle.std.proofs.lemmas.List.{length-replicate, get_or-replicate, ext_get_or, nil_from_length}
use Rattle.std.proofs.lemmas.List.Edits.{length-between, get_or-between}
use Rattle.trap_model.specs.ZeroRun.{spelling, contents, AreZeros, IsLiteral, KeepsRules, ZeroRun}
use Rattle.trap_model.proofs.ZeroRuns.{segment, length-spelling}
use Rattle.trap_zrun.specs.Scans.{ZerosFollow}
use Rattle.trap_zrun.proofs.Begun.{Begun, begun_nothing, begun-more, begun_all, begun-room}

-- a front of the block is written, and after it stand as many zero bytes as the next literal wants
pub record IsCoded (block : List ℕ) (at : ℕ) (bytes : List ℕ) : Type 0 where
  pub least : ℕ
  pub begun : Begun (length block) least (take at block) bytes
  pub zeros : (k : ℕ) → k < least → get_or block (at + k) 0 ≡ 0

-- what the scans found
pub record Found (block : List ℕ) (at start stop : ℕ) : Type 0 where
  pub zeros : AreZeros block at (start - at)
  pub from : at ≤ start
  pub order : start ≤ stop
  pub within : stop ≤ length block
  pub end : start < length block → 0 < get_or block start 0
  pub literal : start < length block → IsLiteral (slice_range block start stop)
  pub behind : ZerosFollow block stop

pub found_by : (block : List ℕ) (at count stop : ℕ) → AreZeros block at count → (at + count < length block → 0 < get_or block (at + count) 0)
    → at + count ≤ stop → stop ≤ length block → (at + count < length block → IsLiteral (slice_range block (at + count) stop)) → ZerosFollow block stop
    → Found block at (at + count) stop
found_by block at count stop zeros end order within literal behind = record {
  zeros = subst (λ (n : ℕ). AreZeros block at n) (let same : count ≡ at + count - at = omega arith in same) zeros;
  from = omega arith;
  order = order;
  within = within;
  end = end;
  literal = literal;
  behind = behind;
}

-- nothing is written yet
pub coded_nothing : (block : List ℕ) → IsCoded block 0 []
coded_nothing block = record { least = 0; begun = begun_nothing (length block); zeros = λ k below. absurd (omega arith) }

-- zero bytes of a list are a replicate
zeros-between : (block : List ℕ) (at start : ℕ) → at ≤ start → AreZeros block at (start - at) → slice_range block at start ≡ replicate (start - at) 0
zeros-between block at start from run =
    let inside = run.inside in
    let len = length-between block at start (omega arith) in
    let count = length-replicate {A = ℕ} (start - at) 0 in
    ext_get_or 0 (slice_range block at start) (replicate (start - at) 0) (omega arith)
    (λ (k : ℕ) (below : k < length (slice_range block at start)).
    get_or-between block at start k 0 (omega arith) ∙ run.zeros k (omega arith) ∙ sym (get_or-replicate {A = ℕ} (start - at) k 0 0 (omega arith)))

-- a front of a list and the bytes after it
pub front-more : (block : List ℕ) (at start : ℕ) → at ≤ start → take at block ++ slice_range block at start ≡ take start block
front-more block at start from =
    sym (take-add at (start - at) block) ∙ ap (λ (n : ℕ). take n block) (let same : at + (start - at) ≡ start = omega arith in same)

-- the next segment stands for the bytes up to its end
front-segment : (block : List ℕ) (at start stop : ℕ) → Found block at start stop → take at block ++ contents (segment (start - at) (slice_range block start stop)) ≡ take stop block
front-segment block at start stop found =
    sym (append_assoc (take at block) (replicate (start - at) 0) (slice_range block start stop))
    ∙ ap (λ (l : List ℕ). take at block ++ l ++ slice_range block start stop) (sym (zeros-between block at start found.from found.zeros))
    ∙ ap (λ (l : List ℕ). l ++ slice_range block start stop) (front-more block at start found.from)
    ∙ front-more block start stop found.order

-- what the scans found keeps the rules
coded-follows : (block bytes : List ℕ) (at start stop : ℕ) → at < length block → Found block at start stop → (coded : IsCoded block at bytes)
    → KeepsRules coded.least (length block - length (take at block)) (segment (start - at) (slice_range block start stop))
coded-follows block bytes at start stop some found coded =
    let front = length-take-le at block (omega arith) in
    let within = found.within in
    let order = found.order in
    let from = found.from in
    let inside = found.zeros.inside in
    let len = length-between block start stop within in
    ⊎_elim
    (λ (more : start < length block). inl (record {
      zeros = ⊎_elim
          (λ (few : start - at < coded.least).
          let nonzero = found.end more in
          let same : at + (start - at) ≡ start = omega arith in
          let here : get_or block start 0 ≡ 0 = subst (λ (i : ℕ). get_or block i 0 ≡ 0) same (coded.zeros (start - at) few) in
          absurd (omega arith))
          (λ (enough : coded.least ≤ start - at). enough)
          (cases_lt (start - at) coded.least);
      literal = found.literal more;
      within = omega arith;
    }))
    (λ (all : length block ≤ start). inr (record {
      some = omega arith;
      empty = nil_from_length (slice_range block start stop) (omega arith);
      whole = omega arith;
    }))
    (cases_lt start (length block))

pub coded-more : (block bytes : List ℕ) (at start stop : ℕ) → at < length block → Found block at start stop → IsCoded block at bytes
    → IsCoded block stop (bytes ++ spelling (segment (start - at) (slice_range block start stop)))
coded-more block bytes at start stop some found coded = record {
  least = 4;
  begun = subst (λ (l : List ℕ). Begun (length block) 4 l (bytes ++ spelling (segment (start - at) (slice_range block start stop)))) (front-segment block at start stop found)
      (begun-more (length block) coded.least (take at block) bytes (segment (start - at) (slice_range block start stop)) coded.begun (coded-follows block bytes at start stop some found coded));
  zeros = found.behind;
}

-- the next segment has room
pub coded-room : (block bytes : List ℕ) (at start stop : ℕ) → at < length block → Found block at start stop → IsCoded block at bytes
    → length bytes + 4 + (stop - start) ≤ length block + 7
coded-room block bytes at start stop some found coded =
    let more = coded-more block bytes at start stop some found coded in
    let room = begun-room (length block) more.least (take stop block) (bytes ++ spelling (segment (start - at) (slice_range block start stop))) more.begun in
    let whole = length-append bytes (spelling (segment (start - at) (slice_range block start stop))) in
    let spelled = length-spelling (segment (start - at) (slice_range block start stop)) in
    let len = length-between block start stop found.within in
    omega arith

pub coded_done : (block bytes : List ℕ) (at : ℕ) → length block ≤ at → IsCoded block at bytes → ZeroRun block bytes
coded_done block bytes at all coded =
    begun_all (length block) coded.least block bytes (subst (λ (l : List ℕ). Begun (length block) coded.least l bytes) (take_all at block all) coded.begun) refl
