use Rattle.std.proofs.Common.{◌≡◌, ℕ, ◌+◌, ◌<◌, ◌≤◌, subst, arith, ⊎_elim}
use Rattle.std.proofs.lemmas.Bool.{cases_lt}
use Rattle.trap_block.specs.Zeros.{AreZeros}
use Rattle.trap_block.proofs.ScanLemmas.{IsMask, apart-mask, mask-four, four-within}
use Rattle.trap_block.proofs.zeros.four_zeros_before.Goals as goal

pub returns-then-found-lt32-clause-found : goal.returns-then-found-lt32-clause-found
returns-then-found-lt32-clause-found c = λ below.
    let room = c.if-bytes-place-ge32.true in
    let is : IsMask c.args.bytes.now c.loop-place.place c.zeros_at.result = record { inside = omega arith; bits = c.zeros_at.ensures; fits = c.zeros_at.type_inv } in
    let four = mask-four c.args.bytes.now c.loop-place.place c.zeros_at.result c.four_bits_set-found.result is (c.four_bits_set-found.ensures.found c.if-found-lt32.true) in
    let least = c.min.ensures in
    let same : c.loop-place.place + c.four_bits_set-found.result ≡ c.min.result = omega arith in
    subst (λ (n : ℕ). AreZeros c.args.bytes.now n 4) same four

pub returns-then-found-lt32-clause-first : goal.returns-then-found-lt32-clause-first
returns-then-found-lt32-clause-first c = λ place from below.
    let room = c.if-bytes-place-ge32.true in
    let is : IsMask c.args.bytes.now c.loop-place.place c.zeros_at.result = record { inside = omega arith; bits = c.zeros_at.ensures; fits = c.zeros_at.type_inv } in
    let within = four-within c.zeros_at.result c.four_bits_set-found.result is.fits (c.four_bits_set-found.ensures.found c.if-found-lt32.true) in
    let least = c.min.ensures in
    (apart-mask c.args.bytes.now c.args.at c.loop-place.place c.zeros_at.result c.four_bits_set-found.result c.loop-place.invariant.1 is (omega arith)
    c.four_bits_set-found.ensures.first).none place from (omega arith)

pub loop-place-preserved : goal.loop-place-preserved
loop-place-preserved c =
    let room = c.if-bytes-place-ge32.true in
    let is : IsMask c.args.bytes.now c.loop-place.place c.zeros_at.result = record { inside = omega arith; bits = c.zeros_at.ensures; fits = c.zeros_at.type_inv } in (
      omega arith,
      apart-mask c.args.bytes.now c.args.at c.loop-place.place c.zeros_at.result 29 c.loop-place.invariant.1 is (omega arith)
          (λ k small. c.four_bits_set-found.ensures.first k (let none = c.if-found-lt32.false in omega arith)),
    )

pub returns-clause-first : goal.returns-clause-first
returns-clause-first c = λ place from below four. ⊎_elim
    (λ (before : place < c.loop-place.place). c.loop-place.invariant.1.none place from before four)
    (λ (behind : c.loop-place.place ≤ place). c.four_zeros_one_by_one.ensures.first place (let least = c.min-2.ensures in omega arith) below four)
    (cases_lt place c.loop-place.place)
