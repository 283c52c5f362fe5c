-- Bytes are read as records in one way.
use Rattle.std.proofs.Common.{◌≡◌, ℕ, zero, suc, ◌^◌, ◌<◌, List, ◌++◌, length, sym, ◌∙◌, ap, subst, inl, inr, arith}
use Rattle.trap_model.specs.declared.log_record.LogRec.{LogRec}
use Rattle.trap_model.proofs.LogRecords.{LogRecord-apart, front-same}
use Rattle.trap_scan.specs.Chain.{History, Follows, AreRecords, IsBroken}

-- one record begins the bytes
follows_one : (h : History) (seq time more : ℕ) (bytes : List ℕ) (r q : LogRec) (rest tail : List ℕ) → h.size < 2 ^ 15
    → Follows h seq time more bytes r rest → Follows h seq time more bytes q tail → (r ≡ q) × (rest ≡ tail)
follows_one h seq time more bytes r q rest tail small a b =
    let parts : a.first ++ rest ≡ b.first ++ tail = sym a.parts ∙ b.parts in
    let same = LogRecord-apart h.size r q a.parity b.parity a.snapshot b.snapshot a.first b.first rest tail small a.is b.is parts in
    (same.0, (front-same a.first b.first rest tail (ap length same.3) parts).1)

-- the first one that isn't right stands in one place
pub one_broken : (h : History) (seq time count : ℕ) (bytes : List ℕ) (a b : ℕ) → h.size < 2 ^ 15
    → IsBroken h seq time count bytes a → IsBroken h seq time count bytes b → a ≡ b
one_broken h seq time zero bytes a b small x y = absurd x
one_broken h seq time (suc more) bytes a b small (inl x) (inl y) = x.0 ∙ sym y.0
one_broken h seq time (suc more) bytes a b small (inl x) (inr (q, tail, behind, follows, place, broken)) = absurd (x.1 q tail follows)
one_broken h seq time (suc more) bytes a b small (inr (r, rest, behind, follows, place, broken)) (inl y) = absurd (y.1 r rest follows)
one_broken h seq time (suc more) bytes a b small (inr (r, rest, behind, follows, place, broken)) (inr (q, tail, after, next, there, breaks)) =
    let same = follows_one h seq time more bytes r q rest tail small follows next in
    let moved : IsBroken h r.seq r.time more rest after =
    subst (λ (k : LogRec). IsBroken h k.seq k.time more rest after) (sym same.0) (subst (λ (l : List ℕ). IsBroken h q.seq q.time more l after) (sym same.1) breaks) in
    let one : behind ≡ after = one_broken h r.seq r.time more rest behind after small broken moved in
    let len : length rest ≡ length tail = ap length same.1 in
    omega arith

-- and where all are right, there is none
pub right_unbroken : (h : History) (seq time count : ℕ) (bytes : List ℕ) (at : ℕ) → h.size < 2 ^ 15
    → AreRecords h seq time count bytes → IsBroken h seq time count bytes at → ⊥
right_unbroken h seq time zero bytes at small x y = y
right_unbroken h seq time (suc more) bytes at small (r, rest, follows, right) (inl y) = y.1 r rest follows
right_unbroken h seq time (suc more) bytes at small (r, rest, follows, right) (inr (q, tail, after, next, there, breaks)) =
    let same = follows_one h seq time more bytes r q rest tail small follows next in
    right_unbroken h r.seq r.time more rest after small right
    (subst (λ (k : LogRec). IsBroken h k.seq k.time more rest after) (sym same.0) (subst (λ (l : List ℕ). IsBroken h q.seq q.time more l after) (sym same.1) breaks))
