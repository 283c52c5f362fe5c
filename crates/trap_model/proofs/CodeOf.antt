-- The segments that a block's definition gives keep the rules of its code, and stand for the block.
use Rattle.std.proofs.Common.{◌≡◌, ℕ, zero, suc, ◌+◌, ◌-◌, ◌<◌, List, [], ◌∷◌, length, flat_map, true, false, nat_lt, ◌==◌, refl, sym, ◌∙◌, ap, subst, inl, inr, ⊎_elim, arith, add-one}
use Rattle.std.proofs.lemmas.Bool.{cases_Bool, and_parts, ltb-true, and_cases, ltb-false, ne_eqb}
use Rattle.trap_model.specs.ZeroRun.{Segment, contents, segment_size, HasLiteral, KeepsRules, Walks, ZeroRun}
use Rattle.trap_model.specs.Size.{segment, zero_before, byte_before, is_joined, segments_of, code_of}
use Rattle.trap_model.proofs.ZeroRuns.{literal_some, ZeroRun-same}
use Rattle.trap_model.proofs.Splits.{one-literal, joined, length-joined, joined-literal}

-- a zero byte in front of a segment
longer : (owed : ℕ) (s : Segment) → KeepsRules 0 owed s → KeepsRules 0 (suc owed) (segment (s.zeros + 1) s.literal)
longer owed s (inl has) = inl (record { zeros = omega arith; literal = has.literal; within = omega (arith, has.within) })
longer owed s (inr rest) = inr (record { some = omega arith; empty = rest.empty; whole = omega (arith, rest.whole) })

walk_zero : (owed : ℕ) (a : List Segment) → Walks 0 owed a 0 → Walks 0 (suc owed) (zero_before a) 0
walk_zero owed [] walk =
    let none : 0 ≡ owed = walk in
    (inr (record { some = omega arith; empty = refl; whole = omega arith }), omega arith)
walk_zero owed (s ∷ a) (follows, walk) =
    let same : owed - segment_size s ≡ suc owed - (s.zeros + 1 + length s.literal) = omega arith in
    (longer owed s follows, subst (λ (m : ℕ). Walks 4 m a 0) same walk)

-- a nonzero byte that is a literal of its own
walk_alone : (owed n : ℕ) (a : List Segment) → Walks 4 owed a 0 → Walks 0 (suc owed) (segment 0 (suc n ∷ []) ∷ a) 0
walk_alone owed n a walk =
    let same : owed ≡ suc owed - (0 + 1) = omega arith in
    (inl (record { zeros = omega arith; literal = one-literal n; within = omega arith }), subst (λ (m : ℕ). Walks 4 m a 0) same walk)

-- a segment over which a literal doesn't go on has four zero bytes, or no literal
follows_apart : (owed : ℕ) (s : Segment) → KeepsRules 0 owed s → is_joined s ≡ false → KeepsRules 4 owed s
follows_apart owed s (inr rest) stops = inr rest
follows_apart owed s (inl has) stops = ⊎_elim
    (λ (enough : nat_lt s.zeros 4 ≡ false). inl (record { zeros = ltb-false s.zeros 4 enough; literal = has.literal; within = has.within }))
    (λ (none : nat_lt 0 (length s.literal) ≡ false).
    let some = literal_some s.literal has.literal in
    let empty = ltb-false 0 (length s.literal) none in
    absurd (omega arith))
    (and_cases (nat_lt s.zeros 4) (nat_lt 0 (length s.literal)) stops)

-- and one over which it goes on has a literal after fewer
follows_on : (owed : ℕ) (s : Segment) → KeepsRules 0 owed s → is_joined s ≡ true → (s.zeros < 4) × HasLiteral 0 owed s
follows_on owed s (inl has) on = (ltb-true s.zeros 4 (and_parts (nat_lt s.zeros 4) (nat_lt 0 (length s.literal)) on).0, has)
follows_on owed s (inr rest) on =
    let some = ltb-true 0 (length s.literal) (and_parts (nat_lt s.zeros 4) (nat_lt 0 (length s.literal)) on).1 in
    let none : length s.literal ≡ 0 = ap length rest.empty in
    absurd (omega arith)

walk_byte : (owed n : ℕ) (a : List Segment) → Walks 0 owed a 0 → Walks 0 (suc owed) (byte_before (suc n) a) 0
walk_byte owed n [] walk = walk_alone owed n [] walk
walk_byte owed n (s ∷ a) (follows, walk) = ⊎_elim
    (λ (on : is_joined s ≡ true).
    let has = follows_on owed s follows on in
    let len = length-joined n s.zeros s.literal in
    let within = has.1.within in
    let same : owed - segment_size s ≡ suc owed - (0 + length (joined n s.zeros s.literal)) = omega arith in
    rw on (
      inl (record { zeros = omega arith; literal = joined-literal n s.zeros s.literal has.0 has.1.literal; within = omega arith }),
      subst (λ (m : ℕ). Walks 4 m a 0) same walk,
    ))
    (λ (stops : is_joined s ≡ false). rw stops (walk_alone owed n (s ∷ a) (follows_apart owed s follows stops, walk)))
    (cases_Bool (is_joined s))

-- the block's segments keep the rules
pub segments_walk : (block : List ℕ) → Walks 0 (length block) (segments_of block) 0
segments_walk [] = refl
segments_walk (zero ∷ later) = walk_zero (length later) (segments_of later) (segments_walk later)
segments_walk (suc n ∷ later) =
    let other : (suc n == 0) ≡ false = ne_eqb (suc n) 0 (λ e. omega arith) in
    rw other (walk_byte (length later) n (segments_of later) (segments_walk later))

zero_meant : (a : List Segment) → flat_map contents (zero_before a) ≡ 0 ∷ flat_map contents a
zero_meant [] = refl
zero_meant (s ∷ a) = rw add-one refl

byte_meant : (byte : ℕ) (a : List Segment) → flat_map contents (byte_before byte a) ≡ byte ∷ flat_map contents a
byte_meant byte [] = refl
byte_meant byte (s ∷ a) = ⊎_elim
    (λ (on : is_joined s ≡ true). rw on refl)
    (λ (stops : is_joined s ≡ false). rw stops refl)
    (cases_Bool (is_joined s))

-- and stand for it
pub segments_meant : (block : List ℕ) → block ≡ flat_map contents (segments_of block)
segments_meant [] = refl
segments_meant (zero ∷ later) = sym (zero_meant (segments_of later) ∙ ap (λ (xs : List ℕ). 0 ∷ xs) (sym (segments_meant later)))
segments_meant (suc n ∷ later) =
    let other : (suc n == 0) ≡ false = ne_eqb (suc n) 0 (λ e. omega arith) in
    let meant : flat_map contents (byte_before (suc n) (segments_of later)) ≡ suc n ∷ later =
    byte_meant (suc n) (segments_of later) ∙ ap (λ (xs : List ℕ). suc n ∷ xs) (sym (segments_meant later)) in
    rw other (sym meant)

-- so they spell it
pub code_of_spells : (block : List ℕ) → ZeroRun block (code_of block)
code_of_spells block = record { segments = segments_of block; rules = segments_walk block; spelled = refl; meant = segments_meant block }

-- and nothing else does
pub spelling_is_code_of : (block bytes : List ℕ) → ZeroRun block bytes → bytes ≡ code_of block
spelling_is_code_of block bytes spells = ZeroRun-same block bytes (code_of block) spells (code_of_spells block)
