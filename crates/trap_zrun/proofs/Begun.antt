-- What the loops of the writer and the reader keep: segments that spell the front of a block.
use Rattle.std.proofs.Common.{◌≡◌, ℕ, ◌+◌, ◌-◌, ◌<◌, ◌≤◌, List, [], ◌∷◌, ◌++◌, length, flat_map, refl, sym, ◌∙◌, ap, subst, arith, append-nil}
use Rattle.std.proofs.lemmas.List.Concat.{flat_map-append}
use Rattle.trap_model.specs.ZeroRun.{Segment, spelling, contents, segment_size, KeepsRules, Walks, ZeroRun, least_after, NoneFollows, IsRefused}
use Rattle.trap_model.proofs.ZeroRuns.{least_after_four, walk-size, walk-room}

-- segments that spell the front of a block of that size
pub record Begun (size least : ℕ) (front bytes : List ℕ) : Type 0 where
  pub segments : List Segment
  pub left : ℕ
  pub rules : Walks 0 size segments left
  pub next : least_after 0 segments ≡ least
  pub spelled : bytes ≡ flat_map spelling segments
  pub meant : front ≡ flat_map contents segments

pub begun_nothing : (size : ℕ) → Begun size 0 [] []
begun_nothing size = record { segments = []; left = size; rules = refl; next = refl; spelled = refl; meant = refl }

-- so much of the block is left
pub begun-left : (size least : ℕ) (front bytes : List ℕ) (b : Begun size least front bytes) → length front + b.left ≡ size
begun-left size least front bytes b =
    let sizes = walk-size 0 size b.left b.segments b.rules in
    let same : length front ≡ length (flat_map contents b.segments) = ap length b.meant in
    omega arith

-- one segment more at the end of a walk
walk-more : (least owed left : ℕ) (a : List Segment) (s : Segment) → Walks least owed a left → KeepsRules (least_after least a) left s → Walks least owed (a ++ s ∷ []) (left - segment_size s)
walk-more least owed left [] s walk follows =
    (subst (λ (n : ℕ). KeepsRules least n s) walk follows, ap (λ (n : ℕ). n - segment_size s) walk)
walk-more least owed left (t ∷ a) s walk follows =
    (walk.0, walk-more 4 (owed - segment_size t) left a s walk.1 (subst (λ (n : ℕ). KeepsRules n left s) (sym (least_after_four a)) follows))

four_after : (a : List Segment) (s : Segment) → least_after 0 (a ++ s ∷ []) ≡ 4
four_after [] s = refl
four_after (t ∷ a) s = refl

more-map : (f : Segment → List ℕ) (a : List Segment) (s : Segment) → flat_map f (a ++ s ∷ []) ≡ flat_map f a ++ f s
more-map f a s = flat_map-append f a (s ∷ []) ∙ ap (λ (l : List ℕ). flat_map f a ++ l) (append-nil (f s))

-- one segment more
pub begun-more : (size least : ℕ) (front bytes : List ℕ) (s : Segment) → Begun size least front bytes
    → KeepsRules least (size - length front) s → Begun size 4 (front ++ contents s) (bytes ++ spelling s)
begun-more size least front bytes s b follows = record {
  segments = b.segments ++ s ∷ [];
  left = b.left - segment_size s;
  rules = walk-more 0 size b.left b.segments s b.rules here;
  next = four_after b.segments s;
  spelled = ap (λ (l : List ℕ). l ++ spelling s) b.spelled ∙ sym (more-map spelling b.segments s);
  meant = ap (λ (l : List ℕ). l ++ contents s) b.meant ∙ sym (more-map contents b.segments s);
}
  where
    here : KeepsRules (least_after 0 b.segments) b.left s
    here =
        let left = begun-left size least front bytes b in
        let same : size - length front ≡ b.left = omega arith in
        subst (λ (n : ℕ). KeepsRules n b.left s) (sym b.next) (subst (λ (n : ℕ). KeepsRules least n s) same follows)

-- the whole block
pub begun_all : (size least : ℕ) (block bytes : List ℕ) → Begun size least block bytes → length block ≡ size → ZeroRun block bytes
begun_all size least block bytes b whole = record {
  segments = b.segments;
  rules = subst (λ (n : ℕ). Walks 0 n b.segments 0) (sym whole)
      (subst (λ (n : ℕ). Walks 0 size b.segments n) (let left = begun-left size least block bytes b in let none : b.left ≡ 0 = omega arith in none) b.rules);
  spelled = b.spelled;
  meant = b.meant;
}

-- the bytes are refused after what spells a front of a block
pub begun_refused : (size least : ℕ) (front bytes whole rest : List ℕ) → Begun size least front bytes → whole ≡ bytes ++ rest
    → NoneFollows least (size - length front) rest → 0 < (size - length front) + length rest → IsRefused size whole (length bytes)
begun_refused size least front bytes whole rest b parts stops unfinished =
    let left = begun-left size least front bytes b in
    let same : size - length front ≡ b.left = omega arith in
    record {
      segments = b.segments;
      rest = rest;
      left = b.left;
      rules = b.rules;
      parts = parts ∙ ap (λ (l : List ℕ). l ++ rest) b.spelled;
      place = ap length b.spelled;
      stops = subst (λ (n : ℕ). NoneFollows n b.left rest) (sym b.next) (subst (λ (n : ℕ). NoneFollows least n rest) same stops);
      unfinished = omega arith;
    }

-- how long the spelling of a front is at most
pub begun-room : (size least : ℕ) (front bytes : List ℕ) → Begun size least front bytes → length bytes + (size - length front) ≤ size + 7
begun-room size least front bytes b =
    let left = begun-left size least front bytes b in
    let room = walk-room 0 size b.left b.segments (omega arith) b.rules in
    let same : length bytes ≡ length (flat_map spelling b.segments) = ap length b.spelled in
    omega arith
