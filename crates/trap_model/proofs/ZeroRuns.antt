-- The laws of zero runs.
use Rattle.std.proofs.Common.{◌≡◌, ◌⊎◌, ℕ, ◌+◌, ◌-◌, ◌^◌, ◌<◌, ◌≤◌, List, [], ◌∷◌, ◌++◌, length, take, drop, get_or, replicate, flat_map, refl, sym, ◌∙◌, ap, ap₂, subst, inl, inr, ⊎_elim, arith, w16, append_assoc, append-nil, length-append, take_at, drop_at, get_or-append-add}
use Rattle.std.specs.Int.{from_be_bytes}
use Rattle.std.proofs.lemmas.Nat.{from_be_bytes-to_be_bytes_2}
use Rattle.std.proofs.lemmas.Bool.{cases_lt}
use Rattle.std.proofs.lemmas.List.{length-replicate, get_or-replicate, get_or_append_left, get_or_past}
use Rattle.trap_model.specs.ZeroRun.{Segment, spelling, contents, segment_size, IsLiteral, KeepsRules, Walks, ZeroRun, least_after, NoneFollows, IsRefused}

-- a literal isn't empty
pub literal_some : (l : List ℕ) → IsLiteral l → 1 ≤ length l
literal_some [] is = let begins = is.begins in omega arith
literal_some (x ∷ xs) is = omega arith

-- a segment has at least one byte of the block, and no more than the block has left
pub Follows_some : (least owed : ℕ) (s : Segment) → KeepsRules least owed s → 1 ≤ segment_size s
Follows_some least owed s (inl has) = let some = literal_some s.literal has.literal in omega arith
Follows_some least owed s (inr rest) = let some = rest.some in omega arith

pub Follows_within : (least owed : ℕ) (s : Segment) → KeepsRules least owed s → segment_size s ≤ owed
Follows_within least owed s (inl has) = has.within
Follows_within least owed s (inr rest) = let whole = rest.whole in let none : length s.literal ≡ 0 = ap length rest.empty in omega arith

pub length-spelling : (s : Segment) → length (spelling s) ≡ 4 + length s.literal
length-spelling s = omega arith

pub length-contents : (s : Segment) → length (contents s) ≡ segment_size s
length-contents s = length-append (replicate {A = ℕ} s.zeros 0) s.literal ∙ ap (λ n. n + length s.literal) (length-replicate {A = ℕ} s.zeros 0)

-- a segment by its parts
abbrev pub segment : ℕ → List ℕ → Segment
segment zeros literal = record { zeros = zeros; literal = literal }

pub same_segment : (s t : Segment) → s.zeros ≡ t.zeros → s.literal ≡ t.literal → s ≡ t
same_segment s t zeros literal = ap₂ segment zeros literal

-- no segment's spelling begins another's
pub spelling-same : (s t : Segment) (x y : List ℕ) → segment_size s < 2 ^ 16 → segment_size t < 2 ^ 16 → spelling s ++ x ≡ spelling t ++ y → (s ≡ t) × (x ≡ y)
spelling-same s t x y small_s small_t e =
    let zeros : s.zeros ≡ t.zeros =
    sym (from_be_bytes-to_be_bytes_2 s.zeros (omega arith)) ∙ ap (λ (bytes : List ℕ). from_be_bytes w16 (take 2 bytes)) e ∙ from_be_bytes-to_be_bytes_2 t.zeros (omega arith) in
    let len : length s.literal ≡ length t.literal =
    sym (from_be_bytes-to_be_bytes_2 (length s.literal) (omega arith)) ∙ ap (λ (bytes : List ℕ). from_be_bytes w16 (take 2 (drop 2 bytes))) e
    ∙ from_be_bytes-to_be_bytes_2 (length t.literal) (omega arith) in
    let rest : s.literal ++ x ≡ t.literal ++ y = ap (λ (bytes : List ℕ). drop 4 bytes) e in
    let literal : s.literal ≡ t.literal =
    sym (take_at s.literal x (length t.literal) len) ∙ ap (λ (bytes : List ℕ). take (length t.literal) bytes) rest ∙ take_at t.literal y (length t.literal) refl in
    let more : x ≡ y =
    sym (drop_at s.literal x (length t.literal) len) ∙ ap (λ (bytes : List ℕ). drop (length t.literal) bytes) rest ∙ drop_at t.literal y (length t.literal) refl in
    (same_segment s t zeros literal, more)

cons-same : (s t : Segment) (a b : List Segment) → s ≡ t → a ≡ b → s ∷ a ≡ t ∷ b
cons-same s t a b p q = cc

-- after a segment the next literal wants four zero bytes
pub least_after_four : (a : List Segment) → least_after 4 a ≡ 4
least_after_four [] = refl
least_after_four (s ∷ a) = refl

-- what ends a walk ends the walk after its first segment
stops_after : (a : List Segment) (left : ℕ) (x : List ℕ) → NoneFollows 4 left x → NoneFollows (least_after 4 a) left x
stops_after a left x stops = subst (λ (n : ℕ). NoneFollows n left x) (sym (least_after_four a)) stops

-- Two walks over the same bytes, each as far as segments go, are one.
pub walk-same : (least owed left_a left_b : ℕ) (a b : List Segment) (x y : List ℕ) → owed < 2 ^ 16
    → Walks least owed a left_a → Walks least owed b left_b
    → NoneFollows (least_after least a) left_a x → NoneFollows (least_after least b) left_b y
    → flat_map spelling a ++ x ≡ flat_map spelling b ++ y → (a ≡ b) × (left_a ≡ left_b) × (x ≡ y)
walk-same least owed left_a left_b [] [] x y small walk_a walk_b stop_a stop_b e = (refl, walk_a ∙ sym walk_b, e)
walk-same least owed left_a left_b [] (t ∷ b) x y small walk_a walk_b stop_a stop_b e =
    absurd (stop_a t (flat_map spelling b ++ y) (e ∙ append_assoc (spelling t) (flat_map spelling b) y) (subst (λ (n : ℕ). KeepsRules least n t) (sym walk_a) walk_b.0))
walk-same least owed left_a left_b (s ∷ a) [] x y small walk_a walk_b stop_a stop_b e =
    absurd (stop_b s (flat_map spelling a ++ x) (sym e ∙ append_assoc (spelling s) (flat_map spelling a) x) (subst (λ (n : ℕ). KeepsRules least n s) (sym walk_b) walk_a.0))
walk-same least owed left_a left_b (s ∷ a) (t ∷ b) x y small walk_a walk_b stop_a stop_b e =
    let within_s = Follows_within least owed s walk_a.0 in
    let within_t = Follows_within least owed t walk_b.0 in
    let same = spelling-same s t (flat_map spelling a ++ x) (flat_map spelling b ++ y) (omega arith) (omega arith)
    (sym (append_assoc (spelling s) (flat_map spelling a) x) ∙ e ∙ append_assoc (spelling t) (flat_map spelling b) y) in
    let rest = walk-same 4 (owed - segment_size s) left_a left_b a b x y (omega arith) walk_a.1
    (subst (λ (u : Segment). Walks 4 (owed - segment_size u) b left_b) (sym same.0) walk_b.1)
    (stops_after a left_a x stop_a) (stops_after b left_b y stop_b) same.1 in
    (cons-same s t a b same.0 rest.0, rest.1, rest.2)

-- a walk to the end of a block that has nothing left has no segments
pub walk-none : (least left : ℕ) (a : List Segment) → Walks least 0 a left → (a ≡ []) × (left ≡ 0)
walk-none least left [] walk = (refl, walk)
walk-none least left (s ∷ a) walk =
    let some = Follows_some least 0 s walk.0 in
    let within = Follows_within least 0 s walk.0 in
    absurd (omega arith)

-- how long a spelling is
pub walk-room : (least owed left : ℕ) (a : List Segment) → least ≤ 4 → Walks least owed a left → length (flat_map spelling a) + least + left ≤ owed + 7
walk-room least owed left [] few walk = let whole : left ≡ owed = walk in omega arith
walk-room least owed left (s ∷ a) few (inl has, walk) =
    let more = walk-room 4 (owed - segment_size s) left a (omega arith) walk in
    let zeros = has.zeros in
    let within = has.within in
    let len = length-append (spelling s) (flat_map spelling a) in
    let front = length-spelling s in
    omega arith
walk-room least owed left (s ∷ a) few (inr rest, walk) =
    let some = rest.some in
    let none : length s.literal ≡ 0 = ap length rest.empty in
    let whole = rest.whole in
    let nothing : owed - segment_size s ≡ 0 = omega arith in
    let over = walk-none 4 left a (subst (λ (n : ℕ). Walks 4 n a left) nothing walk) in
    let behind : length (flat_map spelling a) ≡ 0 = ap (λ (b : List Segment). length (flat_map spelling b)) over.0 in
    let end : left ≡ 0 = over.1 in
    let len = length-append (spelling s) (flat_map spelling a) in
    let front = length-spelling s in
    omega arith

-- the segments stand for as many bytes as are gone
pub walk-size : (least owed left : ℕ) (a : List Segment) → Walks least owed a left → length (flat_map contents a) + left ≡ owed
walk-size least owed left [] walk = let whole : left ≡ owed = walk in omega arith
walk-size least owed left (s ∷ a) walk =
    let more = walk-size 4 (owed - segment_size s) left a walk.1 in
    let within = Follows_within least owed s walk.0 in
    let len = length-append (contents s) (flat_map contents a) in
    let front = length-contents s in
    omega arith

-- a segment's contents begin with its zero bytes
contents-zero : (s : Segment) (more : List ℕ) (k : ℕ) → k < s.zeros → get_or (contents s ++ more) k 0 ≡ 0
contents-zero s more k below =
    let len = length-replicate {A = ℕ} s.zeros 0 in
    ap (λ (l : List ℕ). get_or l k 0) (append_assoc (replicate {A = ℕ} s.zeros 0) s.literal more)
    ∙ get_or_append_left (replicate {A = ℕ} s.zeros 0) (s.literal ++ more) 0 k (omega arith)
    ∙ get_or-replicate {A = ℕ} s.zeros k 0 0 below

-- and then comes its literal
contents-literal : (s : Segment) (more : List ℕ) (k : ℕ) → get_or (contents s ++ more) (s.zeros + k) 0 ≡ get_or (s.literal ++ more) k 0
contents-literal s more k =
    let len = length-replicate {A = ℕ} s.zeros 0 in
    ap (λ (l : List ℕ). get_or l (s.zeros + k) 0) (append_assoc (replicate {A = ℕ} s.zeros 0) s.literal more)
    ∙ ap (λ (n : ℕ). get_or (replicate {A = ℕ} s.zeros 0 ++ (s.literal ++ more)) (n + k) 0) (sym len)
    ∙ get_or-append-add (replicate {A = ℕ} s.zeros 0) (s.literal ++ more) k 0

-- after a literal the block begins with four zero bytes, or is zero to its end
after_zero : (owed : ℕ) (a : List Segment) → Walks 4 owed a 0 → (k : ℕ) → k < 4 → get_or (flat_map contents a) k 0 ≡ 0
after_zero owed [] walk k below = refl
after_zero owed (s ∷ a) (inl has, walk) k below = let zeros = has.zeros in contents-zero s (flat_map contents a) k (omega arith)
after_zero owed (s ∷ a) (inr rest, walk) k below = ⊎_elim
    (λ (inside : k < s.zeros). contents-zero s (flat_map contents a) k inside)
    (λ (past : s.zeros ≤ k).
    let none : length s.literal ≡ 0 = ap length rest.empty in
    let whole = rest.whole in
    let sizes = walk-size 4 (owed - segment_size s) 0 a walk in
    let len = length-append (contents s) (flat_map contents a) in
    let front = length-contents s in
    get_or_past (contents s ++ flat_map contents a) k 0 (omega arith))
    (cases_lt k s.zeros)

-- of two segments at the front of the same bytes neither has more zero bytes
zeros-le : (least owed : ℕ) (s t : Segment) (x y : List ℕ) → KeepsRules least owed s → KeepsRules least owed t → contents s ++ x ≡ contents t ++ y → t.zeros ≤ s.zeros
zeros-le least owed s t x y (inr rest) follows e = let whole = rest.whole in let within = Follows_within least owed t follows in omega arith
zeros-le least owed s t x y (inl has) follows e = ⊎_elim
    (λ (more : s.zeros < t.zeros).
    let some = literal_some s.literal has.literal in
    let begins : 0 < get_or s.literal 0 0 = has.literal.begins in
    let first : get_or (contents s ++ x) (s.zeros + 0) 0 ≡ get_or s.literal 0 0 = contents-literal s x 0 ∙ get_or_append_left s.literal x 0 0 (omega arith) in
    let second : get_or (contents s ++ x) (s.zeros + 0) 0 ≡ 0 = ap (λ (l : List ℕ). get_or l (s.zeros + 0) 0) e ∙ contents-zero t y (s.zeros + 0) (omega arith) in
    absurd (omega arith))
    (λ (le : t.zeros ≤ s.zeros). le)
    (cases_lt s.zeros t.zeros)

-- a literal doesn't go on where four zero bytes stand, or zero bytes to the end
literal-le : (l m x y : List ℕ) → ((k : ℕ) → k < 4 → get_or x k 0 ≡ 0) → (length m ≡ 0) ⊎ IsLiteral m → l ++ x ≡ m ++ y → length m ≤ length l
literal-le l m x y zeros (inl none) e = omega arith
literal-le l m x y zeros (inr is) e = ⊎_elim
    (λ (longer : length l < length m). absurd (too_long longer))
    (λ (le : length m ≤ length l). le)
    (cases_lt (length l) (length m))
  where
    -- the longer literal has zero bytes there
    inside : (k : ℕ) → k < 4 → length l + k < length m → get_or m (length l + k) 0 ≡ 0
    inside k below within = sym (get_or_append_left m y 0 (length l + k) within) ∙ ap (λ (b : List ℕ). get_or b (length l + k) 0) (sym e) ∙ get_or-append-add l x k 0 ∙ zeros k below

    too_long : length l < length m → ⊥
    too_long longer = ⊎_elim
        (λ (short : length m < length l + 4).
        let ends : 0 < get_or m (length m - 1) 0 = is.ends in
        let at : length l + (length m - 1 - length l) ≡ length m - 1 = omega arith in
        let last = inside (length m - 1 - length l) (omega arith) (omega arith) in
        let same : get_or m (length m - 1) 0 ≡ 0 = subst (λ (n : ℕ). get_or m n 0 ≡ 0) at last in
        absurd (omega arith))
        (λ (long : length l + 4 ≤ length m).
        is.apart (length l) (record { inside = long; zeros = λ k below. inside k below (omega arith) }))
        (cases_lt (length m) (length l + 4))

-- the rest of a segment is a literal or nothing
literal_or_none : (least owed : ℕ) (s : Segment) → KeepsRules least owed s → (length s.literal ≡ 0) ⊎ IsLiteral s.literal
literal_or_none least owed s (inl has) = inr has.literal
literal_or_none least owed s (inr rest) = inl (ap length rest.empty)

-- two walks that stand for the same bytes are one
pub contents-same : (least owed : ℕ) (a b : List Segment) → Walks least owed a 0 → Walks least owed b 0 → flat_map contents a ≡ flat_map contents b → a ≡ b
contents-same least owed [] [] walk_a walk_b e = refl
contents-same least owed [] (t ∷ b) walk_a walk_b e =
    let nothing : 0 ≡ owed = walk_a in
    let some = Follows_some least owed t walk_b.0 in
    let within = Follows_within least owed t walk_b.0 in
    absurd (omega arith)
contents-same least owed (s ∷ a) [] walk_a walk_b e =
    let nothing : 0 ≡ owed = walk_b in
    let some = Follows_some least owed s walk_a.0 in
    let within = Follows_within least owed s walk_a.0 in
    absurd (omega arith)
contents-same least owed (s ∷ a) (t ∷ b) walk_a walk_b e =
    let more_t = zeros-le least owed s t (flat_map contents a) (flat_map contents b) walk_a.0 walk_b.0 e in
    let more_s = zeros-le least owed t s (flat_map contents b) (flat_map contents a) walk_b.0 walk_a.0 (sym e) in
    let zeros : s.zeros ≡ t.zeros = omega arith in
    let behind : s.literal ++ flat_map contents a ≡ t.literal ++ flat_map contents b = after_zeros zeros in
    let le_t = literal-le s.literal t.literal (flat_map contents a) (flat_map contents b) (after_zero (owed - segment_size s) a walk_a.1) (literal_or_none least owed t walk_b.0) behind in
    let le_s = literal-le t.literal s.literal (flat_map contents b) (flat_map contents a) (after_zero (owed - segment_size t) b walk_b.1) (literal_or_none least owed s walk_a.0) (sym behind) in
    let len : length s.literal ≡ length t.literal = omega arith in
    let literal : s.literal ≡ t.literal =
    sym (take_at s.literal (flat_map contents a) (length t.literal) len) ∙ ap (λ (bytes : List ℕ). take (length t.literal) bytes) behind
    ∙ take_at t.literal (flat_map contents b) (length t.literal) refl in
    let rest : flat_map contents a ≡ flat_map contents b =
    sym (drop_at s.literal (flat_map contents a) (length t.literal) len) ∙ ap (λ (bytes : List ℕ). drop (length t.literal) bytes) behind
    ∙ drop_at t.literal (flat_map contents b) (length t.literal) refl in
    let same = same_segment s t zeros literal in
    cons-same s t a b same
    (contents-same 4 (owed - segment_size s) a b walk_a.1 (subst (λ (u : Segment). Walks 4 (owed - segment_size u) b 0) (sym same) walk_b.1) rest)
  where
    after_zeros : s.zeros ≡ t.zeros → s.literal ++ flat_map contents a ≡ t.literal ++ flat_map contents b
    after_zeros zeros =
        sym (drop_at (replicate {A = ℕ} s.zeros 0) (s.literal ++ flat_map contents a) t.zeros (length-replicate {A = ℕ} s.zeros 0 ∙ zeros))
        ∙ ap (λ (bytes : List ℕ). drop t.zeros bytes) (sym (append_assoc (replicate {A = ℕ} s.zeros 0) s.literal (flat_map contents a)) ∙ e
        ∙ append_assoc (replicate {A = ℕ} t.zeros 0) t.literal (flat_map contents b))
        ∙ drop_at (replicate {A = ℕ} t.zeros 0) (t.literal ++ flat_map contents b) t.zeros (length-replicate {A = ℕ} t.zeros 0)

-- a spelling has at least the two numbers of a segment, where the block isn't empty
pub ZeroRun-length : (block bytes : List ℕ) → 1 ≤ length block → ZeroRun block bytes → (4 ≤ length bytes) × (length bytes ≤ length block + 7)
ZeroRun-length block bytes some run =
    let room = walk-room 0 (length block) 0 run.segments (omega arith) run.rules in
    let same : length bytes ≡ length (flat_map spelling run.segments) = ap length run.spelled in
    let least = spelled-some (length block) run.segments some run.rules in
    (omega arith, omega arith)
  where
    spelled-some : (owed : ℕ) (a : List Segment) → 1 ≤ owed → Walks 0 owed a 0 → 4 ≤ length (flat_map spelling a)
    spelled-some owed [] some walk = let nothing : 0 ≡ owed = walk in absurd (omega arith)
    spelled-some owed (s ∷ a) some walk =
        let len = length-append (spelling s) (flat_map spelling a) in
        let front = length-spelling s in
        omega arith

-- a block has one spelling at most
pub ZeroRun-same : (block a b : List ℕ) → ZeroRun block a → ZeroRun block b → a ≡ b
ZeroRun-same block a b x y =
    let same = contents-same 0 (length block) x.segments y.segments x.rules y.rules (sym x.meant ∙ y.meant) in
    x.spelled ∙ ap (λ (segments : List Segment). flat_map spelling segments) same ∙ sym y.spelled

-- nothing follows where the block is whole
pub NoneFollows-whole : (least : ℕ) (bytes : List ℕ) → NoneFollows least 0 bytes
NoneFollows-whole least bytes s more e follows =
    let some = Follows_some least 0 s follows in
    let within = Follows_within least 0 s follows in
    omega arith

-- of blocks of one size no spelling begins another, and each stands for one block
pub ZeroRun-apart : (a b x y more_x more_y : List ℕ) → length a ≡ length b → length a < 2 ^ 16 → ZeroRun a x → ZeroRun b y → x ++ more_x ≡ y ++ more_y → (a ≡ b) × (x ≡ y)
ZeroRun-apart a b x y more_x more_y sizes small run_a run_b e =
    let same = walk-same 0 (length a) 0 0 run_a.segments run_b.segments more_x more_y small run_a.rules
    (subst (λ (n : ℕ). Walks 0 n run_b.segments 0) (sym sizes) run_b.rules)
    (NoneFollows-whole (least_after 0 run_a.segments) more_x) (NoneFollows-whole (least_after 0 run_b.segments) more_y)
    (ap (λ (l : List ℕ). l ++ more_x) (sym run_a.spelled) ∙ e ∙ ap (λ (l : List ℕ). l ++ more_y) run_b.spelled) in (
      run_a.meant ∙ ap (λ (segments : List Segment). flat_map contents segments) same.0 ∙ sym run_b.meant,
      run_a.spelled ∙ ap (λ (segments : List Segment). flat_map spelling segments) same.0 ∙ sym run_b.spelled,
    )

-- what is refused spells no block of that size
pub IsRefused-not : (size : ℕ) (bytes block : List ℕ) (at : ℕ) → size < 2 ^ 16 → IsRefused size bytes at → length block ≡ size → ¬ ZeroRun block bytes
IsRefused-not size bytes block at small refused whole run =
    let same = walk-same 0 size refused.left 0 refused.segments run.segments refused.rest [] small refused.rules
    (subst (λ (n : ℕ). Walks 0 n run.segments 0) whole run.rules)
    refused.stops (NoneFollows-whole (least_after 0 run.segments) [])
    (sym refused.parts ∙ run.spelled ∙ sym (append-nil (flat_map spelling run.segments))) in
    let none : refused.left ≡ 0 = same.1 in
    let empty : length refused.rest ≡ 0 = ap length same.2 in
    let unfinished = refused.unfinished in
    omega arith

-- bytes are refused at one place
pub IsRefused-same : (size : ℕ) (bytes : List ℕ) (a b : ℕ) → size < 2 ^ 16 → IsRefused size bytes a → IsRefused size bytes b → a ≡ b
IsRefused-same size bytes a b small x y =
    let same = walk-same 0 size x.left y.left x.segments y.segments x.rest y.rest small x.rules y.rules x.stops y.stops (sym x.parts ∙ y.parts) in
    x.place ∙ ap (λ (segments : List Segment). length (flat_map spelling segments)) same.0 ∙ sym y.place
