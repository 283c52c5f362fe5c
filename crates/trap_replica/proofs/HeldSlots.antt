-- How held frames move among their slots.
use Rattle.std.proofs.Common.{◌≡◌, ℕ, zero, suc, ◌+◌, ◌-◌, ◌<◌, ◌≤◌, List, [], ◌∷◌, ◌++◌, length, take, drop, get_or, refl, sym, ap, ◌∙◌, arith, length-append, length-drop}
use Rattle.std.specs.List.{All, slice_rotate_right}
use Rattle.std.proofs.Math.ListN.{set}
use Rattle.std.proofs.lemmas.List.{take-append-le, take_at, take-set, take-set-le, drop-set, drop-drop, drop-take, drop_all, length-set, length-take-le}
use Rattle.std.proofs.lemmas.List.Elements.{All-same, All-append, All-take, All-drop, All-set}

-- the front of the front
take_less : {X : Type 0} (a b : ℕ) (xs : List X) → a ≤ b → take a (take b xs) ≡ take a xs
take_less zero b xs le = refl
take_less (suc a) zero xs le = absurd (omega arith)
take_less (suc a) (suc b) [] le = refl
take_less (suc a) (suc b) (x ∷ xs) le = ap (λ l. x ∷ l) (take_less a b xs (omega arith))

-- the first of some frames
pub first_is : {X : Type 0} (xs : List X) (x : X) → 0 < length xs → x ≡ get_or xs 0 x → xs ≡ x ∷ drop 1 xs
first_is [] x some is = absurd (omega arith)
first_is (y ∷ ys) x some is = ap (λ z. z ∷ ys) (sym is)

rotated_length : {X : Type 0} (xs : List X) → length (drop 1 xs ++ take 1 xs) ≡ length xs
rotated_length [] = refl
rotated_length (x ∷ xs) = let e = length-append xs (x ∷ []) in omega arith

-- the front without its first
first_gone : {X : Type 0} (n : ℕ) (xs : List X) → 0 < n → n ≤ length xs → take (n - 1) (drop 1 xs ++ take 1 xs) ≡ drop 1 (take n xs)
first_gone zero xs some room = absurd (omega arith)
first_gone (suc n) [] some room = absurd (omega arith)
first_gone (suc n) (x ∷ xs) some room =
    let e : suc n - 1 ≡ n = omega arith in
    let short : n ≤ length xs = omega arith in
    ap (λ (k : ℕ). take k (xs ++ x ∷ [])) e ∙ take-append-le n xs (x ∷ []) short

-- a whole buffer that was written over
whole : {X : Type 0} (len : ℕ) (new rest : List X) → length new ≡ len → take len (new ++ rest) ≡ new
whole len new rest long = take_at new rest len long

-- the slots after the first was moved after the others
pub dropped : {X : Type 0} (count len : ℕ) (items old new frames : List X) → 0 < count → count ≤ len → length items ≡ len → old ≡ items
    → new ≡ drop 1 old ++ take 1 old → take count items ≡ frames
    → take (count - 1) (take len (new ++ drop (length new) items)) ≡ drop 1 frames
dropped count len items old new frames some room long value moved front =
    let is : new ≡ drop 1 items ++ take 1 items = moved ∙ ap (λ (l : List _). drop 1 l ++ take 1 l) value in
    let size : length new ≡ len = ap length is ∙ rotated_length items ∙ long in
    let within : count ≤ length items = omega arith in
    ap (take (count - 1)) (whole len new (drop (length new) items) size ∙ is) ∙ first_gone count items some within ∙ ap (drop 1) front

pub dropped_all : {X : Type 0} (P : X → Type 0) (len : ℕ) (items old new : List X) → length items ≡ len → old ≡ items
    → new ≡ drop 1 old ++ take 1 old → All P items → All P (take len (new ++ drop (length new) items))
dropped_all P len items old new long value moved all =
    let is : new ≡ drop 1 items ++ take 1 items = moved ∙ ap (λ (l : List _). drop 1 l ++ take 1 l) value in
    let size : length new ≡ len = ap length is ∙ rotated_length items ∙ long in
    All-same P _ (drop 1 items ++ take 1 items) (whole len new (drop (length new) items) size ∙ is)
    (All-append P (drop 1 items) (take 1 items) (All-drop P 1 items all) (All-take P 1 items all))

-- the last slot moved to a place before it
last_moved : {X : Type 0} (at n : ℕ) (xs : List X) (f : X) → length xs ≡ n + 1 → at ≤ n
    → take at (set xs n f) ++ slice_rotate_right (drop at (set xs n f)) 1 ≡ take at xs ++ f ∷ drop at (take n xs)
last_moved at n xs f long within =
    let ys = set xs n f in
    let below : n < length xs = omega arith in
    let k : length (drop at ys) - 1 ≡ n - at = omega (arith, length-drop at ys, length-set xs n f) in
    let sum : at + (n - at) ≡ n = omega arith in
    let last : drop (length (drop at ys) - 1) (drop at ys) ≡ f ∷ [] =
    ap (λ (j : ℕ). drop j (drop at ys)) k ∙ drop-drop (n - at) at ys ∙ ap (λ (j : ℕ). drop j ys) sum
    ∙ drop-set xs n f below ∙ ap (λ (l : List _). f ∷ l) (drop_all (n + 1) xs (omega arith)) in
    let front : take (length (drop at ys) - 1) (drop at ys) ≡ drop at (take n xs) =
    ap (λ (j : ℕ). take j (drop at ys)) k ∙ sym (drop-take at (n - at) ys) ∙ ap (λ (j : ℕ). drop at (take j ys)) sum
    ∙ ap (drop at) (take-set xs n f) in
    ap (λ (l : List _). l ++ slice_rotate_right (drop at ys) 1) (take-set-le at xs n f within)
    ∙ ap (λ (l : List _). take at xs ++ (l ++ take (length (drop at ys) - 1) (drop at ys))) last
    ∙ ap (λ (l : List _). take at xs ++ f ∷ l) front

-- the front with the one that was put in
put_in : {X : Type 0} (at count n : ℕ) (xs : List X) (f : X) → at ≤ count → count ≤ n → n ≤ length xs
    → take (count + 1) (take at xs ++ f ∷ drop at (take n xs)) ≡ take at (take count xs) ++ f ∷ drop at (take count xs)
put_in zero count n xs f low high room =
    let e : count + 1 ≡ suc count = omega arith in
    ap (λ (k : ℕ). take k (f ∷ take n xs)) e ∙ ap (λ (l : List _). f ∷ l) (take_less count n xs high)
put_in (suc at) zero n xs f low high room = absurd (omega arith)
put_in (suc at) (suc count) zero xs f low high room = absurd (omega arith)
put_in (suc at) (suc count) (suc n) [] f low high room = absurd (omega arith)
put_in (suc at) (suc count) (suc n) (x ∷ xs) f low high room =
    let e : suc count + 1 ≡ suc (count + 1) = omega arith in
    ap (λ (k : ℕ). take k (x ∷ (take at xs ++ f ∷ drop at (take n xs)))) e
    ∙ ap (λ (l : List _). x ∷ l) (put_in at count n xs f (omega arith) (omega arith) (omega arith))

moved_length : {X : Type 0} (at n : ℕ) (xs : List X) (f : X) → length xs ≡ n + 1 → at ≤ n → length (take at xs ++ f ∷ drop at (take n xs)) ≡ n + 1
moved_length at n xs f long within =
    let a : length (take at xs ++ f ∷ drop at (take n xs)) ≡ length (take at xs) + length (f ∷ drop at (take n xs)) = length-append (take at xs) (f ∷ drop at (take n xs)) in
    let b : length (take at xs) ≡ at = length-take-le at xs (omega arith) in
    let c : length (drop at (take n xs)) ≡ length (take n xs) - at = length-drop at (take n xs) in
    let d : length (take n xs) ≡ n = length-take-le n xs (omega arith) in
    omega arith

-- the held frames after one more was put in its place
pub one_more_held : {X : Type 0} (count at n len : ℕ) (items old new frames : List X) (f : X) → length items ≡ n + 1 → len ≡ n + 1 → at ≤ count → count ≤ n
    → old ≡ set items n f → new ≡ take at old ++ slice_rotate_right (drop at old) 1 → take count items ≡ frames
    → take (count + 1) (take len (new ++ drop (length new) (set items n f))) ≡ take at frames ++ f ∷ drop at frames
one_more_held count at n len items old new frames f long room low high value moved front =
    let within : at ≤ n = omega arith in
    let is : new ≡ take at items ++ f ∷ drop at (take n items) = moved ∙ ap (λ (l : List _). take at l ++ slice_rotate_right (drop at l) 1) value ∙ last_moved at n items f long within in
    let size : length new ≡ len = ap length is ∙ moved_length at n items f long within ∙ sym room in
    ap (take (count + 1)) (whole len new (drop (length new) (set items n f)) size ∙ is)
    ∙ put_in at count n items f low high (omega arith) ∙ ap (λ (l : List _). take at l ++ f ∷ drop at l) front

pub one_more_all : {X : Type 0} (P : X → Type 0) (at n len : ℕ) (items old new : List X) (f : X) → length items ≡ n + 1 → len ≡ n + 1 → at ≤ n
    → old ≡ set items n f → new ≡ take at old ++ slice_rotate_right (drop at old) 1 → P f → All P items
    → All P (take len (new ++ drop (length new) (set items n f)))
one_more_all P at n len items old new f long room within value moved fits all =
    let is : new ≡ take at items ++ f ∷ drop at (take n items) = moved ∙ ap (λ (l : List _). take at l ++ slice_rotate_right (drop at l) 1) value ∙ last_moved at n items f long within in
    let size : length new ≡ len = ap length is ∙ moved_length at n items f long within ∙ sym room in
    let same : new ≡ take at (set items n f) ++ slice_rotate_right (drop at (set items n f)) 1 = moved ∙ ap (λ (l : List _). take at l ++ slice_rotate_right (drop at l) 1) value in
    let ys = set items n f in
    let each : All P ys = All-set P items n f fits all in
    All-same P _ _ (whole len new (drop (length new) ys) size ∙ same)
    (All-append P (take at ys) _ (All-take P at ys each) (All-append P _ _ (All-drop P (length (drop at ys) - 1) (drop at ys) (All-drop P at ys each))
    (All-take P (length (drop at ys) - 1) (drop at ys) (All-drop P at ys each))))
