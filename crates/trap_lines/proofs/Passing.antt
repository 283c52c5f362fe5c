-- What calls of a reader pass over.
use Rattle.std.proofs.Common.{◌≡◌, ℕ, suc, ◌+◌, ◌-◌, ◌<◌, ◌≤◌, ◌==◌, nat_lt, cond, List, [], ◌∷◌, ◌++◌, length, get_or, take, drop, Bool, true, false, Option, None, Some, refl, sym, ap, subst, ◌∙◌, append_assoc, append-nil, take-append-drop, length-append, length-take, length-drop, get_or-take, add-one, drop-cons, arith}
use Rattle.std.specs.List.{position, position_or_len}
use Rattle.std.specs.Io.KnownBytes.{Consumes, prepend_known}
use Rattle.std.proofs.KnownBytes.{Consumes-trans, Consumes-nil}
use Rattle.std.proofs.lemmas.List.Elements.{All-append, All-from_get_or}
use Rattle.std.proofs.lemmas.List.Quantifiers.{position-Some}
use Rattle.std.proofs.lemmas.List.Sums.{fails_before_first, position_or_len_is}
use Rattle.std.proofs.lemmas.Bool.{false_from_ne_true}
use Rattle.memchr.specs.Find.{IsFirstByte, is_byte}
use Rattle.trap_bank.specs.Stream.{Stream}
use Rattle.trap_bank.proofs.Regions.{window_drop}
use Rattle.trap_lines.specs.declared.reader.LineReader.{LineReader}
use Rattle.trap_script.specs.Lines.{HasNoFeed}
use Rattle.trap_lines.specs.Reader.{unread, to_come, room, IsLine, Advances, Passes}

pub passes_nothing : (r : LineReader) (s : Stream) → Passes [] r r s s
passes_nothing r s = record {
  bytes = Consumes-nil (to_come r s);
  used = omega arith;
  given = refl;
  faults = omega arith;
  same_room = refl;
  untold = λ none. none;
}

-- what two calls pass over, one after the other
pub passes_trans : {a b : List ℕ} {r r' r'' : LineReader} {s s' s'' : Stream}
    → Passes a r r' s s' → Passes b r' r'' s' s'' → Passes (a ++ b) r r'' s s''
passes_trans {a} {b} {r} {r'} {r''} {s} {s'} {s''} p q = record {
  bytes = Consumes-trans (to_come r s) (to_come r' s') (to_come r'' s'') a b p.bytes q.bytes;
  used = simp length-append (omega arith);
  given = omega arith;
  faults = omega arith;
  same_room = q.same_room ∙ p.same_room;
  untold = λ none. q.untold (p.untold none);
}

-- a call between that passes over nothing
pub passes_idle : {a : List ℕ} {r r' r'' : LineReader} {s s' s'' : Stream}
    → Passes a r r' s s' → Passes [] r' r'' s' s'' → Passes a r r'' s s''
passes_idle {a} {r} {r'} {r''} {s} {s'} {s''} p q = subst (λ l. Passes l r r'' s s'') (append-nil a) (passes_trans p q)

-- the front of what is known
consumes_front : (left : Option (List ℕ)) (bytes : List ℕ) (n : ℕ)
    → Consumes (prepend_known bytes left) (prepend_known (drop n bytes) left) (take n bytes)
consumes_front None bytes n = tt
consumes_front (Some rest) bytes n =
    ap (λ l. l ++ rest) (sym (take-append-drop n bytes)) ∙ append_assoc (take n bytes) (drop n bytes) rest

-- the reader went on by so many of the bytes that were taken
pub passes_front : (r r' : LineReader) (s : Stream) (count : ℕ) → count ≤ r.end - r.at → r.end ≤ length r.chunk.items → Advances count r r'
    → (unread r' ≡ drop count (unread r)) × Passes (take count (unread r)) r r' s s
passes_front r r' s count within inside step =
    let left : unread r' ≡ drop count (unread r) =
    ap (λ c. take (r'.end - r'.at) (drop r'.at c.items)) step.chunk
    ∙ ap (λ e. take (e - r'.at) (drop r'.at r.chunk.items)) step.end
    ∙ ap (λ a. take (r.end - a) (drop a r.chunk.items)) step.at
    ∙ window_drop r.chunk.items r.at r.end count within in
    let long : length (take count (unread r)) ≡ count = simp (length-take, length-drop) (omega arith) in (
      left,
      record {
        bytes = subst (λ l. Consumes (to_come r s) (prepend_known l s.left) (take count (unread r))) (sym left)
            (consumes_front s.left (unread r) count);
        used = step.used ∙ ap (λ n. r.used + n) (sym long);
        given = omega arith;
        faults = omega arith;
        same_room = step.same_room;
        untold = λ none. none;
      },
    )

some_not_none : (b : Bool) (n : ℕ) → cond b (Some n) None ≡ None → b ≡ false
some_not_none true n e = cc
some_not_none false n e = refl

-- what a search for a line feed finds is its first place
pub first_found : (bytes : List ℕ) (r : Option ℕ) → IsFirstByte (is_byte 10) bytes r → r ≡ position (λ byte. byte == 10) bytes
first_found bytes None none =
    let past : position_or_len (λ byte. byte == 10) bytes ≡ length bytes = position_or_len_is (λ byte. byte == 10) bytes (length bytes) 0 (omega arith)
    (λ k below. false_from_ne_true (get_or bytes k 0 == 10) (none k (omega arith) below)) (λ below. absurd (omega (arith, below))) in
    grind (arith, past)
first_found bytes (Some place) found =
    let at : position_or_len (λ byte. byte == 10) bytes ≡ place = position_or_len_is (λ byte. byte == 10) bytes place 0 (omega (arith, found.0.high))
    (λ k below. false_from_ne_true (get_or bytes k 0 == 10) (found.0.before k (omega arith) below)) (λ below. found.1) in
    let within = found.0.high in
    grind (arith, at, within)

-- there is no line feed where none was found
pub no_feed_found : (bytes : List ℕ) → position (λ byte. byte == 10) bytes ≡ None → HasNoFeed bytes
no_feed_found bytes e =
    let past : nat_lt (position_or_len (λ byte. byte == 10) bytes) (length bytes) ≡ false = some_not_none _ _ e in
    All-from_get_or (λ byte. (byte == 10) ≡ false) bytes 0 (λ i h. fails_before_first (λ byte. byte == 10) bytes i 0 (grind arith))

-- before the line feed that was found there is none
pub feed_found : (bytes : List ℕ) (place : ℕ) → position (λ byte. byte == 10) bytes ≡ Some place
    → (place < length bytes) × HasNoFeed (take place bytes) × (drop place bytes ≡ 10 ∷ drop (place + 1) bytes)
feed_found bytes place e =
    let found = position-Some (λ byte. byte == 10) bytes place 0 e in
    let within : place < length bytes = found.0 in
    let feed : get_or bytes place 0 ≡ 10 = grind (arith, found.1) in (
      within,
      All-from_get_or (λ byte. (byte == 10) ≡ false) (take place bytes) 0
          (λ i h. let before : i < place = omega (arith, length-take place bytes) in rw (get_or-take) (found.2 i before)),
      rw add-one (drop-cons bytes place 0 within ∙ ap (λ b. b ∷ drop (suc place) bytes) feed),
    )

pub line_stays : {line : List ℕ} {len : ℕ} (r r' : LineReader) → r'.line ≡ r.line → IsLine line len r → IsLine line len r'
line_stays {line = line} r r' same is_line = record {
  no_feed = is_line.no_feed;
  long = is_line.long;
  held = subst (λ l. length line ≤ length l.items → take (length line) l.items ≡ line) (sym same) is_line.held;
}

-- more of a line is passed over, and held if it fits
pub line_grows : (front more : List ℕ) (len : ℕ) (r r' : LineReader) → IsLine front len r → HasNoFeed more → room r' ≡ room r
    → (len + length more ≤ room r → take (len + length more) r'.line.items ≡ take len r.line.items ++ more)
    → IsLine (front ++ more) (len + length more) r'
line_grows front more len r r' is_line none same_room kept =
    let long : length (front ++ more) ≡ len + length more = simp length-append (omega arith) in
    record {
      no_feed = All-append (λ byte. (byte == 10) ≡ false) front more is_line.no_feed none;
      long = long;
      held = λ fits. let fits_both : len + length more ≤ room r = omega arith in
          let fits_front : length front ≤ room r = omega arith in
          ap (λ n. take n r'.line.items) long ∙ kept fits_both
          ∙ ap (λ l. l ++ more) (ap (λ n. take n r.line.items) (sym is_line.long) ∙ is_line.held fits_front);
    }

-- More of a line is passed over: what was passed over of it before, and so many bytes more.
pub front_grows : {front : List ℕ} {len : ℕ} (r0 r1 r2 r3 : LineReader) (s0 s1 s2 : Stream) (count : ℕ)
    → IsLine front len r1 → Passes front r0 r1 s0 s1 → Passes [] r1 r2 s1 s2 → r2.line ≡ r1.line
    → count ≤ r2.end - r2.at → r2.end ≤ length r2.chunk.items → HasNoFeed (take count (unread r2))
    → Advances count r2 r3 → (len + count ≤ room r2 → take (len + count) r3.line.items ≡ take len r2.line.items ++ take count (unread r2))
    → (unread r3 ≡ drop count (unread r2))
    × IsLine (front ++ take count (unread r2)) (len + count) r3 × Passes (front ++ take count (unread r2)) r0 r3 s0 s2
front_grows {front} {len} r0 r1 r2 r3 s0 s1 s2 count is_line before idle same within inside none step kept =
    let more = take count (unread r2) in
    let over = passes_front r2 r3 s2 count within inside step in
    let long : length more ≡ count = simp (length-take, length-drop) (omega arith) in
    let here : IsLine front len r2 = line_stays r1 r2 same is_line in
    let kept' : len + length more ≤ room r2 → take (len + length more) r3.line.items ≡ take len r2.line.items ++ more =
    subst (λ n. len + n ≤ room r2 → take (len + n) r3.line.items ≡ take len r2.line.items ++ more) (sym long) kept in (
      over.0,
      subst (λ n. IsLine (front ++ more) (len + n) r3) long (line_grows front more len r2 r3 here none step.same_room kept'),
      passes_trans (passes_idle before idle) over.1,
    )

-- The line feed of a line is found and passed over.
pub line_ends : {front : List ℕ} {len : ℕ} (r0 r1 r2 r3 r4 : LineReader) (s0 s1 s2 : Stream) (place : ℕ)
    → IsLine front len r1 → Passes front r0 r1 s0 s1 → Passes [] r1 r2 s1 s2 → r2.line ≡ r1.line → r2.end ≤ length r2.chunk.items
    → position (λ byte. byte == 10) (unread r2) ≡ Some place
    → Advances place r2 r3 → (len + place ≤ room r2 → take (len + place) r3.line.items ≡ take len r2.line.items ++ take place (unread r2))
    → Advances 1 r3 r4 → r4.line ≡ r3.line
    → (line : List ℕ) × IsLine line (len + place) r4 × Passes (line ++ 10 ∷ []) r0 r4 s0 s2
line_ends {front} {len} r0 r1 r2 r3 r4 s0 s1 s2 place is_line before idle same inside found step kept feed same_line =
    let where_ = feed_found (unread r2) place found in
    let long : length (unread r2) ≤ r2.end - r2.at = omega (arith, length-take (r2.end - r2.at) (drop r2.at r2.chunk.items)) in
    let short : place < length (unread r2) = where_.0 in
    let room_for : place + 1 ≤ r2.end - r2.at = omega arith in
    let grown = front_grows r0 r1 r2 r3 s0 s1 s2 place is_line before idle same (omega arith) inside where_.1 step kept in
    let first : take 1 (unread r3) ≡ 10 ∷ [] = ap (take 1) (grown.0 ∙ where_.2) in
    let inside' : r3.end ≤ length r3.chunk.items =
    subst (λ c. r3.end ≤ length c.items) (sym step.chunk) (omega arith) in
    let over = passes_front r3 r4 s2 1 (omega arith) inside' feed in (
      front ++ take place (unread r2),
      line_stays r3 r4 same_line grown.1,
      passes_trans grown.2 (subst (λ l. Passes l r3 r4 s2 s2) first over.1),
    )
