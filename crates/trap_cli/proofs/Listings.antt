-- The lines of a history, one after the other, and piece after piece.
use Rattle.std.proofs.Common.{◌≡◌, ℕ, zero, suc, ◌+◌, ◌-◌, ◌<◌, ◌≤◌, List, [], ◌∷◌, ◌++◌, length, get_or, take, drop, Result, Ok, Err, IsTrue, refl, sym, ap, subst, ◌∙◌, append_assoc, append-nil, arith}
use Rattle.std.specs.Prelude.{flat_map}
use Rattle.std.specs.Result.{IsErr}
use Rattle.std.proofs.lemmas.List.{take_more, take_all, take-append-drop}
use Rattle.std.proofs.lemmas.Grind.{flat_map-append}
use Rattle.trap_bank.specs.Disks.{Contents, Disks, View}
use Rattle.trap_bank.specs.Calls.{Says, SaysPart}
use Rattle.trap_bank.specs.Steps.{Steps, Spoke, SpokePart}
use Rattle.trap_bank.proofs.Moves.{then_, weaken, nothing_done, say_steps, said_steps}
use Rattle.trap_index.specs.declared.item.Item.{Item}
use Rattle.trap_index.specs.Indexed.{Indexed, last_seq, item_at, no_rec}
use Rattle.trap_index.specs.Describes.{headers_from}
use Rattle.trap_index.proofs.Headers.{rec_len-entry}
use Rattle.trap_model.specs.declared.history.Entry.{Entry}
use Rattle.trap_model.specs.declared.history.State.{State}
use Rattle.trap_model.specs.declared.log_record.LogRec.{LogRec}
use Rattle.trap_model.specs.Image.{block_of, written}
use Rattle.trap_model.specs.Records.{rec_of}
use Rattle.trap_model.proofs.Records.{length-record_of}
use Rattle.trap_array.specs.Calls.{Mounted, StandsFor}
use Rattle.trap_array.specs.Sources.{CallsAtMost}
use Rattle.trap_port.specs.Outgoing.{KeepsDisks}
use Rattle.trap_cli.specs.History.{line_of, entry_line, lines_from, history_text}
use Rattle.trap_cli.specs.Listing.{item_line, record_line, record_lines, index_text, SpokeFront, Flushed, Lists, ListsWhole, HasListed}

-- the lines up to record number q, one after the other
abbrev pub lines_up_to : Indexed → ℕ → List ℕ
lines_up_to i q = flat_map (λ line. line) (take (q - i.first) (record_lines i.first i.recs))

length-lines : (q : ℕ) (recs : List LogRec) → length (record_lines q recs) ≡ length recs
length-lines q [] = refl
length-lines q (r ∷ recs) = ap suc (length-lines (q + 1) recs)

-- the line with so many before it
lines-at : (q n k : ℕ) (recs : List LogRec) → k < length recs → n ≡ q + 1 + k → get_or (record_lines q recs) k [] ≡ record_line n (get_or recs k no_rec)
lines-at q n k [] inside is = absurd (omega arith)
lines-at q n zero (r ∷ recs) inside is = ap (λ (m : ℕ). record_line m r) (let same : q + 1 ≡ n = omega arith in same)
lines-at q n (suc k) (r ∷ recs) inside is = lines-at (q + 1) n k recs (omega arith) (omega arith)

lines_start : (i : Indexed) (q : ℕ) → q ≡ i.first → lines_up_to i q ≡ []
lines_start i q is = ap (λ (k : ℕ). flat_map (λ line. line) (take k (record_lines i.first i.recs))) (let none : q - i.first ≡ 0 = omega arith in none)

-- all lines are those up to some number, and the others
lines_rest : (i : Indexed) (q : ℕ) → lines_up_to i q ++ flat_map (λ line. line) (drop (q - i.first) (record_lines i.first i.recs)) ≡ index_text i
lines_rest i q =
    sym (flat_map-append (λ line. line) (take (q - i.first) (record_lines i.first i.recs)) (drop (q - i.first) (record_lines i.first i.recs)))
    ∙ ap (flat_map (λ line. line)) (take-append-drop (q - i.first) (record_lines i.first i.recs))

lines_end : (i : Indexed) (q : ℕ) → q ≡ last_seq i → lines_up_to i q ≡ index_text i
lines_end i q is =
    let long = length-lines i.first i.recs in
    ap (flat_map (λ line. line)) (take_all (q - i.first) (record_lines i.first i.recs) (omega arith))

-- one line more
lines_more : (i : Indexed) (q : ℕ) → i.first ≤ q → q < last_seq i → lines_up_to i (q + 1) ≡ lines_up_to i q ++ item_line (q + 1) (item_at i (q + 1))
lines_more i q low high =
    let all = record_lines i.first i.recs in
    let k = q - i.first in
    let long : length all ≡ length i.recs = length-lines i.first i.recs in
    let next : q + 1 - i.first ≡ k + 1 = omega arith in
    let here : q + 1 - (i.first + 1) ≡ k = omega arith in
    ap (λ (n : ℕ). flat_map (λ line. line) (take n all)) next
    ∙ ap (flat_map (λ line. line)) (take_more all k [] (omega arith))
    ∙ flat_map-append (λ line. line) (take k all) (get_or all k [] ∷ [])
    ∙ ap (λ (l : List ℕ). lines_up_to i q ++ l) (append-nil (get_or all k []))
    ∙ ap (λ (l : List ℕ). lines_up_to i q ++ l) (lines-at i.first (q + 1) k i.recs (omega arith) (omega arith))
    ∙ ap (λ (n : ℕ). lines_up_to i q ++ record_line (q + 1) (get_or i.recs n no_rec)) (sym here)

-- the line of an entry's record is the entry's
line_told : (q : ℕ) (old : List ℕ) (entry : Entry) → record_line q (rec_of q old entry) ≡ entry_line q old entry
line_told q old entry = ap (λ (size : ℕ). line_of q entry.time entry.block size entry.snap) (rec_len-entry q old entry ∙ sym (length-record_of q old entry))

lines_told : (image : List (List ℕ)) (q : ℕ) (entries : List Entry) → record_lines q (headers_from image q entries) ≡ lines_from image q entries
lines_told image q [] = refl
lines_told image q (entry ∷ later) =
    ap (λ (line : List ℕ). line ∷ record_lines (q + 1) (headers_from (written image entry) (q + 1) later)) (line_told (q + 1) (block_of image entry.block) entry)
    ∙ ap (λ (lines : List (List ℕ)). entry_line (q + 1) (block_of image entry.block) entry ∷ lines) (lines_told (written image entry) (q + 1) later)

-- what is said of the index is the history of each state that the array stands for
pub text_told : (a : Mounted) (s : State) (on : Disks) → StandsFor a s on → index_text a.index ≡ history_text s
text_told a s on stands =
    ap (λ (q : ℕ). flat_map (λ line. line) (record_lines q a.index.recs)) stands.index.first
    ∙ ap (λ (recs : List LogRec). flat_map (λ line. line) (record_lines s.first recs)) stands.index.recs
    ∙ ap (flat_map (λ line. line)) (lines_told s.base s.first s.entries)

pub part_told : (a : Mounted) (s : State) (on : Disks) (x y : Contents) → StandsFor a s on → Lists a x y → SaysPart (history_text s) x y
part_told a s on x y stands listed = subst (λ (text : List ℕ). SaysPart text x y) (text_told a s on stands) listed.says

pub whole_told : (a : Mounted) (s : State) (on : Disks) (x y : Contents) → StandsFor a s on → ListsWhole a x y → y.said ≡ x.said ++ history_text s
whole_told a s on x y stands listed = subst (λ (text : List ℕ). y.said ≡ x.said ++ text) (text_told a s on stands) listed.says

-- what is said of the lines up to a number, and what waits of them, make them whole; the disks are the same
pub record ListsTo (a : Mounted) (q : ℕ) (waits : List ℕ) (x y : Contents) : Type 0 where
  pub disks : y.disks ≡ x.disks
  pub part : List ℕ
  pub said : y.said ≡ x.said ++ part
  pub whole : part ++ waits ≡ lines_up_to a.index q

-- what was said so far is a first part of all lines
front_lists : (a : Mounted) (q : ℕ) (waits : List ℕ) (x y z : Contents) → ListsTo a q waits x y → SpokePart waits y z → Lists a x z
front_lists a q waits x y z to spoke =
    let rest = flat_map (λ line. line) (drop (q - a.index.first) (record_lines a.index.first a.index.recs)) in
    let more = spoke.says in
    record {
      disks = spoke.disks ∙ to.disks;
      says = record {
        part = to.part ++ more.part;
        rest = more.rest ++ rest;
        whole = append_assoc to.part more.part (more.rest ++ rest)
            ∙ ap (λ (l : List ℕ). to.part ++ l) (sym (append_assoc more.part more.rest rest) ∙ ap (λ (l : List ℕ). l ++ rest) more.whole)
            ∙ sym (append_assoc to.part waits rest)
            ∙ ap (λ (l : List ℕ). l ++ rest) to.whole
            ∙ lines_rest a.index q;
        said = more.said ∙ ap (λ (l : List ℕ). l ++ more.part) to.said ∙ append_assoc x.said to.part more.part;
      };
    }

module _ (a : Mounted) (first : ℕ) (begins : a.index.first ≡ first) where
  -- nothing was said yet
  pub lists_start : (v : View) (piece : List ℕ) → Steps v v (Lists a) (ListsTo a first (take 0 piece))
  lists_start v piece = nothing_done v (Lists a) (ListsTo a first (take 0 piece)) (λ x was. record {
    disks = refl;
    part = [];
    said = sym (append-nil x.said);
    whole = sym (lines_start a.index first (sym begins));
  })

  module _ (end : ℕ) (ends : last_seq a.index ≡ end) (v b c : View) (q : ℕ) (low : first ≤ q) (high : q < end) (piece : List ℕ) (len : ℕ)
      (so_far : Steps v b (Lists a) (ListsTo a q (take len piece))) where
    -- each number is that of a record
    pub lists_each : (a.index.first < q + 1) × (q + 1 ≤ last_seq a.index)
    lists_each = (omega (arith, begins, low), omega (arith, ends, high))

    -- the port failed
    pub lists_failed : {T E : Type 0} (result : Result T E) → IsErr result → Steps b c (SpokePart (take len piece)) (SpokePart (take len piece)) → Steps v c (Lists a) (HasListed a result)
    lists_failed (Ok value) err flushed = absurd (cc err)
    lists_failed (Err e) err flushed = then_ v b c (Lists a) (ListsTo a q (take len piece)) (SpokePart (take len piece)) (SpokePart (take len piece)) (Lists a) (Lists a) so_far flushed
        (λ x y was step. step)
        (λ x y z was to mid spoke. front_lists a q (take len piece) x y z to spoke)
        (λ x y z was to mid spoke. front_lists a q (take len piece) x y z to spoke)

    -- the line of the next record waits after the others
    pub lists_line : (E : Type 0) (at end_at : ℕ) (out : List ℕ) (item : Item) → Steps b c (SpokePart (take len piece)) (Flushed {E = E} piece len (Ok at))
        → item ≡ item_at a.index (q + 1) → take end_at out ≡ take at piece ++ item_line (q + 1) item
        → Steps v c (Lists a) (ListsTo a (q + 1) (take end_at out))
    lists_line E at end_at out item flushed is put =
        then_ v b c (Lists a) (ListsTo a q (take len piece)) (SpokePart (take len piece)) (SpokeFront piece len at) (Lists a) (ListsTo a (q + 1) (take end_at out)) so_far flushed
        (λ x y was step. step)
        (λ x y z was to mid spoke. front_lists a q (take len piece) x y z to spoke)
        (λ x y z was to mid spoke. record {
          disks = spoke.disks ∙ to.disks;
          part = to.part ++ spoke.part;
          said = spoke.said ∙ ap (λ (l : List ℕ). l ++ spoke.part) to.said ∙ append_assoc x.said to.part spoke.part;
          whole = ap (λ (l : List ℕ). (to.part ++ spoke.part) ++ l) put
              ∙ append_assoc to.part spoke.part (take at piece ++ item_line (q + 1) item)
              ∙ ap (λ (l : List ℕ). to.part ++ l) (sym (append_assoc spoke.part (take at piece) (item_line (q + 1) item)) ∙ ap (λ (l : List ℕ). l ++ item_line (q + 1) item) spoke.whole)
              ∙ sym (append_assoc to.part (take len piece) (item_line (q + 1) item))
              ∙ ap (λ (l : List ℕ). l ++ item_line (q + 1) item) to.whole
              ∙ ap (λ (item : Item). lines_up_to a.index q ++ item_line (q + 1) item) is
              ∙ sym (lines_more a.index q (omega (arith, begins, low)) (omega (arith, ends, high)));
        })

-- what waited at the end is said
pub lists_end : {T E : Type 0} (a : Mounted) (v b c : View) (q : ℕ) (piece : List ℕ) (len : ℕ) (result : Result T E) → q ≡ last_seq a.index
    → Steps v b (Lists a) (ListsTo a q (take len piece)) → Says (take len piece) result b c → Steps v c (Lists a) (HasListed a result)
lists_end {T} {E} a v b c q piece len (Ok value) all so_far says =
    then_ v b c (Lists a) (ListsTo a q (take len piece)) (SpokePart (take len piece)) (Spoke (take len piece)) (Lists a) (ListsWhole a) so_far
    (said_steps {T = T} {E = E} value b c (take len piece) says)
    (λ x y was step. step)
    (λ x y z was to mid spoke. front_lists a q (take len piece) x y z to spoke)
    (λ x y z was to mid spoke. record {
      disks = spoke.disks ∙ to.disks;
      says = spoke.said ∙ ap (λ (l : List ℕ). l ++ take len piece) to.said ∙ append_assoc x.said to.part (take len piece)
          ∙ ap (λ (l : List ℕ). x.said ++ l) (to.whole ∙ lines_end a.index q all);
    })
lists_end {T} {E} a v b c q piece len (Err e) all so_far says =
    then_ v b c (Lists a) (ListsTo a q (take len piece)) (SpokePart (take len piece)) (SpokePart (take len piece)) (Lists a) (Lists a) so_far
    (say_steps {T = T} {E = E} (Err e) b c (take len piece) says)
    (λ x y was step. step)
    (λ x y z was to mid spoke. front_lists a q (take len piece) x y z to spoke)
    (λ x y z was to mid spoke. front_lists a q (take len piece) x y z to spoke)

-- there is room already
pub room_there : (E : Type 0) (v : View) (piece : List ℕ) (len : ℕ) → Steps v v (SpokePart (take len piece)) (Flushed {E = E} piece len (Ok len))
room_there E v piece len = nothing_done v (SpokePart (take len piece)) (SpokeFront piece len len)
    (λ x was. record { part = []; disks = refl; said = sym (append-nil x.said); whole = refl })

-- the piece was said
pub room_made : (T E : Type 0) (value : T) (a b : View) (piece : List ℕ) (len : ℕ) → Says {T = T} {E = E} (take len piece) (Ok value) a b
    → Steps a b (SpokePart (take len piece)) (Flushed {E = E} piece len (Ok 0))
room_made T E value a b piece len says = weaken a b (SpokePart (take len piece)) (Spoke (take len piece)) (SpokePart (take len piece)) (SpokeFront piece len 0)
    (said_steps {T = T} {E = E} value a b (take len piece) says)
    (λ x y was step. step)
    (λ x y was left spoke. record { part = take len piece; disks = spoke.disks; said = spoke.said; whole = append-nil (take len piece) })

-- one call and then another, of which none changes a disk
pub keeps_then : (a b c : View) → b.tells ≡ a.tells → KeepsDisks a b → KeepsDisks b c → KeepsDisks a c
keeps_then a b c tells first second = record {
  sizes = λ e. second.sizes e ∙ first.sizes e;
  disks = λ told. second.disks (subst IsTrue (sym tells) told) ∙ first.disks told;
}

pub keeps_said : {T E : Type 0} (piece : List ℕ) (result : Result T E) (a b : View) → Says piece result a b → KeepsDisks a b
keeps_said piece result a b says = record { sizes = says.sizes; disks = says.disks }

pub keeps_none : (a : View) → KeepsDisks a a
keeps_none a = record { sizes = λ e. refl; disks = λ told. refl }

-- a loop over the entries has come to number q: the lines up to it were said, but for those at the front of the piece
pub record HasCome (a : Mounted) (old new : View) (q : ℕ) (piece : List ℕ) (len : ℕ) : Type 0 where
  pub within : len ≤ 4096
  pub long : length piece ≡ 4096
  pub steps : Steps old new (Lists a) (ListsTo a q (take len piece))
  pub disks : KeepsDisks old new
  pub calls : CallsAtMost (q - a.index.first) old new
