-- The frames of a state's entries: where each stands, and that their bytes are a stream of them.
use Rattle.std.proofs.Common.{◌≡◌, ℕ, zero, suc, ◌+◌, ◌-◌, ◌^◌, ◌<◌, ◌≤◌, List, [], ◌∷◌, length, get_or, take, drop, refl, sym, ap, ◌∙◌, arith, length-drop}
use Rattle.std.specs.Prelude.{flat_map, All}
use Rattle.std.proofs.lemmas.List.{get_or-drop}
use Rattle.std.proofs.lemmas.List.Elements.{All-head, All-tail, All-take, All-drop}
use Rattle.trap_block.specs.Xor.{xor}
use Rattle.trap_block.proofs.XorLemmas.{length-xor}
use Rattle.trap_index.specs.Describes.{block_before}
use Rattle.trap_model.specs.declared.history.Entry.{Entry}
use Rattle.trap_model.specs.declared.history.State.{State}
use Rattle.trap_model.specs.declared.numbers.Geometry.{Geometry}
use Rattle.trap_model.specs.Frame.{Sent, SpellsFrame, AreFrames, AtEnd}
use Rattle.trap_model.specs.Image.{block_of, IsImage, written, image_after}
use Rattle.trap_model.specs.Records.{no_entry, entry_at}
use Rattle.trap_model.specs.Size.{code_of}
use Rattle.trap_model.specs.State.{IsEntry, IsValid, image_at, above, last}
use Rattle.trap_model.proofs.CodeOf.{code_of_spells}
use Rattle.trap_model.proofs.Frames.{frames-next}
use Rattle.trap_model.proofs.Records.{length-code_of}
use Rattle.trap_model.proofs.Validity.{written_is_image, image_after_is_image}
use Rattle.trap_send.specs.Sending.{frame_of, frames_from, frame_bytes, sent_frames, sent_text}

length-frames : (id : ℕ) (image : List (List ℕ)) (q : ℕ) (xs : List Entry) → length (frames_from id image q xs) ≡ length xs
length-frames id image q [] = refl
length-frames id image q (x ∷ xs) = ap suc (length-frames id (written image x) (q + 1) xs)

-- the frame with that many before it
frames-at : (id : ℕ) (image : List (List ℕ)) (q n k : ℕ) (xs : List Entry) (none : Sent) → k < length xs → n ≡ q + 1 + k
    → get_or (frames_from id image q xs) k none ≡ frame_of id n (block_of (image_after image (take k xs)) (get_or xs k no_entry).block) (get_or xs k no_entry)
frames-at id image q n k [] none inside is = absurd (omega arith)
frames-at id image q n zero (x ∷ xs) none inside is = ap (λ (m : ℕ). frame_of id m (block_of image x.block) x) (let same : q + 1 ≡ n = omega arith in same)
frames-at id image q n (suc k) (x ∷ xs) none inside is = frames-at id (written image x) (q + 1) n k xs none (omega arith) (omega arith)

-- those after that many are of the entries after that many
frames-drop : (id : ℕ) (image : List (List ℕ)) (q d : ℕ) (xs : List Entry) → d ≤ length xs
    → drop d (frames_from id image q xs) ≡ frames_from id (image_after image (take d xs)) (q + d) (drop d xs)
frames-drop id image q zero xs within = ap (λ (n : ℕ). frames_from id image n xs) (let same : q ≡ q + 0 = omega arith in same)
frames-drop id image q (suc d) [] within = absurd (omega arith)
frames-drop id image q (suc d) (x ∷ xs) within =
    frames-drop id (written image x) (q + 1) d xs (omega arith)
    ∙ ap (λ (n : ℕ). frames_from id (image_after (written image x) (take d xs)) n (drop d xs)) (let same : q + 1 + d ≡ q + suc d = omega arith in same)

-- the frames after an instant are the last ones of all
sent_are : (id : ℕ) (s : State) (p : ℕ) → s.first ≤ p → p ≤ last s → sent_frames id s p ≡ drop (p - s.first) (frames_from id s.base s.first s.entries)
sent_are id s p low high =
    let d = p - s.first in
    sym (frames-drop id s.base s.first d s.entries (omega arith)
    ∙ ap (λ (n : ℕ). frames_from id (image_at s p) n (above s p)) (let same : s.first + d ≡ p = omega arith in same))

pub length-sent : (id : ℕ) (s : State) (p : ℕ) → s.first ≤ p → p ≤ last s → length (sent_frames id s p) ≡ last s - p
length-sent id s p low high =
    let frames = length-frames id (image_at s p) p (above s p) in
    let rest : length (above s p) ≡ length s.entries - (p - s.first) = length-drop (p - s.first) s.entries in
    omega arith

-- the frame of entry number q
pub sent_at : (id : ℕ) (s : State) (p q : ℕ) (none : Sent) → s.first ≤ p → p < q → q ≤ last s
    → get_or (sent_frames id s p) (q - (p + 1)) none ≡ frame_of id q (block_before s q) (entry_at s q)
sent_at id s p q none low later high =
    let all = frames_from id s.base s.first s.entries in
    let d = p - s.first in
    let k = q - (p + 1) in
    let m = q - (s.first + 1) in
    let place : d + k ≡ m = omega arith in
    let here : q - 1 - s.first ≡ m = omega arith in
    ap (λ (l : List Sent). get_or l k none) (sent_are id s p low (omega arith))
    ∙ get_or-drop d all k none
    ∙ ap (λ (x : ℕ). get_or all x none) place
    ∙ frames-at id s.base s.first q m s.entries none (omega arith) (omega arith)
    ∙ ap (λ (n : ℕ). frame_of id q (block_of (image_after s.base (take n s.entries)) (entry_at s q).block) (entry_at s q)) (sym here)

-- the bytes of an entry's frame are that frame
spells : (g : Geometry) (id q : ℕ) (old : List ℕ) (entry : Entry) → id < 2 ^ 64 → 1 ≤ q → q ≤ 2 ^ 40 → IsEntry g entry → entry.time < 2 ^ 64 → length old ≡ g.block
    → SpellsFrame g.block (frame_of id q old entry).frame (frame_of id q old entry).parity (frame_bytes (frame_of id q old entry))
spells g id q old entry id_fits first last is time long =
    let some : 1 ≤ g.block = omega (arith, g.within.block_least) in
    let change : length (xor old entry.bytes) ≡ g.block = length-xor old entry.bytes (is.size ∙ sym long) ∙ long in
    let code = length-code_of g.block (xor old entry.bytes) some change in
    record {
      ranges = record {
        id = id_fits;
        first = first;
        last = last;
        time = time;
        block = omega (arith, is.block, g.within.volume_most);
        least = code.0;
        most = code.1;
      };
      code = code_of (xor old entry.bytes);
      code_len = refl;
      sized = change;
      coded = code_of_spells (xor old entry.bytes);
      spelled = refl;
    }

streams : (g : Geometry) (id : ℕ) (image : List (List ℕ)) (q : ℕ) (xs : List Entry) → id < 2 ^ 64 → IsImage g image → All (IsEntry g) xs → All (λ (e : Entry). e.time < 2 ^ 64) xs
    → q + length xs ≤ 2 ^ 40 → AreFrames g.block (flat_map frame_bytes (frames_from id image q xs)) (frames_from id image q xs) AtEnd
streams g id image q [] id_fits is all times most = record { rest = []; at = 0; begins = refl; offset = refl; ends = refl }
streams g id image q (x ∷ xs) id_fits is all times most =
    let entry : IsEntry g x = All-head (IsEntry g) x xs all in
    let old = block_of image x.block in
    let sent = frame_of id (q + 1) old x in
    let rest = frames_from id (written image x) (q + 1) xs in
    frames-next g.block sent.frame sent.parity (frame_bytes sent) (flat_map frame_bytes rest) rest AtEnd
    (spells g id (q + 1) old x id_fits (omega arith) (omega arith) entry (All-head (λ (e : Entry). e.time < 2 ^ 64) x xs times) (is.sized x.block entry.block))
    (streams g id (written image x) (q + 1) xs id_fits (written_is_image g image x is entry) (All-tail (IsEntry g) x xs all)
    (All-tail (λ (e : Entry). e.time < 2 ^ 64) x xs times) (omega arith))

pub sent_stream : (g : Geometry) (id : ℕ) (s : State) (p : ℕ) → IsValid g s → id < 2 ^ 64 → All (λ (e : Entry). e.time < 2 ^ 64) s.entries → s.first ≤ p → p ≤ last s
    → AreFrames g.block (sent_text id s p) (sent_frames id s p) AtEnd
sent_stream g id s p valid id_fits times low high =
    let d = p - s.first in
    let rest : length (drop d s.entries) ≡ length s.entries - d = length-drop d s.entries in
    let most = valid.last_most in
    streams g id (image_at s p) p (above s p) id_fits
    (image_after_is_image g s.base (take d s.entries) valid.base (All-take (IsEntry g) d s.entries valid.entries))
    (All-drop (IsEntry g) d s.entries valid.entries) (All-drop (λ (e : Entry). e.time < 2 ^ 64) d s.entries times) (omega arith)
