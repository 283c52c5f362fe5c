-- What is said of an array's entries are the frames of each state that the array stands for.
use Rattle.std.proofs.Common.{◌≡◌, ℕ, zero, suc, ◌+◌, ◌-◌, ◌<◌, ◌≤◌, List, [], ◌∷◌, ◌++◌, length, get_or, take, drop, IsTrue, refl, sym, ap, subst, ◌∙◌, arith, append_assoc, append-nil}
use Rattle.std.specs.Prelude.{flat_map}
use Rattle.std.proofs.lemmas.List.{take_more, take_all, take-append-drop}
use Rattle.std.proofs.lemmas.Grind.{flat_map-append}
use Rattle.trap_bank.specs.Disks.{Contents, View}
use Rattle.trap_bank.specs.Calls.{SaysPart}
use Rattle.trap_block.specs.Xor.{xor}
use Rattle.trap_array.specs.Calls.{Mounted, StandsFor}
use Rattle.trap_index.specs.Describes.{block_before}
use Rattle.trap_index.specs.Indexed.{last_seq, item_at}
use Rattle.trap_index.proofs.Describing.{last_told, item_told}
use Rattle.trap_model.specs.declared.frame.Frame.{Frame}
use Rattle.trap_model.specs.declared.history.State.{State}
use Rattle.trap_model.specs.Frame.{Sent, frame_header}
use Rattle.trap_model.specs.Records.{no_entry, entry_at}
use Rattle.trap_model.specs.Size.{code_of}
use Rattle.trap_model.specs.State.{last}
use Rattle.trap_model.specs.ZeroRun.{ZeroRun}
use Rattle.trap_model.proofs.CodeOf.{spelling_is_code_of}
use Rattle.trap_model.proofs.Frames.{same_frame}
use Rattle.trap_send.specs.Sending.{frame_of, frame_bytes, sent_frames, sent_text}
use Rattle.trap_send.specs.EntryFrames.{frame_of_item, IsEntryFrame, AreEntryFrames}
use Rattle.trap_send.specs.Sends.{Sends, SendsAll}
use Rattle.trap_send.proofs.SentFrames.{length-sent, sent_at}

-- the frame of a retained entry is that of the state's entry
frame_told : (a : Mounted) (v : View) (s : State) (q : ℕ) (bytes : List ℕ) → IsTrue v.tells → StandsFor a s v.now.disks → s.first < q → q ≤ last s → IsEntryFrame a v q bytes
    → bytes ≡ frame_bytes (frame_of a.g.id q (block_before s q) (entry_at s q))
frame_told a v s q bytes told stands low high is =
    let item = item_told a.index s q stands.index low high in
    let change = xor (block_before s q) (entry_at s q).bytes in
    let code : is.code ≡ code_of change = spelling_is_code_of change is.code (subst (λ (l : List ℕ). ZeroRun l is.code) (is.is.is told s stands) is.is.code) in
    let sent = frame_of a.g.id q (block_before s q) (entry_at s q) in
    is.spelled
    ∙ ap (λ (f : Frame). frame_header f ++ is.code) (same_frame (frame_of_item a.g.id q (item_at a.index q)) sent.frame refl refl item.time item.block item.plen)
    ∙ ap (λ (l : List ℕ). frame_header sent.frame ++ l) code

-- the bytes of one frame more
text_more : (all : List Sent) (k : ℕ) (none : Sent) → k < length all
    → flat_map frame_bytes (take (suc k) all) ≡ flat_map frame_bytes (take k all) ++ frame_bytes (get_or all k none)
text_more all k none inside =
    ap (λ (n : ℕ). flat_map frame_bytes (take n all)) (let same : suc k ≡ k + 1 = omega arith in same)
    ∙ ap (flat_map frame_bytes) (take_more all k none inside)
    ∙ flat_map-append frame_bytes (take k all) (get_or all k none ∷ [])
    ∙ ap (λ (l : List ℕ). flat_map frame_bytes (take k all) ++ l) (append-nil (frame_bytes (get_or all k none)))

-- the frames of that many entries are the first ones of the state
pub frames_told : (a : Mounted) (v : View) (s : State) (p k : ℕ) (text : List ℕ) → IsTrue v.tells → StandsFor a s v.now.disks → s.first ≤ p → p + k ≤ last s → AreEntryFrames a v p k text
    → text ≡ flat_map frame_bytes (take k (sent_frames a.g.id s p))
frames_told a v s p zero text told stands low high are = are
frames_told a v s p (suc k) text told stands low high (front, frame, are, is, whole) =
    let all = sent_frames a.g.id s p in
    let none = frame_of 0 0 [] no_entry in
    let q = p + k + 1 in
    let long : length all ≡ last s - p = length-sent a.g.id s p low (omega arith) in
    let place : q - (p + 1) ≡ k = omega arith in
    let one : get_or all k none ≡ frame_of a.g.id q (block_before s q) (entry_at s q) =
    ap (λ (n : ℕ). get_or all n none) (sym place) ∙ sent_at a.g.id s p q none low (omega arith) (omega arith) in
    whole
    ∙ ap (λ (l : List ℕ). l ++ frame) (frames_told a v s p k front told stands low (omega arith) are)
    ∙ ap (λ (l : List ℕ). flat_map frame_bytes (take k all) ++ l) (frame_told a v s q frame told stands (omega arith) (omega arith) is ∙ ap frame_bytes (sym one))
    ∙ sym (text_more all k none (omega arith))

-- what was said is a first part of the state's frames
pub part_told : (a : Mounted) (v : View) (s : State) (p : ℕ) (x y : Contents) → IsTrue v.tells → StandsFor a s v.now.disks → s.first ≤ p → Sends a v p x y
    → SaysPart (sent_text a.g.id s p) x y
part_told a v s p x y told stands low sends =
    let all = sent_frames a.g.id s p in
    let k = sends.count in
    let says = sends.says in
    let more = flat_map frame_bytes (drop k all) in
    let ends = last_told a.index s stands.index in
    let most = sends.most in
    let text : sends.text ≡ flat_map frame_bytes (take k all) = frames_told a v s p k sends.text told stands low (omega arith) sends.frames in
    record {
      part = says.part;
      rest = says.rest ++ more;
      whole = sym (append_assoc says.part says.rest more)
          ∙ ap (λ (l : List ℕ). l ++ more) (says.whole ∙ text)
          ∙ sym (flat_map-append frame_bytes (take k all) (drop k all))
          ∙ ap (flat_map frame_bytes) (take-append-drop k all);
      said = says.said;
    }

-- or all of them
pub whole_told : (a : Mounted) (v : View) (s : State) (p : ℕ) (x y : Contents) → IsTrue v.tells → StandsFor a s v.now.disks → s.first ≤ p → p ≤ last s → SendsAll a v p x y
    → y.said ≡ x.said ++ sent_text a.g.id s p
whole_told a v s p x y told stands low high sends =
    let all = sent_frames a.g.id s p in
    let k = last_seq a.index - p in
    let ends = last_told a.index s stands.index in
    let long : length all ≡ last s - p = length-sent a.g.id s p low high in
    let text : sends.text ≡ flat_map frame_bytes (take k all) = frames_told a v s p k sends.text told stands low (omega arith) sends.frames in
    sends.said ∙ ap (λ (l : List ℕ). x.said ++ l) (text ∙ ap (flat_map frame_bytes) (take_all k all (omega arith)))
