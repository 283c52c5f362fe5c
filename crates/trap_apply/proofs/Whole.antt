-- First frames of a stream are first of all its frames.
use Rattle.std.proofs.Common.{◌≡◌, ℕ, ◌+◌, ◌-◌, ◌^◌, ◌<◌, List, [], ◌∷◌, ◌++◌, length, take, drop, inl, inr, length-append, refl, sym, ap, subst, ◌∙◌, arith}
use Rattle.std.proofs.Math.Seq.{take-append_seam, drop-append_seam}
use Rattle.trap_bank.specs.Disks.{Disks}
use Rattle.trap_format.specs.declared.shape.Shape.{Shape}
use Rattle.trap_model.specs.Frame.{Sent, SpellsFrame, IsBadFrame, Ending, EndsStream, BeginsWithFrames, AreFrames, code_in, frame_header}
use Rattle.trap_model.specs.Frame.Ending.{AtEnd, CutAt, BadAt}
use Rattle.trap_model.specs.Receiver.{Receiver}
use Rattle.trap_model.specs.ZeroRun.{IsCode}
use Rattle.trap_model.specs.declared.arrival.Arrival.{Arrival}
use Rattle.trap_model.specs.declared.frame.Frame.{Frame}
use Rattle.trap_model.proofs.Frames.{length-frame_header, spelled-more, spelled-begins, length-spelled, part-no_frame, BeginsFrame-one, SpellsFrame-apart}
use Rattle.trap_apply.specs.Reached.{arrivals, HoldsReached}
use Rattle.trap_apply.proofs.Receiving.{arrivals_more, reached_first}

-- the code in bytes that a frame begins
code_there : (size : ℕ) (f : Frame) (p x more : List ℕ) (is : SpellsFrame size f p x) → code_in f (x ++ more) ≡ is.code
code_there size f p x more is =
    let long : 34 + f.length - 34 ≡ length is.code = omega (arith, is.code_len) in
    let after : drop 34 (frame_header f ++ (is.code ++ more)) ≡ is.code ++ more =
    ap (λ (n : ℕ). drop n (frame_header f ++ (is.code ++ more))) (sym (length-frame_header f)) ∙ drop-append_seam (frame_header f) (is.code ++ more) in
    ap (λ (n : ℕ). take n (drop 34 (x ++ more))) long ∙ ap (λ (l : List ℕ). take (length is.code) (drop 34 l)) (spelled-more size f p x more is)
    ∙ ap (take (length is.code)) after ∙ take-append_seam is.code more

-- a stream doesn't end where a frame begins
never_ends : (size : ℕ) (f : Frame) (p x more : List ℕ) (at : ℕ) (e : Ending) → size < 2 ^ 15 → SpellsFrame size f p x → EndsStream size at (x ++ more) e → ⊥
never_ends size f p x more at AtEnd small is none =
    let len = length-spelled size f p x is in let all = length-append x more in let nil = ap length none in omega (arith, len, all, nil)
never_ends size f p x more at (CutAt offset) small is cut = part-no_frame size f p x more small is cut.1.part
never_ends size f p x more at (BadAt offset) small is bad = never_bad bad.1
  where
    never_bad : IsBadFrame size (x ++ more) → ⊥
    never_bad (inl none) = none.none f (spelled-begins size f p x more is)
    never_bad (inr (g, wrong)) =
        let same = BeginsFrame-one size g f (x ++ more) small wrong.begins (spelled-begins size f p x more is) in
        wrong.refused (subst (λ (h : Frame). IsCode size (code_in h (x ++ more))) (sym same)
        (subst (λ (l : List ℕ). IsCode size l) (sym (code_there size f p x more is)) (p, is.sized, is.coded)))

same_sent : (x y : Sent) → x.frame ≡ y.frame → x.parity ≡ y.parity → x ≡ y
same_sent x y frame parity = ap (λ (f : Frame). sent_of f x.parity) frame ∙ ap (sent_of y.frame) parity
  where
    sent_of : Frame → List ℕ → Sent
    sent_of f p = record { frame = f; parity = p }

-- first frames are followed by the others
begins_all : (size at : ℕ) (frames all : List Sent) (rest more stream : List ℕ) (e : Ending) → size < 2 ^ 15 → BeginsWithFrames size frames rest stream
    → BeginsWithFrames size all more stream → EndsStream size at more e → (later : List Sent) × (all ≡ frames ++ later)
begins_all size at [] all rest more stream e small first whole ends = (all, refl)
begins_all size at (sent ∷ frames) [] rest more stream e small (bytes, other, is, parts, later) whole ends =
    absurd (never_ends size sent.frame sent.parity bytes other at e small is (subst (λ (l : List ℕ). EndsStream size at l e) (sym whole ∙ parts) ends))
begins_all size at (x ∷ frames) (y ∷ all) rest more stream e small (p, other, is, parts, later) (q, others, are, splits, further) ends =
    let same = SpellsFrame-apart size x.frame y.frame x.parity y.parity p q other others small is are (sym parts ∙ splits) in
    let after : other ≡ others =
    sym (drop-append_seam p other) ∙ ap (drop (length p)) (sym parts ∙ splits) ∙ ap (λ (l : List ℕ). drop (length l) (q ++ others)) same.2 ∙ drop-append_seam q others in
    let tail = begins_all size at frames all rest more others e small (subst (λ (l : List ℕ). BeginsWithFrames size frames rest l) after later) further ends in
    (tail.0, ap (λ (l : List Sent). y ∷ l) tail.1 ∙ ap (λ (z : Sent). z ∷ (frames ++ tail.0)) (sym (same_sent x y same.0 same.1)))

-- so a crash leaves what a receiver of all of them reached
pub reached_whole : (s : Shape) (r : Receiver) (input rest : List ℕ) (frames all : List Sent) (e : Ending) (disks : Disks) → BeginsWithFrames s.block frames rest input
    → AreFrames s.block input all e → HoldsReached s r (arrivals frames) disks → HoldsReached s r (arrivals all) disks
reached_whole s r input rest frames all e disks begins are holds =
    let later = begins_all s.block are.at frames all rest are.rest input e (omega arith) begins are.begins are.ends in
    subst (λ (l : List Sent). HoldsReached s r (arrivals l) disks) (sym later.1)
    (subst (λ (l : List Arrival). HoldsReached s r l disks) (sym (arrivals_more frames later.0)) (reached_first s r (arrivals frames) (arrivals later.0) disks holds))
