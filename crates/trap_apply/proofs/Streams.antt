-- The frames that were taken, as those of a stream.
use Rattle.std.proofs.Common.{◌≡◌, ℕ, ◌+◌, ◌^◌, List, [], ◌∷◌, ◌++◌, length, length-append, append-nil, append_assoc, Option, Some, None, refl, sym, ap, subst, ◌∙◌, arith}
use Rattle.std.specs.Io.KnownBytes.{Consumes, IsAtEnd}
use Rattle.std.proofs.KnownBytes.{Consumes-trans}
use Rattle.trap_bank.specs.Stream.{Stream}
use Rattle.trap_format.specs.declared.shape.Shape.{Shape}
use Rattle.trap_frame.specs.Filling.{TakesBytes}
use Rattle.trap_frame.specs.Reading.{FindsNoFrame}
use Rattle.trap_frame.proofs.Taking.{took_then}
use Rattle.trap_frame.specs.declared.found.FrameFault.TheVariants.{BadFrame, Cut, ReadFault, TooLong}
use Rattle.trap_model.specs.Frame.{Sent, Ending, BeginsWithFrames, AreFrames, IsPart, further}
use Rattle.trap_model.specs.Frame.Ending.{AtEnd, CutAt, BadAt}
use Rattle.trap_model.proofs.Frames.{frames-next, frames-bad}
use Rattle.trap_apply.specs.Stepping.{FindsEnd}
use Rattle.trap_apply.specs.Applies.{TakesFrames, BringsFrames, AreWholeIn}
use Rattle.trap_apply.proofs.Delivered.{begins_longer, took_all}

further_twice : (m n : ℕ) (e : Ending) → further m (further n e) ≡ further (m + n) e
further_twice m n AtEnd = refl
further_twice m n (CutAt offset) = let same : m + (n + offset) ≡ m + n + offset = omega arith in ap CutAt same
further_twice m n (BadAt offset) = let same : m + (n + offset) ≡ m + n + offset = omega arith in ap BadAt same

further_none : (e : Ending) → e ≡ further 0 e
further_none AtEnd = refl
further_none (CutAt offset) = let same : offset ≡ 0 + offset = omega arith in ap CutAt same
further_none (BadAt offset) = let same : offset ≡ 0 + offset = omega arith in ap BadAt same

-- frames, and then the rest of a stream, which has none
frames_then : (size : ℕ) (frames : List Sent) (bytes rest : List ℕ) (e : Ending) → BeginsWithFrames size frames [] bytes → AreFrames size rest [] e
    → AreFrames size (bytes ++ rest) frames (further (length bytes) e)
frames_then size [] bytes rest e none are =
    subst (λ (l : List ℕ). AreFrames size (l ++ rest) [] (further (length l) e)) (sym none) (subst (λ (d : Ending). AreFrames size rest [] d) (further_none e) are)
frames_then size (sent ∷ frames) bytes rest e begins are =
    subst (λ (l : List ℕ). AreFrames size (l ++ rest) (sent ∷ frames) (further (length l) e)) (sym begins.3)
    (subst (λ (l : List ℕ). AreFrames size l (sent ∷ frames) (further (length (begins.0 ++ begins.1)) e)) (sym (append_assoc begins.0 begins.1 rest))
    (subst (λ (d : Ending). AreFrames size (begins.0 ++ (begins.1 ++ rest)) (sent ∷ frames) d)
    (further_twice (length begins.0) (length begins.1) e ∙ ap (λ (n : ℕ). further n e) (sym (length-append begins.0 begins.1)))
    (frames-next size sent.frame sent.parity begins.0 (begins.1 ++ rest) frames (further (length begins.1) e) begins.2 (frames_then size frames begins.1 rest e begins.4 are))))

-- what was taken of known bytes
known_rest : (input : List ℕ) (left new : Option (List ℕ)) (bytes : List ℕ) → left ≡ Some input → Consumes left new bytes
    → (rest : List ℕ) × (new ≡ Some rest) × (input ≡ bytes ++ rest)
known_rest input None new bytes is consumes = absurd cc
known_rest input (Some all) None bytes is consumes = absurd consumes
known_rest input (Some all) (Some rest) bytes is consumes = (rest, refl, cc)

known_all : (input : List ℕ) (left new : Option (List ℕ)) (bytes : List ℕ) → left ≡ Some input → Consumes left new bytes → IsAtEnd new → input ≡ bytes
known_all input None new bytes is consumes end = absurd cc
known_all input (Some all) None bytes is consumes end = absurd consumes
known_all input (Some all) (Some rest) bytes is consumes end =
    let same : input ≡ all = cc in same ∙ consumes ∙ ap (λ (l : List ℕ). bytes ++ l) end ∙ append-nil bytes

module _ (size used used' : ℕ) (input : List ℕ) (frames : List Sent) (s t u : Stream) (known : s.left ≡ Some input) (taken : TakesFrames size frames used s t) where
  place : used ≡ 0 + length taken.bytes
  place = taken.took.counts.counted

  pub taken_end : FindsEnd size used used' t u → AreFrames size input frames AtEnd
  taken_end finds =
      let all = known_all input s.left u.left (taken.bytes ++ []) known (Consumes-trans s.left t.left u.left taken.bytes [] taken.took.counts.left finds.0.counts.left) finds.1.ends.left in
      subst (λ (l : List ℕ). AreFrames size l frames AtEnd) (sym all)
      (frames_then size frames taken.bytes [] AtEnd taken.spelled (record { rest = []; at = 0; begins = refl; offset = omega arith; ends = refl }))

  pub taken_cut : (at : ℕ) → FindsNoFrame size (Cut at) used used' t u → AreFrames size input frames (CutAt at)
  taken_cut at finds =
      let bytes = finds.1.0 in
      let took = finds.1.2 in
      let end = finds.1.3 in
      let cut = finds.1.1 in
      let all = known_all input s.left u.left (taken.bytes ++ bytes) known (Consumes-trans s.left t.left u.left taken.bytes bytes taken.took.counts.left took.counts.left) end.ends.left in
      let here = finds.0 in
      let same : length taken.bytes + 0 ≡ at = omega (arith, here, place) in
      subst (λ (l : List ℕ). AreFrames size l frames (CutAt at)) (sym all) (subst (λ (n : ℕ). AreFrames size (taken.bytes ++ bytes) frames (CutAt n)) same
      (frames_then size frames taken.bytes bytes (CutAt 0) taken.spelled (record { rest = bytes; at = 0; begins = refl; offset = omega arith; ends = (refl, cut) })))

  pub taken_bad : (at : ℕ) → FindsNoFrame size (BadFrame at) used used' t u → AreFrames size input frames (BadAt at)
  taken_bad at finds =
      let bytes = finds.1.0 in
      let took = finds.1.2 in
      let bad = finds.1.1 in
      let rest = known_rest input s.left u.left (taken.bytes ++ bytes) known (Consumes-trans s.left t.left u.left taken.bytes bytes taken.took.counts.left took.counts.left) in
      let here = finds.0 in
      let same : length taken.bytes + 0 ≡ at = omega (arith, here, place) in
      subst (λ (l : List ℕ). AreFrames size l frames (BadAt at)) (sym (rest.2 ∙ append_assoc taken.bytes bytes rest.0))
      (subst (λ (n : ℕ). AreFrames size (taken.bytes ++ (bytes ++ rest.0)) frames (BadAt n)) same
      (frames_then size frames taken.bytes (bytes ++ rest.0) (BadAt 0) taken.spelled (frames-bad size bytes rest.0 bad)))

-- the source gave no more, and a part of a frame was left
module _ (size used used' : ℕ) (frames : List Sent) (s t u : Stream) (taken : TakesFrames size frames used s t) where
  whole : (more : List ℕ) → TakesBytes more used used' t u → TakesBytes (taken.bytes ++ more) 0 used' s u
  whole more took = took_then taken.bytes more 0 used used' s t u taken.took took

  are_whole : (more : List ℕ) → IsPart size more → AreWholeIn size (taken.bytes ++ more) frames
  are_whole more part = record { rest = more; begins = begins_longer size frames [] taken.bytes more taken.spelled; part = part }

  pub taken_failed : FindsNoFrame size ReadFault used used' t u → (bytes : List ℕ) × TakesBytes bytes 0 (length bytes) s u × AreWholeIn size bytes frames
  taken_failed finds = (taken.bytes ++ finds.0, took_all (taken.bytes ++ finds.0) used' s u (whole finds.0 finds.2), are_whole finds.0 finds.1)

  pub taken_long : FindsNoFrame size TooLong used used' t u → (bytes : List ℕ) × TakesBytes bytes 0 (length bytes) s u × AreWholeIn size bytes frames × (length bytes ≡ 2 ^ 40)
  taken_long finds =
      let all = whole finds.0 finds.2 in
      let counted = all.counts.counted in
      let full = finds.3 in (
        taken.bytes ++ finds.0,
        took_all (taken.bytes ++ finds.0) used' s u all,
        are_whole finds.0 finds.1,
        omega (arith, counted, full),
      )

-- frames with which known bytes begin
pub brought : (s : Shape) (frames : List Sent) (input : List ℕ) (t u : Stream) → t.left ≡ Some input → BringsFrames s frames t u
    → (rest : List ℕ) × BeginsWithFrames s.block frames rest input
brought s frames input t u known brings =
    let left = known_rest input t.left u.left brings.bytes known brings.took.counts.left in (
      brings.rest ++ left.0,
      subst (λ (l : List ℕ). BeginsWithFrames s.block frames (brings.rest ++ left.0) l) (sym left.2) (begins_longer s.block frames brings.rest brings.bytes left.0 brings.begins),
    )
