-- How a buffer is filled, piece after piece.
use Rattle.std.proofs.Common.{◌≡◌, ℕ, ◌+◌, ◌≤◌, ◌<◌, List, [], ◌++◌, length, take, drop, refl, sym, ◌∙◌, ap, subst, arith, append-nil, length-append, length-take, length-drop}
use Rattle.std.specs.Prelude.{Ok, Err}
use Rattle.std.proofs.Math.Seq.{take-add}
use Rattle.std.proofs.KnownBytes.{Consumes-trans, Consumes-nil}
use Rattle.std.specs.Io.KnownBytes.{Consumes}
use Rattle.trap_bank.specs.Faults.{Rose}
use Rattle.trap_bank.specs.Stream.{Stream, Gave, GaveNothing}
use Rattle.trap_bank.specs.Filling.{CountsBytes, FillsFrom}

pub counts_none : (used : ℕ) (s : Stream) → CountsBytes [] used used s s
counts_none used s = record { left = Consumes-nil s.left; counted = omega arith; given = omega arith; faults = omega arith; untold = λ none. none }

-- what two runs took, one after the other
pub counts_then : (a b : List ℕ) (u v w : ℕ) (s t r : Stream) → CountsBytes a u v s t → CountsBytes b v w t r → CountsBytes (a ++ b) u w s r
counts_then a b u v w s t r p q = record {
  left = Consumes-trans s.left t.left r.left a b p.left q.left;
  counted = (let x = p.counted in let y = q.counted in simp length-append (omega arith));
  given = (let x = p.given in let y = q.given in simp length-append (omega arith));
  faults = (let x = p.faults in let y = q.faults in omega arith);
  untold = λ none. q.untold (p.untold none);
}

-- one piece
pub counts_piece : (bytes : List ℕ) (used count : ℕ) (s t : Stream) → Gave bytes count s t → length bytes ≡ count → s.faults ≤ t.faults → CountsBytes bytes used (used + count) s t
counts_piece bytes used count s t gave len faults = record {
  left = gave.left;
  counted = ap (λ (n : ℕ). used + n) (sym len);
  given = gave.given ∙ ap (λ (n : ℕ). s.given + n) (sym len);
  faults = faults;
  untold = gave.untold;
}

-- nothing more came
then_none : (a : List ℕ) (u v : ℕ) (s t r : Stream) → CountsBytes a u v s t → CountsBytes [] v v t r → CountsBytes a u v s r
then_none a u v s t r p q = subst (λ l. CountsBytes l u v s r) (append-nil a) (counts_then a [] u v v s t r p q)

-- one piece more at the front of the buffer
pub piece_there : (front old new : List ℕ) (at count : ℕ) → take (length front) old ≡ front → length front ≡ at → take at new ≡ take at old → at + count ≤ length new
    → (length (take count (drop at new)) ≡ count) × (take (length (front ++ take count (drop at new))) new ≡ front ++ take count (drop at new))
piece_there front old new at count there long same inside =
    let piece = take count (drop at new) in
    let len : length piece ≡ count = simp (length-take, length-drop) (omega arith) in
    let all : length (front ++ piece) ≡ at + count = length-append front piece ∙ ap (λ (n : ℕ). n + length piece) long ∙ ap (λ (n : ℕ). at + n) len in
    let kept : take at new ≡ front = same ∙ ap (λ (n : ℕ). take n old) (sym long) ∙ there in (
      len,
      ap (λ (n : ℕ). take n new) all ∙ take-add at count new ∙ ap (λ (l : List ℕ). l ++ piece) kept,
    )

module _ (front old new : List ℕ) (at u v : ℕ) (s t r : Stream) (took : CountsBytes front u v s t) (there : take (length front) old ≡ front) (long : length front ≡ at)
    (same : take at new ≡ take at old) (len : length new ≡ length old) (room : at < length old) where
  kept : take (length front) new ≡ front
  kept = ap (λ (n : ℕ). take n new) long ∙ same ∙ ap (λ (n : ℕ). take n old) (sym long) ∙ there

  -- the source failed
  pub fill_fails : {E : Type 0} (e : E) → GaveNothing t r → t.faults ≤ r.faults → Rose t.faults r.faults → FillsFrom front (Err e) new u v s r
  fill_fails e none faults rose = record {
    took = then_none front u v s t r took (record {
      left = subst (λ left. Consumes t.left left []) (sym none.left) (Consumes-nil t.left);
      counted = omega arith;
      given = (let given = none.given in omega arith);
      faults = faults;
      untold = λ untold. none.left ∙ untold;
    });
    front = kept;
    within = omega (arith, long, len, room);
    ended = (omega (arith, long, len, room), omega (arith, rose, took.faults));
  }

  -- the input ended
  pub fill_ends : {E : Type 0} (count : ℕ) → Gave (take count (drop at new)) count t r → count ≡ 0 → t.faults ≤ r.faults → FillsFrom {E = E} front (Ok at) new u v s r
  fill_ends count gave none faults =
      let empty : Gave [] 0 t r = subst (λ n. Gave (take n (drop at new)) n t r) none gave in
      record {
        took = then_none front u v s t r took (record { left = empty.left; counted = omega arith; given = empty.given; faults = faults; untold = empty.untold });
        front = kept;
        within = omega (arith, long, len, room);
        ended = (sym long, λ few. record { left = empty.at_end refl; ended = empty.ended });
      }

-- the buffer is full
pub fill_whole : {E : Type 0} (front buf : List ℕ) (at u v : ℕ) (s t : Stream) → CountsBytes front u v s t → take (length front) buf ≡ front → length front ≡ at → at ≤ length buf
    → length buf ≤ at → FillsFrom {E = E} front (Ok at) buf u v s t
fill_whole front buf at u v s t took there long within full = record {
  took = took;
  front = there;
  within = omega (arith, long, within);
  ended = (sym long, λ few. absurd (omega (arith, few, full)));
}
