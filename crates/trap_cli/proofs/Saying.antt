-- What the last line does.
use Rattle.std.proofs.Common.{◌≡◌, ◌⊎◌, inl, inr, ℕ, ◌<◌, ◌≤◌, List, [], ◌∷◌, ◌++◌, length, take, Option, Some, None, Result, Ok, Err, IsTrue, refl, sym, ap, ap₂, subst, ◌∙◌, append-nil, arith}
use Rattle.std.specs.Io.KnownBytes.{Consumes}
use Rattle.std.proofs.lemmas.List.{length-take-le}
use Rattle.trap_bank.specs.Faults.{Rose}
use Rattle.trap_bank.proofs.Rising.{rose_since}
use Rattle.trap_bank.specs.Disks.{Contents, Disks, View}
use Rattle.trap_bank.specs.Calls.{Says, MayLeave, IsLawful}
use Rattle.trap_bank.specs.declared.disks.Failed.{Failed}
use Rattle.trap_bank.specs.Steps.{Steps, SpokePart}
use Rattle.trap_bank.specs.Stream.{Stream}
use Rattle.trap_bank.proofs.Moves.{say_steps, nothing_done, then_, since_entry}
use Rattle.trap_session.specs.Serving.{Took}
use Rattle.trap_cli.specs.declared.command.Command.{Command}
use Rattle.trap_cli.specs.Crash.{CommandLeaves, LeavesNow, LeavesWithFront}
use Rattle.trap_cli.specs.Session.{SaysInOne}
use Rattle.trap_cli.specs.Run.{SaysLast}

-- the line was said, or a first part of it, and nothing else was done
pub record Spoken (line : List ℕ) (old new : View) : Type 0 where
  pub steps : Steps old new (SpokePart line) (SpokePart line)
  pub sizes : (e : ℕ) → new.sizes e ≡ old.sizes e
  pub disks : IsTrue old.tells → new.now.disks ≡ old.now.disks
  pub last : IsTrue old.tells → SaysLast line old.now.said old new

says_last : {T E : Type 0} (result : Result T E) (line : List ℕ) (old new : View) → Says line result old new → IsTrue old.tells
    → SaysLast line old.now.said old new
says_last (Ok value) line old new call told = record { part = line; rest = []; whole = append-nil line; said = call.said told; port = inl refl }
says_last (Err e) line old new call told =
    let part = call.part told in
    record { part = part.part; rest = part.rest; whole = part.whole; said = part.said; port = inr call.cause }

spoken_by : {T E : Type 0} (result : Result T E) (said line : List ℕ) (old new : View) → said ≡ line → Says said result old new → Spoken line old new
spoken_by result said line old new is call =
    let call = subst (λ (line : List ℕ). Says line result old new) is call in
    record {
      steps = say_steps result old new line call;
      sizes = call.sizes;
      disks = call.disks;
      last = says_last result line old new call;
    }

-- some bytes of a line, if its length isn't 0
pub some_taken : (len : ℕ) (line : List ℕ) → 0 < len → len ≤ length line → 0 < length (take len line)
some_taken len line some short = omega (arith, some, length-take-le len line short)

-- in one call of the bank
pub said_by : {B : Type 0} (view : B → View) (result : Result (Unit {0}) Failed) (said line : List ℕ) (old new : B) → 0 < length said → said ≡ line
    → Says said result (view old) (view new) → SaysInOne view line old new
said_by view result [] line old new some is call = absurd (omega (arith, some))
said_by view result (byte ∷ said) line old new some is call = subst (λ (line : List ℕ). SaysInOne view line old new) is (result, call)

-- or by none, where it is empty
pub said_by_none : {B : Type 0} (view : B → View) (line : List ℕ) (bank : B) → line ≡ [] → SaysInOne view line bank bank
said_by_none view line bank none = subst (λ (line : List ℕ). SaysInOne view line bank bank) (sym none) refl

-- no line is said
spoken_nothing : (v : View) → Spoken [] v v
spoken_nothing v = record {
  steps = nothing_done v (SpokePart []) (SpokePart [])
      (λ x was. record { disks = refl; says = record { part = []; rest = []; whole = refl; said = sym (append-nil x.said) } });
  sizes = λ e. refl;
  disks = λ told. refl;
  last = λ told. record { part = []; rest = []; whole = refl; said = sym (append-nil v.now.said); port = inl refl };
}

-- a line that is said in one call, or an empty one, is said
pub spoken_once : {B : Type 0} (view : B → View) (line : List ℕ) (old new : B) → SaysInOne view line old new → Spoken line (view old) (view new)
spoken_once view [] old new said = subst (λ (bank : _). Spoken [] (view old) (view bank)) (sym said) (spoken_nothing (view old))
spoken_once view (byte ∷ more) old new said = spoken_by said.0 (byte ∷ more) (byte ∷ more) (view old) (view new) refl said.1

-- a part of an empty line is empty
pub no_part : (part rest line : List ℕ) → line ≡ [] → part ++ rest ≡ line → part ≡ []
no_part [] rest line none is = refl
no_part (byte ∷ part) rest line none is = absurd (cc)

-- and no more was said
pub nothing_more : (said before part rest : List ℕ) → part ++ rest ≡ [] → said ≡ before ++ part → said ≡ before
nothing_more said before part rest none is = is ∙ ap (λ (l : List ℕ). before ++ l) (no_part part rest [] refl none) ∙ append-nil before

-- the last line of a run is said by it
pub last_since : (old mid new : View) → old.port_faults ≤ mid.port_faults → {line before : List ℕ} → SaysLast line before mid new → SaysLast line before old new
last_since old mid new later last = record {
  part = last.part;
  rest = last.rest;
  whole = last.whole;
  said = last.said;
  port = since last.port;
}
  where
    since : {P : Type 0} → P ⊎ Rose mid.port_faults new.port_faults → P ⊎ Rose old.port_faults new.port_faults
    since (inl p) = inl p
    since (inr rose) = inr (rose_since old.port_faults mid.port_faults new.port_faults later rose)

-- The last line is said, and this is what a crash at any moment of the run leaves.
pub run_leaves : (command : Option Command) (a b c : View) (from : Stream) (line : List ℕ) → IsLawful a
    → ((x : Contents) → MayLeave a x → CommandLeaves command a from x.said x)
    → Steps a b (LeavesNow command a from) (LeavesWithFront line command a from) → Steps b c (SpokePart line) (SpokePart line)
    → (w : Contents) → c.left a.moment w → CommandLeaves command a from a.now.said w
run_leaves command a b c from line lawful at_entry worked spoke w left =
    let came = since_entry a c (LeavesNow command a from) (LeavesNow command a from) lawful at_entry both w left in
    subst (λ (said : List ℕ). CommandLeaves command a from said w) came.was.torn.said came.by
  where
    whole_contents : (z : Contents) (disks : Disks) (said : List ℕ) → z.disks ≡ disks → z.said ≡ said → record { disks = disks; said = said } ≡ z
    whole_contents z disks said same is = ap₂ (λ (disks : Disks) (said : List ℕ). record { disks = disks; said = said }) (sym same) (sym is)

    said_part : (x y z : Contents) → LeavesWithFront line command a from x y → SpokePart line y z → LeavesNow command a from x z
    said_part x y z before spoke = subst (λ (z : Contents). CommandLeaves command a from x.said z)
        (whole_contents z y.disks (y.said ++ spoke.says.part) spoke.disks spoke.says.said)
        (before spoke.says.part spoke.says.rest spoke.says.whole)

    both : Steps a c (LeavesNow command a from) (LeavesNow command a from)
    both = then_ a b c (LeavesNow command a from) (LeavesWithFront line command a from) (SpokePart line) (SpokePart line) (LeavesNow command a from) (LeavesNow command a from) worked spoke
        (λ x y was some. some)
        (λ x y z was before mid spoke. said_part x y z before spoke)
        (λ x y z was before mid spoke. said_part x y z before spoke)

-- nothing was taken
pub took_none : (s : Stream) → Took s s
took_none s = record { bytes = []; taken = same s.left; given = omega arith; most = omega arith }
  where
    same : (left : Option (List ℕ)) → Consumes left left []
    same None = tt
    same (Some rest) = refl
