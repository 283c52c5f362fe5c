-- Runs that only read.
use Rattle.std.proofs.Common.{◌≡◌, ℕ, List, Result, IsTrue, refl, sym, ap, subst, ◌∙◌}
use Rattle.trap_bank.specs.Disks.{Contents, View, Disks}
use Rattle.trap_bank.specs.Calls.{Reads}
use Rattle.trap_bank.specs.Steps.{OnlyReads, Always}
use Rattle.trap_bank.proofs.Moves.{unmoved, read_steps, same_then, always_same}

-- no call at all
pub reads_none : (v : View) → OnlyReads v v
reads_none v = record { sizes = λ e. refl; same = λ told. refl; moves = unmoved v }

-- a call of `read`, whatever its answer
pub reads_once : {T E : Type 0} (result : Result T E) (old new : View) (d at : ℕ) (before after : List ℕ) → Reads d at before after result old new → OnlyReads old new
reads_once result old new d at before after call = record {
  sizes = call.sizes;
  same = call.same;
  moves = read_steps result old new d at before after call;
}

-- one run and then another
pub reads_then : (a b c : View) → OnlyReads a b → OnlyReads b c → OnlyReads a c
reads_then a b c first second = record {
  sizes = λ e. second.sizes e ∙ first.sizes e;
  same = λ told. second.same (subst IsTrue (sym first.moves.tells) told) ∙ first.same told;
  moves = same_then a b c first.moves second.moves;
}

-- the bank still tells its contents
pub told_after : (a b : View) → OnlyReads a b → IsTrue a.tells → IsTrue b.tells
told_after a b reads told = subst IsTrue (sym reads.moves.tells) told

-- the disks are those before
pub disks_same : (a b : View) → OnlyReads a b → IsTrue a.tells → b.now.disks ≡ a.now.disks
disks_same a b reads told = ap (λ (c : Contents). c.disks) (reads.same told)

-- what every crash leaves stays so
pub reads_always : (a b : View) (has : Disks → Type 0) → OnlyReads a b → Always a has → Always b has
reads_always a b has reads always = always_same a b has reads.moves always
