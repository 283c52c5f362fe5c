-- Calls that only read, one after the other.
use Rattle.std.proofs.Common.{◌≡◌, ◌≢◌, ℕ, ◌+◌, List, Option, IsTrue, add-one, sym, ap, subst, ◌∙◌, arith}
use Rattle.trap_block.specs.Xor.{xor, xor_but}
use Rattle.trap_block.proofs.OverLemmas.{xor_but_here, xor_but_there}
use Rattle.trap_model.specs.declared.numbers.Geometry.{Geometry}
use Rattle.trap_bank.specs.Disks.{Contents, View}
use Rattle.trap_bank.proofs.OnlyReads.{told_after}
use Rattle.trap_stage.specs.Staged.{Staged, laid_over}
use Rattle.trap_raid.specs.Members.{RowFits, PlaceFits, member_place}
use Rattle.trap_raid.specs.Reads.{OnlyReads, FailedMember}

-- one member more, read into the scratch block
pub xor_but_more : (size one n : ℕ) (block_of : ℕ → List ℕ) → n ≢ one → xor_but size one block_of (n + 1) ≡ xor (xor_but size one block_of n) (block_of n)
xor_but_more size one n block_of h = rw add-one (xor_but_there size one n block_of h)

-- ---- the disks fit as they did
pub row_fits_along : (g : Geometry) (old new : View) (row member : ℕ) → OnlyReads old new → RowFits g old row member → RowFits g new row member
row_fits_along g old new row member reads fits = (fits.0, reads.sizes (member + 1) ∙ fits.1, fits.2)

pub place_fits_along : (g : Geometry) (lost : Option ℕ) (writes : List Staged) (old new : View) (row member : ℕ) → OnlyReads old new
    → PlaceFits g lost writes old row member → PlaceFits g lost writes new row member
place_fits_along g lost writes old new row member reads fits = record {
  own = λ apart bare. row_fits_along g old new row member reads (fits.own apart bare);
  others = λ gone none m inside other bare. row_fits_along g old new row m reads (fits.others gone none m inside other bare);
}

-- ---- a failure of a part is one of the whole
pub failed_after : (g : Geometry) (lost : Option ℕ) (a b c : View) (member : ℕ) → OnlyReads a b → FailedMember g lost b c member → FailedMember g lost a c member
failed_after g lost a b c member reads failed = record {
  inside = failed.inside;
  apart = failed.apart;
  rose = omega (arith, failed.rose, reads.moves.faults (member + 1));
}

-- ---- one member more of a row
pub others_more : (g : Geometry) (writes : List Staged) (old mid : View) (row one member : ℕ) (so_far block next : List ℕ) → OnlyReads old mid → member ≢ one
    → (IsTrue old.tells → so_far ≡ xor_but g.block one (laid_over g writes (member_place g old.now.disks) row) member)
    → (IsTrue mid.tells → block ≡ laid_over g writes (member_place g mid.now.disks) row member)
    → next ≡ xor so_far block
    → IsTrue old.tells → next ≡ xor_but g.block one (laid_over g writes (member_place g old.now.disks) row) (member + 1)
others_more g writes old mid row one member so_far block next reads other before read is_next told =
    let here : block ≡ laid_over g writes (member_place g old.now.disks) row member = read (told_after old mid reads told)
    ∙ ap (λ (c : Contents). laid_over g writes (member_place g c.disks) row member) (reads.same told) in
    is_next
    ∙ ap (λ (b : List ℕ). xor b block) (before told)
    ∙ ap (λ (b : List ℕ). xor (xor_but g.block one (laid_over g writes (member_place g old.now.disks) row) member) b) here
    ∙ sym (xor_but_more g.block one member (laid_over g writes (member_place g old.now.disks) row) other)

-- the row's own member is left out
pub others_but : (size one n : ℕ) (block_of : ℕ → List ℕ) → n ≡ one → xor_but size one block_of (n + 1) ≡ xor_but size one block_of n
others_but size one n block_of e = rw add-one (xor_but_here size one n block_of e)

-- the same place by other names
pub place_fits_at : (g : Geometry) (lost : Option ℕ) (writes : List Staged) (v : View) (row member row' member' : ℕ) → row ≡ row' → member ≡ member'
    → PlaceFits g lost writes v row member → PlaceFits g lost writes v row' member'
place_fits_at g lost writes v row member row' member' e f fits =
    let P : ℕ → Type 0 = λ r. PlaceFits g lost writes v r member' in
    let Q : ℕ → Type 0 = λ m. PlaceFits g lost writes v row m in
    subst P e (subst Q f fits)
