-- What the members stand for, as a call reads them.
use Rattle.std.proofs.Common.{◌≡◌, ℕ, List, length, take, drop, ◌++◌, IsTrue, sym, subst, arith}
use Rattle.trap_bank.specs.Disks.{Disks, View}
use Rattle.trap_bank.specs.Calls.{IsLawful}
use Rattle.trap_bank.proofs.Moves.{read_is_left}
use Rattle.trap_bank.proofs.Ranges.{cut_to_length}
use Rattle.trap_model.specs.Image.{IsImage}
use Rattle.trap_model.specs.State.{image, image_at}
use Rattle.trap_model.specs.declared.history.State.{State}
use Rattle.trap_model.proofs.Further.{image_at_is_image, image_is_image}
use Rattle.trap_raid.specs.Members.{HoldImage, member_place}
use Rattle.trap_raid.proofs.FitLemmas.{fits_from_sizes}
use Rattle.trap_raid.proofs.MemberLemmas.{members_there, stand_for}
use Rattle.trap_stage.specs.Pending.{pending}
use Rattle.trap_stage.specs.Staged.{Staged}
use Rattle.trap_stage.proofs.PendingWrites.{pending_are_writes}
use Rattle.trap_array.specs.Calls.{Mounted, StandsFor, HasSizes}

-- the members' places, with the pending writes laid over, stand for the image
pub stand_now : (a : Mounted) (v : View) (s : State) → IsLawful v → HasSizes a.g a.head.lost a.head.rebuilt v → IsTrue v.tells → StandsFor a s v.now.disks
    → HoldImage a.g a.head.lost a.pending (member_place a.g v.now.disks) (image s)
stand_now a v s lawful sizes told stands =
    let left = read_is_left v told in
    let fits = stands.by.fits in
    let numbers = fits.head.head.numbers in
    let are = pending_are_writes a.g s a.head.drained fits.valid (omega (arith, fits.head.first, numbers.dropped)) (omega (arith, fits.head.last, numbers.drained)) in
    let P : List Staged → Type 0 = λ (writes : List Staged). HoldImage a.g a.head.lost writes (member_place a.g v.now.disks) (image s) in
    subst P (sym stands.pending)
    (stand_for a.g a.head.lost a.head.rebuilt (pending a.g s a.head.drained) (image_at s a.head.drained) (image s) v.now.disks fits.members
    (image_at_is_image a.g s a.head.drained fits.valid) are.1 (sym are.0)
    (members_there a.g a.head.lost a.head.rebuilt v v.now lawful left (fits_from_sizes a.g a.head.lost a.head.rebuilt v sizes.members)))

-- and the image is one of the array
pub image_now : (a : Mounted) (s : State) (x : Disks) → StandsFor a s x → IsImage a.g (image s)
image_now a s x stands = image_is_image a.g s stands.by.fits.valid

-- a buffer that was filled as a whole
pub filled_whole : (fresh items : List ℕ) (n : ℕ) → length fresh ≡ n → take n (fresh ++ drop (length fresh) items) ≡ fresh
filled_whole fresh items n long = cut_to_length fresh (drop (length fresh) items) n long
