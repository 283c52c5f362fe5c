use Rattle.std.proofs.Common.{◌≡◌, ℕ, ◌+◌, ◌^◌, ◌≤◌, List, IsTrue, sym, subst, ◌∙◌, arith}
use Rattle.trap_bank.specs.Disks.{View}
use Rattle.trap_bank.specs.Steps.{Always}
use Rattle.trap_bank.proofs.Called.{called_once, called_then, took_calls}
use Rattle.trap_bank.proofs.Moves.{read_steps, always_same, read_is_left}
use Rattle.trap_block.specs.Xor.{xor}
use Rattle.trap_cell.specs.Slots.{Stands}
use Rattle.trap_cell.specs.Steps.{put_calls}
use Rattle.trap_cell.proofs.Beside.{stands_put}
use Rattle.trap_model.specs.Image.{block_of}
use Rattle.trap_replica.specs.Applying.{Leaves, LeavesOthers, HoldsEither}
use Rattle.trap_replica.specs.OnDisk.{HoldsImageBy}
use Rattle.trap_replica.proofs.OneFrame.{home_fits, cell_fits, home_part, stands_home, others_torn, others_same, others_put, others_then}
use Rattle.trap_replica.proofs.FrameSteps.{AtHome, frame_block, sent_part, sent_home, read_part, read_home, got, put_part, put_home}
use Rattle.trap_replica.proofs.applying.apply.Goals as goal
use Rattle.trap_replica.proofs.applying.apply.Goals.{After-write_through, After-read, After-put}

pub write_through-requires-clause-room : goal.write_through-requires-clause-room
write_through-requires-clause-room g c = home_fits c.args.s.now c.args.block _ _ (g.B.Bank.view c.args.bank.now) c.requires.named c.home_at.ensures c.requires.contents c.requires.there

-- ---- the cell's block is sent home, whether or not that failed
abbrev sent : (g : _) → After-write_through g → View
sent g c = g.B.Bank.view c.write_through.new.bank

others_sent : (g : _) (c : After-write_through g) → LeavesOthers (g.B.Bank.view c.args.bank.now) (sent g c)
others_sent g c = others_torn _ _ (g.B.Bank.view c.args.bank.now) (sent g c) c.write_through.ensures.sizes c.write_through.ensures.any_moment c.write_through.ensures.contents

pub returns-in_err-write_through-clause-beside : goal.returns-in_err-write_through-clause-beside
returns-in_err-write_through-clause-beside g c = others_sent g (goal.at.returns-in_err-write_through-clause-beside g c).After-write_through

pub returns-in_err-write_through-clause-any_moment : goal.returns-in_err-write_through-clause-any_moment
returns-in_err-write_through-clause-any_moment g c = λ number time image next last same always.
    let part = c.write_through.ensures.any_moment in
    sent_part c.args.s.now c.args.block number time image (g.B.Bank.view c.args.bank.now) (g.B.Bank.view c.write_through.new.bank) c.home_at.result c.args.contents.now
    c.home_at.ensures c.requires.contents same always c.args.frame.now part

-- ---- the frame's block is read, whether or not that failed
others_read : (g : _) (c : After-read g) → LeavesOthers (g.B.Bank.view c.args.bank.now) (g.B.Bank.view c.read.new.self)
others_read g c =
    let home = c.write_through in
    others_then (g.B.Bank.view c.args.bank.now) (g.B.Bank.view home.new.bank) (g.B.Bank.view c.read.new.self)
    (others_torn _ _ (g.B.Bank.view c.args.bank.now) (g.B.Bank.view home.new.bank) home.ensures.sizes home.ensures.any_moment home.ensures.contents)
    (others_same (g.B.Bank.view home.new.bank) (g.B.Bank.view c.read.new.self) c.read.ensures.call.sizes (read_steps _ _ _ _ _ _ _ c.read.ensures.call) c.read.ensures.call.same)

pub returns-in_err-read-clause-beside : goal.returns-in_err-read-clause-beside
returns-in_err-read-clause-beside g c = others_read g (goal.at.returns-in_err-read-clause-beside g c).After-read

-- ---- the cell is put, whether or not that failed
others_after : (g : _) (c : After-put g) → LeavesOthers (g.B.Bank.view c.read.new.self) (g.B.Bank.view c.put.new.bank)
others_after g c = others_put c.args.s.now c.args.cell.now _ (g.B.Bank.view c.read.new.self) (g.B.Bank.view c.put.new.bank) c.put.ensures.sizes c.requires.place
    c.put.ensures.any_moment c.put.ensures.contents

pub returns-in_err-put-clause-beside : goal.returns-in_err-put-clause-beside
returns-in_err-put-clause-beside g c =
    let at = goal.at.returns-in_err-put-clause-beside g c in
    others_then (g.B.Bank.view c.args.bank.now) (g.B.Bank.view c.read.new.self) (g.B.Bank.view c.put.new.bank) (others_read g at.After-read) (others_after g at.After-put)

pub returns-clause-beside : goal.returns-clause-beside
returns-clause-beside g c =
    let at = goal.at.returns-clause-beside g c in
    others_then (g.B.Bank.view c.args.bank.now) (g.B.Bank.view c.read.new.self) (g.B.Bank.view c.put.new.bank) (others_read g at.After-read) (others_after g at.After-put)

pub returns-clause-cell : goal.returns-clause-cell
returns-clause-cell g c = record {
  turned = c.in_ok-put.ensures.cell.ok;
  stands = stands_put c.args.cell.now c.put.new.self c.spell_value.new.value (g.B.Bank.view c.read.new.self) (g.B.Bank.view c.put.new.bank) _ c.in_ok-put.ensures.ok;
}

-- ---- the cell's block is stable at home before the put
abbrev ForImage : (g : _) → After-read g → ((number time : ℕ) → List (List ℕ) → Type 0) → Type 0
ForImage g c has = (number time : ℕ) (image : List (List ℕ)) → (IsTrue (g.B.Bank.view c.args.bank.now).tells → c.args.contents.now ≡ block_of image c.args.block)
    → Always (g.B.Bank.view c.args.bank.now) (HoldsImageBy c.args.s.now c.args.block number time image) → has number time image

at_home : (g : _) (c : After-read g) → ForImage g c (λ number time image. Always (g.B.Bank.view c.write_through.new.bank) (AtHome c.args.s.now c.args.block number time image))
at_home g c number time image same always = sent_home c.args.s.now c.args.block number time image (g.B.Bank.view c.args.bank.now) (g.B.Bank.view c.write_through.new.bank)
    c.home_at.result c.args.contents.now c.home_at.ensures c.requires.contents same always c.in_ok-write_through.ensures.ok

still_home : (g : _) (c : After-read g) → ForImage g c (λ number time image. Always (g.B.Bank.view c.read.new.self) (AtHome c.args.s.now c.args.block number time image))
still_home g c number time image same always = read_home c.args.s.now c.args.block number time image (g.B.Bank.view c.write_through.new.bank) (g.B.Bank.view c.read.new.self)
    (read_steps _ _ _ _ _ _ _ c.read.ensures.call) (at_home g c number time image same always)

reading : (g : _) (c : After-read g)
    → ForImage g c (λ number time image. Leaves (g.B.Bank.view c.args.bank.now) (g.B.Bank.view c.read.new.self) (HoldsEither c.args.s.now number time image c.args.frame.now))
reading g c number time image same always =
    read_part c.args.s.now c.args.block number time image c.args.frame.now (g.B.Bank.view c.args.bank.now) (g.B.Bank.view c.write_through.new.bank) (g.B.Bank.view c.read.new.self)
    (sent_part c.args.s.now c.args.block number time image (g.B.Bank.view c.args.bank.now) (g.B.Bank.view c.write_through.new.bank) c.home_at.result c.args.contents.now
    c.home_at.ensures c.requires.contents same always c.args.frame.now c.write_through.ensures.any_moment)
    (read_steps _ _ _ _ _ _ _ c.read.ensures.call) (at_home g c number time image same always)

pub returns-in_err-read-clause-any_moment : goal.returns-in_err-read-clause-any_moment
returns-in_err-read-clause-any_moment g c = λ number time image next last same always.
    reading g (goal.at.returns-in_err-read-clause-any_moment g c).After-read number time image same always

mixed : (g : _) (c : After-put g) (number time : ℕ) (image : List (List ℕ)) → Always (g.B.Bank.view c.write_through.new.bank) (AtHome c.args.s.now c.args.block number time image)
    → IsTrue (g.B.Bank.view c.read.new.self).tells → c.xor_into.new.dst ≡ xor (block_of image c.args.frame.now.block) c.args.frame.now.parity
mixed g c number time image home told = got c.args.s.now c.args.block number time image c.args.frame.now (g.B.Bank.view c.write_through.new.bank) _ _ _ _ _ c.home_at-2.ensures
    c.requires.contents c.requires.inside home c.in_ok-read.ensures.call.bytes c.xor_into.ensures c.as_slice.ensures (subst IsTrue c.read.ensures.call.goes.tells told)

putting : (g : _) (c : After-put g) (number time : ℕ) (image : List (List ℕ)) → number + 1 ≡ c.args.seq → c.args.seq ≤ 2 ^ 40
    → Always (g.B.Bank.view c.write_through.new.bank) (AtHome c.args.s.now c.args.block number time image)
    → Always (g.B.Bank.view c.read.new.self) (AtHome c.args.s.now c.args.block number time image)
    → Leaves (g.B.Bank.view c.args.bank.now) (g.B.Bank.view c.read.new.self) (HoldsEither c.args.s.now number time image c.args.frame.now)
    → Leaves (g.B.Bank.view c.args.bank.now) (g.B.Bank.view c.put.new.bank) (HoldsEither c.args.s.now number time image c.args.frame.now)
putting g c number time image next last home read first =
    put_part c.args.s.now c.args.block number time image c.args.frame.now c.args.seq c.xor_into.new.dst next last (omega arith) c.requires.inside c.requires.sized
    c.args.cell.now c.spell_value.new.value c.requires.place c.spell_value.ensures (g.B.Bank.view c.args.bank.now) (g.B.Bank.view c.read.new.self) (g.B.Bank.view c.put.new.bank)
    first c.put.ensures.any_moment read (mixed g c number time image home)

pub returns-in_err-put-clause-any_moment : goal.returns-in_err-put-clause-any_moment
returns-in_err-put-clause-any_moment g c = λ number time image next last same always.
    let at = goal.at.returns-in_err-put-clause-any_moment g c in
    putting g at.After-put number time image next last (at_home g at.After-read number time image same always) (still_home g at.After-read number time image same always)
    (reading g at.After-read number time image same always)

pub returns-clause-any_moment : goal.returns-clause-any_moment
returns-clause-any_moment g c = λ number time image next last same always.
    let at = goal.at.returns-clause-any_moment g c in
    putting g at.After-put number time image next last (at_home g at.After-read number time image same always) (still_home g at.After-read number time image same always)
    (reading g at.After-read number time image same always)

pub returns-clause-ok : goal.returns-clause-ok
returns-clause-ok g c = λ number time image next last same always.
    let at = goal.at.returns-clause-ok g c in
    put_home c.args.s.now c.args.block number time image c.args.frame.now c.args.seq c.xor_into.new.dst next last (omega arith) c.requires.inside c.requires.sized
    c.args.cell.now c.spell_value.new.value c.requires.place c.spell_value.ensures c.put.new.self (g.B.Bank.view c.read.new.self) (g.B.Bank.view c.put.new.bank) c.in_ok-put.ensures.ok
    (still_home g at.After-read number time image same always) (mixed g at.After-put number time image (at_home g at.After-read number time image same always))

pub returns-clause-kept : goal.returns-clause-kept
returns-clause-kept g c = λ number time image same always told.
    let at = goal.at.returns-clause-kept g c in
    mixed g at.After-put number time image (at_home g at.After-read number time image same always) (subst IsTrue (sym (others_read g at.After-read).elsewhere.tells) told)
    ∙ sym (frame_block c.args.s.now image c.args.frame.now (always (g.B.Bank.view c.args.bank.now).now (read_is_left (g.B.Bank.view c.args.bank.now) told)).long c.requires.inside)

pub returns-clause-calls : goal.returns-clause-calls
returns-clause-calls g c =
    let a = g.B.Bank.view c.args.bank.now in
    let r = g.B.Bank.view c.read.new.self in
    took_calls _ (3 + put_calls c.args.cell.now) a (g.B.Bank.view c.put.new.bank) (called_then 3 (put_calls c.args.cell.now) a r (g.B.Bank.view c.put.new.bank)
    (called_then 2 1 a (g.B.Bank.view c.write_through.new.bank) r c.in_ok-write_through.ensures.calls.ok (called_once _ _ _ c.read.ensures.call.goes)) c.in_ok-put.ensures.cell.calls.ok)

-- ---- what the calls ask for
pub put-requires-clause-stands : goal.put-requires-clause-stands
put-requires-clause-stands g c =
    let home = c.write_through.ensures.any_moment in
    let then = g.B.Bank.view c.write_through.new.bank in
    always_same then (g.B.Bank.view c.read.new.self) (Stands c.args.cell.now) (read_steps _ _ _ _ _ _ _ c.read.ensures.call)
    (stands_home c.args.s.now c.args.cell.now c.args.block (g.B.Bank.view c.args.bank.now) then c.requires.place
    (home_part c.args.s.now c.args.block _ _ (g.B.Bank.view c.args.bank.now) then c.home_at.ensures c.requires.contents home) c.requires.stands)

pub read-requires-clause-room : goal.read-requires-clause-room
read-requires-clause-room g c =
    let there = home_fits c.args.s.now c.args.frame.now.block _ _ (g.B.Bank.view c.args.bank.now) c.requires.inside c.home_at-2.ensures c.requires.contents c.requires.there in
    let kept = c.write_through.ensures.sizes 17 in
    (there.0, kept ∙ there.1, there.2)

pub put-requires-clause-room : goal.put-requires-clause-room
put-requires-clause-room g c =
    let sizes = c.write_through.ensures.sizes 17 in
    cell_fits c.args.s.now c.args.cell.now.place (g.B.Bank.view c.read.new.self) c.requires.place (c.requires.there.0, c.read.ensures.call.sizes 17 ∙ sizes ∙ c.requires.there.1, c.requires.there.2)
