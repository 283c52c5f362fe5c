use Rattle.std.proofs.Common.{◌≡◌, ℕ, List, IsTrue, length, ap, sym, arith, rules, ◌∙◌, subst}
use Rattle.trap_bank.specs.Disks.{Contents, View, Area, Differs, Within, region}
use Rattle.trap_bank.specs.Steps.{Moves, Same, PlacedThrough}
use Rattle.trap_bank.proofs.Moves.{write_steps, sync_steps, synced_steps, moves_then, Settled}
use Rattle.trap_bank.proofs.Called.{called_once, called_then, called_at_most, took_calls}
use Rattle.trap_bank.proofs.Regions.{region_of_disk}
use Rattle.trap_bank.proofs.through.write_through.Goals as goal

-- a write, and then a step in which nothing changes
then_same : (area : Area) (x y z : View) → Moves x y (Differs area) (Differs area) → Moves y z Same Same → Moves x z (Differs area) (Differs area)
then_same area x y z wrote same =
    moves_then x y z (Differs area) (Differs area) Same Same (Differs area) (Differs area) wrote same
    (λ a b was torn. torn) (λ a b c was torn mid still. subst (Differs area a.disks) (sym still) torn) (λ a b c was torn mid still. subst (Differs area a.disks) (sym still) torn)

-- a write, and then a sync, after which a crash leaves what was written
then_settled : (d at : ℕ) (bytes : List ℕ) (x y z : View) → Moves x y (Differs (Within d at (length bytes))) (Differs (Within d at (length bytes)))
    → (IsTrue x.tells → region y.now.disks d at (length bytes) ≡ bytes) → Moves y z Same (Settled z d) → (IsTrue y.tells → z.now ≡ y.now)
    → Moves x z (Differs (Within d at (length bytes))) (PlacedThrough z d at bytes)
then_settled d at bytes x y z wrote written settles same =
    let area = Within d at (length bytes) in
    moves_then x y z (Differs area) (Differs area) Same (Settled z d) (Differs area) (PlacedThrough z d at bytes) wrote settles
    (λ a b was torn. torn) (λ a b c was torn mid still. subst (Differs area a.disks) (sym still) torn)
    (λ a b c was torn mid at_rest. record {
      placed = record {
        differs = subst (Differs area a.disks) (sym at_rest.same) torn;
        there = region_of_disk y.now.disks c.disks d at (length bytes) (at_rest.read ∙ ap (λ (n : Contents). n.disks d) (same mid.told)) ∙ written was.told;
      };
      read = at_rest.read;
    })

pub returns-in_err-write-clause-any_moment : goal.returns-in_err-write-clause-any_moment
returns-in_err-write-clause-any_moment g c = write_steps _ _ _ _ _ _ c.write.ensures.call

pub returns-in_err-sync-clause-any_moment : goal.returns-in_err-sync-clause-any_moment
returns-in_err-sync-clause-any_moment g c = then_same _ _ _ _ (write_steps _ _ _ _ _ _ c.write.ensures.call) (sync_steps _ _ _ _ c.sync.ensures.call)

pub returns-clause-any_moment : goal.returns-clause-any_moment
returns-clause-any_moment g c = then_same _ _ _ _ (write_steps _ _ _ _ _ _ c.write.ensures.call) (sync_steps _ _ _ _ c.sync.ensures.call)

pub returns-clause-ok : goal.returns-clause-ok
returns-clause-ok g c = then_settled _ _ _ _ _ _ (write_steps _ _ _ _ _ _ c.write.ensures.call) c.in_ok-write.ensures.call.written
    (synced_steps _ _ _ _ c.in_ok-sync.ensures.call) c.sync.ensures.call.same

pub returns-in_err-write-clause-calls : goal.returns-in_err-write-clause-calls
returns-in_err-write-clause-calls g c = record { ok = search rules; most = called_at_most 1 2 _ _ (omega arith) (called_once _ _ _ c.write.ensures.call.goes) }

pub returns-in_err-sync-clause-calls : goal.returns-in_err-sync-clause-calls
returns-in_err-sync-clause-calls g c = record {
  ok = search rules;
  most = called_at_most 2 2 _ _ (omega arith) (called_then 1 1 _ _ _ (called_once _ _ _ c.write.ensures.call.goes) (called_once _ _ _ c.sync.ensures.call.goes));
}

pub returns-clause-calls : goal.returns-clause-calls
returns-clause-calls g c = took_calls _ 2 _ _ (called_then 1 1 _ _ _ (called_once _ _ _ c.write.ensures.call.goes) (called_once _ _ _ c.sync.ensures.call.goes))
