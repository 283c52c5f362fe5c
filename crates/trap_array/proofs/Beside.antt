-- The disks beside an array's own: which changes are none of theirs.
use Rattle.std.proofs.Common.{◌≡◌, ℕ, ◌+◌, ◌<◌, IsTrue, refl, sym, ap, subst, ◌∙◌, arith}
use Rattle.trap_bank.specs.Disks.{Contents, View, Area, Torn}
use Rattle.trap_bank.proofs.Regions.{disk_apart}
use Rattle.trap_model.specs.declared.numbers.Geometry.{Geometry}
use Rattle.trap_array.specs.Beside.{StaysFrom}
use Rattle.trap_array.specs.Calls.{Mounted, SameArray}

-- no call at all
pub stays_none : (d : ℕ) (v : View) → StaysFrom d v v
stays_none d v told e above = refl

-- a call that changes nothing
pub stays_same : (d : ℕ) (a b : View) → (IsTrue a.tells → b.now ≡ a.now) → StaysFrom d a b
stays_same d a b same told e above = ap (λ (c : Contents). c.disks e) (same told)

-- one call after another
pub stays_then : (d : ℕ) (a b c : View) → b.tells ≡ a.tells → StaysFrom d a b → StaysFrom d b c → StaysFrom d a c
stays_then d a b c tells first second told e above = second (subst IsTrue (sym tells) told) e above ∙ first told e above

-- one call of an array after another
pub both_stay : (a b : Mounted) (u v w : View) → SameArray a b → v.tells ≡ u.tells → StaysFrom (a.g.members + 1) u v → StaysFrom (b.g.members + 1) v w → StaysFrom (a.g.members + 1) u w
both_stay a b u v w on tells first second = stays_then (a.g.members + 1) u v w tells first (subst (λ (g : Geometry). StaysFrom (g.members + 1) v w) on.g second)

-- a change of lower disks alone
pub stays_torn : (d : ℕ) (area : Area) (a b : View) → ((e i : ℕ) → area e i → e < d) → (IsTrue a.tells → Torn area a.now b.now) → StaysFrom d a b
stays_torn d area a b low torn told e above = disk_apart area a.now.disks b.now.disks e (torn told).disks (λ i inside. absurd (omega (arith, low e i inside, above)))
