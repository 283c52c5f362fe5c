-- Leases over calls that take, give and change.
use Rattle.std.proofs.Common.{◌≡◌, ℕ, ◌<◌, false, not, List, [], ◌∷◌, get_or, count_by, refl, ap, sym, ◌∙◌, subst, arith}
use Rattle.trap_pool.specs.Pooled.{Pooled, IsLive, pool_block, free_of, Leased, Gives}
use Rattle.trap_pool.specs.Frames.{AreLeases, IsNoneOf, Only, KeepsLeases}

-- a taken block is none of the leases
differs_taken : (k : ℕ) (ks : List ℕ) (old new : Pooled) → Leased k old new → AreLeases old ks → IsNoneOf k ks
differs_taken k [] old new takes are = tt
differs_taken k (j ∷ js) old new takes are = ((λ e. takes.distinct j are.0 (sym e)), differs_taken k js old new takes are.2)

-- leases stay while each of them does
still : (ks : List ℕ) (old new : Pooled) → ((j : ℕ) → IsLive old j → IsLive new j) → AreLeases old ks → AreLeases new ks
still [] old new stays are = tt
still (j ∷ js) old new stays are = (stays j are.0, are.1, still js old new stays are.2)

pub leases_taken : (k : ℕ) (ks : List ℕ) (old new : Pooled) → Leased k old new → AreLeases old ks → AreLeases new (k ∷ ks)
leases_taken k ks old new takes are = (takes.live, differs_taken k ks old new takes are, still ks old new takes.stays are)

-- those that differ from the given one stay
others_still : (k : ℕ) (ks : List ℕ) (old new : Pooled) → Gives k old new → IsNoneOf k ks → AreLeases old ks → AreLeases new ks
others_still k [] old new gives differs are = tt
others_still k (j ∷ js) old new gives differs are =
    (gives.stays j are.0 (λ e. differs.0 (sym e)), are.1, others_still k js old new gives differs.1 are.2)

pub leases_given : (k : ℕ) (ks : List ℕ) (old new : Pooled) → Gives k old new → AreLeases old (k ∷ ks) → AreLeases new ks
leases_given k ks old new gives are = others_still k ks old new gives are.1 are.2

-- a lease stands where only blocks changed
live_changed : (js : List ℕ) (old new : Pooled) → Only js old new → (j : ℕ) → IsLive old j → IsLive new j
live_changed js old new only j is = record { live = ap (λ ls. get_or ls j false) only.live ∙ is.live; inside = subst (λ n. j < n) (sym only.count) is.inside }

pub leases_changed : (js ks : List ℕ) (old new : Pooled) → Only js old new → AreLeases old ks → AreLeases new ks
leases_changed js ks old new only are = still ks old new (live_changed js old new only) are

-- nothing happened
pub keeps_none : (p : Pooled) → KeepsLeases p p
keeps_none p = record { size = refl; free = refl; live = λ k is. is; others = λ k is. refl }

pub keeps_then : (a b c : Pooled) → KeepsLeases a b → KeepsLeases b c → KeepsLeases a c
keeps_then a b c first second = record {
  size = second.size ∙ first.size;
  free = second.free ∙ first.free;
  live = λ k is. second.live k (first.live k is);
  others = λ k is. second.others k (first.live k is) ∙ first.others k is;
}

-- a block was leased, changed and given back
pub keeps_lent : (k : ℕ) (old taken changed new : Pooled) → Leased k old taken → Only (k ∷ []) taken changed → Gives k changed new → KeepsLeases old new
keeps_lent k old taken changed new takes only gives = record {
  size = ap (λ (p : Pooled). p.size) gives.is ∙ only.size ∙ ap (λ (p : Pooled). p.size) takes.is;
  free =
      let fewer = takes.free in
      let more = gives.free in
      let same : free_of changed ≡ free_of taken = ap (λ ls. count_by not ls) only.live in
      omega arith;
  live = λ j is. gives.stays j (live_changed (k ∷ []) taken changed only j (takes.stays j is)) (takes.distinct j is);
  others = λ j is. ap (λ (p : Pooled). pool_block p j) gives.is ∙ only.others j (takes.distinct j is, tt) ∙ ap (λ (p : Pooled). pool_block p j) takes.is;
}

pub leases_kept : (ks : List ℕ) (old new : Pooled) → KeepsLeases old new → AreLeases old ks → AreLeases new ks
leases_kept ks old new keeps are = still ks old new keeps.live are
