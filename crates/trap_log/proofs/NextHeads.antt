-- The next head is one of such an array.
use Rattle.std.proofs.Common.{ℕ, ◌+◌, ◌*◌, ◌-◌, ◌<◌, ◌≤◌, ◌^◌, Option, Some, refl, subst, arith}
use Rattle.std.specs.Option.{ForSome}
use Rattle.std.proofs.Math.Nat.{mul-le-mul}
use Rattle.trap_format.specs.HeadValue.{lost_byte, IsHead}
use Rattle.trap_format.specs.declared.head.Head.{Head}
use Rattle.trap_model.specs.Limits.{greatest_record}
use Rattle.trap_model.specs.declared.numbers.Geometry.{Geometry}
use Rattle.trap_log.specs.Growing.{IsLaterHead}
use Rattle.trap_log.specs.NextHead.{committed, drained_to}

-- the ring's offsets are far below 2^64
pub end_most : (g : Geometry) (h : Head) → IsHead g h → h.end_off ≤ 2 ^ 40 * 8232
end_most g h is =
    let size : greatest_record g.block ≤ 8232 = omega (arith, g.within.block_most) in
    let product : h.last * greatest_record g.block ≤ 2 ^ 40 * 8232 = mul-le-mul is.numbers.last_most size in
    omega (arith, is.offsets.end_most, product)

-- the lost member is one of the array's
pub lost_inside : (g : Geometry) (h : Head) → IsHead g h → ForSome h.lost (λ member. member < g.members)
lost_inside g h is member there =
    let most : lost_byte (Some member) ≤ g.members = subst (λ (lost : Option ℕ). lost_byte lost ≤ g.members) there is.lost.member in
    omega (arith, most)

-- ---- it is a later head
pub later_committed : (h : Head) (time size : ℕ) → IsLaterHead h (committed h time size)
later_committed h time size = record {
  grows = record {
    first = refl;
    base_time = refl;
    first_off = refl;
    end_off = omega arith;
    last = omega arith;
    drained = omega arith;
  };
  lost = refl;
  rebuilt = refl;
}

pub later_drained : (h : Head) (upto : ℕ) → h.drained ≤ upto → IsLaterHead h (drained_to h upto)
later_drained h upto low = record { grows = record { first = refl; base_time = refl; first_off = refl; end_off = omega arith; last = omega arith; drained = low }; lost = refl; rebuilt = refl }

-- ---- and one of such an array
module _ (g : Geometry) (h : Head) (is : IsHead g h) where
  pub head_committed : (time size : ℕ) → h.last_time ≤ time → time < 2 ^ 64 → h.last < 2 ^ 40 → h.last < h.drained + g.slots → h.last < h.first + g.entries
      → h.end_off - h.first_off + size ≤ g.ring → size ≤ greatest_record g.block → IsHead g (committed h time size)
  head_committed time size later fits worn free few room short = record {
    version = is.version;
    lost = record { member = is.lost.member; rebuilt = is.lost.rebuilt; none_rebuilt = is.lost.none_rebuilt };
    numbers = record {
      dropped = is.numbers.dropped;
      drained = omega (arith, is.numbers.drained);
      last_most = omega (arith, worn);
      pending = omega (arith, free);
      retained = omega (arith, few);
    };
    offsets = record {
      order = omega (arith, is.offsets.order);
      window = omega (arith, is.offsets.order, room);
      end_most = next_most h.last (greatest_record g.block) is.offsets.end_most short;
    };
    times = omega (arith, is.times, later);
    time_fits = fits;
    empty = λ none. absurd (omega (arith, none, is.numbers.dropped, is.numbers.drained));
  }
    where
      next_most : (last greatest : ℕ) → h.end_off ≤ last * greatest → size ≤ greatest → h.end_off + size ≤ (last + 1) * greatest
      next_most last greatest most small = grind arith

  pub head_drained : (upto : ℕ) → h.drained ≤ upto → upto ≤ h.last → IsHead g (drained_to h upto)
  head_drained upto low high = record {
    version = is.version;
    lost = record { member = is.lost.member; rebuilt = is.lost.rebuilt; none_rebuilt = is.lost.none_rebuilt };
    numbers = record {
      dropped = omega (arith, is.numbers.dropped, low);
      drained = high;
      last_most = is.numbers.last_most;
      pending = omega (arith, is.numbers.pending, low);
      retained = is.numbers.retained;
    };
    offsets = record { order = is.offsets.order; window = is.offsets.window; end_most = is.offsets.end_most };
    times = is.times;
    time_fits = is.time_fits;
    empty = λ none. let both = is.empty none in record { offsets = both.offsets; times = both.times };
  }
