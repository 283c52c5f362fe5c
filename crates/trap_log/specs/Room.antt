-- How much an array's log may retain, and which entries it refuses.
use Rattle.std.specs.Prelude.{◌≡◌, ◌⊎◌, ℕ, ◌+◌, ◌-◌, ◌^◌, ◌<◌, Option, Some, None, ◌==◌, nat_lt}
use Rattle.std.specs.Prelude.{if◌then◌else◌}
use Rattle.trap_format.specs.declared.head.Head.{Head}
use Rattle.trap_model.specs.declared.numbers.Geometry.{Geometry}
use Rattle.trap_model.specs.declared.request.Refusal.{Refusal}
use Rattle.trap_model.specs.declared.request.Refusal.TheVariants.{TimeBack, Worn}
pub use Rattle.trap_format.specs.LogDisk.{ring_len}

-- how many bytes of records are retained at most: as many as the ring has on disk
abbrev pub ring_limit : Geometry → ℕ
ring_limit g = ring_len g

-- there is no room for a record of this many bytes: the entries or the bytes would be more than may
-- be retained
abbrev pub IsFull : Geometry → Head → ℕ → Type 0
IsFull g h size = (h.last ≡ h.first + g.entries) ⊎ (ring_limit g < h.end_off - h.first_off + size)

-- why no entry of this time is kept, whatever it writes
abbrev pub early_refusal : Head → ℕ → Option Refusal
early_refusal h time =
    if nat_lt time h.last_time then Some (TimeBack h.last_time)
    else if h.last == 2 ^ 40 then Some Worn
    else None
