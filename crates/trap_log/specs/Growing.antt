-- How the calls of a log move its head.
use Rattle.std.specs.Prelude.{◌≡◌, ◌≤◌}
use Rattle.trap_format.specs.declared.head.Head.{Head}

-- nothing that was committed is dropped or moved: the window begins where it began, and the numbers
-- and offsets only grow
pub record Grows (h t : Head) : Type 0 where
  pub first : t.first ≡ h.first
  pub base_time : t.base_time ≡ h.base_time
  pub first_off : t.first_off ≡ h.first_off
  pub end_off : h.end_off ≤ t.end_off
  pub last : h.last ≤ t.last
  pub drained : h.drained ≤ t.drained

-- what a call may make of the head: nothing that was committed is dropped or moved, and the same
-- member is lost
pub record IsLaterHead (h t : Head) : Type 0 where
  pub grows : Grows h t
  pub lost : t.lost ≡ h.lost
  pub rebuilt : t.rebuilt ≡ h.rebuilt
