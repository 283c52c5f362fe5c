-- Disks that are long enough stay so while no size changes.
use Rattle.std.proofs.Common.{◌≡◌, ℕ, ◌+◌, Option, ◌∙◌}
use Rattle.trap_bank.specs.Disks.{View}
use Rattle.trap_bank.specs.Calls.{Fits}
use Rattle.trap_model.specs.declared.numbers.Geometry.{Geometry}
use Rattle.trap_log.specs.Calls.{HasSizes}

-- one disk
pub fits_still : (v w : View) (d end : ℕ) → w.sizes d ≡ v.sizes d → Fits v d end → Fits w d end
fits_still v w d end same fits = (fits.0, same ∙ fits.1, fits.2)

-- all that an array uses
pub sizes_still : (g : Geometry) (lost : Option ℕ) (rebuilt : ℕ) (v w : View) → ((d : ℕ) → w.sizes d ≡ v.sizes d) → HasSizes g lost rebuilt v → HasSizes g lost rebuilt w
sizes_still g lost rebuilt v w same sizes = record {
  log = fits_still v w 0 _ (same 0) sizes.log;
  members = λ m inside counts. fits_still v w (m + 1) _ (same (m + 1)) (sizes.members m inside counts);
}
