-- What one call of a reader of frames finds, whatever the pieces in which the bytes come.
use Rattle.std.specs.Prelude.{◌≡◌, ℕ, ◌+◌, ◌^◌, ◌≤◌, List, [], length}
use Rattle.trap_bank.specs.Faults.{Rose}
use Rattle.trap_bank.specs.Stream.{Stream}
use Rattle.trap_model.specs.Frame.{SpellsFrame, IsPart, IsCut, IsBadFrame}
use Rattle.trap_frame.specs.Filling.{TakesBytes, IsStreamEnd}
use Rattle.trap_frame.specs.declared.filling.Stop.{Stop}
use Rattle.trap_frame.specs.declared.filling.Stop.TheVariants as Stopped
use Rattle.trap_frame.specs.declared.found.Next.{Next}
use Rattle.trap_frame.specs.declared.found.Next.TheVariants as Found
use Rattle.trap_frame.specs.declared.found.FrameFault.{FrameFault}
use Rattle.trap_frame.specs.declared.found.FrameFault.TheVariants.{BadFrame, Cut, ReadFault}
use Rattle.trap_frame.specs.declared.found.FrameFault.TheVariants.{TooLong}

-- what was found: a frame, of which all bytes were taken and no other, or the end of the stream
abbrev pub FindsFrame : ℕ → Next → List ℕ → ℕ → ℕ → Stream → Stream → Type 0
FindsFrame size (Found.Frame f) parity used used' s s' =
    (bytes : List ℕ) × SpellsFrame size f parity bytes × TakesBytes bytes used used' s s'
FindsFrame size Found.End parity used used' s s' =
    TakesBytes [] used used' s s' × IsStreamEnd used' s'

-- Why no frame was found. `used` bytes were taken before the call, and those taken in it hold no
-- whole frame, and are no more than the longest frame has.
abbrev pub FindsNoFrame : ℕ → FrameFault → ℕ → ℕ → Stream → Stream → Type 0
FindsNoFrame size (BadFrame at) used used' s s' =
    (at ≡ used) × ((bytes : List ℕ) × IsBadFrame size bytes × TakesBytes bytes used used' s s'
    × (length bytes ≤ size + 41))
FindsNoFrame size (Cut at) used used' s s' =
    (at ≡ used) × ((bytes : List ℕ) × IsCut size bytes × TakesBytes bytes used used' s s'
    × IsStreamEnd used' s')
FindsNoFrame size ReadFault used used' s s' =
    (bytes : List ℕ) × IsPart size bytes × TakesBytes bytes used used' s s'
    × Rose s.faults s'.faults
FindsNoFrame size TooLong used used' s s' =
    (bytes : List ℕ) × IsPart size bytes × TakesBytes bytes used used' s s' × (used' ≡ 2 ^ 40)

-- the fault of a reader that got no more bytes
abbrev pub IsFaultAtStop : FrameFault → Stop → Type 0
IsFaultAtStop fault Stopped.Source = fault ≡ ReadFault
IsFaultAtStop fault Stopped.TooLong = fault ≡ TooLong
