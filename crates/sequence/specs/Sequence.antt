-- Rules: 01, "Boot comparison": the steps.
use Rattle.std.specs.Prelude.{ℕ, ◌-◌, List, [], ◌∷◌, ◌++◌, length, replicate}
use Rattle.sequence.specs.declared.BootStep.{BootStep}

-- "each with command, 14 bytes and a count": a command, its parameters, and the milliseconds that the driver waits after it.
abbrev pub row : ℕ → List ℕ → ℕ → BootStep
row cmd bytes delay =
    record { cmd = cmd; params = record { bytes = bytes ++ replicate (14 - length bytes) 0; count = length bytes }; delay_ms_after = delay }

-- "The 23 rows of `BOOT_SEQUENCE` are copied from 000 as a fixed table."
abbrev pub boot_sequence : List BootStep
boot_sequence =
    row 0x01 [] 20 ∷  -- SWRESET
    row 0x11 [] 100 ∷  -- SLPOUT
    row 0x36 (0x00 ∷ []) 0 ∷  -- MADCTL
    row 0x3A (0x55 ∷ []) 0 ∷  -- COLMOD
    row 0xB0 (0x00 ∷ 0xF0 ∷ []) 0 ∷  -- RAMCTRL
    row 0xB2 (0x05 ∷ 0x05 ∷ 0x00 ∷ 0x33 ∷ 0x33 ∷ []) 0 ∷  -- PORCTRL
    row 0xB7 (0x35 ∷ []) 0 ∷  -- GCTRL
    row 0xBB (0x21 ∷ []) 0 ∷  -- VCOMS
    row 0xC0 (0x2C ∷ []) 0 ∷  -- LCMCTRL
    row 0xC2 (0x01 ∷ []) 0 ∷  -- VDVVRHEN
    row 0xC3 (0x0B ∷ []) 0 ∷  -- VRHS
    row 0xC4 (0x20 ∷ []) 0 ∷  -- VDVS
    row 0xC6 (0x0F ∷ []) 0 ∷  -- FRCTRL2
    row 0xD0 (0xA7 ∷ 0xA1 ∷ []) 0 ∷  -- PWCTRL1
    row 0xD0 (0xA4 ∷ 0xA1 ∷ []) 0 ∷  -- PWCTRL1
    row 0xD6 (0xA1 ∷ []) 0 ∷  -- VENDOR_D6
    row 0xE0 (0xD0 ∷ 0x04 ∷ 0x08 ∷ 0x0A ∷ 0x09 ∷ 0x05 ∷ 0x2D ∷ 0x43 ∷ 0x49 ∷ 0x09 ∷ 0x16 ∷ 0x15 ∷ 0x26 ∷ 0x2B ∷ []) 0 ∷  -- PVGAMCTRL
    row 0xE1 (0xD0 ∷ 0x03 ∷ 0x09 ∷ 0x0A ∷ 0x0A ∷ 0x06 ∷ 0x2E ∷ 0x44 ∷ 0x40 ∷ 0x3A ∷ 0x15 ∷ 0x15 ∷ 0x26 ∷ 0x2A ∷ []) 10 ∷  -- NVGAMCTRL
    row 0x21 [] 0 ∷  -- INVON
    row 0x36 (0x00 ∷ []) 0 ∷  -- MADCTL
    row 0x29 [] 0 ∷  -- DISPON
    row 0x36 (0x00 ∷ []) 0 ∷  -- MADCTL
    row 0x36 (0x00 ∷ []) 0 ∷  -- MADCTL
    []

-- What stands past the table.
abbrev pub past_step : BootStep
past_step = row 0 [] 0
