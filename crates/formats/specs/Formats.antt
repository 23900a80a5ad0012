-- Rules: 02, Q-5: the format in force, the COLMOD values that rule 3 warns of, and when too many bytes wait.
use Rattle.std.specs.Prelude.{ℕ, ◌%◌, Bool, true, false, cond, not, ◌&&◌, eqb}
use Rattle.std.specs.Int.Bits.{bit_and}
use Rattle.formats.specs.declared.Format.{Format}
use Rattle.formats.specs.declared.Format.TheVariants.{Twelve, HighFirst, LowFirst, Eighteen}
use Rattle.formats.specs.declared.Carry.{Carry}
use Rattle.formats.specs.declared.Carry.TheVariants.{Empty, One, Two}

-- "COLMOD's low three bits"
abbrev pub low_three : ℕ → ℕ
low_three colmod = colmod % 8

-- "In 16-bit, RAMCTRL's ENDIAN bit (08 of the second parameter) turns the byte order."
abbrev pub sixteen : ℕ → Format
sixteen ramctrl1 = cond (eqb (bit_and ramctrl1 0x08) 0) HighFirst LowFirst

-- "read from COLMOD's low three bits: 3 is 12-bit, 5 is 16-bit, 6 is 18-bit, others as 16-bit."
abbrev pub read_from : ℕ → ℕ → Format
read_from colmod ramctrl1 = cond (eqb (low_three colmod) 3) Twelve (cond (eqb (low_three colmod) 6) Eighteen (sixteen ramctrl1))

-- The format in force: "Add a mode, .. off by default"; "with it off everything reads as now", in 16 bits, high byte first.
abbrev pub format_of : Bool → ℕ → ℕ → Format
format_of formats colmod ramctrl1 = cond formats (read_from colmod ramctrl1) HighFirst

-- "With the mode on, lint rule 3 fires only for the others": those that are none of 3, 5 and 6.
abbrev pub is_other : ℕ → Bool
is_other colmod = not (eqb (low_three colmod) 3) && (not (eqb (low_three colmod) 5) && not (eqb (low_three colmod) 6))

-- "18-bit takes three bytes", "12-bit takes three bytes for two pixels": so two may wait.
abbrev pub takes_three : Format → Bool
takes_three Twelve = true
takes_three HighFirst = false
takes_three LowFirst = false
takes_three Eighteen = true

-- "BAD_STATE also for a carry of two bytes outside 12 and 18 bits or with the mode off": with it off the format is neither.
abbrev pub carry_bad : Format → Carry → Bool
carry_bad f Empty = false
carry_bad f (One a) = false
carry_bad f (Two a b) = not (takes_three f)
