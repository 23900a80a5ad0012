-- Rules: Q-9, what 01 says of each command byte, as rows: its "kind", and its "parameter need".
use Rattle.std.specs.Prelude.{ℕ, ◌+◌, ◌-◌, Bool, cond, ◌&&◌, ◌||◌, List, [], ◌∷◌, eqb, leb, ltb}
use Rattle.codes.specs.declared.Kind.{Kind}
use Rattle.codes.specs.declared.Kind.TheVariants.{NoEffect, Swreset, Slpin, Slpout, Invoff, Invon, Dispoff, Dispon, Caset, Raset, Ramwr, Madctl, Colmod, Ramwrc, Ramctrl, Porctrl, Gctrl, Vcoms, Lcmctrl, Vdvvrhen, Vrhs, Vdvs, Frctrl2, Pwctrl1, VendorD6, Pvgamctrl, Nvgamctrl}
use Rattle.codes.specs.declared.Command.{Command}

-- A byte, its kind, and how many parameters it applies at: 0 where it applies nothing.
abbrev pub row : ℕ → Kind → ℕ → Command
row code kind need = record { code = code; kind = kind; need = need }

-- The bytes that 01 names.
abbrev pub rows : List Command
rows =
    -- "01 reset, 10 sleep .., 11 wake .., 20 and 21 inversion off and on, 28 and 29 display off and on."
    row 0x01 Swreset 0
    ∷ row 0x10 Slpin 0
    ∷ row 0x11 Slpout 0
    ∷ row 0x20 Invoff 0
    ∷ row 0x21 Invon 0
    ∷ row 0x28 Dispoff 0
    ∷ row 0x29 Dispon 0
    -- "2C: .. pixel run on", "3C: pixel run on"
    ∷ row 0x2C Ramwr 0
    ∷ row 0x3C Ramwrc 0
    -- "2A and 2B at 4 bytes .., 36 and 3A at 1, B0 at 2."
    ∷ row 0x2A Caset 4
    ∷ row 0x2B Raset 4
    ∷ row 0x36 Madctl 1
    ∷ row 0x3A Colmod 1
    ∷ row 0xB0 Ramctrl 2
    -- "Twelve stored commands: B2 B7 BB C0 C2 C3 C4 C6 D0 D6 E0 E1."
    ∷ row 0xB2 Porctrl 0
    ∷ row 0xB7 Gctrl 0
    ∷ row 0xBB Vcoms 0
    ∷ row 0xC0 Lcmctrl 0
    ∷ row 0xC2 Vdvvrhen 0
    ∷ row 0xC3 Vrhs 0
    ∷ row 0xC4 Vdvs 0
    ∷ row 0xC6 Frctrl2 0
    ∷ row 0xD0 Pwctrl1 0
    ∷ row 0xD6 VendorD6 0
    ∷ row 0xE0 Pvgamctrl 0
    ∷ row 0xE1 Nvgamctrl 0
    ∷ []

-- The row of a byte; "Other bytes have no effect here."
abbrev pub row_of : List Command → ℕ → Command
row_of [] c = row c NoEffect 0
row_of (m ∷ ms) c = cond (eqb c m.code) m (row_of ms c)

-- Its kind, and its "parameter need".
unfoldable pub kind_of : ℕ → Kind
kind_of c = (row_of rows c).kind

unfoldable pub need_of : ℕ → ℕ
need_of c = (row_of rows c).need

-- What a command byte is.
abbrev pub command_of : ℕ → Command
command_of c = row c (kind_of c) (need_of c)

-- The number of a kind. That of the last one stays when kinds are added.
abbrev pub kind_number : Kind → ℕ
kind_number Swreset = 1
kind_number Slpin = 2
kind_number Slpout = 3
kind_number Invoff = 4
kind_number Invon = 5
kind_number Dispoff = 6
kind_number Dispon = 7
kind_number Caset = 8
kind_number Raset = 9
kind_number Ramwr = 10
kind_number Madctl = 11
kind_number Colmod = 12
kind_number Ramwrc = 13
kind_number Ramctrl = 14
kind_number Porctrl = 15
kind_number Gctrl = 16
kind_number Vcoms = 17
kind_number Lcmctrl = 18
kind_number Vdvvrhen = 19
kind_number Vrhs = 20
kind_number Vdvs = 21
kind_number Frctrl2 = 22
kind_number Pwctrl1 = 23
kind_number VendorD6 = 24
kind_number Pvgamctrl = 25
kind_number Nvgamctrl = 26
kind_number NoEffect = 255

-- Whether two kinds are the same.
abbrev pub is : Kind → Kind → Bool
is k j = eqb (kind_number k) (kind_number j)

-- "2C: .. pixel run on", "3C: pixel run on", "Any other: run off"
abbrev pub starts_run : Kind → Bool
starts_run k = is k Ramwr || is k Ramwrc

-- "Then effects: 01 .., 10 .., 11 .., 20 and 21 .., 28 and 29 .. Other bytes have no effect here."
abbrev pub has_effect : Kind → Bool
has_effect k = leb (kind_number Swreset) (kind_number k) && leb (kind_number k) (kind_number Dispon)

-- One of the "Twelve stored commands"
abbrev pub is_stored : Kind → Bool
is_stored k = leb (kind_number Porctrl) (kind_number k) && ltb (kind_number k) (kind_number Porctrl + 12)

-- "a place for each of the twelve"; 12 for any other kind.
abbrev pub place_of : Kind → ℕ
place_of k = cond (is_stored k) (kind_number k - kind_number Porctrl) 12
