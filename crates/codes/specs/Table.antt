-- Rules: Q-9, "one table of 256 numbers, indexed by the command byte, giving parameter need and kind".
use Rattle.std.specs.Prelude.{ℕ, zero, suc, ◌+◌, ◌*◌, ◌/◌, ◌%◌, cond, List, [], ◌∷◌, eqb, get_or}
use Rattle.codes.specs.Codes.{row, kind_of, need_of, kind_number}
use Rattle.codes.specs.declared.Kind.{Kind}
use Rattle.codes.specs.declared.Kind.TheVariants.{NoEffect, Swreset, Slpin, Slpout, Invoff, Invon, Dispoff, Dispon, Caset, Raset, Ramwr, Madctl, Colmod, Ramwrc, Ramctrl, Porctrl, Gctrl, Vcoms, Lcmctrl, Vdvvrhen, Vrhs, Vdvs, Frctrl2, Pwctrl1, VendorD6, Pvgamctrl, Nvgamctrl}
use Rattle.codes.specs.declared.Command.{Command}

-- The number of a byte: sixteen times its kind's number, and its need.
abbrev pub entry : ℕ → ℕ
entry c = kind_number (kind_of c) * 16 + need_of c

-- The numbers of n bytes from c on.
abbrev pub entries : ℕ → ℕ → List ℕ
entries c zero = []
entries c (suc n) = entry c ∷ entries (suc c) n

-- "one table of 256 numbers, indexed by the command byte"
unfoldable pub table : List ℕ
table = entries 0 256

-- The kinds that have an effect, or a list to keep.
abbrev pub named : List Kind
named =
    Swreset
    ∷ Slpin
    ∷ Slpout
    ∷ Invoff
    ∷ Invon
    ∷ Dispoff
    ∷ Dispon
    ∷ Caset
    ∷ Raset
    ∷ Ramwr
    ∷ Madctl
    ∷ Colmod
    ∷ Ramwrc
    ∷ Ramctrl
    ∷ Porctrl
    ∷ Gctrl
    ∷ Vcoms
    ∷ Lcmctrl
    ∷ Vdvvrhen
    ∷ Vrhs
    ∷ Vdvs
    ∷ Frctrl2
    ∷ Pwctrl1
    ∷ VendorD6
    ∷ Pvgamctrl
    ∷ Nvgamctrl
    ∷ []

-- The one of them that has a number.
abbrev pub numbered : ℕ → List Kind → Kind
numbered n [] = NoEffect
numbered n (k ∷ ks) = cond (eqb n (kind_number k)) k (numbered n ks)

-- The kind of a number.
unfoldable pub kind_numbered : ℕ → Kind
kind_numbered n = numbered n named

-- What a byte is by a table of such numbers.
abbrev pub decoded : List ℕ → ℕ → Command
decoded numbers c = row c (kind_numbered (get_or numbers c 0 / 16)) (get_or numbers c 0 % 16)
