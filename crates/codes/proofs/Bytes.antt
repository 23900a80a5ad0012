-- A test of every byte, computed once, and what it says of each: of the table, and of the rows.
use Prim.Native.Nat.{ℕ, zero, suc, ◌+◌, ◌*◌, ◌/◌, ◌%◌, ◌≤◌, ◌<◌}
use mathlib.Core.Path.{◌≡◌, refl, sym, ap, ap₂, subst, ◌∙◌}
use mathlib.Core.Bool.{Bool, true, false, cond, ◌&&◌, ◌||◌, beq, and-eq-true_iff, false≢true}
use mathlib.Core.List.{List, [], ◌∷◌}
use native.Mathlib.Omega.{arith}
use borrow.Author.Tests.{eqb-true, eqb-false, ne_eqb, ltb-true, ltb-false}
use lib.Dec.{eqb, ltb}
use lib.ListN.{get_or}
use Rattle.codes.specs.Codes.{row, rows, row_of, kind_of, need_of, command_of, kind_number, is}
use Rattle.codes.specs.Table.{entry, entries, table, kind_numbered, decoded}
use Rattle.codes.specs.declared.Kind.{Kind}
use Rattle.codes.specs.declared.Kind.TheVariants.{NoEffect, Swreset, Slpin, Slpout, Invoff, Invon, Dispoff, Dispon, Caset, Raset, Ramwr, Madctl, Colmod, Ramwrc, Ramctrl}
use Rattle.codes.specs.declared.Command.{Command}
use Rattle.codes.proofs.Numbering.{kind-back}

-- A test passes at each number below n.
abbrev pub below : (ℕ → Bool) → ℕ → Bool
below f zero = true
below f (suc n) = f n && below f n

pub at_each : (f : ℕ → Bool) (n : ℕ) → below f n ≡ true → (k : ℕ) → k < n → f k ≡ true
at_each f zero e k h = absurd (omega arith)
at_each f (suc n) e k h = go (eqb k n) refl (λ l. at_each f n parts.1 k l)
  where
    parts : (f n ≡ true) × (below f n ≡ true)
    parts = (and-eq-true_iff (f n) (below f n)).0 e

    go : (b : Bool) → eqb k n ≡ b → (k < n → f k ≡ true) → f k ≡ true
    go true i lower = subst (λ m. f m ≡ true) (sym (eqb-true k n i)) parts.0
    go false i lower = let d = eqb-false k n i in lower (omega arith)

-- Each entry of the table is its byte's number.
entry_at : (c n k : ℕ) → k < n → get_or (entries c n) k 0 ≡ entry (c + k)
entry_at c zero k h = absurd (omega arith)
entry_at c (suc n) zero h = ap entry (omega arith)
entry_at c (suc n) (suc k) h = entry_at (suc c) n k (omega arith) ∙ ap entry (omega arith)

-- A need has a digit of its own.
needs-short : below (λ c. ltb (need_of c) 16) 256 ≡ true
unfolding need_of
needs-short = refl

-- The table decodes every byte as the rows have it.
pub decoded-byte : (c : ℕ) {numbers : List ℕ} → numbers ≡ table → c < 256 → decoded numbers c ≡ command_of c
unfolding table
decoded-byte c e h = ap (λ l. decoded l c) e ∙ ap₂ (row c) (ap kind_numbered number ∙ kind-back (kind_of c)) need
  where
    found : get_or (entries 0 256) c 0 ≡ kind_number (kind_of c) * 16 + need_of c
    found = entry_at 0 256 c h ∙ ap entry (omega arith)

    digit : need_of c < 16
    digit = ltb-true (need_of c) 16 (at_each (λ c. ltb (need_of c) 16) 256 needs-short c h)

    number : get_or (entries 0 256) c 0 / 16 ≡ kind_number (kind_of c)
    number = ap (λ n. n / 16) found ∙ omega (arith, digit)

    need : get_or (entries 0 256) c 0 % 16 ≡ need_of c
    need = ap (λ n. n % 16) found ∙ omega (arith, digit)

-- Past the bytes there is no row.
module _ (c : ℕ) (past : 256 ≤ c) where
  pub no_byte : (b : ℕ) → b < 256 → eqb c b ≡ false
  no_byte b h = ne_eqb c b (λ e. omega arith)

  abbrev in_bytes : List Command → Bool
  in_bytes [] = true
  in_bytes (m ∷ ms) = ltb m.code 256 && in_bytes ms

  row-past : (ms : List Command) → in_bytes ms ≡ true → row_of ms c ≡ row c NoEffect 0
  row-past [] e = refl
  row-past (m ∷ ms) e =
      let parts = (and-eq-true_iff (ltb m.code 256) (in_bytes ms)).0 e in
      rw (no_byte m.code (ltb-true m.code 256 parts.0)) (row-past ms parts.1)

  pub kind-past : kind_of c ≡ NoEffect
  unfolding kind_of
  kind-past = ap (λ (m : Command). m.kind) (row-past rows refl)

  pub need-past : need_of c ≡ 0
  unfolding need_of
  need-past = ap (λ (m : Command). m.need) (row-past rows refl)

-- A test that passes at every byte and past them passes at every number.
pub at_all : (f : ℕ → Bool) → below f 256 ≡ true → ((c : ℕ) → 256 ≤ c → f c ≡ true) → (c : ℕ) → f c ≡ true
at_all f e past c = go (ltb c 256) refl
  where
    go : (b : Bool) → ltb c 256 ≡ b → f c ≡ true
    go true i = at_each f 256 e c (ltb-true c 256 i)
    go false i = past c (ltb-false c 256 i)

-- Needs go by kinds.
abbrev pub need_for : Kind → ℕ
need_for k = cond (is k Caset || is k Raset) 4 (cond (is k Madctl || is k Colmod) 1 (cond (is k Ramctrl) 2 0))

pub need-for : (c : ℕ) → need_of c ≡ need_for (kind_of c)
unfolding kind_of need_of
need-for c = eqb-true (need_of c) (need_for (kind_of c)) (at_all (λ c. eqb (need_of c) (need_for (kind_of c))) refl past c)
  where
    past : (c : ℕ) → 256 ≤ c → eqb (need_of c) (need_for (kind_of c)) ≡ true
    past c h = rw (kind-past c h, need-past c h)

-- A kind that one byte has, at that byte and no other.
pub equal : (a b : Bool) → beq a b ≡ true → a ≡ b
equal true true e = refl
equal true false e = absurd (false≢true e)
equal false true e = absurd (false≢true e)
equal false false e = refl

abbrev told : Kind → ℕ → ℕ → Bool
told j b c = beq (is (kind_of c) j) (eqb c b)

of-byte : (j : Kind) (b : ℕ) → below (told j b) 256 ≡ true → is NoEffect j ≡ false → b < 256 → (c : ℕ) → is (kind_of c) j ≡ eqb c b
of-byte j b computed idle h c = equal (is (kind_of c) j) (eqb c b) (at_all (told j b) computed (λ c p. rw (kind-past c p, idle, no_byte c p b h)) c)

pub is-swreset : (c : ℕ) → is (kind_of c) Swreset ≡ eqb c 0x01
unfolding kind_of
is-swreset = of-byte Swreset 0x01 refl refl (omega arith)

pub is-slpin : (c : ℕ) → is (kind_of c) Slpin ≡ eqb c 0x10
unfolding kind_of
is-slpin = of-byte Slpin 0x10 refl refl (omega arith)

pub is-slpout : (c : ℕ) → is (kind_of c) Slpout ≡ eqb c 0x11
unfolding kind_of
is-slpout = of-byte Slpout 0x11 refl refl (omega arith)

pub is-invoff : (c : ℕ) → is (kind_of c) Invoff ≡ eqb c 0x20
unfolding kind_of
is-invoff = of-byte Invoff 0x20 refl refl (omega arith)

pub is-invon : (c : ℕ) → is (kind_of c) Invon ≡ eqb c 0x21
unfolding kind_of
is-invon = of-byte Invon 0x21 refl refl (omega arith)

pub is-dispoff : (c : ℕ) → is (kind_of c) Dispoff ≡ eqb c 0x28
unfolding kind_of
is-dispoff = of-byte Dispoff 0x28 refl refl (omega arith)

pub is-dispon : (c : ℕ) → is (kind_of c) Dispon ≡ eqb c 0x29
unfolding kind_of
is-dispon = of-byte Dispon 0x29 refl refl (omega arith)

pub is-caset : (c : ℕ) → is (kind_of c) Caset ≡ eqb c 0x2A
unfolding kind_of
is-caset = of-byte Caset 0x2A refl refl (omega arith)

pub is-raset : (c : ℕ) → is (kind_of c) Raset ≡ eqb c 0x2B
unfolding kind_of
is-raset = of-byte Raset 0x2B refl refl (omega arith)

pub is-ramwr : (c : ℕ) → is (kind_of c) Ramwr ≡ eqb c 0x2C
unfolding kind_of
is-ramwr = of-byte Ramwr 0x2C refl refl (omega arith)

pub is-madctl : (c : ℕ) → is (kind_of c) Madctl ≡ eqb c 0x36
unfolding kind_of
is-madctl = of-byte Madctl 0x36 refl refl (omega arith)

pub is-colmod : (c : ℕ) → is (kind_of c) Colmod ≡ eqb c 0x3A
unfolding kind_of
is-colmod = of-byte Colmod 0x3A refl refl (omega arith)

pub is-ramwrc : (c : ℕ) → is (kind_of c) Ramwrc ≡ eqb c 0x3C
unfolding kind_of
is-ramwrc = of-byte Ramwrc 0x3C refl refl (omega arith)

pub is-ramctrl : (c : ℕ) → is (kind_of c) Ramctrl ≡ eqb c 0xB0
unfolding kind_of
is-ramctrl = of-byte Ramctrl 0xB0 refl refl (omega arith)
