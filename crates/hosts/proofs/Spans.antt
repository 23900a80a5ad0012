-- The smallest span that holds the rows stored to.
use Rattle.std.specs.Prelude.{Option, Some, None}
use Prim.Native.Nat.{ℕ, ◌≤◌, min, max}
use mathlib.Core.Path.{◌≡◌, refl, ap, ◌∙◌}
use mathlib.Core.Logic.{⊎_elim}
use mathlib.Core.Bool.{Bool, true, false}
use mathlib.Core.List.Memᴰ
use mathlib.Core.List.{List, [], ◌∷◌, ◌++◌, Memᴰ}
use native.Mathlib.Omega.{arith}
use borrow.Author.Tests.{leb-true, leb-false}
use lib.Dec.{leb}
use Rattle.marks.specs.Rows.{widened, no_rows, all_rows, mark, span_of}
use Rattle.marks.specs.declared.Marks.{Marks}
use Rattle.marks.proofs.Laws.{span_none, span-mark, mark-all}
use Rattle.hosts.specs.Hosts.{nothing_since, Smallest, Hull, Marked}

-- The smallest is no larger than any span that holds the rows.
pub smallest-least :
    (first last f l : ℕ) (rows : List ℕ) → Smallest first last rows → ((r : ℕ) → Memᴰ r rows → (f ≤ r) × (r ≤ l)) →
    (f ≤ first) × (last ≤ l)
smallest-least first last f l rows s h = ((h first s.first-among).0, (h last s.last-among).1)

-- One row more in the smallest span.
hull-mark : (r : ℕ) (d : Option (ℕ × ℕ)) (rows : List ℕ) → Hull d rows → Hull (widened d r) (rows ++ (r ∷ []))
hull-mark r None rows h =
    rw h
    (record {
      holds = λ x m. let e = Memᴰ.eq_of_singleton m in (omega arith, omega arith);
      first-among = Memᴰ.head refl;
      last-among = Memᴰ.head refl;
    })
hull-mark r (Some (f, l)) rows h =
    record {
      holds = λ x m.
          ⊎_elim (λ k. let i = h.holds x k in (omega arith, omega arith)) (λ k. let e = Memᴰ.eq_of_singleton k in (omega arith, omega arith))
          (Memᴰ.append_cases rows m);
      first-among = lower (leb f r) refl;
      last-among = upper (leb r l) refl;
    }
  where
    new : Memᴰ r (rows ++ (r ∷ []))
    new = Memᴰ.append_right rows (Memᴰ.head refl)

    lower : (t : Bool) → leb f r ≡ t → Memᴰ (min f r) (rows ++ (r ∷ []))
    lower true e = let k = leb-true f r e in Memᴰ.cast (omega arith) (Memᴰ.append_left (r ∷ []) h.first-among)
    lower false e = let k = leb-false f r e in Memᴰ.cast (omega arith) new

    upper : (t : Bool) → leb r l ≡ t → Memᴰ (max l r) (rows ++ (r ∷ []))
    upper true e = let k = leb-true r l e in Memᴰ.cast (omega arith) (Memᴰ.append_left (r ∷ []) h.last-among)
    upper false e = let k = leb-false r l e in Memᴰ.cast (omega arith) new

pub marked-mark :
    (r : ℕ) (m : Marks) (all : Bool) (rows : List ℕ) → r ≤ 319 → Marked m (record { all = all; rows = rows }) →
    Marked (mark m r) (record { all = all; rows = rows ++ (r ∷ []) })
marked-mark r m true rows b e = ap (λ k. mark k r) e ∙ mark-all r b
marked-mark r m false rows b h = rw (span-mark m r) (hull-mark r (span_of m) rows h)

-- Nothing marked, and all rows marked.
pub none-marked : Marked no_rows nothing_since
none-marked = rw span_none refl

pub all-marked : (rows : List ℕ) → Marked all_rows (record { all = true; rows = rows })
all-marked rows = refl
