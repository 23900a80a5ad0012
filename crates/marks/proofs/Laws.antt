-- The laws of the marks: what is marked after a row more, the span, and when they are good. With these nothing else has to look into them.
use Rattle.std.specs.Prelude.{Option, Some, None}
use Prim.Native.Nat.{ℕ, ◌≤◌, min, max}
use mathlib.Core.Path.{◌≡◌, refl, ap}
use mathlib.Core.Bool.{false}
use native.Mathlib.Omega.{arith}
use Rattle.std.proofs.lemmas.Bool.Decides.{nat_tests}
use Rattle.marks.specs.declared.Marks.{Marks}
use Rattle.marks.specs.Rows.{widened, in_span, no_rows, all_rows, mark, is_marked, span_of, span_bad, marks_bad}

-- Equal ends, equal spans.
rows_same : {a b c d : ℕ} → a ≡ c → b ≡ d → ◌≡◌ {A = Option (ℕ × ℕ)} (Some (a, b)) (Some (c, d))
rows_same e f = cc

-- first and last
pub span_none : span_of no_rows ≡ None
unfolding span_of no_rows
span_none = refl

pub span-all : span_of all_rows ≡ Some (0, 319)
unfolding span_of all_rows
span-all = refl

pub span-mark : (m : Marks) (row : ℕ) → span_of (mark m row) ≡ widened (span_of m) row
unfolding span_of mark
span-mark m row = refl

pub marked-span : (m : Marks) (row : ℕ) → is_marked m row ≡ in_span row (span_of m)
unfolding is_marked span_of
marked-span m row = refl

-- good marks stay good
pub bad-span : (m : Marks) → marks_bad m ≡ span_bad (span_of m)
unfolding marks_bad span_of
bad-span m = refl

in_order : (first last row : ℕ) → row ≤ 319 → span_bad (Some (first, last)) ≡ false → span_bad (widened (Some (first, last)) row) ≡ false
in_order first last row h g = grind (arith, nat_tests)

one_row : (row : ℕ) → row ≤ 319 → span_bad (Some (row, row)) ≡ false
one_row row h = grind (arith, nat_tests)

widened-good : (s : Option (ℕ × ℕ)) (row : ℕ) → row ≤ 319 → span_bad s ≡ false → span_bad (widened s row) ≡ false
widened-good None row h g = one_row row h
widened-good (Some (first, last)) row h g = in_order first last row h g

pub mark-good : (m : Marks) (row : ℕ) → row ≤ 319 → marks_bad m ≡ false → marks_bad (mark m row) ≡ false
unfolding marks_bad mark
mark-good m row h g = widened-good m.span row h g

pub none-good : marks_bad no_rows ≡ false
unfolding marks_bad no_rows
none-good = refl

pub all-good : marks_bad all_rows ≡ false
unfolding marks_bad all_rows
all-good = refl

-- A row that is not marked after one more was not marked before, and is not that one.
not_before : (first last row r : ℕ) → in_span r (widened (Some (first, last)) row) ≡ false → in_span r (Some (first, last)) ≡ false
not_before first last row r e = grind (arith, nat_tests)

not_that : (first last row r : ℕ) → in_span r (widened (Some (first, last)) row) ≡ false → r ≡ row → ⊥
not_that first last row r e i = grind (arith, nat_tests)

not_one : (row r : ℕ) → in_span r (Some (row, row)) ≡ false → r ≡ row → ⊥
not_one row r e i = grind (arith, nat_tests)

out-widened : (s : Option (ℕ × ℕ)) (row r : ℕ) → in_span r (widened s row) ≡ false → (in_span r s ≡ false) × (r ≡ row → ⊥)
out-widened None row r e = (refl, not_one row r e)
out-widened (Some (first, last)) row r e = (not_before first last row r e, not_that first last row r e)

pub out-mark : (m : Marks) (row r : ℕ) → is_marked (mark m row) r ≡ false → (is_marked m r ≡ false) × (r ≡ row → ⊥)
unfolding is_marked mark
out-mark m row r e = out-widened m.span row r e

-- With every row marked none of the panel is left.
pub past_all : (r : ℕ) → is_marked all_rows r ≡ false → 320 ≤ r
unfolding is_marked all_rows
past_all r e = grind (arith, nat_tests)

pub mark-all : (row : ℕ) → row ≤ 319 → mark all_rows row ≡ all_rows
unfolding mark all_rows
mark-all row h = ap (λ s. record { span = s }) (rows_same (omega arith) (omega arith))

-- Rows on the way between two add nothing to them.
pub record Between (a b c : ℕ) : Type 0 where
  pub low : min a c ≤ b
  pub high : b ≤ max a c

widened-again : (s : Option (ℕ × ℕ)) (a : ℕ) → widened s a ≡ widened (widened s a) a
widened-again None a = rows_same (omega arith) (omega arith)
widened-again (Some (first, last)) a = rows_same (omega arith) (omega arith)

widened-between : (s : Option (ℕ × ℕ)) (a b c : ℕ) → Between a b c → widened (widened (widened s a) b) c ≡ widened (widened s a) c
widened-between None a b c h = rows_same (omega (arith, h.low, h.high)) (omega (arith, h.low, h.high))
widened-between (Some (first, last)) a b c h = rows_same (omega (arith, h.low, h.high)) (omega (arith, h.low, h.high))

pub mark-again : (m : Marks) (a : ℕ) → mark m a ≡ mark (mark m a) a
unfolding mark
mark-again m a = ap (λ s. record { span = s }) (widened-again m.span a)

pub mark-between : (m : Marks) (a b c : ℕ) → Between a b c → mark (mark (mark m a) b) c ≡ mark (mark m a) c
unfolding mark
mark-between m a b c h = ap (λ s. record { span = s }) (widened-between m.span a b c h)
