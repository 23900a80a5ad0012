-- What a publish that is not refused may rely on.
use Rattle.std.specs.Prelude.{Option, Some}
use Prim.Native.Nat.{ℕ, ◌≤◌, ◌<◌}
use mathlib.Core.Path.{◌≡◌, refl, sym, ap, ◌∙◌}
use mathlib.Core.Bool.{false}
use native.Mathlib.Omega.{arith}
use borrow.Author.Tests.{eq-eqb, ltb-false}
use lib.Dec.{ltb}
use lib.ListN.{get_or}
use Rattle.marks.specs.Rows.{span_of, span_bad}
use Rattle.marks.specs.declared.Marks.{Marks}
use Rattle.marks.proofs.Laws.{bad-span}
use Rattle.std.proofs.lemmas.Bool.{or_parts}
use Rattle.st7789.specs.Parts.{with_controller, with_marks}
use Rattle.st7789.specs.Refusals.{bad_state}
use Rattle.status.specs.Tests.{publish_row}
use Rattle.status.proofs.Rows.{passing, each-passes}
use Rattle.st7789.specs.declared.St7789p3.{St7789p3}
use Rattle.st7789.proofs.Tests.{clause}
use Rattle.publishing.specs.Publish.{publish_refusal}

-- A span that is not bad has rows of the panel, first to last.
pub span-rows : {span : Option (ℕ × ℕ)} {first last a b : ℕ} → span ≡ Some (first, last) → a ≡ first → b ≡ last → span_bad span ≡ false → (a ≤ b) × (b < 320)
span-rows {span} {first} {last} {a} {b} e ea eb h =
    let t = or_parts (ltb last first) (ltb 319 last) (sym (ap span_bad e) ∙ h) in
    let k = ltb-false last first t.0 in
    let l = ltb-false 319 last t.1 in
    (omega arith, omega arith)

module _ (s : St7789p3) (cells room : ℕ) where
  pub none-bad : bad_state s ≡ false → cells ≡ 76800 → room ≡ 76800 → publish_refusal s cells room ≡ 0
  unfolding publish_refusal
  none-bad e m h = rw (e, eq-eqb cells 76800 m, eq-eqb room 76800 h)

  none-refused : publish_refusal s cells room ≡ 0 → (i : ℕ) → (get_or (publish_row (bad_state s) cells room) i passing).refuses ≡ false
  unfolding publish_refusal
  none-refused = each-passes (publish_row (bad_state s) cells room) refl

  -- The span of a panel that is not refused has rows of the panel.
  pub span-right : publish_refusal s cells room ≡ 0 → span_bad (span_of s.controller.marks) ≡ false
  span-right e = sym (bad-span s.controller.marks) ∙ clause s (none-refused e 0) 7

-- The panel with other marks.
abbrev pub remarked : Marks → St7789p3 → St7789p3
remarked m s = with_controller (with_marks m s.controller) s
