-- What a publish does to each pixel of the frame, and to the panel.
use Rattle.std.specs.Prelude.{Option, Some, None}
use Prim.Native.Nat.{ℕ, ◌+◌, ◌-◌, ◌*◌, ◌/◌, ◌%◌, ◌≤◌, ◌<◌}
use mathlib.Core.Path.{◌≡◌, refl, sym, ap, ◌∙◌}
use mathlib.Core.Bool.{Bool, true, false, cond, ◌&&◌}
use mathlib.Core.List.{List}
use native.Mathlib.Omega.{arith}
use borrow.Author.Tests.{leb-true, leb-false}
use lib.Dec.{leb, eqb}
use lib.ListN.{length, get_or, length-append, length-take, length-drop}
use lib.Seq.{ext_get_or}
use Rattle.marks.specs.Rows.{in_span, no_rows, is_marked, span_of, span_bad, marks_bad}
use Rattle.marks.specs.declared.Marks.{Marks}
use Rattle.marks.proofs.Laws.{marked-span, bad-span}
use Rattle.st7789.specs.declared.St7789p3.{St7789p3}
use Rattle.publishing.specs.Publish.{copied, span_copied, published}
use Rattle.publishing.proofs.Copies.{stretch, copied-stretch, before, between, after}
use Rattle.publishing.proofs.Refusing.{span-rows, remarked}

module _ (memory frame : List ℕ) (m : length memory ≡ 76800) (f : length frame ≡ 76800) where
  -- A row of first to last is memory's, any other the frame's own.
  module _ (first last : ℕ) (up : first ≤ last) (inside : last < 320) (row column : ℕ) (h : column < 240) where
    room : first * 240 + (last + 1 - first) * 240 ≤ 76800
    room = omega (arith, up, inside)

    by_tests :
        (a b : Bool) → leb first row ≡ a → leb row last ≡ b →
        get_or (stretch (first * 240) ((last + 1 - first) * 240) memory frame) (row * 240 + column) 0 ≡
        cond (a && b) (get_or memory (row * 240 + column) 0) (get_or frame (row * 240 + column) 0)
    by_tests true true p q =
        between (first * 240) ((last + 1 - first) * 240) memory frame m f room (row * 240 + column) (omega (arith, leb-true first row p, h))
        (omega (arith, leb-true row last q, up, h))
    by_tests true false p q =
        after (first * 240) ((last + 1 - first) * 240) memory frame m f room (row * 240 + column) (omega (arith, leb-false row last q, up))
    by_tests false b p q =
        before (first * 240) ((last + 1 - first) * 240) memory frame m f room (row * 240 + column) (omega (arith, leb-false first row p, h))

    row_copied :
        get_or (copied first last memory frame) (row * 240 + column) 0 ≡
        cond (in_span row (Some (first, last))) (get_or memory (row * 240 + column) 0) (get_or frame (row * 240 + column) 0)
    row_copied = ap (λ l. get_or l (row * 240 + column) 0) (copied-stretch first last memory frame up) ∙ by_tests (leb first row) (leb row last) refl refl

  length-spanned : (span : Option (ℕ × ℕ)) → span_bad span ≡ false → length (span_copied span memory frame) ≡ 76800
  length-spanned None b = f
  length-spanned (Some (first, last)) b =
      let t = span-rows {span = Some (first, last)} {first = first} {last = last} refl refl refl b in
      simp (length-append, length-take, length-drop) (omega (arith, t.0, t.1, m, f))

  -- After publishing, a row in the span is memory's and any other is as before.
  pub row-published :
      (span : Option (ℕ × ℕ)) → span_bad span ≡ false → (row column : ℕ) → column < 240 →
      get_or (span_copied span memory frame) (row * 240 + column) 0 ≡
      cond (in_span row span) (get_or memory (row * 240 + column) 0) (get_or frame (row * 240 + column) 0)
  row-published None b row column h = refl
  row-published (Some (first, last)) b row column h =
      let t = span-rows {span = Some (first, last)} {first = first} {last = last} refl refl refl b in
      row_copied first last t.0 t.1 row column h

  module _ (span : Option (ℕ × ℕ)) (fine : span_bad span ≡ false) where
    abbrev Alike : Type 0
    Alike = (row column : ℕ) → column < 240 → in_span row span ≡ false → get_or frame (row * 240 + column) 0 ≡ get_or memory (row * 240 + column) 0

    picked : (b : Bool) (v w : ℕ) → (b ≡ false → w ≡ v) → cond b v w ≡ v
    picked true v w h = refl
    picked false v w h = h refl

    pixel-alike : Alike → (i : ℕ) → get_or (span_copied span memory frame) i 0 ≡ get_or memory i 0
    pixel-alike same i =
        let e : i / 240 * 240 + i % 240 ≡ i = omega arith in
        let h : i % 240 < 240 = omega arith in
        sym (ap (λ k. get_or (span_copied span memory frame) k 0) e)
        ∙ row-published span fine (i / 240) (i % 240) h
        ∙ picked (in_span (i / 240) span) (get_or memory (i / 240 * 240 + i % 240) 0) (get_or frame (i / 240 * 240 + i % 240) 0) (same (i / 240) (i % 240) h)
        ∙ ap (λ k. get_or memory k 0) e

    -- Where the rows that differ lie in the span, the frame is memory afterwards.
    frame-is-memory : Alike → span_copied span memory frame ≡ memory
    frame-is-memory same = ext_get_or 0 (span_copied span memory frame) memory (length-spanned span fine ∙ sym m) (λ i _. pixel-alike same i)

  -- The same by the marks.
  pub all-copied :
      (m : Marks) → marks_bad m ≡ false →
      ((row column : ℕ) → column < 240 → is_marked m row ≡ false → get_or frame (row * 240 + column) 0 ≡ get_or memory (row * 240 + column) 0) →
      span_copied (span_of m) memory frame ≡ memory
  all-copied m fine same =
      frame-is-memory (span_of m) (sym (bad-span m) ∙ fine) (λ row column h e. same row column h (marked-span m row ∙ e))

-- A publish changes nothing of the panel but the marks.
kept-or-emptied :
    (b : Bool) (s : St7789p3) →
    remarked s.controller.marks (cond b (remarked no_rows s) s) ≡ s
kept-or-emptied true s = refl
kept-or-emptied false s = refl

pub marks-only : (refusal : ℕ) (s : St7789p3) → remarked s.controller.marks (published refusal s) ≡ s
unfolding published
marks-only refusal s = kept-or-emptied (eqb refusal 0) s
