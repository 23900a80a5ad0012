-- Same states look and print the same: the views, the boot comparison and the report.
use Prim.Native.Nat.{ℕ, ◌+◌}
use mathlib.Core.Path.{◌≡◌, refl, sym, ap, ◌∙◌}
use mathlib.Core.Bool.{Bool, true, false, cond, not, ◌&&◌, ◌||◌}
use mathlib.Core.List.{List, [], ◌∷◌, ◌++◌, map}
use lib.Dec.{eqb}
use Rattle.lists.specs.Fixed.{used}
use Rattle.lists.specs.Params.{listed, same_numbers, differ}
use Rattle.lists.specs.declared.TraceRecord.{TraceRecord}
use Rattle.sequence.specs.Sequence.{boot_sequence}
use Rattle.sequence.specs.declared.BootStep.{BootStep}
use Rattle.boot.specs.Boot.{fits, compared_from, compared, answered, step_of}
use Rattle.boot.specs.declared.BootCheck.{BootCheck}
use Rattle.boot.specs.declared.BootCheck.TheVariants.{Match, Differs, Missing}
use Rattle.lines.specs.Lines.{ascii, texts, numbers, hex_bytes, newline}
use Rattle.listing.specs.Listing.{warning_line, trace_line}
use Rattle.report.specs.Report.{state_lines, report}
use Rattle.st7789.specs.Parts.{trace_of}
use Rattle.st7789.specs.declared.St7789p3.{St7789p3}
use Rattle.views.specs.Views.{light_of, pixel_seen, frame_seen}
use Rattle.light.specs.declared.FrameView.{FrameView}
use Rattle.laws.specs.Same.{Entry, entry, Content, content, Same}

-- The trace beside the boot table: which step differs is told by the content, and so is a line of the trace.
abbrev fits_in : BootStep → Entry → Bool
fits_in s x =
    eqb s.cmd x.cmd
    && not (not (eqb s.params.count x.params.count) || not (same_numbers (listed s.params) x.params.part))

check_in : ℕ → List BootStep → List Entry → BootCheck
check_in k [] es = Match
check_in k (s ∷ steps) [] = Missing k
check_in k (s ∷ steps) (x ∷ es) = cond (fits_in s x) (check_in (k + 1) steps es) (Differs k)

check-told : (k : ℕ) (steps : List BootStep) (l : List TraceRecord) → (compared_from k steps l).check ≡ check_in k steps (map entry l)
unfolding compared_from check_in fits differ
check-told k [] l = refl
check-told k (s ∷ steps) [] = refl
check-told k (s ∷ steps) (r ∷ l) = go (fits s r) (check-told (k + 1) steps l)
  where
    go :
        (b : Bool) → (compared_from (k + 1) steps l).check ≡ check_in (k + 1) steps (map entry l) →
        (cond b (compared_from (k + 1) steps l) (answered (Differs k) r)).check ≡ cond b (check_in (k + 1) steps (map entry l)) (Differs k)
    go true e = e
    go false e = refl

abbrev line_in : Entry → List ℕ
line_in x = ascii "t" ++ hex_bytes (x.cmd ∷ []) ++ numbers (x.at ∷ x.pixels ∷ []) ++ hex_bytes x.params.part ++ newline

lines-told : (l : List TraceRecord) → texts trace_line l ≡ texts line_in (map entry l)
unfolding texts trace_line
lines-told [] = refl
lines-told (r ∷ l) = ap (λ t. line_in (entry r) ++ t) (lines-told l)

abbrev report_in : Content → List ℕ
report_in v =
    state_lines v.fields (step_of (check_in 1 boot_sequence v.trace))
    ++ texts warning_line v.warnings
    ++ texts line_in v.trace

report-told : (s : St7789p3) → report s ≡ report_in (content s)
unfolding report state_lines
report-told s i =
    state_lines s.controller (step_of (check-told 1 boot_sequence (used (trace_of s)) i))
    ++ texts warning_line (content s).warnings
    ++ lines-told (used (trace_of s)) i

module _ (s r : St7789p3) (e : Same s r) where
  pub report-same : report s ≡ report r
  report-same = report-told s ∙ ap report_in e ∙ sym (report-told r)

  -- Which step of the boot table differs.
  pub boot-same : (compared (used (trace_of s))).check ≡ (compared (used (trace_of r))).check
  boot-same =
      check-told 1 boot_sequence (used (trace_of s))
      ∙ ap (λ (v : Content). check_in 1 boot_sequence v.trace) e
      ∙ sym (check-told 1 boot_sequence (used (trace_of r)))

  -- A pixel and a whole view.
  pub pixel-same :
      (view : FrameView) (x y : ℕ) (memory : List ℕ) → pixel_seen view s.controller x y memory ≡ pixel_seen view r.controller x y memory
  unfolding pixel_seen light_of
  pixel-same view x y memory = ap (λ v. pixel_seen view v.fields x y memory) e

  pub frame_same :
      (view : FrameView) (memory buffer : List ℕ) → frame_seen view s.controller memory buffer ≡ frame_seen view r.controller memory buffer
  unfolding frame_seen light_of
  frame_same view memory buffer = ap (λ v. frame_seen view v.fields memory buffer) e
