-- From a good state every accepted call leaves a good state, so BAD_STATE never arises from a fresh panel.
use Rattle.std.specs.Prelude.{Option, Some, None}
use Prim.Native.Nat.{ℕ, ◌+◌, ◌≤◌}
use mathlib.Core.Path.{◌≡◌, refl, sym, ap, ◌∙◌}
use mathlib.Core.Bool.{Bool, true, false, cond, true≢false}
use mathlib.Core.List.{List, [], ◌∷◌}
use native.Mathlib.Omega.{arith}
use borrow.Author.Tests.{ltb-true, ltb-false, le-ltb}
use lib.Dec.{ltb}
use lib.ListN.{length, set}
use Rattle.marks.specs.Rows.{marks_bad}
use Rattle.formats.specs.Formats.{carry_bad}
use Rattle.formats.specs.declared.Format.TheVariants.{HighFirst}
use Rattle.formats.proofs.Waiting.{carry-good, few-good}
use Rattle.pixels.specs.Run.{walk_after}
use Rattle.pixels.specs.declared.Walk.{Walk}
use Rattle.pixels.proofs.Bounds.{walk-within, marked-good}
use Rattle.chip.specs.Site.{format_in, site_of}
use Rattle.codes.specs.Codes.{kind_of, command_of, is_stored, place_of}
use Rattle.lists.specs.Fixed.{Fixed, places}
use Rattle.lists.specs.Params.{no_params, filled, differ, too_long}
use Rattle.lists.specs.Entries.{some, stored_long}
use Rattle.lists.specs.declared.Params.{Params}
use Rattle.lists.specs.declared.Stored.{Stored}
use Rattle.lists.specs.declared.TraceRecord.{TraceRecord}
use Rattle.lists.proofs.Somes.{none-set}
use Rattle.lists.proofs.Fixed.{count-all, places-all}
use Rattle.lists.proofs.Filling.{count-filled, length-filled}
use Rattle.lists.proofs.Alike.{params_same, filled-alike}
use Rattle.chip.specs.Begin.{chip_begun, chip_released}
use Rattle.chip.specs.Apply.{chip_taken}
use Rattle.chip.specs.declared.Chip.{Chip}
use Rattle.chip.proofs.Bounds.{ChipWithin, begun-within, released-within, taken-within}
use Rattle.chip.proofs.Cuts.{taken-params}
use Rattle.chip.proofs.Stays.{begun-waits, begun-idle, taken-walk}
use Rattle.st7789.specs.Parts.{trace_of, warnings_of}
use Rattle.st7789.specs.Command.{warnings_for, linted, begun_record, begun, begun_all, controller_released, released}
use Rattle.st7789.specs.Data.{more_pixels, more_params, ran, taken, data_in}
use Rattle.st7789.specs.Refusals.{count_bad}
use Rattle.st7789.specs.Entries.{moved}
use Rattle.st7789.specs.declared.Logs.{Logs}
use Rattle.st7789.specs.declared.Controller.{Controller}
use Rattle.st7789.specs.declared.St7789p3.{St7789p3}
use Rattle.st7789.proofs.Tests.{clause, not-bad}
use Rattle.laws.specs.Valid.{Sized, Fine, Good}
use Rattle.laws.proofs.Within.{window-within, within-window, pointer-within, within-pointer}
use Rattle.laws.proofs.DataKinds.{data_by, by_kind}
use Rattle.laws.proofs.Traces.{Lined, unwatched, pushed, changed}

-- A state that is not bad, by its parts: the chip's bounds, the trace, and the rest of the clauses.
pub fine_of : (s : St7789p3) → Good s → Fine s
fine_of s g = record { sized = g.sized; fine = g.fine }

module _ (s : St7789p3) (g : Fine s) where
  pub chip-within : ChipWithin s.controller.chip
  chip-within =
      record {
        window = window-within s.controller.chip.window (clause s g.fine 0);
        pointer = pointer-within s.controller.chip.walk.pointer (clause s g.fine 1);
        params = ltb-false 14 s.controller.chip.decoder.params.count (clause s g.fine 2);
      }

  pub lined : Lined s.controller.logs.current (trace_of s) s.controller.chip.decoder.params
  lined =
      record {
        long = g.sized.records;
        roomy = g.sized.each;
        short = clause s g.fine 4;
        few = clause s g.fine 5;
        current = clause s g.fine 8;
      }

-- Whether more bytes wait than the format in force leaves waiting.
abbrev pub waits_badly : Controller → Bool
waits_badly k = carry_bad (format_in k.cfg.formats k.chip) k.chip.walk.carry

pub put-fine :
    (s : St7789p3) → ChipWithin s.controller.chip → length s.controller.chip.decoder.params.bytes ≡ 14 →
    length s.warnings ≡ places → Lined s.controller.logs.current (trace_of s) s.controller.chip.decoder.params → some stored_long s.stored ≡ false →
    count_bad s.controller.logs.warned ≡ false → marks_bad s.controller.marks ≡ false → waits_badly s.controller ≡ false → Fine s
put-fine s w bytes warnings trace stored warned span waits =
    record {
      sized = record { records = trace.long; bytes = bytes; each = trace.roomy; warnings = warnings };
      fine =
          not-bad s (
            within-window s.controller.chip.window w.window,
            (
              within-pointer s.controller.chip.walk.pointer w.pointer,
              (
                le-ltb 14 s.controller.chip.decoder.params.count w.params,
                (stored, (trace.short, (trace.few, (warned, (span, (trace.current, (waits, tt))))))),
              ),
            ),
          );
    }

pub put-good :
    (s : St7789p3) → Fine s →
    (s.controller.chip.decoder.in_pixels ≡ false → carry_bad HighFirst s.controller.chip.walk.carry ≡ false) → Good s
put-good s f quiet = record { sized = f.sized; fine = f.fine; quiet = quiet }

-- A command begins.
few-warnings : (c t : ℕ) (s : St7789p3) → Fine s → count_bad (linted c t s).count ≡ false
few-warnings c t s g =
    let h : s.controller.logs.warned ≤ places = ltb-false places s.controller.logs.warned (clause s g.fine 6) in
    le-ltb places (linted c t s).count (rw (count-all places (warnings_of s) (warnings_for c t s.controller)) (omega arith))

warnings-long : (c t : ℕ) (s : St7789p3) → length (linted c t s).places ≡ length s.warnings
warnings-long c t s = places-all places (warnings_of s) (warnings_for c t s.controller)

no-params-same : differ no_params no_params ≡ false
no-params-same = params_same no_params no_params refl refl

-- What a begin leaves of the logs and the trace, by whether a place is free.
module _ (c t : ℕ) (s : St7789p3) where
  abbrev pub logs_by : Bool → Logs
  logs_by b =
      cond b (record { traced = s.controller.logs.traced + 1; warned = (linted c t s).count; current = Some s.controller.logs.traced })
      (record { traced = s.controller.logs.traced; warned = (linted c t s).count; current = None })

  abbrev pub trace_by : Bool → Fixed TraceRecord
  trace_by b =
      cond b (record { count = s.controller.logs.traced + 1; places = set s.records s.controller.logs.traced (begun_record c t) }) (trace_of s)

  pub warned-by : (b : Bool) → (logs_by b).warned ≡ (linted c t s).count
  warned-by true = refl
  warned-by false = refl

  pub traced-by : (b : Bool) → (logs_by b).traced ≡ (trace_by b).count
  traced-by true = refl
  traced-by false = refl

  lined-by :
      Fine s → (b : Bool) → ltb s.controller.logs.traced places ≡ b →
      Lined (logs_by b).current (record { count = (logs_by b).traced; places = (trace_by b).places }) no_params
  lined-by g true e = pushed (lined s g) (begun_record c t) no_params (ltb-true s.controller.logs.traced places e) refl refl no-params-same
  lined-by g false e = unwatched (lined s g) no_params

pub begun-fine : (c t : ℕ) (s : St7789p3) → Fine s → Fine (begun c t s)
unfolding begun chip_begun
begun-fine c t s g =
    let b = ltb s.controller.logs.traced places in
    put-fine _ (begun-within (command_of c) t s.controller.chip (chip-within s g)) refl (warnings-long c t s ∙ g.sized.warnings) (lined-by c t s g b refl) (clause s g.fine 3)
    (ap count_bad (warned-by c t s b) ∙ few-warnings c t s g) (clause s g.fine 7)
    (begun-waits (command_of c) t s.controller.chip (format_in s.controller.cfg.formats s.controller.chip) (clause s g.fine 9))

pub all-fine : (t : ℕ) (bytes : List ℕ) (s : St7789p3) → Fine s → Fine (begun_all t bytes s)
all-fine t [] s g = g
all-fine t (c ∷ bytes) s g = all-fine t bytes (begun c t s) (begun-fine c t s g)

pub begun-good : (c t : ℕ) (s : St7789p3) → Good s → Good (begun c t s)
unfolding begun chip_begun
begun-good c t s g =
    put-good _ (begun-fine c t s (fine_of s g))
    (λ off. ap (carry_bad HighFirst) (begun-idle (command_of c) t s.controller.chip off))

pub all-good : (t : ℕ) (bytes : List ℕ) (s : St7789p3) → Good s → Good (begun_all t bytes s)
all-good t [] s g = g
all-good t (c ∷ bytes) s g = all-good t bytes (begun c t s) (begun-good c t s g)

-- Data, by its kind: in a run, lost, or for a command. What is asked of what it leaves, part by part.
module _ (bytes : List ℕ) (s : St7789p3) (g : Fine s) where
  abbrev k : Controller
  k = s.controller

  abbrev p : Params
  p = k.chip.decoder.params

  data-chip : ChipWithin (data_in bytes s).controller.chip
  unfolding ran taken chip_taken walk_after
  data-chip =
      let w = chip-within s g in
      by_kind bytes s (λ run r. ChipWithin r.controller.chip)
      (λ f. record {
        window = w.window;
        pointer = walk-within (site_of k.cfg.formats k.chip) k.chip.walk bytes w.window w.pointer;
        params = w.params;
      })
      w (λ c. taken-within (command_of c) bytes k.chip w)

  data-bytes : length (data_in bytes s).controller.chip.decoder.params.bytes ≡ 14
  unfolding ran taken chip_taken
  data-bytes =
      by_kind bytes s (λ run r. length r.controller.chip.decoder.params.bytes ≡ 14) (λ f. g.sized.bytes) g.sized.bytes
      (λ c. ap (λ x. length x.bytes) (taken-params (command_of c) bytes k.chip) ∙ length-filled p bytes ∙ g.sized.bytes)

  filled-short : (q : Params) → too_long q ≡ false → too_long (filled q bytes) ≡ false
  filled-short q e =
      let h = ltb-false 14 q.count e in le-ltb 14 (filled q bytes).count (rw (count-filled q bytes) (omega arith))

  data-lined :
      Lined (data_in bytes s).controller.logs.current (trace_of (data_in bytes s)) (data_in bytes s).controller.chip.decoder.params
  unfolding ran taken chip_taken
  data-lined =
      by_kind bytes s (λ run r. Lined r.controller.logs.current (trace_of r) r.controller.chip.decoder.params)
      (λ f. changed (more_pixels (length bytes)) (trace_of s) p p (λ r e. e) (λ r e h d. d) (λ r h. h) k.logs.current (lined s g))
      (changed (λ r. r) (trace_of s) p p (λ r e. e) (λ r e h d. d) (λ r h. h) k.logs.current (lined s g))
      (λ c.
      let e = taken-params (command_of c) bytes k.chip in
      changed (more_params bytes) (trace_of s) p (chip_taken (command_of c) bytes k.chip).decoder.params (λ r. filled-short r.params)
      (λ r l h d. ap (differ (filled r.params bytes)) e ∙ filled-alike r.params p bytes (ltb-false 14 r.params.count l) h g.sized.bytes d)
      (λ r h. length-filled r.params bytes ∙ h) k.logs.current (lined s g))

  pub data-sized : Sized (data_in bytes s)
  unfolding data_in
  data-sized = record { records = data-lined.long; bytes = data-bytes; each = data-lined.roomy; warnings = g.sized.warnings }

  -- A stored list is short too, where the command is a stored one.
  stored_short : (b : Bool) (i : ℕ) (e : Stored) → stored_long e ≡ false → some stored_long (cond b (set s.stored i e) s.stored) ≡ false
  stored_short true i e h = none-set stored_long s.stored i e (clause s g.fine 3) h
  stored_short false i e h = clause s g.fine 3

  data-stored : some stored_long (data_in bytes s).stored ≡ false
  data-stored =
      by_kind bytes s (λ run r. some stored_long r.stored ≡ false) (λ f. clause s g.fine 3) (clause s g.fine 3)
      (λ c. stored_short (is_stored (kind_of c)) (place_of (kind_of c)) _ (filled-short p (clause s g.fine 2)))

  data-marks : marks_bad (data_in bytes s).controller.marks ≡ false
  unfolding ran taken
  data-marks =
      by_kind bytes s (λ run r. marks_bad r.controller.marks ≡ false)
      (λ f. marked-good (site_of k.cfg.formats k.chip) k.chip.walk bytes k.marks (clause s g.fine 7)) (clause s g.fine 7)
      (λ c. clause s g.fine 7)

  data-warned : (data_in bytes s).controller.logs.warned ≡ k.logs.warned
  unfolding ran taken
  data-warned = by_kind bytes s (λ run r. r.controller.logs.warned ≡ k.logs.warned) (λ f. refl) refl (λ c. refl)

-- What waits after data: no more than the format leaves waiting, and two bytes in a run alone.
record Waiting (s : St7789p3) : Type 0 where
  waits : waits_badly s.controller ≡ false
  quiet : s.controller.chip.decoder.in_pixels ≡ false → carry_bad HighFirst s.controller.chip.walk.carry ≡ false

data-waiting : (bytes : List ℕ) (s : St7789p3) → Good s → Waiting (data_in bytes s)
unfolding ran taken chip_taken walk_after
data-waiting bytes s g =
    by_kind bytes s (λ run r. s.controller.chip.decoder.in_pixels ≡ run → Waiting r) in-run lost for-command refl
  where
    chip : Chip
    chip = s.controller.chip

    formats : Bool
    formats = s.controller.cfg.formats

    in-run : (f : Option ℕ) → chip.decoder.in_pixels ≡ true → Waiting (data_by true f bytes s)
    in-run f on =
        record {
          waits = carry-good (format_in formats chip) chip.walk.carry bytes (clause s g.fine 9);
          quiet = λ off. absurd (true≢false (sym on ∙ off));
        }

    lost : chip.decoder.in_pixels ≡ false → Waiting (data_by false None bytes s)
    lost off = record { waits = clause s g.fine 9; quiet = g.quiet }

    for-command : (c : ℕ) → chip.decoder.in_pixels ≡ false → Waiting (data_by false (Some c) bytes s)
    for-command c off =
        let few : carry_bad HighFirst (chip_taken (command_of c) bytes chip).walk.carry ≡ false =
        ap (λ (w : Walk). carry_bad HighFirst w.carry) (taken-walk (command_of c) bytes chip) ∙ g.quiet off in
        record {
          waits = few-good (format_in formats (chip_taken (command_of c) bytes chip)) (chip_taken (command_of c) bytes chip).walk.carry few;
          quiet = λ e. few;
        }

pub data-good : (bytes : List ℕ) (s : St7789p3) → Good s → Good (data_in bytes s)
data-good bytes s g =
    let f = fine_of s g in
    let w = data-waiting bytes s g in
    put-good (data_in bytes s)
    (put-fine (data_in bytes s) (data-chip bytes s f) (data-bytes bytes s f) (data-sized bytes s f).warnings (data-lined bytes s f) (data-stored bytes s f)
    (ap count_bad (data-warned bytes s f) ∙ clause s g.fine 6) (data-marks bytes s f) w.waits)
    w.quiet

-- The CS release.
pub released-good : (s : St7789p3) → Good s → Good (released s)
unfolding controller_released chip_released
released-good s g =
    let f = fine_of s g in
    put-good _
    (put-fine _ (released-within s.controller.chip (chip-within s f)) refl g.sized.warnings (unwatched (lined s f) no_params) (clause s g.fine 3)
    (clause s g.fine 6) (clause s g.fine 7) refl)
    (λ off. refl)

released-sized : (cs : Bool) (s : St7789p3) → Sized s → Sized (cond cs (released s) s)
unfolding controller_released chip_released
released-sized true s z = record { records = z.records; bytes = refl; each = z.each; warnings = z.warnings }
released-sized false s z = z

-- A whole transfer.
pub moved-sized : (t : ℕ) (dc : Bool) (bytes : List ℕ) (cs : Bool) (s : St7789p3) → Fine s → Sized (moved t dc bytes cs s)
unfolding moved
moved-sized t true bytes cs s g = released-sized cs (data_in bytes s) (data-sized bytes s g)
moved-sized t false bytes cs s g = released-sized cs (begun_all t bytes s) (all-fine t bytes s g).sized

pub moved-good : (t : ℕ) (dc : Bool) (bytes : List ℕ) (cs : Bool) (s : St7789p3) → Good s → Good (moved t dc bytes cs s)
unfolding moved
moved-good t dc bytes cs s g = go dc cs
  where
    last : (cs : Bool) (r : St7789p3) → Good r → Good (cond cs (released r) r)
    last true r h = released-good r h
    last false r h = h

    go : (dc cs : Bool) → Good (cond cs (released (cond dc (data_in bytes s) (begun_all t bytes s))) (cond dc (data_in bytes s) (begun_all t bytes s)))
    go true cs = last cs (data_in bytes s) (data-good bytes s g)
    go false cs = last cs (begun_all t bytes s) (all-good t bytes s g)
