-- The refusal of a transfer, by what the code looks at; and BAD_STATE, from "not bad" to each clause and back.
use Rattle.std.specs.Prelude.{Option, Some, None}
use Prim.Native.Nat.{ℕ, ◌+◌, ◌≤◌, ◌<◌, min}
use mathlib.Core.Path.{◌≡◌, refl, sym, ap, ap₂, ◌∙◌}
use mathlib.Core.Bool.{Bool, true, false, not, ◌||◌}
use mathlib.Core.List.{List}
use native.Mathlib.Omega.{arith}
use borrow.Author.Tests.{lt-ltb, le-ltb, eqb-true, ltb-false, not-false}
use lib.ListN.{length, get_or, set, take, length-take}
use lib.Seq.{set-get_or, get_or-take}
use lib.Dec.{eqb}
use Rattle.lists.specs.Fixed.{Fixed, places}
use Rattle.lists.specs.Params.{differ}
use Rattle.lists.specs.Entries.{some, stored_long, record_long}
use Rattle.lists.specs.declared.Params.{Params}
use Rattle.lists.specs.declared.TraceRecord.{TraceRecord}
use Rattle.std.proofs.lemmas.Bool.{or_parts}
use Rattle.lists.proofs.Scanning.{Gather, gather-first, gather-next}
use Rattle.lists.proofs.Somes.{each-fails, none_passes, one_passes}
use Rattle.lists.proofs.Somes as somes
use Rattle.status.specs.Tests.{first, transfer_row}
use Rattle.st7789.specs.Parts.{trace_of}
use Rattle.st7789.specs.Data.{no_record, on_current}
use Rattle.st7789.specs.Places.{current_place, wrong_for, held_for, if_current, judged_for}
use Rattle.st7789.specs.Refusals.{count_bad, current_bad, itself, clauses, clauses_of, bad_state, pixels_held, counts_of, transfer_refusal}
use Rattle.st7789.specs.Room.{Placed}
use Rattle.st7789.specs.declared.St7789p3.{St7789p3}

pub clause : (s : St7789p3) → bad_state s ≡ false → (i : ℕ) → get_or (clauses_of s) i false ≡ false
unfolding bad_state
clause s e i = each-fails itself (clauses_of s) e i false refl

pub not-bad : (s : St7789p3) → somes.None itself (clauses_of s) → bad_state s ≡ false
unfolding bad_state
not-bad s h = none_passes itself (clauses_of s) h

place_here : (i : ℕ) → i < places → current_place (Some i) ≡ i
place_here i h = rw (lt-ltb i places h)

module _ (i : ℕ) {k : Option ℕ} {at : ℕ} (ek : k ≡ Some i) (ea : at ≡ min i places) where
  pub place-free : at < places → at ≡ current_place k
  place-free h = rw (ek, lt-ltb i places (omega (arith, ea, h))) (omega (arith, ea, h))

  pub place_none : places ≤ at → 0 ≡ current_place k
  place_none h = rw (ek, le-ltb i places (omega (arith, ea, h)))

-- A record that is not at its place is not the last used one.
wrong-here :
    (k : Option ℕ) (trace : Fixed TraceRecord) (q : Params) (at : ℕ) → trace.count ≤ places → at ≡ current_place k →
    wrong_for k trace.count (get_or trace.places at no_record).params q ≡ current_bad k trace q
wrong-here None trace q at h e = refl
wrong-here (Some i) trace q at h e = by-test (eqb (i + 1) trace.count) refl
  where
    by-test :
        (b : Bool) → eqb (i + 1) trace.count ≡ b →
        wrong_for (Some i) trace.count (get_or trace.places at no_record).params q ≡ current_bad (Some i) trace q
    by-test true eb =
        let g : i + 1 ≡ trace.count = eqb-true (i + 1) trace.count eb in
        let l : i < 128 = omega (arith, g, h) in
        ap (λ j. not (eqb (i + 1) trace.count) || differ (get_or trace.places j no_record).params q) (e ∙ place_here i l)
    by-test false eb = rw eb

pub held-here :
    (k : Option ℕ) (records : List TraceRecord) (at : ℕ) → Placed k → at ≡ current_place k →
    held_for k (get_or records at no_record).pixel_bytes ≡ pixels_held k records
held-here None records at h e = refl
held-here (Some i) records at h e = ap (λ j. (get_or records j no_record).pixel_bytes) (e ∙ place_here i h)

-- What stands at the place is stored back, changed where it is current.
pub put-here :
    (f : TraceRecord → TraceRecord) (k : Option ℕ) (records : List TraceRecord) (at : ℕ) (r : TraceRecord) → Placed k → at ≡ current_place k →
    r ≡ if_current f k (get_or records at no_record) → set records at r ≡ on_current f k records
put-here f None records at r h e er = ap (set records at) er ∙ set-get_or records at no_record
put-here f (Some i) records at r h e er = ap (set records at) er ∙ ap (λ j. set records j (f (get_or records j no_record))) (e ∙ place_here i h)

-- The scan of the used records.
module _ (records : List TraceRecord) (n : ℕ) {used : ℕ} (eu : used ≡ min n places) where
  pub scan-start : length records ≡ places → Gather record_long (take used records) false used false 0
  scan-start h = gather-first (rw length-take (omega (arith, eu, h)))

  pub scan-on :
      {long : Bool} {j : ℕ} → Gather record_long (take used records) false used long j → j < used →
      Gather record_long (take used records) false used (long || record_long (get_or records j no_record)) (j + 1)
  scan-on {long} {j} u h = rw (get_or-take used records j no_record h) at (gather-next u no_record h)

-- In a state that is not bad the current record is a place of the list.
placed : (k : Option ℕ) (trace : Fixed TraceRecord) (q : Params) → trace.count ≤ places → current_bad k trace q ≡ false → Placed k
placed None trace q h e = tt
placed (Some i) trace q h e =
    let g : i + 1 ≡ trace.count = eqb-true (i + 1) trace.count (not-false (eqb (i + 1) trace.count) (or_parts _ _ e).0) in
    omega arith

pub current-placed : (s : St7789p3) → bad_state s ≡ false → Placed s.controller.logs.current
current-placed s e =
    placed s.controller.logs.current (trace_of s) s.controller.chip.decoder.params
    (ltb-false places s.controller.logs.traced (clause s e 5)) (clause s e 8)

module _
    (s : St7789p3) {stored long : Bool} {used at : ℕ} (es : stored ≡ some stored_long s.stored)
    (eu : used ≡ min s.controller.logs.traced places) (el : long ≡ some record_long (take used s.records))
    (ea : at ≡ current_place s.controller.logs.current)
  where
    abbrev wrong : Bool
    wrong =
        wrong_for s.controller.logs.current s.controller.logs.traced (get_or s.records at no_record).params
        s.controller.chip.decoder.params

    pub bad-told : some itself (clauses s.controller stored long wrong) ≡ bad_state s
    unfolding bad_state
    bad-told = by-test (count_bad s.controller.logs.traced) refl
      where
        by-test :
            (b : Bool) → count_bad s.controller.logs.traced ≡ b →
            some itself (clauses s.controller stored long wrong) ≡ some itself (clauses_of s)
        by-test true e =
            one_passes itself (clauses s.controller stored long wrong) 5 false refl e
            ∙ sym (one_passes itself (clauses_of s) 5 false refl e)
        by-test false e =
            let h : s.controller.logs.traced ≤ 128 = ltb-false 128 s.controller.logs.traced e in
            let n : used ≡ s.controller.logs.traced = omega (arith, eu) in
            ap (λ b. some itself (clauses s.controller b long wrong)) es
            ∙ ap₂ (λ r w. some itself (clauses s.controller (some stored_long s.stored) r w))
            (el ∙ ap (λ n. some record_long (take n s.records)) n)
            (wrong-here s.controller.logs.current (trace_of s) s.controller.chip.decoder.params at h ea)

pub refused :
    (s : St7789p3) (cells n : ℕ) {at held x : ℕ} {bad : Bool} → at ≡ current_place s.controller.logs.current → bad ≡ bad_state s →
    held ≡ held_for s.controller.logs.current (get_or s.records at no_record).pixel_bytes →
    x ≡ judged_for s.controller bad held cells n → x ≡ transfer_refusal s cells n
unfolding transfer_refusal
refused s cells n {at} {held} {x} {bad} ea eb eh e =
    e ∙ ap (λ b. judged_for s.controller b held cells n) eb ∙ by-test (bad_state s) refl
  where
    by-test :
        (y : Bool) → bad_state s ≡ y →
        judged_for s.controller (bad_state s) held cells n ≡ first (transfer_row (bad_state s) cells n (counts_of s))
    by-test true y = rw y
    by-test false y =
        ap (λ m. judged_for s.controller (bad_state s) m cells n)
        (eh ∙ held-here s.controller.logs.current s.records at (current-placed s y) ea)
