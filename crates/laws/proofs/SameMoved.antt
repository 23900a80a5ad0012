-- What a transfer leaves of a good state, told by its content alone; so same states stay the same.
use Rattle.std.specs.Prelude.{Some, None, Option}
use Prim.Native.Nat.{ℕ, ◌+◌, ◌≤◌, ◌<◌}
use mathlib.Core.Path.{◌≡◌, refl, sym, ap, ◌∙◌}
use mathlib.Core.Bool.{Bool, true, false, cond}
use mathlib.Core.List.{List, [], ◌∷◌, ◌++◌, map, foldl, map-append}
use borrow.Author.Tests.{ltb-false, eqb-true}
use lib.Dec.{eqb}
use lib.ListN.{length, take, set}
use lib.Seq.{get_or-take}
use Rattle.status.specs.Numbers.{unless_refused}
use Rattle.pixels.specs.Run.{written, no_totals}
use Rattle.codes.specs.Codes.{kind_of, need_of, command_of, is_stored, place_of}
use Rattle.codes.proofs.Bytes.{need_for}
use Rattle.lists.specs.Fixed.{places, used}
use Rattle.lists.specs.Params.{fixed, no_params, filled, excess}
use Rattle.lists.specs.declared.Params.{Params}
use Rattle.lists.specs.declared.Warning.{Warning}
use Rattle.lists.proofs.Fixed.{count-all}
use Rattle.std.proofs.lemmas.List.{map-set}
use Rattle.lists.proofs.Maps.{map-take}
use Rattle.chip.specs.Begin.{chip_begun, chip_released}
use Rattle.chip.specs.Apply.{due, byte_at, chip_filled, chip_applied, applied_if_due, chip_taken}
use Rattle.chip.specs.declared.Chip.{Chip}
use Rattle.chip.proofs.Cuts.{due-enough, window-agrees, registers-agree, taken-params}
use Rattle.st7789.specs.Parts.{trace_of, warnings_of, with_chip, with_counts, with_logs}
use Rattle.st7789.specs.Command.{warnings_for, begun_record, controller_begun, begun, begun_all, controller_released, released}
use Rattle.st7789.specs.Data.{more_pixels, more_params, dropped_added, ran, taken, data_in, stores_in, totals_in}
use Rattle.st7789.specs.Refusals.{transfer_refusal}
use Rattle.st7789.specs.Entries.{moved, transferred, transfer_totals, transfer_memory, bare_transferred}
use Rattle.st7789.specs.declared.Controller.{Controller}
use Rattle.st7789.specs.declared.St7789p3.{St7789p3}
use Rattle.st7789.proofs.Tests.{clause}
use Rattle.st7789.proofs.Accepted.{none-refused}
use Rattle.laws.specs.Valid.{Sized, Fine}
use Rattle.laws.specs.Same.{InUse, in_use, stored_content, Entry, entry, fields_of, Content, content, Same}
use Rattle.laws.proofs.DataKinds.{data_by}
use Rattle.laws.proofs.Stays.{lined, begun-fine}
use Rattle.laws.proofs.Meaning.{warnings-mean, trace-means}
use Rattle.laws.proofs.Stepped.{pushed_in, filled-content, on_entry, current-content}
use Rattle.laws.proofs.Bare.{same-state}
use Rattle.laws.proofs.SameRefused.{refusal_in, refusal-told, refusal-same}

-- A command begins.
-- So many warnings are used.
abbrev warned_by : ℕ → Controller → Controller
warned_by n k = with_logs (record { traced = k.logs.traced; warned = n; current = k.logs.current }) k

abbrev begun_in : ℕ → ℕ → Content → Content
begun_in c t v =
    let w : InUse Warning = pushed_in places (warnings_for c t v.fields) (record { count = v.fields.logs.warned; part = v.warnings }) in
    record {
      fields = fields_of (controller_begun c t (warned_by w.count v.fields));
      params = in_use (fixed no_params);
      stored = v.stored;
      trace = take places (v.trace ++ (entry (begun_record c t) ∷ []));
      warnings = w.part;
    }

begun-content : (c t : ℕ) (s : St7789p3) → Fine s → content (begun c t s) ≡ begun_in c t (content s)
unfolding begun chip_begun
begun-content c t s g i =
    record {
      fields = fields_of (controller_begun c t (warned_by (count-all places (warnings_of s) (warnings_for c t s.controller) i) s.controller));
      params = in_use (fixed no_params);
      stored = map stored_content s.stored;
      trace = traced i;
      warnings = warnings-mean s c t few-warnings g.sized.warnings i;
    }
  where
    few-warnings : s.controller.logs.warned ≤ places
    few-warnings = ltb-false places s.controller.logs.warned (clause s g.fine 6)

    few-records : s.controller.logs.traced ≤ places
    few-records = ltb-false places s.controller.logs.traced (clause s g.fine 5)

    traced : map entry (used (trace_of (begun c t s))) ≡ take places (map entry (used (trace_of s)) ++ (entry (begun_record c t) ∷ []))
    traced =
        ap (map entry) (trace-means s c t few-records g.sized.records)
        ∙ map-take entry places (used (trace_of s) ++ (begun_record c t ∷ []))
        ∙ ap (take places) (map-append entry (used (trace_of s)) (begun_record c t ∷ []))

all-content : (t : ℕ) (bytes : List ℕ) (s : St7789p3) → Fine s → content (begun_all t bytes s) ≡ foldl (λ v c. begun_in c t v) (content s) bytes
all-content t [] s g = refl
all-content t (c ∷ bytes) s g =
    all-content t bytes (begun c t s) (begun-fine c t s g) ∙ ap (λ v. foldl (λ v c. begun_in c t v) v bytes) (begun-content c t s g)

-- Data for a command: what it applies is told by the bytes that came.
abbrev params_of : InUse ℕ → Params
params_of u = record { bytes = u.part; count = u.count }

abbrev with_params : Params → Chip → Chip
with_params p k =
    record {
      registers = k.registers;
      window = k.window;
      walk = k.walk;
      decoder = record { cmd = k.decoder.cmd; params = p; applied = k.decoder.applied; in_pixels = k.decoder.in_pixels };
      times = k.times;
    }

abbrev emptied : Chip → Chip
emptied k = with_params (record { bytes = []; count = k.decoder.params.count }) k

applied-told : (c : ℕ) (k : Chip) → emptied (applied_if_due (command_of c) k) ≡ emptied (applied_if_due (command_of c) (with_params (params_of (in_use (fixed k.decoder.params))) k))
unfolding applied_if_due
applied-told c k = go (due (need_of c) k.decoder) refl
  where
    p : Params
    p = k.decoder.params

    q : Params
    q = params_of (in_use (fixed p))

    go : (b : Bool) → due (need_of c) k.decoder ≡ b → emptied (cond b (chip_applied (kind_of c) k) k) ≡ emptied (cond b (chip_applied (kind_of c) (with_params q k)) (with_params q k))
    go false e = refl
    go true e =
        let h : need_for (kind_of c) ≤ p.count = due-enough c k.decoder e in
        let agree : (i : ℕ) → i < p.count → byte_at q i ≡ byte_at p i = λ i b. get_or-take p.count p.bytes i 0 b in
        rw (window-agrees (kind_of c) p q agree h k.registers.madctl k.window, registers-agree (kind_of c) p q agree h k.registers)

abbrev more_bytes : ℕ → Entry → Entry
more_bytes n x = record { cmd = x.cmd; at = x.at; pixels = x.pixels + n; params = x.params }

abbrev more_listed : List ℕ → Entry → Entry
more_listed bytes x = record { cmd = x.cmd; at = x.at; pixels = x.pixels; params = pushed_in 14 bytes x.params }

-- Data, by its kind.
abbrev data_in' : Bool → Option ℕ → List ℕ → Content → Content
data_in' true f bytes v =
    record {
      fields = ran bytes v.fields;
      params = v.params;
      stored = v.stored;
      trace = on_entry (more_bytes (length bytes)) v.fields.logs.current v.trace;
      warnings = v.warnings;
    }
data_in' false None bytes v =
    record {
      fields = v.fields;
      params = v.params;
      stored = v.stored;
      trace = on_entry (λ x. x) v.fields.logs.current v.trace;
      warnings = v.warnings;
    }
data_in' false (Some c) bytes v =
    let u : InUse ℕ = pushed_in 14 bytes v.params in
    record {
      fields =
          fields_of
          (with_counts (dropped_added (excess v.fields.chip.decoder.params (length bytes)) v.fields.counts)
          (with_chip (applied_if_due (command_of c) (with_params (params_of u) v.fields.chip)) v.fields));
      params = u;
      stored = cond (is_stored (kind_of c)) (set v.stored (place_of (kind_of c)) (Some u)) v.stored;
      trace = on_entry (more_listed bytes) v.fields.logs.current v.trace;
      warnings = v.warnings;
    }

data-content : (run : Bool) (f : Option ℕ) (bytes : List ℕ) (s : St7789p3) → Fine s → content (data_by run f bytes s) ≡ data_in' run f bytes (content s)
unfolding ran taken chip_taken
data-content true f bytes s g = λ i.
    record {
      fields = ran bytes (fields_of s.controller);
      params = in_use (fixed s.controller.chip.decoder.params);
      stored = map stored_content s.stored;
      trace =
          current-content (more_pixels (length bytes)) (more_bytes (length bytes)) (λ x _ _. refl) s.controller.logs.current (trace_of s)
          s.controller.chip.decoder.params (lined s g) i;
      warnings = used (warnings_of s);
    }
data-content false None bytes s g = λ i.
    record {
      fields = fields_of s.controller;
      params = in_use (fixed s.controller.chip.decoder.params);
      stored = map stored_content s.stored;
      trace =
          current-content (λ r. r) (λ x. x) (λ x _ _. refl) s.controller.logs.current (trace_of s)
          s.controller.chip.decoder.params (lined s g) i;
      warnings = used (warnings_of s);
    }
data-content false (Some c) bytes s g = λ i.
    record {
      fields =
          with_counts (dropped_added (excess p (length bytes)) k.counts)
          (with_chip ((applied-told c (chip_filled bytes k.chip) ∙ ap (λ u. emptied (applied_if_due (command_of c) (with_params (params_of u) k.chip))) filled-told) i) k);
      params = (ap (λ x. in_use (fixed x)) (taken-params (command_of c) bytes k.chip) ∙ filled-told) i;
      stored = stored-told (is_stored (kind_of c)) i;
      trace =
          current-content (more_params bytes) (more_listed bytes)
          (λ x short room. ap (λ u. record { cmd = x.cmd; at = x.at; pixels = x.pixel_bytes; params = u })
          (filled-content x.params bytes (ltb-false 14 x.params.count short) room))
          k.logs.current (trace_of s) p (lined s g) i;
      warnings = used (warnings_of s);
    }
  where
    k : Controller
    k = s.controller

    p : Params
    p = k.chip.decoder.params

    filled-told : in_use (fixed (filled p bytes)) ≡ pushed_in 14 bytes (in_use (fixed p))
    filled-told = filled-content p bytes (ltb-false 14 p.count (clause s g.fine 2)) g.sized.bytes

    stored-told :
        (b : Bool) →
        map stored_content (cond b (set s.stored (place_of (kind_of c)) (record { present = true; params = filled p bytes })) s.stored) ≡
        cond b (set (map stored_content s.stored) (place_of (kind_of c)) (Some (pushed_in 14 bytes (in_use (fixed p))))) (map stored_content s.stored)
    stored-told true =
        map-set stored_content s.stored (place_of (kind_of c)) (record { present = true; params = filled p bytes })
        ∙ ap (λ (u : InUse ℕ). set (map stored_content s.stored) (place_of (kind_of c)) (Some u)) filled-told
    stored-told false = refl

-- The CS release.
abbrev released_in : Content → Content
released_in v =
    record {
      fields = fields_of (controller_released v.fields);
      params = in_use (fixed no_params);
      stored = v.stored;
      trace = v.trace;
      warnings = v.warnings;
    }

release-content : (s : St7789p3) → content (released s) ≡ released_in (content s)
unfolding controller_released chip_released
release-content s = refl

-- A whole transfer.
moved_in : ℕ → Bool → List ℕ → Bool → Content → Content
moved_in t dc bytes cs v =
    let w : Content =
    cond dc (data_in' v.fields.chip.decoder.in_pixels v.fields.chip.decoder.cmd bytes v) (foldl (λ v c. begun_in c t v) v bytes)
    in
    cond cs (released_in w) w

moved-content :
    (t : ℕ) (dc : Bool) (bytes : List ℕ) (cs : Bool) (s : St7789p3) → Fine s → content (moved t dc bytes cs s) ≡ moved_in t dc bytes cs (content s)
unfolding moved moved_in data_in
moved-content t dc bytes cs s g = go dc cs
  where
    last : (cs : Bool) (r : St7789p3) (w : Content) → content r ≡ w → content (cond cs (released r) r) ≡ cond cs (released_in w) w
    last true r w e = release-content r ∙ ap released_in e
    last false r w e = e

    go : (dc cs : Bool) → content (moved t dc bytes cs s) ≡ moved_in t dc bytes cs (content s)
    go true cs =
        last cs (data_in bytes s) _ (data-content s.controller.chip.decoder.in_pixels s.controller.chip.decoder.cmd bytes s g)
    go false cs = last cs (begun_all t bytes s) _ (all-content t bytes s g)

module _ (t : ℕ) (dc : Bool) (bytes : List ℕ) (cs : Bool) where
  abbrev transferred_in : ℕ → Content → Content
  transferred_in cells v = unless_refused (refusal_in v cells (length bytes)) (moved_in t dc bytes cs v) v

  transferred-content : (cells : ℕ) (s : St7789p3) → Sized s → content (transferred t dc bytes cs cells s) ≡ transferred_in cells (content s)
  unfolding transferred
  transferred-content cells s z =
      go (eqb (transfer_refusal s cells (length bytes)) 0) refl
      ∙ ap (λ n. unless_refused n (moved_in t dc bytes cs (content s)) (content s)) (refusal-told s cells (length bytes))
    where
      go :
          (b : Bool) → eqb (transfer_refusal s cells (length bytes)) 0 ≡ b →
          content (cond b (moved t dc bytes cs s) s) ≡ cond b (moved_in t dc bytes cs (content s)) (content s)
      go true e =
          moved-content t dc bytes cs s
          (record { sized = z; fine = none-refused s cells (length bytes) (eqb-true (transfer_refusal s cells (length bytes)) 0 e) 0 })
      go false e = refl

  pub transferred-same :
      (s r : St7789p3) → Sized s → Sized r → Same s r → (cells : ℕ) → Same (transferred t dc bytes cs cells s) (transferred t dc bytes cs cells r)
  transferred-same s r z y e cells = transferred-content cells s z ∙ ap (transferred_in cells) e ∙ sym (transferred-content cells r y)

  pub bare-transferred-same :
      (s r : St7789p3) → Sized s → Sized r → Same s r → Same (bare_transferred t dc bytes cs s) (bare_transferred t dc bytes cs r)
  bare-transferred-same s r z y e =
      sym (ap content (same-state t dc bytes cs s)) ∙ transferred-same s r z y e 76800 ∙ ap content (same-state t dc bytes cs r)

-- What is stored.
pub memory-same :
    (s r : St7789p3) → Same s r → (dc : Bool) (bytes memory : List ℕ) → transfer_memory dc bytes memory s ≡ transfer_memory dc bytes memory r
unfolding transfer_memory
memory-same s r e dc bytes memory i =
    unless_refused (refusal-same s r e (length memory) (length bytes) i) (written memory (stores_in dc bytes (e i).fields)) memory

-- What is answered of the pixels.
pub totals-same : (s r : St7789p3) → Same s r → (dc : Bool) (bytes : List ℕ) (cells : ℕ) → transfer_totals dc bytes cells s ≡ transfer_totals dc bytes cells r
unfolding transfer_totals
totals-same s r e dc bytes cells i = unless_refused (refusal-same s r e cells (length bytes) i) (totals_in dc bytes (e i).fields) no_totals
