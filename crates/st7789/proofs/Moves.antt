-- A segment of data or of commands, and then the release: the panel, and the memory that was lent, if any.
use Rattle.std.specs.Prelude.{Option, Some, None}
use Prim.Native.Nat.{ℕ, ◌-◌, ◌≤◌, ◌<◌}
use mathlib.Core.Path.{◌≡◌, refl, sym, ap, ap₂, ◌∙◌}
use mathlib.Core.Bool.{Bool, true, false, cond}
use mathlib.Core.List.{List, [], ◌∷◌, append-nil}
use native.Mathlib.Omega.{arith}
use borrow.Rule.Slice.PartMut.{put_mid}
use lib.Dec.{eqb}
use lib.ListN.{length, get_or, set, take, drop, drop_of_length-le}
use lib.Seq.{take_all}
use Rattle.pixels.specs.Run.{Store, written, no_totals}
use Rattle.pixels.specs.declared.Totals.{Totals}
use Rattle.codes.specs.Codes.{kind_of, command_of, place_of}
use Rattle.codes.specs.declared.Command.{Command}
use Rattle.codes.proofs.Numbering.{stored_one, none-stored}
use Rattle.lists.specs.Params.{filled}
use Rattle.lists.specs.declared.Params.{Params}
use Rattle.lists.specs.declared.Stored.{Stored}
use Rattle.lists.specs.declared.TraceRecord.{TraceRecord}
use Rattle.chip.specs.Apply.{chip_taken}
use Rattle.chip.proofs.Cuts.{taken-params}
use Rattle.status.specs.Numbers.{unless_refused}
use Rattle.st7789.specs.Parts.{with_controller}
use Rattle.st7789.specs.Command.{begun_all, controller_released, released}
use Rattle.st7789.specs.Data.{no_record, record_data, ran, taken, taken_for, controller_data, stored_for, stored_data, data_in, stores_in, totals_in}
use Rattle.st7789.specs.Refusals.{transfer_refusal}
use Rattle.st7789.specs.Entries.{moved, transferred, transfer_totals, bare_transferred, bare_totals, transfer_memory, refusal_with, transferred_with, totals_with, memory_with}
use Rattle.st7789.specs.Places.{current_place, if_current, command_for, command_in, cells_for, end_for, stored_to}
use Rattle.st7789.specs.declared.PanelMemory.{PanelMemory}
use Rattle.st7789.specs.declared.PanelMemory.TheVariants.{Lent, Without}
use Rattle.st7789.specs.declared.Controller.{Controller}
use Rattle.st7789.specs.declared.St7789p3.{St7789p3}
use Rattle.st7789.proofs.Accepted.{bare}
use Rattle.st7789.proofs.Commands.{same-panel}
use Rattle.st7789.proofs.Tests.{put-here}
use Rattle.st7789.specs.Room.{Placed}

release-put :
    (cs : Bool) (r : St7789p3) {k : Controller} → k ≡ cond cs (controller_released r.controller) r.controller →
    with_controller k r ≡ cond cs (released r) r
release-put true r e = ap (λ k. with_controller k r) e
release-put false r e = ap (λ k. with_controller k r) e

pub moved-run :
    (t : ℕ) (dc : Bool) (bytes : List ℕ) (cs : Bool) (s : St7789p3) {p : St7789p3} {k : Controller} →
    p ≡ cond dc (data_in bytes s) (begun_all t bytes s) → k ≡ cond cs (controller_released p.controller) p.controller →
    with_controller k p ≡ moved t dc bytes cs s
unfolding moved
moved-run t dc bytes cs s {p} {k} ep ek = rw (← ep) (release-put cs p ek)

-- The stored list, at its place or nowhere.
module _ (bytes : List ℕ) (k : Controller) (l : List Stored) where
  abbrev kept : Params → Stored
  kept p = record { present = true; params = p }

  abbrev stored_by : Bool → Option ℕ → List Stored
  stored_by b f = cond b l (stored_for f (filled k.chip.decoder.params bytes) l)

  abbrev command_by : Bool → Option ℕ → Option Command
  command_by b f = cond b None (command_for f)

  module _ {m : Command} {place : ℕ} (em : Some m ≡ command_in k) (ep : place ≡ place_of m.kind) where
    -- The list in force after data is the one that a stored command keeps.
    pub stored-put :
        {k₁ : Controller} {x : Stored} → place < 12 → k₁ ≡ controller_data bytes k → x ≡ kept k₁.chip.decoder.params →
        set l place x ≡ stored_data bytes k l
    unfolding taken chip_taken
    stored-put {k₁} {x} h ek ex =
        ap₂ (set l) ep (ex ∙ ap (λ (k : Controller). kept k.chip.decoder.params) ek)
        ∙ by_kind k.chip.decoder.in_pixels k.chip.decoder.cmd em (omega (arith, ep, h))
      where
        by_kind :
            (b : Bool) (f : Option ℕ) → Some m ≡ command_by b f → place_of m.kind < 12 →
            set l (place_of m.kind) (kept (cond b (ran bytes k) (taken_for f bytes k)).chip.decoder.params) ≡ stored_by b f
        by_kind true f e h = absurd (cc)
        by_kind false None e h = absurd (cc)
        by_kind false (Some c) e h =
            let same : m ≡ command_of c = cc in
            ap (λ (m : Command). set l (place_of m.kind) (kept (taken_for (Some c) bytes k).chip.decoder.params)) same
            ∙ ap (λ p. set l (place_of (kind_of c)) (kept p)) (taken-params (command_of c) bytes k.chip)
            ∙ ap (λ b. cond b (set l (place_of (kind_of c)) (kept (filled k.chip.decoder.params bytes))) l) (sym (stored_one (kind_of c) (rw same at h)))

    pub stored-nowhere : 12 ≤ place → l ≡ stored_data bytes k l
    stored-nowhere h = by_kind k.chip.decoder.in_pixels k.chip.decoder.cmd em (omega (arith, ep, h))
      where
        by_kind : (b : Bool) (f : Option ℕ) → Some m ≡ command_by b f → 12 ≤ place_of m.kind → l ≡ stored_by b f
        by_kind true f e h = refl
        by_kind false None e h = refl
        by_kind false (Some c) e h =
            let same : m ≡ command_of c = cc in
            ap (λ b. cond b (set l (place_of (kind_of c)) (kept (filled k.chip.decoder.params bytes))) l) (sym (none-stored (kind_of c) (rw same at h)))

  -- Data for no command is kept in no list.
  pub stored-lost : None ≡ command_in k → l ≡ stored_data bytes k l
  stored-lost em = by_kind k.chip.decoder.in_pixels k.chip.decoder.cmd em
    where
      by_kind : (b : Bool) (f : Option ℕ) → None ≡ command_by b f → l ≡ stored_by b f
      by_kind true f e = refl
      by_kind false None e = refl
      by_kind false (Some c) e = absurd (cc)

pub data-put :
    (bytes : List ℕ) (s : St7789p3) {k : Controller} {st : List Stored} {at : ℕ} {r : TraceRecord} → Placed s.controller.logs.current →
    at ≡ current_place s.controller.logs.current →
    r ≡ if_current (record_data bytes s.controller) s.controller.logs.current (get_or s.records at no_record) →
    k ≡ controller_data bytes s.controller → st ≡ stored_data bytes s.controller s.stored →
    ◌≡◌ {A = St7789p3} (record { controller = k; stored = st; records = set s.records at r; warnings = s.warnings }) (data_in bytes s)
unfolding data_in
data-put bytes s {k} {st} {at} {r} h ea er ek es =
    same-panel ek es (put-here (record_data bytes s.controller) s.controller.logs.current s.records at r h ea er) refl

none_written : (ss : List Store) → written [] ss ≡ []
none_written [] = refl
none_written (s ∷ ss) = none_written ss

part-written :
    (w : PanelMemory) (m : List ℕ) (ss : List Store) {part : List ℕ} → part ≡ written (take (end_for w (length m) - 0) m) ss →
    put_mid 0 (end_for w (length m) - 0) m part ≡ stored_to w m ss
part-written Lent m ss {part} e =
    let all : length m ≤ length m - 0 = omega arith in
    let none : drop (length m - 0) m ≡ [] = drop_of_length-le m all in
    rw none (append-nil part) ∙ e ∙ ap (λ l. written l ss) (take_all (length m - 0) m (omega arith))
part-written Without m ss {part} e = ap (λ p. put_mid 0 0 m p) (e ∙ none_written ss)

pub stored-run :
    (w : PanelMemory) (dc : Bool) (bytes m : List ℕ) (k : Controller) {end : ℕ} {part : List ℕ} → end ≡ end_for w (length m) →
    part ≡ written (take (end - 0) m) (stores_in dc bytes k) → put_mid 0 (end - 0) m part ≡ stored_to w m (stores_in dc bytes k)
stored-run w dc bytes m k ee e = rw ee (part-written w m (stores_in dc bytes k) (rw ee at e))

-- The whole answer with memory or without, from a transfer over as much memory as counts as lent.
either : {A : Type 0} (b : Bool) (x : A) → cond b x x ≡ x
either true x = refl
either false x = refl

pub answer-with :
    (w : PanelMemory) (t : ℕ) (dc : Bool) (bytes : List ℕ) (cs : Bool) (m : List ℕ) (s : St7789p3) {n : ℕ} {p : St7789p3} {o : Totals} {l : List ℕ} →
    n ≡ transfer_refusal s (cells_for w (length m)) (length bytes) →
    p ≡ unless_refused (transfer_refusal s (cells_for w (length m)) (length bytes)) (moved t dc bytes cs s) s →
    o ≡ unless_refused (transfer_refusal s (cells_for w (length m)) (length bytes)) (totals_in dc bytes s.controller) no_totals →
    l ≡ unless_refused (transfer_refusal s (cells_for w (length m)) (length bytes)) (stored_to w m (stores_in dc bytes s.controller)) m →
    (n ≡ refusal_with w s (length m) (length bytes)) × ((p ≡ transferred_with w t dc bytes cs (length m) s) × ((o ≡ totals_with w dc bytes (length m) s) × (l ≡ memory_with w dc bytes m s)))
unfolding transferred bare_transferred transfer_totals bare_totals transfer_memory
answer-with Lent t dc bytes cs m s en ep eo el = (en, (ep, (eo, el)))
answer-with Without t dc bytes cs m s en ep eo el =
    let b = bare s (length bytes) in (
      en ∙ b,
      (
        ep ∙ ap (λ k. unless_refused k (moved t dc bytes cs s) s) b,
        (
          eo ∙ ap (λ k. unless_refused k (totals_in dc bytes s.controller) no_totals) b,
          el ∙ either (eqb (transfer_refusal s 76800 (length bytes)) 0) m,
        ),
      ),
    )
