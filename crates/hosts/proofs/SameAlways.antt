-- States that 01 calls the same stay the same under every operation, publishing among them, and so under any number of them.
use Rattle.std.specs.Prelude.{None}
use Prim.Native.Nat.{ℕ}
use mathlib.Core.Path.{◌≡◌, refl, ap, ◌∙◌}
use mathlib.Core.Bool.{Bool, true, false, cond}
use mathlib.Core.List.{List, [], ◌∷◌, foldl}
use lib.Dec.{eqb}
use lib.ListN.{length}
use borrow.Author.Tests.{eqb-true}
use Rattle.status.specs.Numbers.{unless_refused}
use Rattle.status.specs.Tests.{first, memory_refusal, publish_row}
use Rattle.status.proofs.Unless.{unless-either}
use Rattle.marks.specs.Rows.{span_of}
use Rattle.board.specs.Board.{is_board_rail}
use Rattle.st7789.specs.Parts.{with_controller}
use Rattle.st7789.specs.Refusals.{transfer_refusal}
use Rattle.st7789.specs.Entries.{fresh_controller, empty_lists, rail_reset, moved, transferred, reset_state}
use Rattle.st7789.specs.declared.PanelMemory.TheVariants.{Lent, Without}
use Rattle.st7789.specs.declared.St7789p3.{St7789p3}
use Rattle.st7789.proofs.Accepted.{none-refused}
use Rattle.laws.specs.Same.{content, Same}
use Rattle.laws.specs.Valid.{Sized}
use Rattle.laws.proofs.Bare.{same-state}
use Rattle.laws.proofs.Marks.{unmarked}
use Rattle.laws.proofs.Reach.{fresh-good}
use Rattle.laws.proofs.Stays.{moved-sized}
use Rattle.laws.proofs.SameRefused.{bad-same}
use Rattle.laws.proofs.SameKept.{powered-same, shows_same, brightness-same, marked-same, unmarked-same, taken-warnings-same, reset-same}
use Rattle.laws.proofs.SameMoved.{transferred-same, bare-transferred-same}
use Rattle.publishing.specs.Publish.{publish_refusal, published, published_span, published_flags, published_frame, span_copied, flags_of, no_flags}
use Rattle.hosts.specs.Calls.{Setting, power, shows, brightness, settled}
use Rattle.hosts.specs.Operations.{Operation, transferring, publishing, resetting, setting, marking, taking, operated}
use Rattle.hosts.proofs.Settings.{settles}

module _ (s r : St7789p3) (e : Same s r) where
  -- Publishing, by the number of its refusal.
  pub publish-refusal-same : (cells room : ℕ) → publish_refusal s cells room ≡ publish_refusal r cells room
  unfolding publish_refusal
  publish-refusal-same cells room = ap (λ b. first (publish_row b cells room)) (bad-same s r e)

  module _ (n : ℕ) where
    pub published-same : Same (published n s) (published n r)
    unfolding published
    published-same = go (eqb n 0)
      where
        go : (b : Bool) → Same (cond b (unmarked s) s) (cond b (unmarked r) r)
        go true = unmarked-same s r e
        go false = e

    pub span_same : published_span n s ≡ published_span n r
    unfolding published_span
    span_same = ap (λ v. unless_refused n (span_of v.fields.marks) None) e

    pub flags-same : published_flags n s ≡ published_flags n r
    unfolding published_flags
    flags-same = ap (λ v. unless_refused n (flags_of v.fields) no_flags) e

    pub published-frame-same : (memory frame : List ℕ) → published_frame n s memory frame ≡ published_frame n r memory frame
    unfolding published_frame
    published-frame-same memory frame = ap (λ v. unless_refused n (span_copied (span_of v.fields.marks) memory frame) frame) e

  -- What is set.
  settled_same : (x : Setting) → Same (with_controller (settled x s.controller) s) (with_controller (settled x r.controller) r)
  settled_same (power on) = powered-same s r e on
  settled_same (shows on) = shows_same s r e on
  settled_same (brightness level scale duty) = brightness-same s r e level scale duty

-- The arrays keep the lengths that their types say.
transferred-sized :
    (t : ℕ) (dc : Bool) (bytes : List ℕ) (cs : Bool) (cells : ℕ) (s : St7789p3) → Sized s → Sized (transferred t dc bytes cs cells s)
unfolding transferred
transferred-sized t dc bytes cs cells s z = go (eqb (transfer_refusal s cells (length bytes)) 0) refl
  where
    go : (b : Bool) → eqb (transfer_refusal s cells (length bytes)) 0 ≡ b → Sized (cond b (moved t dc bytes cs s) s)
    go true e =
        moved-sized t dc bytes cs s
        (record { sized = z; fine = none-refused s cells (length bytes) (eqb-true (transfer_refusal s cells (length bytes)) 0 e) 0 })
    go false e = z

operated-sized : (s : St7789p3) (o : Operation) → Sized s → Sized (operated s o)
unfolding operated published reset_state empty_lists fresh_controller
operated-sized s (transferring Lent cells t dc bytes cs) z = transferred-sized t dc bytes cs cells s z
operated-sized s (transferring Without cells t dc bytes cs) z = rw (← same-state t dc bytes cs s) (transferred-sized t dc bytes cs 76800 s z)
operated-sized s (publishing cells room) z =
    unless-either (publish_refusal s cells room) (unmarked s) s Sized
    (record { records = z.records; bytes = z.bytes; each = z.each; warnings = z.warnings }) z
operated-sized s (resetting domain cells) z =
    unless-either (memory_refusal cells) (rail_reset (is_board_rail domain) s) s Sized (rail (is_board_rail domain)) z
  where
    rail : (b : Bool) → Sized (rail_reset b s)
    rail true =
        let f = (fresh-good s.controller.cfg).sized in
        record { records = f.records; bytes = f.bytes; each = f.each; warnings = f.warnings }
    rail false = z
operated-sized s (setting x) z =
    rw ((settles x).only s.controller) (record { records = z.records; bytes = z.bytes; each = z.each; warnings = z.warnings })
operated-sized s marking z = record { records = z.records; bytes = z.bytes; each = z.each; warnings = z.warnings }
operated-sized s taking z = record { records = z.records; bytes = z.bytes; each = z.each; warnings = z.warnings }

operated-same : (s r : St7789p3) (o : Operation) → Sized s → Sized r → Same s r → Same (operated s o) (operated r o)
unfolding operated
operated-same s r (transferring Lent cells t dc bytes cs) z y e = transferred-same t dc bytes cs s r z y e cells
operated-same s r (transferring Without cells t dc bytes cs) z y e = bare-transferred-same t dc bytes cs s r z y e
operated-same s r (publishing cells room) z y e =
    published-same s r e (publish_refusal s cells room) ∙ ap (λ n. content (published n r)) (publish-refusal-same s r e cells room)
operated-same s r (resetting domain cells) z y e = reset-same s r e domain cells
operated-same s r (setting x) z y e = settled_same s r e x
operated-same s r marking z y e = marked-same s r e
operated-same s r taking z y e = taken-warnings-same s r e

pub always-same :
    (s r : St7789p3) → Sized s → Sized r → Same s r → (operations : List Operation) → Same (foldl operated s operations) (foldl operated r operations)
always-same s r z y e [] = e
always-same s r z y e (o ∷ operations) =
    always-same (operated s o) (operated r o) (operated-sized s o z) (operated-sized r o y) (operated-same s r o z y e) operations
