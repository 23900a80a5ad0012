-- The profiles, whatever operations are made on a fresh panel: it keeps the one that it is made with; under plain all is as before; and of
-- two panels, one under each, everything but the warnings and the profile is equal at every moment, and the warnings of rules 1 to 3 are
-- while the strict one's list is not full.
use Rattle.std.specs.Prelude.{None}
use Prim.Native.Nat.{ℕ}
use mathlib.Core.Path.{◌≡◌, refl, sym, ap, ap₂, ◌∙◌}
use mathlib.Core.Bool.{Bool, true, false, cond}
use mathlib.Core.List.{List, [], ◌∷◌, foldl}
use lib.Dec.{eqb}
use lib.ListN.{length, take}
use Rattle.marks.specs.Rows.{span_of}
use Rattle.lists.specs.Fixed.{used}
use Rattle.status.specs.Numbers.{unless_refused}
use Rattle.status.specs.Tests.{first, memory_refusal, publish_row}
use Rattle.status.proofs.Unless.{unless-either}
use Rattle.board.specs.Board.{is_board_rail}
use Rattle.board.specs.declared.PanelConfig.{PanelConfig}
use Rattle.st7789.specs.Parts.{trace_of, with_controller}
use Rattle.st7789.specs.Refusals.{bad_state}
use Rattle.st7789.specs.Entries.{fresh_controller, empty_lists, fresh_panel, rail_reset, reset_state, reset_memory, transfer_memory, all_marked, warnings_taken}
use Rattle.st7789.specs.declared.PanelMemory.TheVariants.{Lent}
use Rattle.st7789.specs.declared.St7789p3.{St7789p3}
use Rattle.laws.specs.Valid.{Good}
use Rattle.laws.specs.Profiles.{chosen, unwarned, of_three, ProfilesAgree}
use Rattle.laws.proofs.Marks.{unmarked}
use Rattle.laws.proofs.Plain.{transferred-before}
use Rattle.laws.proofs.Profiles.{Beside, Leaves, left-beside, refusal-beside, transferred-beside, lent-beside, totals-beside, transferred-chosen}
use Rattle.laws.proofs.Reach.{fresh-good, unmarked-good, marked-good, taken-warnings-good, rail-good}
use Rattle.views.specs.Views.{light_of, pixel_seen, frame_seen}
use Rattle.publishing.specs.Publish.{publish_refusal, published, published_span, published_flags, published_frame, span_copied, flags_of, no_flags}
use Rattle.hosts.specs.Calls.{Host, fresh_host, Setting, power, shows, brightness, Call, commands, segment, publish, reset, mark_all, sets, looks, refusal, transfer, step, defined, run}
use Rattle.hosts.specs.Operations.{Operation, transferring, publishing, resetting, setting, marking, taking, operated, after}
use Rattle.hosts.specs.Profiles.{plainly, strictly, operated_before, AnswersAlike, AgreeBut}
use Rattle.hosts.proofs.Settings.{panel_settled, settled-good}

-- The answers of two panels side by side.
module _ (p s : St7789p3) (w : Beside p s) where
  neither-bad : bad_state p ≡ bad_state s
  neither-bad = w.good-p.fine ∙ sym w.good-s.fine

  publish-refusal : (cells room : ℕ) → publish_refusal p cells room ≡ publish_refusal s cells room
  unfolding publish_refusal
  publish-refusal cells room = ap (λ b. first (publish_row b cells room)) neither-bad

  pub answers-alike : AnswersAlike p s
  unfolding published_frame published_span published_flags pixel_seen frame_seen light_of
  answers-alike =
      record {
        bad = neither-bad;
        transfer = refusal-beside p s w;
        lent = lent-beside p s w;
        totals = totals-beside p s w;
        publish = publish-refusal;
        frame = λ n memory frame. ap (λ (r : St7789p3). unless_refused n (span_copied (span_of r.controller.marks) memory frame) frame) w.agree.rest;
        span = λ n. ap (λ (r : St7789p3). unless_refused n (span_of r.controller.marks) None) w.agree.rest;
        flags = λ n. ap (λ (r : St7789p3). unless_refused n (flags_of r.controller) no_flags) w.agree.rest;
        pixel = λ v x y memory. ap (λ (r : St7789p3). pixel_seen v r.controller x y memory) w.agree.rest;
        view = λ v memory buffer. ap (λ (r : St7789p3). frame_seen v r.controller memory buffer) w.agree.rest;
        trace = ap (λ (r : St7789p3). used (trace_of r)) w.agree.rest;
      }

-- What is set leaves the warnings alone and what was chosen, and reads neither.
settled-leaves : (x : Setting) (s : St7789p3) → Leaves s (panel_settled x s)
settled-leaves (power on) s = record { warned = refl; warnings = refl; kept = refl }
settled-leaves (shows on) s = record { warned = refl; warnings = refl; kept = refl }
settled-leaves (brightness level scale duty) s = record { warned = refl; warnings = refl; kept = refl }

settled-unwarned : (x : Setting) (s : St7789p3) → unwarned (panel_settled x s) ≡ unwarned (panel_settled x (unwarned s))
settled-unwarned (power on) s = refl
settled-unwarned (shows on) s = refl
settled-unwarned (brightness level scale duty) s = refl

-- Nor do a publish, a reset, marking all and taking the warnings; what empties the list empties it of both.
module _ (p s : St7789p3) (w : Beside p s) where
  -- A panel's own part of it.
  abbrev Both : (St7789p3 → St7789p3) → Type 0
  Both f = ((r : St7789p3) → Good r → Good (f r)) → ((r : St7789p3) → unwarned (f r) ≡ unwarned (f (unwarned r))) → Beside (f p) (f s)

  kept : (f : St7789p3 → St7789p3) → ((r : St7789p3) → Leaves r (f r)) → Both f
  kept f leaves good reads =
      left-beside w (leaves p) (leaves s) (reads p ∙ ap (λ r. unwarned (f r)) w.agree.rest ∙ sym (reads s)) (good p w.good-p) (good s w.good-s)

  emptied :
      (f : St7789p3 → St7789p3) → ((r : St7789p3) → (f r).controller.logs.warned ≡ 0) →
      ((r : St7789p3) → chosen (f r) ≡ chosen r) → Both f
  emptied f none kept good reads =
      record {
        agree =
            record {
              rest = reads p ∙ ap (λ r. unwarned (f r)) w.agree.rest ∙ sym (reads s);
              three = λ few. ap (λ n. of_three (take n (f s).warnings)) (none s) ∙ sym (ap (λ n. take n (f p).warnings) (none p));
            };
        plain = ap (λ (c : PanelConfig). c.strict) (kept p) ∙ w.plain;
        good-p = good p w.good-p;
        good-s = good s w.good-s;
      }

  railed : (rail : Bool) → Beside (rail_reset rail p) (rail_reset rail s)
  unfolding empty_lists fresh_controller
  railed true = emptied (rail_reset true) (λ r. refl) (λ r. refl) (λ r g. rail-good r g true) (λ r. refl)
  railed false = w

  published-beside : (b : Bool) → Beside (cond b (unmarked p) p) (cond b (unmarked s) s)
  published-beside true = kept unmarked (λ r. record { warned = refl; warnings = refl; kept = refl }) unmarked-good (λ r. refl)
  published-beside false = w

  operated-beside : (o : Operation) → Beside (operated p o) (operated s o)
  unfolding operated published reset_state
  operated-beside (transferring memory cells t dc bytes cs) = transferred-beside memory t dc bytes cs cells p s w
  operated-beside (publishing cells room) =
      rw (publish-refusal p s w cells room) (published-beside (eqb (publish_refusal s cells room) 0))
  operated-beside (resetting domain cells) = reset-beside (eqb (memory_refusal cells) 0) (is_board_rail domain)
    where
      reset-beside : (b rail : Bool) → Beside (cond b (rail_reset rail p) p) (cond b (rail_reset rail s) s)
      reset-beside true rail = railed rail
      reset-beside false rail = w
  operated-beside (setting x) = kept (panel_settled x) (settled-leaves x) (λ r g. settled-good x r g) (settled-unwarned x)
  operated-beside marking = kept (λ r. with_controller (all_marked r.controller) r) (λ r. record { warned = refl; warnings = refl; kept = refl }) marked-good (λ r. refl)
  operated-beside taking = emptied (λ r. (warnings_taken r).panel) (λ r. refl) (λ r. refl) taken-warnings-good (λ r. refl)

-- Operations in turn, and so from fresh panels.
all-beside : (p s : St7789p3) → Beside p s → (operations : List Operation) → Beside (foldl operated p operations) (foldl operated s operations)
all-beside p s w [] = w
all-beside p s w (o ∷ operations) = all-beside (operated p o) (operated s o) (operated-beside p s w o) operations

fresh-beside : (on : Bool) → Beside (fresh_panel (plainly on)) (fresh_panel (strictly on))
unfolding fresh_controller empty_lists
fresh-beside on =
    record {
      agree = record { rest = refl; three = λ few. refl };
      plain = refl;
      good-p = fresh-good (plainly on);
      good-s = fresh-good (strictly on);
    }

pub always-agree :
    (on : Bool) (operations : List Operation) →
    ProfilesAgree (after (plainly on) operations) (after (strictly on) operations)
    × AnswersAlike (after (plainly on) operations) (after (strictly on) operations)
always-agree on operations =
    let w = all-beside (fresh_panel (plainly on)) (fresh_panel (strictly on)) (fresh-beside on) operations in
    (w.agree, answers-alike (after (plainly on) operations) (after (strictly on) operations) w)

-- Two hosts, one under each, that make the same calls: their memories and frames too.
record HostsBeside (a b : Host) : Type 0 where
  memory : a.memory ≡ b.memory
  frame : a.frame ≡ b.frame
  panels : Beside a.panel b.panel

transfer-beside :
    (a b : Host) → HostsBeside a b → (t : ℕ) (dc : Bool) (bytes : List ℕ) (cs : Bool) → HostsBeside (transfer t dc bytes cs a) (transfer t dc bytes cs b)
transfer-beside a b w t dc bytes cs =
    record {
      memory = lent-beside a.panel b.panel w.panels Lent dc bytes a.memory ∙ ap (λ m. transfer_memory dc bytes m b.panel) w.memory;
      frame = w.frame;
      panels = rw w.memory (transferred-beside Lent t dc bytes cs (length b.memory) a.panel b.panel w.panels);
    }

step-beside : (a b : Host) → HostsBeside a b → (c : Call) → HostsBeside (step a c) (step b c)
unfolding step refusal operated
step-beside a b w (commands t bytes cs) = transfer-beside a b w t false bytes cs
step-beside a b w (segment t bytes cs) = transfer-beside a b w t true bytes cs
step-beside a b w publish =
    let x = answers-alike a.panel b.panel w.panels in
    record {
      memory = w.memory;
      frame =
          ap₂ (λ m f. published_frame (publish_refusal a.panel (length m) (length f)) a.panel m f) w.memory w.frame
          ∙ ap (λ n. published_frame n a.panel b.memory b.frame) (x.publish (length b.memory) (length b.frame))
          ∙ x.frame (publish_refusal b.panel (length b.memory) (length b.frame)) b.memory b.frame;
      panels = rw (w.memory, w.frame) (operated-beside a.panel b.panel w.panels (publishing (length b.memory) (length b.frame)));
    }
step-beside a b w (reset domain) =
    record {
      memory = ap (reset_memory domain) w.memory;
      frame = w.frame;
      panels = rw w.memory (operated-beside a.panel b.panel w.panels (resetting domain (length b.memory)));
    }
step-beside a b w mark_all = record { memory = w.memory; frame = w.frame; panels = operated-beside a.panel b.panel w.panels marking }
step-beside a b w (sets x) = record { memory = w.memory; frame = w.frame; panels = operated-beside a.panel b.panel w.panels (setting x) }
step-beside a b w (looks x) = w

run-beside : (a b : Host) → HostsBeside a b → (calls : List Call) → HostsBeside (run defined a calls) (run defined b calls)
run-beside a b w [] = w
run-beside a b w (c ∷ calls) = run-beside (step a c) (step b c) (step-beside a b w c) calls

pub hosts-agree :
    (on : Bool) (calls : List Call) → AgreeBut (run defined (fresh_host (plainly on)) calls) (run defined (fresh_host (strictly on)) calls)
hosts-agree on calls =
    let w = run-beside (fresh_host (plainly on)) (fresh_host (strictly on)) (record { memory = refl; frame = refl; panels = fresh-beside on }) calls in
    record { memory = w.memory; frame = w.frame; panels = w.panels.agree }

-- What was chosen when the panel was made, its profile and its mode of formats, stays, by every operation.
operated-chosen : (s : St7789p3) (o : Operation) → chosen (operated s o) ≡ chosen s
unfolding operated published reset_state empty_lists fresh_controller
operated-chosen s (transferring memory cells t dc bytes cs) = transferred-chosen memory t dc bytes cs cells s
operated-chosen s (publishing cells room) =
    unless-either (publish_refusal s cells room) (unmarked s) s (λ r. chosen r ≡ chosen s) refl refl
operated-chosen s (resetting domain cells) =
    unless-either (memory_refusal cells) (rail_reset (is_board_rail domain) s) s (λ r. chosen r ≡ chosen s)
    (rail (is_board_rail domain)) refl
  where
    rail : (b : Bool) → chosen (rail_reset b s) ≡ chosen s
    rail true = refl
    rail false = refl
operated-chosen s (setting x) = (settled-leaves x s).kept
operated-chosen s marking = refl
operated-chosen s taking = refl

pub always-chosen : (s : St7789p3) (operations : List Operation) → chosen (foldl operated s operations) ≡ chosen s
always-chosen s [] = refl
always-chosen s (o ∷ operations) = always-chosen (operated s o) operations ∙ operated-chosen s o

-- Under plain everything is as before.
operated-before : (s : St7789p3) (o : Operation) → s.controller.cfg.strict ≡ false → operated s o ≡ operated_before s o
unfolding operated
operated-before s (transferring memory cells t dc bytes cs) e = transferred-before memory t dc bytes cs cells s e
operated-before s (publishing cells room) e = refl
operated-before s (resetting domain cells) e = refl
operated-before s (setting x) e = refl
operated-before s marking e = refl
operated-before s taking e = refl

pub always-before :
    (s : St7789p3) (operations : List Operation) → s.controller.cfg.strict ≡ false → foldl operated s operations ≡ foldl operated_before s operations
always-before s [] e = refl
always-before s (o ∷ operations) e =
    always-before (operated s o) operations (ap (λ (c : PanelConfig). c.strict) (operated-chosen s o) ∙ e) ∙ ap (λ r. foldl operated_before r operations) (operated-before s o e)
