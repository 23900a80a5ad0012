-- Whatever operations are made on a fresh panel, refused ones among them, its state is good at every moment and no counter has run over.
use Prim.Native.Nat.{ℕ, zero, suc}
use mathlib.Core.Path.{◌≡◌, refl, sym, ap, subst, ◌∙◌}
use mathlib.Core.Bool.{Bool, true, false}
use mathlib.Core.List.{List, [], ◌∷◌, foldl, foldl-append}
use native.Mathlib.Omega.{arith}
use lib.ListN.{get_or, replicate}
use Rattle.lists.specs.Entries.{empty_record}
use Rattle.lists.specs.Fixed.{places}
use Rattle.status.specs.Tests.{memory_refusal}
use Rattle.status.proofs.Unless.{unless-either}
use Rattle.board.specs.Board.{is_board_rail}
use Rattle.board.specs.declared.PanelConfig.{PanelConfig}
use Rattle.st7789.specs.Data.{no_record}
use Rattle.st7789.specs.Entries.{fresh_controller, empty_lists, fresh_panel, rail_reset, reset_state}
use Rattle.st7789.specs.declared.PanelMemory.TheVariants.{Lent, Without}
use Rattle.st7789.specs.declared.Controller.{Controller}
use Rattle.st7789.specs.declared.St7789p3.{St7789p3}
use Rattle.laws.specs.Valid.{Good, Bounded}
use Rattle.laws.proofs.Bare.{same-state}
use Rattle.laws.proofs.Counts.{transferred-bounded}
use Rattle.laws.proofs.Marks.{unmarked}
use Rattle.laws.proofs.Reach.{transferred-good, bare-good, fresh-good, unmarked-good, marked-good, taken-warnings-good, reset-good}
use Rattle.publishing.specs.Publish.{published, publish_refusal}
use Rattle.hosts.specs.Calls.{Host, Call, commands, segment, publish, reset, mark_all, sets, looks, refusal, step, defined, run}
use Rattle.hosts.specs.Operations.{Operation, transferring, publishing, resetting, setting, marking, taking, operated, after, operations_of, operations_from}
use Rattle.hosts.proofs.Settings.{settles, settled-good}

-- Every operation keeps a state good.
published-good : (n : ℕ) (s : St7789p3) → Good s → Good (published n s)
unfolding published
published-good n s g = unless-either n (unmarked s) s Good (unmarked-good s g) g

pub operated-good : (s : St7789p3) (o : Operation) → Good s → Good (operated s o)
unfolding operated
operated-good s (transferring Lent cells t dc bytes cs) g = transferred-good t dc bytes cs cells s g
operated-good s (transferring Without cells t dc bytes cs) g = bare-good t dc bytes cs s g
operated-good s (publishing cells room) g = published-good (publish_refusal s cells room) s g
operated-good s (resetting domain cells) g = reset-good s g domain cells
operated-good s (setting x) g = settled-good x s g
operated-good s marking g = marked-good s g
operated-good s taking g = taken-warnings-good s g

-- And its counters within bounds: these look at the counts and the records alone.
counted-bounded : {s r : St7789p3} → r.controller.counts ≡ s.controller.counts → r.records ≡ s.records → Bounded s → Bounded r
counted-bounded e f w =
    record {
      commands = rw e w.commands;
      ramwrs = rw e w.ramwrs;
      pixels = rw e w.pixels;
      dropped = rw e w.dropped;
      inverted = rw e w.inverted;
      unmapped = rw e w.unmapped;
      held = λ i. rw f (w.held i);
    }

-- No empty record holds a pixel byte, and nothing does past their end.
none-held : (n i : ℕ) → (get_or (replicate n empty_record) i no_record).pixel_bytes ≡ 0
none-held zero i = refl
none-held (suc n) zero = refl
none-held (suc n) (suc i) = none-held n i

fresh-bounded : (cfg : PanelConfig) → Bounded (fresh_panel cfg)
unfolding fresh_controller empty_lists
fresh-bounded cfg =
    record {
      commands = omega arith;
      ramwrs = omega arith;
      pixels = omega arith;
      dropped = omega arith;
      inverted = omega arith;
      unmapped = omega arith;
      held = λ i. omega (arith, none-held places i);
    }

operated-bounded : (s : St7789p3) (o : Operation) → Good s → Bounded s → Bounded (operated s o)
unfolding operated published reset_state empty_lists fresh_controller
operated-bounded s (transferring Lent cells t dc bytes cs) g w = transferred-bounded t dc bytes cs cells s g w
operated-bounded s (transferring Without cells t dc bytes cs) g w = rw (← same-state t dc bytes cs s) (transferred-bounded t dc bytes cs 76800 s g w)
operated-bounded s (publishing cells room) g w =
    unless-either (publish_refusal s cells room) (unmarked s) s Bounded (counted-bounded refl refl w) w
operated-bounded s (resetting domain cells) g w =
    unless-either (memory_refusal cells) (rail_reset (is_board_rail domain) s) s Bounded (rail (is_board_rail domain)) w
  where
    rail : (b : Bool) → Bounded (rail_reset b s)
    rail true = counted-bounded refl refl (fresh-bounded s.controller.cfg)
    rail false = w
operated-bounded s (setting x) g w = counted-bounded (ap (λ (k : Controller). k.counts) ((settles x).only s.controller)) refl w
operated-bounded s marking g w = counted-bounded refl refl w
operated-bounded s taking g w = counted-bounded refl refl w

-- Operations in turn, and so from a fresh panel.
pub all-operated-good : (s : St7789p3) (operations : List Operation) → Good s → Good (foldl operated s operations)
all-operated-good s [] g = g
all-operated-good s (o ∷ operations) g = all-operated-good (operated s o) operations (operated-good s o g)

all-operated-bounded : (s : St7789p3) (operations : List Operation) → Good s → Bounded s → Bounded (foldl operated s operations)
all-operated-bounded s [] g w = w
all-operated-bounded s (o ∷ operations) g w = all-operated-bounded (operated s o) operations (operated-good s o g) (operated-bounded s o g w)

pub always-good : (cfg : PanelConfig) (operations : List Operation) → Good (after cfg operations) × Bounded (after cfg operations)
always-good cfg operations = (
  all-operated-good (fresh_panel cfg) operations (fresh-good cfg),
  all-operated-bounded (fresh_panel cfg) operations (fresh-good cfg) (fresh-bounded cfg),
)

-- What a host's calls leave of its panel is what their operations leave.
step-operates : (h : Host) (c : Call) → (step h c).panel ≡ foldl operated h.panel (operations_of h c)
unfolding step refusal operated
step-operates h (commands t bytes cs) = refl
step-operates h (segment t bytes cs) = refl
step-operates h publish = refl
step-operates h (reset domain) = refl
step-operates h mark_all = refl
step-operates h (sets x) = refl
step-operates h (looks x) = refl

pub run-operates : (h : Host) (calls : List Call) → (run defined h calls).panel ≡ foldl operated h.panel (operations_from defined h calls)
run-operates h [] = refl
run-operates h (c ∷ calls) =
    run-operates (step h c) calls
    ∙ ap (λ s. foldl operated s (operations_from defined (step h c) calls)) (step-operates h c)
    ∙ sym (foldl-append operated h.panel (operations_of h c) (operations_from defined (step h c) calls))

pub step-good : (h : Host) (c : Call) → Good h.panel → Good (step h c).panel
step-good h c g = subst Good (sym (step-operates h c)) (all-operated-good h.panel (operations_of h c) g)
