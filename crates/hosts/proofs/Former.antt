-- Whatever operations are made on a panel whose mode of formats is off, it is at every moment as it was before the other formats, and answers
-- what it answered.
use Prim.Native.Nat.{ℕ}
use mathlib.Core.Path.{◌≡◌, refl, ap, ◌∙◌}
use mathlib.Core.Bool.{Bool, true, false}
use mathlib.Core.List.{List, [], ◌∷◌, foldl}
use Rattle.status.specs.Tests.{first, publish_row, memory_refusal}
use Rattle.status.proofs.Unless.{unless-either}
use Rattle.board.specs.Board.{is_board_rail}
use Rattle.board.specs.declared.PanelConfig.{PanelConfig}
use Rattle.chip.specs.Begin.{fresh_chip}
use Rattle.st7789.specs.Entries.{fresh_controller, empty_lists, fresh_panel, rail_reset, reset_state}
use Rattle.st7789.specs.declared.St7789p3.{St7789p3}
use Rattle.publishing.specs.Publish.{publish_refusal, published}
use Rattle.laws.specs.Former.{Former}
use Rattle.laws.proofs.Marks.{unmarked}
use Rattle.laws.proofs.Former.{bad-former, refusal-former, totals-former, memory-former, state-former, stays-former}
use Rattle.hosts.specs.Calls.{Setting, power, shows, brightness}
use Rattle.hosts.specs.Operations.{Operation, transferring, publishing, resetting, setting, marking, taking, operated, after}
use Rattle.hosts.specs.Former.{former_publish, former_operated, FormerAnswers}
use Rattle.hosts.proofs.Settings.{panel_settled}

pub fresh-former : (cfg : PanelConfig) → cfg.formats ≡ false → Former (fresh_panel cfg)
unfolding fresh_controller empty_lists fresh_chip
fresh-former cfg e = record { off = e; few = refl }

module _ (s : St7789p3) (w : Former s) where
  publish-former : (cells room : ℕ) → publish_refusal s cells room ≡ former_publish s cells room
  unfolding publish_refusal
  publish-former cells room = ap (λ b. first (publish_row b cells room)) (bad-former s w)

  pub answers-former : FormerAnswers s
  answers-former =
      record {
        bad = bad-former s w;
        transfer = refusal-former s w;
        totals = totals-former s w;
        lent = memory-former s w;
        publish = publish-former;
      }

  operated-alike : (o : Operation) → operated s o ≡ former_operated s o
  unfolding operated
  operated-alike (transferring memory cells t dc bytes cs) = state-former memory t dc bytes cs cells s w
  operated-alike (publishing cells room) = ap (λ n. published n s) (publish-former cells room)
  operated-alike (resetting domain cells) = refl
  operated-alike (setting x) = refl
  operated-alike marking = refl
  operated-alike taking = refl

  settled-former : (x : Setting) → Former (panel_settled x s)
  settled-former (power on) = record { off = w.off; few = w.few }
  settled-former (shows on) = record { off = w.off; few = w.few }
  settled-former (brightness level scale duty) = record { off = w.off; few = w.few }

  railed-former : (rail : Bool) → Former (rail_reset rail s)
  unfolding fresh_controller empty_lists fresh_chip
  railed-former true = record { off = w.off; few = refl }
  railed-former false = w

  operated-former : (o : Operation) → Former (operated s o)
  unfolding operated published reset_state
  operated-former (transferring memory cells t dc bytes cs) = stays-former memory t dc bytes cs cells s w
  operated-former (publishing cells room) =
      unless-either (publish_refusal s cells room) (unmarked s) s Former (record { off = w.off; few = w.few }) w
  operated-former (resetting domain cells) =
      unless-either (memory_refusal cells) (rail_reset (is_board_rail domain) s) s Former (railed-former (is_board_rail domain)) w
  operated-former (setting x) = settled-former x
  operated-former marking = record { off = w.off; few = w.few }
  operated-former taking = record { off = w.off; few = w.few }

-- From any panel that was possible.
pub all-former : (s : St7789p3) (operations : List Operation) → Former s → foldl operated s operations ≡ foldl former_operated s operations
all-former s [] w = refl
all-former s (o ∷ operations) w =
    all-former (operated s o) operations (operated-former s w o) ∙ ap (λ r. foldl former_operated r operations) (operated-alike s w o)

stays : (s : St7789p3) (operations : List Operation) → Former s → Former (foldl operated s operations)
stays s [] w = w
stays s (o ∷ operations) w = stays (operated s o) operations (operated-former s w o)

-- And so from a fresh one.
pub always-former :
    (cfg : PanelConfig) → cfg.formats ≡ false → (operations : List Operation) →
    (after cfg operations ≡ foldl former_operated (fresh_panel cfg) operations) × FormerAnswers (after cfg operations)
always-former cfg off operations =
    let w = fresh-former cfg off in
    (all-former (fresh_panel cfg) operations w, answers-former (after cfg operations) (stays (fresh_panel cfg) operations w))
