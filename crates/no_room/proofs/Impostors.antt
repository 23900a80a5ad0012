-- The impostors of document 01: whatever keeps the promise of a transfer, or of publishing, is none of them. Each is caught by P1.
use Prim.Native.Nat.{ℕ}
use mathlib.Core.Path.{◌≡◌, refl, sym, ap, ◌∙◌}
use mathlib.Core.Bool.{false}
use mathlib.Core.List.{List, [], ◌∷◌}
use lib.Dec.{eqb}
use lib.ListN.{length, get_or, replicate}
use borrow.Author.Tests.{eqb-false}
use Rattle.status.specs.Numbers.{number}
use Rattle.st7789.specs.Refusals.{transfer_refusal}
use Rattle.st7789.specs.declared.Transferred.{Transferred}
use Rattle.st7789.specs.declared.St7789p3.{St7789p3}
use Rattle.publishing.specs.declared.Published.{Published}
use Rattle.publishing.specs.Publish.{publish_refusal, published, published_frame}
use Rattle.no_room.specs.Panels.{Call, Panel, fresh, after}
use Rattle.no_room.specs.Examples.{command, segment}
use Rattle.no_room.specs.Kept.{Transfer, KeepsTransfer, left_by, Publish, KeepsPublish}
use Rattle.no_room.proofs.Model.{model}
use Rattle.no_room.proofs.Kept.{as-promised}

-- Two things that look different are different.
pub apart : {A : Type 0} (look : A → ℕ) (m n : ℕ) {x y : A} → look x ≡ m → look y ≡ n → eqb m n ≡ false → x ≡ y → ⊥
apart look m n p q d e = eqb-false m n d (sym p ∙ ap look e ∙ q)

-- P1's two transfers, "2C" and "data F8 00 07 E0".
abbrev pub first : Call
first = command 0x2C

abbrev pub second : Call
second = segment (0xF8 ∷ 0x00 ∷ 0x07 ∷ 0xE0 ∷ [])

abbrev begun_panel : Panel
begun_panel = after fresh first

abbrev cell : ℕ → List ℕ → ℕ
cell i memory = get_or memory i 0

abbrev pixels : St7789p3 → ℕ
pixels s = s.controller.counts.pixels_written

first-accepted : transfer_refusal fresh.state (length fresh.memory) 1 ≡ 0
unfolding model
first-accepted = refl

first-stores-nothing : cell 0 begun_panel.memory ≡ 0
unfolding model
first-stores-nothing = refl

second-stores : cell 0 (after begun_panel second).memory ≡ 0xF800
unfolding model
second-stores = refl

no-pixels : pixels begun_panel.state ≡ 0
unfolding model
no-pixels = refl

two-pixels : pixels (after begun_panel second).state ≡ 2
unfolding model
two-pixels = refl

none-counted : fresh.state.controller.counts.commands ≡ 0
unfolding model
none-counted = refl

one-counted : begun_panel.state.controller.counts.commands ≡ 1
unfolding model
one-counted = refl

module _ (f : Transfer) (keeps : KeepsTransfer f) where
  -- "A model that refuses everything"
  pub refuses-not-all : ((p : Panel) (c : Call) → number (f p c).answer.status ≡ 0 → ⊥) → ⊥
  refuses-not-all refuses = refuses fresh first ((keeps fresh first).0 ∙ first-accepted)

  -- "One fixed answer", whatever memory does
  pub not-fixed : (d : Transferred) → ((p : Panel) (c : Call) → (f p c).answer ≡ d) → ⊥
  not-fixed d fixed =
      apart (λ a. pixels a.panel) 0 2 (ap pixels (keeps fresh first).1.0 ∙ no-pixels) (ap pixels (keeps begun_panel second).1.0 ∙ two-pixels)
      refl (fixed fresh first ∙ sym (fixed begun_panel second))

  -- "a model that changes nothing": neither the state nor memory stays.
  pub state-changes : ((p : Panel) (c : Call) → (f p c).answer.panel ≡ p.state) → ⊥
  state-changes stays =
      apart (λ s. s.controller.counts.commands) 1 0 (ap (λ s. s.controller.counts.commands) (keeps fresh first).1.0 ∙ one-counted) none-counted refl
      (stays fresh first)

  pub memory-changes : ((p : Panel) (c : Call) → (f p c).memory ≡ p.memory) → ⊥
  memory-changes stays =
      apart (cell 0) 0xF800 0 (ap (cell 0) (keeps begun_panel second).1.1.1 ∙ second-stores) first-stores-nothing refl (stays begun_panel second)

  -- P1, by its own answers.
  both_left : left_by f (left_by f fresh first) second ≡ after begun_panel second
  both_left = ap (λ make. make (make fresh first) second) (as-promised f keeps)

  -- "One that decodes the first segment and idles"
  pub not-idle : ((c d : Call) → left_by f (left_by f fresh c) d ≡ left_by f fresh c) → ⊥
  not-idle idles =
      apart (λ p. cell 0 p.memory) 0xF800 0 (ap (λ p. cell 0 p.memory) both_left ∙ second-stores)
      (ap (cell 0) (keeps fresh first).1.1.1 ∙ first-stores-nothing) refl (idles first second)

-- What is published: P1's pixels, then one pixel more.
abbrev blank : List ℕ
blank = replicate 76800 0

abbrev stored : Panel
stored = after begun_panel second

abbrev pub third : Call
third = segment (0x00 ∷ 0x1F ∷ [])

-- The frame after publishing as promised, and the panel.
abbrev refusal : Panel → List ℕ → ℕ
refusal p frame = publish_refusal p.state (length p.memory) (length frame)

abbrev frame_after : Panel → List ℕ → List ℕ
frame_after p frame = published_frame (refusal p frame) p.state p.memory frame

abbrev panel_after : Panel → List ℕ → Panel
panel_after p frame = record { state = published (refusal p frame) p.state; memory = p.memory }

publish-accepted : refusal stored blank ≡ 0
unfolding model
publish-accepted = refl

fresh-published : pixels (panel_after fresh blank).state ≡ 0
unfolding model
fresh-published = refl

stored-published : pixels (panel_after stored blank).state ≡ 2
unfolding model
stored-published = refl

stored-shows : cell 0 (frame_after stored blank) ≡ 0xF800
unfolding model
stored-shows = refl

third-not-yet : cell 2 (frame_after stored blank) ≡ 0
unfolding model
third-not-yet = refl

third-shows : cell 2 (frame_after (after (panel_after stored blank) third) (frame_after stored blank)) ≡ 0x001F
unfolding model
third-shows = refl

module _ (f : Publish) (keeps : KeepsPublish f) where
  abbrev panel_left : Panel → List ℕ → Panel
  panel_left p frame = record { state = (f p frame).answer.panel; memory = p.memory }

  shown : (p : Panel) (frame : List ℕ) → (f p frame).frame ≡ frame_after p frame
  shown p frame = (keeps p frame).1.1.1.1

  -- "A model that refuses everything"
  pub publishes-some : ((p : Panel) (frame : List ℕ) → number (f p frame).answer.status ≡ 0 → ⊥) → ⊥
  publishes-some refuses = refuses stored blank ((keeps stored blank).0 ∙ publish-accepted)

  -- "One fixed answer", whatever the frame does
  pub publishes-not-one : (d : Published) → ((p : Panel) (frame : List ℕ) → (f p frame).answer ≡ d) → ⊥
  publishes-not-one d fixed =
      apart (λ a. pixels a.panel) 0 2 (ap pixels (keeps fresh blank).1.0 ∙ fresh-published) (ap pixels (keeps stored blank).1.0 ∙ stored-published)
      refl (fixed fresh blank ∙ sym (fixed stored blank))

  -- "a model that changes nothing"
  pub frame-changes : ((p : Panel) (frame : List ℕ) → (f p frame).frame ≡ frame) → ⊥
  frame-changes stays = apart (cell 0) 0xF800 0 (ap (cell 0) (shown stored blank) ∙ stored-shows) refl refl (stays stored blank)

  -- "or publishes once only": with a pixel stored between two publishings, the second frame is not the first.
  pub not-once :
      ((p : Panel) (frame : List ℕ) (c : Call) → (f (after (panel_left p frame) c) (f p frame).frame).frame ≡ (f p frame).frame) → ⊥
  not-once once =
      apart (cell 2) 0x001F 0
      (ap (cell 2)
      (shown (after (panel_left stored blank) third) (f stored blank).frame
      ∙ ap (λ s. frame_after (after (record { state = s; memory = stored.memory }) third) (f stored blank).frame) (keeps stored blank).1.0
      ∙ ap (frame_after (after (panel_after stored blank) third)) (shown stored blank))
      ∙ third-shows)
      (ap (cell 2) (shown stored blank) ∙ third-not-yet) refl (once stored blank third)
