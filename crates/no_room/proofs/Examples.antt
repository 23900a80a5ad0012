-- Every worked example passes, by computing it; and so for whatever keeps the promises of a transfer and of dimming.
use Prim.Native.Nat.{ℕ}
use mathlib.Core.Path.{◌≡◌, refl, sym, ap, ap₂, ◌∙◌}
use mathlib.Core.Bool.{Bool, true, false, cond}
use mathlib.Core.List.{List, [], ◌∷◌, ◌++◌, map}
use native.Mathlib.Omega.{arith}
use lib.Dec.{eqb}
use lib.ListN.{length, length-replicate}
use Rattle.formats.specs.Bytes.{pixels_of}
use Rattle.formats.specs.declared.Carry.TheVariants.{Empty}
use Rattle.formats.specs.declared.Format.TheVariants.{HighFirst}
use Rattle.formats.proofs.Waiting.{pixels-whole}
use Rattle.pixels.specs.Run.{written, added}
use Rattle.pixels.specs.declared.Totals.{Totals}
use Rattle.pixels.proofs.Stores.{written-length}
use Rattle.pixels.proofs.OnPanel.{on-panel-stored}
use Rattle.st7789.specs.Data.{data_in, stores_in, totals_in}
use Rattle.st7789.specs.Refusals.{transfer_refusal}
use Rattle.st7789.specs.Entries.{transferred, transfer_totals, transfer_memory}
use Rattle.light.specs.Light.{dimmed}
use Rattle.st7789.specs.declared.St7789p3.{St7789p3}
use Rattle.laws.proofs.Answers.{answers-cut}
use Rattle.no_room.specs.Panels.{Call, Panel, fresh, reading, after}
use Rattle.no_room.specs.Examples.{rows, all_pass, formatted, timed, all_warn, outcomes, totalled, answers_by, answers_from, flushing}
use Rattle.no_room.specs.Kept.{Transfer, KeepsTransfer, left_by, Dim, KeepsDim}
use Rattle.no_room.proofs.Model.{model}
use Rattle.no_room.proofs.Kept.{as-promised, dim-as-promised}

pub all_pass_lem : all_pass fresh after (rows dimmed) ≡ true
unfolding rows model
all_pass_lem = refl

pub all-formatted : all_pass reading after formatted ≡ true
unfolding formatted model
all-formatted = refl

pub all-warn : all_warn after timed ≡ true
unfolding timed model
all-warn = refl

pub all-passed-by : (f : Transfer) (g : Dim) → KeepsTransfer f → KeepsDim g → all_pass fresh (left_by f) (rows g) ≡ true
all-passed-by f g keeps dims = ap₂ (λ make dim. all_pass fresh make (rows dim)) (as-promised f keeps) (dim-as-promised g dims) ∙ all_pass_lem

pub all-formatted-by : (f : Transfer) → KeepsTransfer f → all_pass reading (left_by f) formatted ≡ true
all-formatted-by f keeps = ap (λ make. all_pass reading make formatted) (as-promised f keeps) ∙ all-formatted

pub all-warned-by : (f : Transfer) → KeepsTransfer f → all_warn (left_by f) timed ≡ true
all-warned-by f keeps = ap (λ make. all_warn make timed) (as-promised f keeps) ∙ all-warn

-- The totals of Q-3's rows.
pub all-answer : map (λ r. answers_from fresh.state r.calls) totalled ≡ map (λ r. r.answers) totalled
unfolding totalled model
all-answer = refl

module _ (f : Transfer) (keeps : KeepsTransfer f) where
  abbrev told : Panel → Call → Totals
  told p c = (f p c).answer.totals

  -- Memory keeps its length.
  left-long : (p : Panel) (c : Call) → length (f p c).memory ≡ length p.memory
  unfolding transfer_memory
  left-long p c = ap length (keeps p c).1.1.1 ∙ go (eqb (transfer_refusal p.state (length p.memory) (length c.bytes)) 0)
    where
      go : (b : Bool) → length (cond b (written p.memory (stores_in c.dc c.bytes p.state.controller)) p.memory) ≡ length p.memory
      go true = written-length (stores_in c.dc c.bytes p.state.controller) p.memory
      go false = refl

  answers-kept : (p : Panel) (cs : List Call) → length p.memory ≡ 76800 → answers_by (left_by f) told p cs ≡ answers_from p.state cs
  answers-kept p [] long = refl
  answers-kept p (c ∷ cs) long =
      let head : told p c ≡ transfer_totals c.dc c.bytes 76800 p.state =
      (keeps p c).1.1.0 ∙ ap (λ n. transfer_totals c.dc c.bytes n p.state) long in
      let left : (f p c).answer.panel ≡ transferred c.time c.dc c.bytes c.release 76800 p.state =
      (keeps p c).1.0 ∙ ap (λ n. transferred c.time c.dc c.bytes c.release n p.state) long in
      ap₂ ◌∷◌ head (answers-kept (left_by f p c) cs (left-long p c ∙ long) ∙ ap (λ s. answers_from s cs) left)

  pub all-answered-by : map (λ r. answers_by (left_by f) told fresh r.calls) totalled ≡ map (λ r. r.answers) totalled
  all-answered-by = ap (λ g. map g totalled) (λ i r. answers-kept fresh r.calls (length-replicate {A = ℕ} 76800 0) i) ∙ all-answer

-- A full flush stores all of the panel's pixels, whatever their colours; and so in all where it is cut into transfers.
module _ (bytes : List ℕ) (full : length bytes ≡ 153600) where
  pub full-flush : totals_in true bytes flushing.state.controller ≡ outcomes 76800 0 0
  unfolding model
  full-flush =
      let all : length (pixels_of HighFirst Empty bytes) ≡ 76800 = omega (arith, pixels-whole HighFirst Empty bytes refl, full) in
      on-panel-stored (record { window = record { xs = 0; xe = 239; ys = 0; ye = 319 }; madctl = 0; format = HighFirst })
      (record { upright = refl; xs = omega arith; xe = omega arith; ys = omega arith; ye = omega arith })
      (record { pointer = record { x = 0; y = 0 }; carry = Empty })
      bytes (record { x = omega arith; y = omega arith })
      ∙ ap (λ n. outcomes n 0 0) all

  pub flush-in-parts :
      (a b c : List ℕ) → a ++ (b ++ c) ≡ bytes →
      let s : St7789p3 = flushing.state in
      let t : St7789p3 = data_in a s in
      let u : St7789p3 = data_in b t in
      added (totals_in true a s.controller) (added (totals_in true b t.controller) (totals_in true c u.controller)) ≡ outcomes 76800 0 0
  flush-in-parts a b c e =
      sym (ap (added (totals_in true a flushing.state.controller)) (answers-cut b c (data_in a flushing.state)))
      ∙ sym (answers-cut a (b ++ c) flushing.state)
      ∙ ap (λ l. totals_in true l flushing.state.controller) e
      ∙ full-flush
