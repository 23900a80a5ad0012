-- What is printed where the log is accepted, and where it is refused.
use Prim.Native.Nat.{ℕ}
use mathlib.Core.Path.{◌≡◌, sym, ap, ap₂, ◌∙◌}
use mathlib.Core.Bool.{cond}
use mathlib.Core.List.{List, [], ◌∷◌}
use lib.Dec.{eqb}
use Rattle.status.specs.Numbers.{number_of, unless_refused}
use Rattle.status.specs.declared.Refusal.{Refusal}
use Rattle.status.proofs.Unless.{refused}
use Rattle.logs.specs.Log.{log_refusal, bad_offset}
use Rattle.st7789.specs.Entries.{fresh_panel}
use Rattle.st7789.specs.declared.St7789p3.{St7789p3}
use Rattle.lines.specs.Lines.{ascii, line}
use Rattle.report.specs.Report.{report}
use Rattle.replay.specs.Replay.{logged, replayed, replayed_if_good, printed}

module _ (log : List ℕ) where
  pub report-printed : {s : St7789p3} → 0 ≡ log_refusal log → s ≡ replayed_if_good log → report s ≡ printed log
  unfolding printed
  report-printed e es =
      ap report (es ∙ ap (λ n. unless_refused n (replayed log) (fresh_panel logged)) (sym e))
      ∙ ap (λ n. unless_refused n (report (replayed log)) (line (ascii "refused") (log_refusal log ∷ bad_offset log ∷ []))) e

  pub refusal-printed :
      (refusal : Refusal) {offset : ℕ} → number_of refusal ≡ log_refusal log → offset ≡ bad_offset log →
      line (ascii "refused") (number_of refusal ∷ offset ∷ []) ≡ printed log
  unfolding printed
  refusal-printed refusal e eo =
      let told = line (ascii "refused") (log_refusal log ∷ bad_offset log ∷ []) in
      ap₂ (λ n o. line (ascii "refused") (n ∷ o ∷ [])) e eo
      ∙ sym (ap (λ b. cond b (report (replayed log)) told) (ap (λ n. eqb n 0) (sym e) ∙ refused refusal))

pub ruleset printing = (report-printed, refusal-printed)
