-- The loop over the records of a log: the transfers that are left lead to where all of them lead.
use Prim.Native.Nat.{ℕ, ◌≤◌, ◌<◌}
use mathlib.Core.Path.{◌≡◌, sym, ap, ◌∙◌}
use mathlib.Core.List.{List, foldl}
use lib.ListN.{length, drop}
use Rattle.logs.specs.Log.{segments, head_at}
use Rattle.logs.specs.declared.Head.{Head}
use Rattle.logs.proofs.Heads.{head-within}
use Rattle.logs.proofs.Walks.{segment_in, walk-next, walk-last}
use Rattle.st7789.specs.Entries.{fresh_panel}
use Rattle.st7789.specs.declared.St7789p3.{St7789p3}
use Rattle.replay.specs.Replay.{logged, sent, replayed}

pub record Running (log : List ℕ) (s : St7789p3) (at : ℕ) : Type 0 where
  pub left : foldl sent s (segments (drop at log)) ≡ replayed log

pub running-first : (log : List ℕ) {s : St7789p3} → s ≡ fresh_panel logged → Running log s 0
unfolding replayed
running-first log e = record { left = ap (λ s. foldl sent s (segments log)) e }

module _ {log : List ℕ} {s : St7789p3} {at : ℕ} (p : Running log s at) where
  pub running-next : {h : Head} {r : St7789p3} → h ≡ head_at log at → at < length log → r ≡ sent s (segment_in log h) → Running log r h.end
  running-next {h} {r} e l er =
      record {
        left =
            ap (λ s. foldl sent s (segments (drop h.end log))) er
            ∙ ap (foldl sent s) (sym (walk-next log at e l).transfers)
            ∙ p.left;
      }

  pub running-last : length log ≤ at → s ≡ replayed log
  running-last l = ap (foldl sent s) (sym (walk-last log at l)) ∙ p.left

pub ruleset running = (running-first, running-next, running-last, head-within, walk-next)
