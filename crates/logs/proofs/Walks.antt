-- A walk from record to record by `head_at` meets the transfers of a log, and ends.
use Prim.Native.Nat.{ℕ, ◌+◌, ◌-◌, ◌<◌, ◌≤◌, min}
use mathlib.Core.Path.{◌≡◌, sym, ap, ap₂, subst, ◌∙◌}
use mathlib.Core.List.{List, [], ◌∷◌}
use native.Mathlib.Omega.{arith}
use lib.ListN.{length, take, drop, get_or, length-drop, drop_of_length-le}
use lib.Seq.{drop-drop}
use Rattle.std.proofs.lemmas.List.{take_min, drop_min}
use Rattle.logs.specs.Log.{Segment, time_of, body_length, record_length, dc_of, release_of, segment_of, segments, head_at}
use Rattle.logs.specs.declared.Head.{Head}
use Rattle.logs.proofs.Records.{segments-next, segments-last}

-- The transfer of a record, with the bytes from its start to its end.
abbrev pub segment_in : List ℕ → Head → Segment
segment_in log h = record { time = h.t; dc = h.dc; release = h.release; bytes = take (h.end - h.start) (drop h.start log) }

head-segment : (log : List ℕ) (at : ℕ) → segment_in log (head_at log at) ≡ segment_of (drop at log)
unfolding head_at segment_of
head-segment log at =
    let k = body_length (drop at log) in
    let n = length log in
    let body : drop (min (at + 11) n) log ≡ drop 11 (drop at log) = drop_min (at + 11) log ∙ sym (drop-drop 11 at log) in
    let left : length (drop 11 (drop at log)) ≡ n - at - 11 = length-drop 11 (drop at log) ∙ ap (λ m. m - 11) (length-drop at log) in
    let count : min (at + (11 + k)) n - min (at + 11) n ≡ min k (length (drop 11 (drop at log))) = omega arith in
    let bytes : take (min (at + (11 + k)) n - min (at + 11) n) (drop (min (at + 11) n) log) ≡ take k (drop 11 (drop at log)) =
    ap₂ (λ i m. take i m) count body ∙ take_min k (drop 11 (drop at log))
    in
    ap
    (λ l. record {
      time = time_of (drop at log);
      dc = dc_of (get_or (drop at log) 0 0);
      release = release_of (get_or (drop at log) 0 0);
      bytes = l;
    })
    bytes

-- A record that begins before the log's end is the next transfer, and the walk goes on behind it.
pub record Step (log : List ℕ) (at : ℕ) (h : Head) : Type 0 where
  pub onward : at < h.end
  pub transfers : segments (drop at log) ≡ segment_in log h ∷ segments (drop h.end log)

step : (log : List ℕ) (at : ℕ) → at < length log → Step log at (head_at log at)
unfolding head_at
step log at h =
    let rest = drop at log in
    let behind : drop (min (at + record_length rest) (length log)) log ≡ drop (record_length rest) rest =
    drop_min (at + record_length rest) log ∙ sym (drop-drop (record_length rest) at log)
    in
    record {
      onward = omega arith;
      transfers =
          segments-next rest (rw length-drop (omega arith))
          ∙ ap₂ (λ s l. s ∷ segments l) (sym (head-segment log at)) (sym behind);
    }

pub walk-next : (log : List ℕ) (at : ℕ) {h : Head} → h ≡ head_at log at → at < length log → Step log at h
walk-next log at e h = subst (Step log at) (sym e) (step log at h)

pub walk-last : (log : List ℕ) (at : ℕ) → length log ≤ at → segments (drop at log) ≡ []
walk-last log at h = ap segments (drop_of_length-le log h) ∙ segments-last
