-- The record at an offset: the two answers of `head_at`, and that its bytes lie within the log.
use Prim.Native.Nat.{ℕ, ◌+◌, ◌-◌, ◌≤◌, ◌<◌, min}
use mathlib.Core.Path.{◌≡◌, sym, ap, subst, ◌∙◌}
use mathlib.Core.Bool.{false}
use mathlib.Core.List.{List}
use native.Mathlib.Omega.{arith}
use lib.ListN.{length, drop, get_or, length-drop, drop_of_length-le}
use Rattle.logs.specs.Log.{time_of, record_length, dc_of, release_of, head_at}
use Rattle.logs.specs.declared.Head.{Head}
use Rattle.logs.proofs.Cuts.{lent-all}

pub head-past :
    (log : List ℕ) (at : ℕ) → length log ≤ at →
    record { t = 0; start = length log; end = length log; dc = false; release = false } ≡ head_at log at
unfolding head_at
head-past log at h =
    let s : length log ≡ min (at + 11) (length log) = omega arith in
    let e : length log ≡ min (at + record_length (drop at log)) (length log) = omega arith in
    rw (← s, ← e, drop_of_length-le log h)

pub head_read :
    (log : List ℕ) (at : ℕ) → at < length log → {rest : List ℕ} → rest ≡ drop at log →
    {t header whole : ℕ} → t ≡ time_of rest → header ≡ min 11 (length rest) → whole ≡ min (record_length rest) (length rest) →
    record {
      t = t;
      start = at + header;
      end = at + whole;
      dc = dc_of (get_or rest 0 0);
      release = release_of (get_or rest 0 0);
    } ≡
    head_at log at
unfolding head_at
head_read log at h {rest} e {t} {header} {whole} et eh ew =
    let long : length rest ≡ length log - at = ap length e ∙ length-drop at log in
    let es : at + header ≡ min (at + 11) (length log) = omega arith in
    let ee : at + whole ≡ min (at + record_length rest) (length log) = omega arith in
    rw (et, es, ee, e)

-- What `&log[start..end]` asks, of every log and offset.
pub record Within (log : List ℕ) (h : Head) : Type 0 where
  pub ordered : h.start ≤ h.end
  pub inside : h.end ≤ length log

within : (log : List ℕ) (at : ℕ) → Within log (head_at log at)
unfolding head_at
within log at = record { ordered = omega arith; inside = omega arith }

pub head-within : (log : List ℕ) (at : ℕ) {h : Head} → h ≡ head_at log at → Within log h
head-within log at e = subst (Within log) (sym e) (within log at)

pub ruleset heads = (head-past, head_read, lent-all)
