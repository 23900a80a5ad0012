-- Within a log no transfer is refused, so that an accepted log is replayed as exactly its transfers.
use Prim.Native.Nat.{ℕ, ◌+◌, ◌^◌, ◌≤◌}
use mathlib.Core.Path.{◌≡◌, refl, sym, ap, subst, ◌∙◌}
use mathlib.Core.Bool.{Bool, true, false, cond}
use mathlib.Core.List.{List, [], ◌∷◌, foldl}
use native.Mathlib.Nat.{zero-add}
use native.Mathlib.Omega.{arith}
use borrow.Author.Tests.{le-ltb}
use lib.Dec.{eqb}
use lib.ListN.{length}
use Rattle.status.specs.Tests.{high}
use Rattle.status.specs.Numbers.{unless_refused}
use Rattle.logs.specs.Log.{Segment, segments, log_of, log_refusal, bad_offset}
use Rattle.logs.specs.Stored.{Storable, Each}
use Rattle.logs.proofs.Bounds.{accepted, total, total-within}
use Rattle.logs.proofs.Stored.{segments-stored, stored-accepted}
use Rattle.st7789.specs.Refusals.{pixels_held, counts_of, bare_refusal}
use Rattle.st7789.specs.Entries.{fresh_controller, empty_lists, fresh_panel, bare_transferred}
use Rattle.st7789.specs.declared.St7789p3.{St7789p3}
use Rattle.laws.specs.Valid.{Good}
use Rattle.laws.proofs.Stays.{moved-good}
use Rattle.laws.proofs.Reach.{fresh-good, bare-good}
use Rattle.laws.proofs.Counts.{moved-grown}
use Rattle.lists.specs.Fixed.{used}
use Rattle.lists.specs.Entries.{some}
use Rattle.text.specs.Text.{appended}
use Rattle.text.proofs.Text.{count_room, used-room}
use Rattle.report.specs.Report.{report}
use Rattle.report.proofs.Lengths.{line-most, report-most}
use Rattle.lines.specs.Lines.{ascii, line}
use Rattle.replay.specs.Replay.{logged, sent, replayed, printed, made, NoneRefused}

-- Counts of at most n.
record Few (n : ℕ) (s : St7789p3) : Type 0 where
  commands : s.controller.counts.commands ≤ n
  ramwrs : s.controller.counts.ramwr_count ≤ n
  pixels : s.controller.counts.pixels_written ≤ n
  dropped : s.controller.counts.dropped_params ≤ n
  inverted : s.controller.counts.inverted ≤ n
  unmapped : s.controller.counts.unmapped ≤ n
  held : pixels_held s.controller.logs.current s.records ≤ n

not-high : (x n : ℕ) → x ≤ n → n ≤ 65536 → high x ≡ false
not-high x n h k = le-ltb (2 ^ 63) x (omega arith)

few-not-high : (n : ℕ) (s : St7789p3) → Few n s → n ≤ 65536 → some high (counts_of s) ≡ false
few-not-high n s f h =
    rw (
      not-high s.controller.counts.commands n f.commands h,
      not-high s.controller.counts.ramwr_count n f.ramwrs h,
      not-high s.controller.counts.pixels_written n f.pixels h,
      not-high s.controller.counts.dropped_params n f.dropped h,
      not-high s.controller.counts.inverted n f.inverted h,
      not-high s.controller.counts.unmapped n f.unmapped h,
      not-high (pixels_held s.controller.logs.current s.records) n f.held h,
    )

not-refused : (n k : ℕ) (s : St7789p3) → Good s → Few n s → n + k ≤ 65536 → bare_refusal s k ≡ 0
unfolding bare_refusal
not-refused n k s g f h = rw (g.fine, le-ltb 65536 k (omega arith), few-not-high n s f (omega arith))

made-is-sent : (s : St7789p3) (r : Segment) → bare_refusal s (length r.bytes) ≡ 0 → sent s r ≡ made s r
unfolding bare_transferred
made-is-sent s r e = ap (λ n. unless_refused n (made s r) s) e

grown : (n : ℕ) (s : St7789p3) (r : Segment) → Good s → Few n s → Few (n + length r.bytes) (made s r)
grown n s r g f =
    let h = moved-grown r.time r.dc r.bytes r.release s g in
    record {
      commands = omega (arith, f.commands, h.commands);
      ramwrs = omega (arith, f.ramwrs, h.ramwrs);
      pixels = omega (arith, f.pixels, h.pixels);
      dropped = omega (arith, f.dropped, h.dropped);
      inverted = omega (arith, f.inverted, h.inverted);
      unmapped = omega (arith, f.unmapped, h.unmapped);
      held = omega (arith, f.held, h.held);
    }

pub record Plain (s : St7789p3) (rs : List Segment) : Type 0 where
  pub none-refused : NoneRefused s rs
  pub exactly : foldl sent s rs ≡ foldl made s rs

plain : (n : ℕ) (s : St7789p3) (rs : List Segment) → Good s → Few n s → n + total rs ≤ 65536 → Plain s rs
plain n s [] g f h = record { none-refused = tt; exactly = refl }
plain n s (r ∷ rs) g f h =
    let zero = not-refused n (length r.bytes) s g f (omega arith) in
    let e = made-is-sent s r zero in
    let rest = plain (n + length r.bytes) (made s r) rs (moved-good r.time r.dc r.bytes r.release s g) (grown n s r g f) (omega arith) in
    record {
      none-refused = (zero, subst (λ s. NoneRefused s rs) (sym e) rest.none-refused);
      exactly = ap (λ s. foldl sent s rs) e ∙ rest.exactly;
    }

fresh-few : Few 0 (fresh_panel logged)
unfolding fresh_controller empty_lists
fresh-few =
    record {
      commands = omega arith;
      ramwrs = omega arith;
      pixels = omega arith;
      dropped = omega arith;
      inverted = omega arith;
      unmapped = omega arith;
      held = omega arith;
    }

-- An accepted log.
module _ (log : List ℕ) (e : log_refusal log ≡ 0) where
  in-log : Plain (fresh_panel logged) (segments log)
  in-log =
      let h = accepted log e in
      let t = total-within log in
      plain 0 (fresh_panel logged) (segments log) (fresh-good logged) fresh-few (omega (arith, h.few))

  pub none-refused-in-log : NoneRefused (fresh_panel logged) (segments log)
  none-refused-in-log = in-log.none-refused

  pub exactly-replayed : replayed log ≡ foldl made (fresh_panel logged) (segments log)
  unfolding replayed
  exactly-replayed = in-log.exactly

-- What is stored within the limit is accepted, and printed as the panel after exactly those transfers.
pub stored-printed :
    (rs : List Segment) → Each Storable rs → length (log_of rs) ≤ 65536 → printed (log_of rs) ≡ report (foldl made (fresh_panel logged) rs)
unfolding printed
stored-printed rs h few =
    let zero = stored-accepted rs h few in
    ap
    (λ n. unless_refused n (report (replayed (log_of rs))) (line (ascii "refused") (log_refusal (log_of rs) ∷ bad_offset (log_of rs) ∷ [])))
    zero
    ∙ ap report (exactly-replayed (log_of rs) zero ∙ ap (foldl made (fresh_panel logged)) (segments-stored rs h))

-- Every log leaves a good state, and room for 17,801 bytes is enough for what is printed.
all-good : (s : St7789p3) (rs : List Segment) → Good s → Good (foldl sent s rs)
all-good s [] g = g
all-good s (r ∷ rs) g = all-good (sent s r) rs (bare-good r.time r.dc r.bytes r.release s g)

pub good-replayed : (log : List ℕ) → Good (replayed log)
unfolding replayed
good-replayed log = all-good (fresh_panel logged) (segments log) (fresh-good logged)

pub printed-most : (log : List ℕ) → length (printed log) ≤ 17801
unfolding printed
printed-most log = go (eqb (log_refusal log) 0)
  where
    go : (b : Bool) → length (cond b (report (replayed log)) (line (ascii "refused") (log_refusal log ∷ bad_offset log ∷ []))) ≤ 17801
    go true = report-most (replayed log) (good-replayed log).fine
    go false = let h = line-most (ascii "refused") (log_refusal log ∷ bad_offset log ∷ []) in omega arith

-- So a buffer of that room holds the whole text, and the answer is its length.
pub all-printed :
    (out log : List ℕ) → 17801 ≤ length out →
    (used (appended out 0 (printed log)) ≡ printed log) × ((appended out 0 (printed log)).count ≡ length (printed log))
all-printed out log h =
    let n : 0 + length (printed log) ≤ length out = omega (arith, printed-most log) in
    (used-room out 0 (printed log) n, count_room out 0 (printed log) n ∙ zero-add (length (printed log)))
