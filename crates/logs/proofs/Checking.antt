-- The check of a log: its loop over the records, and its three answers.
use Prim.Native.Nat.{ℕ, ◌+◌, ◌-◌, ◌≤◌, ◌<◌}
use mathlib.Core.Path.{◌≡◌, refl, sym, ap, ap₂, ◌∙◌}
use mathlib.Core.Logic.{◌⊎◌}
use mathlib.Core.List.{List, []}
use native.Mathlib.Omega.{arith}
use borrow.Author.Tests.{lt-ltb, le-ltb, eq-eqb, ne_eqb}
use lib.ListN.{length, drop, get_or, length-drop, drop_of_length-le}
use lib.Seq.{drop-drop}
use Rattle.logs.specs.Log.{record_length, from_bad, log_refusal, bad_offset}
use Rattle.logs.proofs.Cuts.{lent, lent-all, lent-long}
use Rattle.logs.proofs.Records.{not-bad, bad-for, bad-here, bad-later, bad-never}

-- The refusal and the offset of a log that is too long, of one with a bad record, and of one that is accepted.
pub long-refused : (log : List ℕ) → 65536 < length log → (6 ≡ log_refusal log) × (0 ≡ bad_offset log)
unfolding log_refusal bad_offset
long-refused log h = let e = lt-ltb 65536 (length log) h in (rw e, rw e)

bad-refused : (log : List ℕ) (at : ℕ) → length log ≤ 65536 → at < length log → from_bad log ≡ drop at log → (7 ≡ log_refusal log) × (at ≡ bad_offset log)
unfolding log_refusal bad_offset
bad-refused log at few h e =
    let short = le-ltb 65536 (length log) few in
    let long : length (from_bad log) ≡ length log - at = ap length e ∙ length-drop at log in
    let some = ne_eqb (length (from_bad log)) 0 (omega arith) in (rw (short, some), rw (short, some) (omega arith))

pub all-accepted : (log : List ℕ) → length log ≤ 65536 → from_bad log ≡ [] → (0 ≡ log_refusal log) × (0 ≡ bad_offset log)
unfolding log_refusal bad_offset
all-accepted log few e =
    let short = le-ltb 65536 (length log) few in
    let none = eq-eqb (length (from_bad log)) 0 (ap length e) in (rw (short, none), rw (short, none))

-- The first bad record from an offset on is that of the whole log.
pub record Checking (log : List ℕ) (at : ℕ) : Type 0 where
  pub within : at ≤ length log
  pub left : from_bad (drop at log) ≡ from_bad log

module _ (log : List ℕ) where
  pub checking-first : Checking log 0
  checking-first = record { within = omega arith; left = refl }

  module _ (at : ℕ) (k : Checking log at) where
    pub checking-last : length log ≤ 65536 → length log ≤ at → (0 ≡ log_refusal log) × (0 ≡ bad_offset log)
    checking-last few h = all-accepted log few (sym k.left ∙ ap from_bad (drop_of_length-le log h) ∙ bad-never)

    module _ (h : at < length log) where
      any : 0 < length (lent log at)
      any = omega (arith, lent-long log at)

      first : from_bad (lent log at) ≡ from_bad log
      first = ap from_bad (lent-all log at) ∙ k.left

      module _ {taken : ℕ} (e : taken ≡ record_length (lent log at)) where
        pub checking-bad :
            length log ≤ 65536 → (3 < get_or (lent log at) 0 0) ⊎ ((get_or (lent log at) 0 0 ≤ 3) × (length (lent log at) < taken)) → (7 ≡ log_refusal log) × (at ≡ bad_offset log)
        checking-bad few t = bad-refused log at few h (sym first ∙ bad-here (lent log at) any (bad-for (lent log at) (rw e at t)) ∙ lent-all log at)

        pub checking-next : get_or (lent log at) 0 0 ≤ 3 → taken ≤ length (lent log at) → Checking log (at + taken)
        checking-next tag long =
            let behind : drop (at + taken) log ≡ drop (record_length (lent log at)) (lent log at) =
            sym (drop-drop taken at log) ∙ ap₂ (λ n l. drop n l) e (sym (lent-all log at))
            in
            record {
              within = omega (arith, lent-long log at);
              left = ap from_bad behind ∙ sym (bad-later (lent log at) any (not-bad (lent log at) tag (rw e at long))) ∙ first;
            }

pub ruleset checking = (checking-next, checking-last)
