-- One record more: the comparison of a list is what judging its records in turn makes of it.
use Prim.Native.Nat.{ℕ, suc, ◌+◌, ◌-◌, ◌≤◌, ◌<◌}
use mathlib.Core.Path.{◌≡◌, refl, sym, ap, ◌∙◌}
use mathlib.Core.Bool.{Bool, true, false, cond}
use mathlib.Core.List.{List, [], ◌∷◌, ◌++◌}
use native.Mathlib.Numerals.{add-one}
use native.Mathlib.Omega.{arith}
use lib.ListN.{drop, get_or, drop_of_length-le}
use lib.Seq.{drop-cons, drop-drop}
use Rattle.std.proofs.lemmas.Grind.{take_at_read}
use Rattle.lists.specs.declared.TraceRecord.{TraceRecord}
use Rattle.sequence.specs.Sequence.{boot_sequence, past_step}
use Rattle.lists.specs.Entries.{empty_record}
use Rattle.boot.specs.Boot.{fits, answered, compared_from, compared, judged}
use Rattle.sequence.specs.declared.BootStep.{BootStep}
use Rattle.boot.specs.declared.BootCheck.TheVariants.{Match, Differs, Missing}

-- The comparison with one record, where step k, in row j, is the first missing one.
pub step-past : (k j : ℕ) (r : TraceRecord) → 23 ≤ j → compared_from k (drop j boot_sequence) (r ∷ []) ≡ answered Match empty_record
unfolding compared_from
step-past k j r h = rw (drop_of_length-le boot_sequence h)

module _ (k j : ℕ) (r : TraceRecord) (h : j < 23) where
  one-step :
      compared_from k (drop j boot_sequence) (r ∷ []) ≡
      cond (fits (get_or boot_sequence j past_step) r) (compared_from (k + 1) (drop (suc j) boot_sequence) []) (answered (Differs k) r)
  unfolding compared_from
  one-step = rw (drop-cons boot_sequence j past_step h)

  pub step-differs :
      fits (get_or boot_sequence j past_step) r ≡ false → compared_from k (drop j boot_sequence) (r ∷ []) ≡ answered (Differs k) r
  step-differs e = rw e at one-step

  pub step-next :
      fits (get_or boot_sequence j past_step) r ≡ true → suc j < 23 →
      compared_from k (drop j boot_sequence) (r ∷ []) ≡ answered (Missing (k + 1)) empty_record
  unfolding compared_from
  step-next e l = rw (e, drop-cons boot_sequence (suc j) past_step l) at one-step

  pub step-last :
      fits (get_or boot_sequence j past_step) r ≡ true → suc j ≡ 23 →
      compared_from k (drop j boot_sequence) (r ∷ []) ≡ answered Match empty_record
  unfolding compared_from
  step-last e l = rw (e, drop_of_length-le boot_sequence {i = suc j} (omega arith)) at one-step

-- What `grind` judges a record with.
pub ruleset steps = (step-past, step-differs, step-next, step-last)

-- The same after records that were judged before.
after :
    (j : ℕ) (steps : List BootStep) (records : List TraceRecord) (r : TraceRecord) → drop j boot_sequence ≡ steps →
    judged (compared_from (suc j) steps records) r ≡ compared_from (suc j) steps (records ++ (r ∷ []))
unfolding compared_from
after j [] records r e = refl
after j (s ∷ steps) [] r e =
    let back : suc j - 1 ≡ j = omega arith in
    ap (λ i. compared_from (suc j) (drop i boot_sequence) (r ∷ [])) back ∙ ap (λ l. compared_from (suc j) l (r ∷ [])) e
after j (s ∷ steps) (x ∷ records) r e = by-fit (after (suc j) steps records r rest) (fits s x)
  where
    rest : drop (suc j) boot_sequence ≡ steps
    rest = ap (λ i. drop i boot_sequence) (sym (add-one j)) ∙ sym (drop-drop 1 j boot_sequence) ∙ ap (drop 1) e

    by-fit :
        judged (compared_from (suc (suc j)) steps records) r ≡ compared_from (suc (suc j)) steps (records ++ (r ∷ [])) → (b : Bool) →
        judged (cond b (compared_from (suc j + 1) steps records) (answered (Differs (suc j)) x)) r ≡
        cond b (compared_from (suc j + 1) steps (records ++ (r ∷ []))) (answered (Differs (suc j)) x)
    by-fit next true = rw (add-one (suc j)) next
    by-fit next false = refl

pub judged-compared : (records : List TraceRecord) (r : TraceRecord) → judged (compared records) r ≡ compared (records ++ (r ∷ []))
judged-compared records r = after 0 boot_sequence records r refl

-- What `grind` judges the records of a list with, one more at a time.
pub ruleset records = (judged-compared, take_at_read)
