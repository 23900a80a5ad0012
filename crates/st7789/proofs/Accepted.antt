-- What an accepted call may rely on, and what accepted and refused calls leave.
use Prim.Native.Nat.{ℕ, ◌+◌, ◌^◌, ◌≤◌, ◌<◌}
use mathlib.Core.Path.{◌≡◌, refl, sym, ap, ◌∙◌}
use mathlib.Core.Bool.{Bool, true, false, cond, ◌&&◌, true≢false}
use native.Mathlib.Omega.{arith}
use borrow.Author.Tests.{ltb-false, eqb-true}
use lib.Dec.{eqb}
use lib.ListN.{get_or}
use Rattle.std.proofs.lemmas.Bool.{and_parts}
use Rattle.lists.proofs.Somes.{each-fails}
use Rattle.status.specs.Numbers.{unless_refused}
use Rattle.status.specs.Tests.{high, transfer_row}
use Rattle.status.proofs.Rows.{passing, each-passes}
use Rattle.st7789.specs.Refusals.{bad_state, pixels_held, counts_of, transfer_refusal, bare_refusal}
use Rattle.st7789.specs.Room.{Room}
use Rattle.st7789.specs.declared.St7789p3.{St7789p3}
use Rattle.st7789.proofs.Tests.{current-placed}

-- No refusal of a transfer: none of its tests refuses.
pub none-refused :
    (s : St7789p3) (cells n : ℕ) → transfer_refusal s cells n ≡ 0 →
    (i : ℕ) → (get_or (transfer_row (bad_state s) cells n (counts_of s)) i passing).refuses ≡ false
unfolding transfer_refusal
none-refused s cells n e = each-passes (transfer_row (bad_state s) cells n (counts_of s)) refl e

below : (x n : ℕ) → high x ≡ false → n ≤ 65536 → x + n < 2 ^ 64
below x n e h = let k : x ≤ 2 ^ 63 = ltb-false (2 ^ 63) x e in omega arith

pub room : (s : St7789p3) (cells n : ℕ) → transfer_refusal s cells n ≡ 0 → Room n s
room s cells n e =
    let t = none-refused s cells n e in
    let h : n ≤ 65536 = ltb-false 65536 n (t 2) in
    let f : (i : ℕ) → high (get_or (counts_of s) i 0) ≡ false = λ i. each-fails high (counts_of s) (t 3) i 0 refl in
    record {
      counts =
          record {
            commands = below s.controller.counts.commands n (f 0) h;
            ramwrs = below s.controller.counts.ramwr_count n (f 1) h;
            pixels = below s.controller.counts.pixels_written n (f 2) h;
            dropped = below s.controller.counts.dropped_params n (f 3) h;
            inverted = below s.controller.counts.inverted n (f 4) h;
            unmapped = below s.controller.counts.unmapped n (f 5) h;
          };
      held = below (pixels_held s.controller.logs.current s.records) n (f 6) h;
      current = current-placed s (t 0);
    }

-- Without memory the tests are the full transfer's over memory of the right length.
pub bare : (s : St7789p3) (n : ℕ) → transfer_refusal s 76800 n ≡ bare_refusal s n
unfolding transfer_refusal bare_refusal
bare s n = refl

-- The new where nothing was refused, the old where something was.
module _ {n refusal : ℕ} {ok : Bool} (en : n ≡ refusal) (eo : ok ≡ eqb n 0) where
  zero-told : ok ≡ eqb refusal 0
  zero-told = eo ∙ ap (λ n. eqb n 0) en

  pub refusal-none : ok ≡ true → refusal ≡ 0
  refusal-none h = eqb-true refusal 0 (sym zero-told ∙ h)

  pub new-left : {A : Type 0} {new x : A} (old : A) → ok ≡ true → x ≡ new → x ≡ unless_refused refusal new old
  new-left {A} {new} {x} old h e = e ∙ ap (λ b. cond b new old) (sym h ∙ zero-told)

  pub old-left : {A : Type 0} (new : A) {old : A} → ok ≡ false → old ≡ unless_refused refusal new old
  old-left new {old} h = ap (λ b. cond b new old) (sym h ∙ zero-told)

-- What a reset leaves: the new where it is accepted and the rail's, the old elsewhere.
module _ {n refusal : ℕ} {ok r rail : Bool} (en : n ≡ refusal) (eo : ok ≡ eqb n 0) (er : r ≡ rail) where
  pub renewed : {A : Type 0} {new x : A} (old : A) → ok && r ≡ true → x ≡ new → x ≡ unless_refused refusal (cond rail new old) old
  renewed {A} {new} {x} old h e =
      let t = and_parts ok r h in
      new-left en eo old t.0 (e ∙ ap (λ b. cond b new old) (sym t.1 ∙ er))

  pub kept : {A : Type 0} (new old : A) → ok && r ≡ false → old ≡ unless_refused refusal (cond rail new old) old
  kept new old h = by_tests ok r refl refl h
    where
      by_tests : (a b : Bool) → ok ≡ a → r ≡ b → a && b ≡ false → old ≡ unless_refused refusal (cond rail new old) old
      by_tests false b ea eb e = old-left en eo (cond rail new old) ea
      by_tests true false ea eb e = new-left en eo old ea (ap (λ b. cond b new old) (sym eb ∙ er))
      by_tests true true ea eb e = absurd (true≢false e)
