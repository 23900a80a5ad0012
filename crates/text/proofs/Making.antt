-- The loop of `put_digits`: the digits still to be made, and behind them those that stand in the array, are the digits of the number.
use Prim.Native.Nat.{ℕ, suc, ◌-◌, ◌/◌, ◌%◌, ◌≤◌, ◌<◌}
use mathlib.Core.Path.{◌≡◌, sym, ap, ap₂, ◌∙◌}
use mathlib.Core.List.{List, [], ◌∷◌, ◌++◌, map, map-append, append_assoc, append-nil}
use native.Mathlib.Omega.{arith}
use lib.ListN.{length, take, drop, set, length-set, length-drop, drop_of_length-le}
use lib.Seq.{drop-cons, drop-set-lt, get_or-set_same, take_all}
use Rattle.text.specs.Numbers.{digit_code, digits}

-- A digit stored in front of those that stand there.
stored : (codes : List ℕ) (i v : ℕ) → i < length codes → drop i (set codes i v) ≡ v ∷ drop (suc i) codes
stored codes i v h =
    drop-cons (set codes i v) i 0 (rw length-set h)
    ∙ ap₂ (λ x l. x ∷ l) (get_or-set_same codes i v 0 h) (drop-set-lt (suc i) codes i v (omega arith))

next-digit :
    (base width n : ℕ) (tail : List ℕ) →
    map digit_code (digits base (suc width) n) ++ tail ≡ map digit_code (digits base width (n / base)) ++ (digit_code (n % base) ∷ tail)
unfolding digits
next-digit base width n tail =
    ap (λ l. l ++ tail) (map-append digit_code (digits base width (n / base)) (n % base ∷ []))
    ∙ append_assoc (map digit_code (digits base width (n / base))) (digit_code (n % base) ∷ []) tail

pub record Making (base width n start : ℕ) (codes : List ℕ) (rest first : ℕ) : Type 0 where
  pub within : start ≤ first
  pub most : first ≤ 20
  pub long : length codes ≡ 20
  pub left : map digit_code (digits base (first - start) rest) ++ drop first codes ≡ map digit_code (digits base width n)

module _ {base width n start : ℕ} where
  pub making-first : {codes : List ℕ} → start ≡ 20 - width → width ≤ 20 → length codes ≡ 20 → Making base width n start codes n 20
  making-first {codes} e h l =
      let k : 20 - start ≡ width = omega arith in
      record {
        within = omega arith;
        most = omega arith;
        long = l;
        left =
            ap₂ (λ w t. map digit_code (digits base w n) ++ t) k (drop_of_length-le codes {i = 20} (omega arith))
            ∙ append-nil (map digit_code (digits base width n));
      }

  pub making-next :
      {codes : List ℕ} {rest first v : ℕ} → Making base width n start codes rest first → start < first → v ≡ digit_code (rest % base) →
      Making base width n start (set codes (first - 1) v) (rest / base) (first - 1)
  making-next {codes} {rest} {first} {v} m h e =
      let i : ℕ = first - 1 in
      let one : suc (i - start) ≡ first - start = omega arith in
      let next : suc i ≡ first = omega arith in
      record {
        within = omega arith;
        most = omega arith;
        long = length-set codes i v ∙ m.long;
        left =
            ap (λ t. map digit_code (digits base (i - start) (rest / base)) ++ t)
            (stored codes i v (omega arith) ∙ ap₂ (λ x j. x ∷ drop j codes) e next)
            ∙ sym (next-digit base (i - start) rest (drop first codes))
            ∙ ap (λ w. map digit_code (digits base w rest) ++ drop first codes) one
            ∙ m.left;
      }

  pub making-last :
      {codes : List ℕ} {rest first : ℕ} → Making base width n start codes rest first → first ≤ start →
      take (20 - start) (drop start codes) ≡ map digit_code (digits base width n)
  unfolding digits
  making-last {codes} {rest} {first} m h =
      let none : first - start ≡ 0 = omega arith in
      let same : first ≡ start = omega arith in
      take_all (20 - start) (drop start codes) (rw length-drop (omega arith))
      ∙ (rw (none, same) at m.left)
