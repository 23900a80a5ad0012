-- Whole pixels: how many they are, and which bytes each is of.
use Prim.Native.Nat.{ℕ, zero, suc, ◌+◌, ◌*◌, ◌≤◌}
use mathlib.Core.Path.{◌≡◌, refl, ap, sym, ◌∙◌}
use mathlib.Core.List.{List, [], ◌∷◌}
use native.Mathlib.Omega.{arith}
use lib.ListN.{length, get_or}
use Rattle.formats.specs.declared.Format.{Format}
use Rattle.formats.specs.declared.Format.TheVariants.{Twelve, HighFirst, LowFirst, Eighteen}
use Rattle.formats.specs.declared.Carry.{Carry}
use Rattle.formats.specs.declared.Carry.TheVariants.{Empty, One, Two}
use Rattle.formats.specs.Bytes.{first_of_two, second_of_two, narrowed, arrival, carry_after}
use Rattle.formats.specs.Counts.{held, whole_in, rest_in}
use Rattle.formats.proofs.Waiting.{pixels-whole, carry-held}
use Rattle.engine.specs.Whole.{pixels_in}

-- As many as the closed form says, and then no byte waits.
none_in : (f : Format) → whole_in f 0 ≡ 0
none_in Twelve = refl
none_in HighFirst = refl
none_in LowFirst = refl
none_in Eighteen = refl

pub whole_length : (f : Format) (bytes : List ℕ) → length (pixels_in f bytes) ≡ whole_in f (length bytes)
whole_length f bytes =
    let e : held Empty + length bytes ≡ length bytes = omega arith in
    omega (arith, none_in f, pixels-whole f Empty bytes refl, ap (whole_in f) e)

pub whole-most : (f : Format) (n : ℕ) → whole_in f n ≤ n
whole-most Twelve n = omega arith
whole-most HighFirst n = omega arith
whole-most LowFirst n = omega arith
whole-most Eighteen n = omega arith

none-held : (c : Carry) → held c ≡ 0 → c ≡ Empty
none-held Empty e = refl
none-held (One a) e = absurd (omega arith)
none-held (Two a b) e = absurd (omega arith)

pub whole-carry : (f : Format) (bytes : List ℕ) → rest_in f (length bytes) ≡ 0 → carry_after f Empty bytes ≡ Empty
whole-carry f bytes e =
    let z : held Empty + length bytes ≡ length bytes = omega arith in
    none-held (carry_after f Empty bytes) (carry-held f Empty bytes refl ∙ ap (rest_in f) z ∙ e)

-- Past a round of two, and of three.
two-on : (a b : ℕ) (l : List ℕ) (k i : ℕ) → get_or (a ∷ b ∷ l) (2 * suc k + i) 0 ≡ get_or l (2 * k + i) 0
two-on a b l k i = let e : 2 * suc k + i ≡ suc (suc (2 * k + i)) = omega arith in ap (λ n. get_or (a ∷ b ∷ l) n 0) e

two-first : (a b : ℕ) (l : List ℕ) (k : ℕ) → get_or (a ∷ b ∷ l) (2 * suc k) 0 ≡ get_or l (2 * k) 0
two-first a b l k = let e : 2 * suc k ≡ suc (suc (2 * k)) = omega arith in ap (λ n. get_or (a ∷ b ∷ l) n 0) e

three-on : (a b c : ℕ) (l : List ℕ) (k i : ℕ) → get_or (a ∷ b ∷ c ∷ l) (3 * suc k + i) 0 ≡ get_or l (3 * k + i) 0
three-on a b c l k i = let e : 3 * suc k + i ≡ suc (suc (suc (3 * k + i))) = omega arith in ap (λ n. get_or (a ∷ b ∷ c ∷ l) n 0) e

three-first : (a b c : ℕ) (l : List ℕ) (k : ℕ) → get_or (a ∷ b ∷ c ∷ l) (3 * suc k) 0 ≡ get_or l (3 * k) 0
three-first a b c l k = let e : 3 * suc k ≡ suc (suc (suc (3 * k))) = omega arith in ap (λ n. get_or (a ∷ b ∷ c ∷ l) n 0) e

-- Where each round of two bytes is a pixel v, pixel k is that of round k.
module _ (f : Format) (v : ℕ → ℕ → ℕ) (one : (a b : ℕ) (bs : List ℕ) → pixels_in f (a ∷ b ∷ bs) ≡ v a b ∷ pixels_in f bs) where
  pair-at : (bytes : List ℕ) (k : ℕ) → 2 * (k + 1) ≤ length bytes → v (get_or bytes (2 * k) 0) (get_or bytes (2 * k + 1) 0) ≡ get_or (pixels_in f bytes) k 0
  pair-at [] k h = absurd (omega arith)
  pair-at (a ∷ []) k h = absurd (omega arith)
  pair-at (a ∷ b ∷ bs) zero h = rw (one a b bs) refl
  pair-at (a ∷ b ∷ bs) (suc k) h = rw (one a b bs, two-first a b bs k, two-on a b bs k 1) (pair-at bs k (omega arith))

pub high-at : (bytes : List ℕ) (k : ℕ) → 2 * (k + 1) ≤ length bytes → get_or bytes (2 * k) 0 * 256 + get_or bytes (2 * k + 1) 0 ≡ get_or (pixels_in HighFirst bytes) k 0
unfolding arrival
high-at = pair-at HighFirst (λ a b. a * 256 + b) (λ a b bs. refl)

pub low-at : (bytes : List ℕ) (k : ℕ) → 2 * (k + 1) ≤ length bytes → get_or bytes (2 * k + 1) 0 * 256 + get_or bytes (2 * k) 0 ≡ get_or (pixels_in LowFirst bytes) k 0
unfolding arrival
low-at = pair-at LowFirst (λ a b. b * 256 + a) (λ a b bs. refl)

-- Where each round of three bytes has a pixel w, and round k's stands at a place that moves on by a round's pixels.
module _ (f : Format) (w : ℕ → ℕ → ℕ → ℕ) (place : ℕ → ℕ)
    (here : (a b c : ℕ) (bs : List ℕ) → w a b c ≡ get_or (pixels_in f (a ∷ b ∷ c ∷ bs)) (place 0) 0)
    (on : (a b c : ℕ) (bs : List ℕ) (k : ℕ) → get_or (pixels_in f (a ∷ b ∷ c ∷ bs)) (place (suc k)) 0 ≡ get_or (pixels_in f bs) (place k) 0) where
  round-at :
      (bytes : List ℕ) (k : ℕ) → 3 * (k + 1) ≤ length bytes →
      w (get_or bytes (3 * k) 0) (get_or bytes (3 * k + 1) 0) (get_or bytes (3 * k + 2) 0) ≡ get_or (pixels_in f bytes) (place k) 0
  round-at [] k h = absurd (omega arith)
  round-at (a ∷ []) k h = absurd (omega arith)
  round-at (a ∷ b ∷ []) k h = absurd (omega arith)
  round-at (a ∷ b ∷ c ∷ bs) zero h = here a b c bs
  round-at (a ∷ b ∷ c ∷ bs) (suc k) h =
      ap (λ x. w x (get_or (a ∷ b ∷ c ∷ bs) (3 * suc k + 1) 0) (get_or (a ∷ b ∷ c ∷ bs) (3 * suc k + 2) 0)) (three-first a b c bs k) ∙
      ap (λ x. w (get_or bs (3 * k) 0) x (get_or (a ∷ b ∷ c ∷ bs) (3 * suc k + 2) 0)) (three-on a b c bs k 1) ∙
      ap (w (get_or bs (3 * k) 0) (get_or bs (3 * k + 1) 0)) (three-on a b c bs k 2) ∙
      round-at bs k (omega arith) ∙
      sym (on a b c bs k)

pub eighteen-at :
    (bytes : List ℕ) (k : ℕ) → 3 * (k + 1) ≤ length bytes →
    narrowed (get_or bytes (3 * k) 0) (get_or bytes (3 * k + 1) 0) (get_or bytes (3 * k + 2) 0) ≡ get_or (pixels_in Eighteen bytes) k 0
unfolding arrival
eighteen-at = round-at Eighteen narrowed (λ k. k) (λ a b c bs. refl) (λ a b c bs k. refl)

pub first-at :
    (bytes : List ℕ) (k : ℕ) → 3 * (k + 1) ≤ length bytes →
    first_of_two (get_or bytes (3 * k) 0) (get_or bytes (3 * k + 1) 0) ≡ get_or (pixels_in Twelve bytes) (2 * k) 0
unfolding arrival
first-at =
    round-at Twelve (λ a b c. first_of_two a b) (λ k. 2 * k) (λ a b c bs. refl)
    (λ a b c bs k. two-first (first_of_two a b) (second_of_two b c) (pixels_in Twelve bs) k)

pub second_at :
    (bytes : List ℕ) (k : ℕ) → 3 * (k + 1) ≤ length bytes →
    second_of_two (get_or bytes (3 * k + 1) 0) (get_or bytes (3 * k + 2) 0) ≡ get_or (pixels_in Twelve bytes) (2 * k + 1) 0
unfolding arrival
second_at =
    round-at Twelve (λ a b c. second_of_two b c) (λ k. 2 * k + 1) (λ a b c bs. refl)
    (λ a b c bs k. two-on (first_of_two a b) (second_of_two b c) (pixels_in Twelve bs) k 1)
