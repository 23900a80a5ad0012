-- What appending text means.
use Prim.Native.Nat.{ℕ, ◌+◌, ◌-◌, ◌≤◌, min}
use mathlib.Core.Path.{◌≡◌, refl, sym, ap, ◌∙◌}
use mathlib.Core.List.{List, [], ◌∷◌, ◌++◌, foldl-append}
use native.Mathlib.Omega.{arith}
use lib.ListN.{length, take, length-append, length-take}
use lib.Seq.{take_all}
use Rattle.lists.specs.Fixed.{Fixed, used, push, push_all}
use Rattle.lists.proofs.Fixed.{count-all, places-all, used_all}
use Rattle.text.specs.Text.{appended, Put}

module _ (out : List ℕ) (at : ℕ) (text : List ℕ) where
  -- The buffer keeps its length, and a count within it stays so.
  pub length-appended : length (appended out at text).places ≡ length out
  unfolding appended
  length-appended = places-all (length out) (record { count = at; places = out }) text

  pub count-appended : (appended out at text).count ≡ at + min (length text) (length out - at)
  unfolding appended
  count-appended = count-all (length out) (record { count = at; places = out }) text

  pub count-within : at ≤ length out → (appended out at text).count ≤ length out
  count-within h = rw count-appended (omega arith)

  -- What is used afterwards: the text behind what was used, cut where the buffer ends.
  pub used-appended : at ≤ length out → used (appended out at text) ≡ take (length out) (take at out ++ text)
  unfolding appended
  used-appended h = used_all (length out) (record { count = at; places = out }) text h (omega arith)

  -- Where there is room, nothing is cut.
  pub count_room : at + length text ≤ length out → (appended out at text).count ≡ at + length text
  count_room h = count-appended ∙ omega arith

  pub used-room : at + length text ≤ length out → used (appended out at text) ≡ take at out ++ text
  used-room h =
      used-appended (omega arith) ∙ take_all (length out) (take at out ++ text) (simp (length-append, length-take) (omega arith))

-- A text from the first place on.
pub used-whole : (out text : List ℕ) → used (appended out 0 text) ≡ take (length out) text
used-whole out text = used-appended out 0 text (omega arith)

-- Two texts one after the other are one text.
pub appended-append :
    (out : List ℕ) (at : ℕ) (a b : List ℕ) → appended out at (a ++ b) ≡ appended (appended out at a).places (appended out at a).count b
unfolding appended
appended-append out at a b =
    let f : Fixed ℕ = record { count = at; places = out } in
    foldl-append (push (length out)) f a b
    ∙ ap (λ n. push_all n (push_all (length out) f a) b) (sym (places-all (length out) f a))

-- No text.
pub appended_none : (out : List ℕ) (at : ℕ) → appended out at [] ≡ record { count = at; places = out }
unfolding appended
appended_none out at = refl

-- A byte and then a text.
pub appended_byte :
    (out : List ℕ) (at x : ℕ) (b : List ℕ) →
    appended out at (x ∷ b) ≡ appended (appended out at (x ∷ [])).places (appended out at (x ∷ [])).count b
appended_byte out at x b = appended-append out at (x ∷ []) b

-- What `grind` joins the texts of calls with.
pub ruleset joined = (appended-append, appended_byte, appended_none)

-- The same text said otherwise.
pub put_same : (out : List ℕ) (at : ℕ) {a b : List ℕ} {at₁ : ℕ} {out₁ : List ℕ} → a ≡ b → Put out at a at₁ out₁ → Put out at b at₁ out₁
put_same out at e p = (p.0 ∙ ap (λ l. (appended out at l).count) e, p.1 ∙ ap (λ l. (appended out at l).places) e)

-- A caller that appends a and then b has appended both.
module _ (out : List ℕ) (at : ℕ) (a b : List ℕ) {at₁ : ℕ} {out₁ : List ℕ} (one : Put out at a at₁ out₁) where
  pub appended-next : appended out₁ at₁ b ≡ appended out at (a ++ b)
  appended-next =
      ap (λ l. appended l at₁ b) one.1 ∙ ap (λ n. appended (appended out at a).places n b) one.0 ∙ sym (appended-append out at a b)

  pub put_next : {at₂ : ℕ} {out₂ : List ℕ} → Put out₁ at₁ b at₂ out₂ → Put out at (a ++ b) at₂ out₂
  put_next two = (two.0 ∙ ap (λ f. f.count) appended-next, two.1 ∙ ap (λ f. f.places) appended-next)

-- What a call answers lies within the buffer that it leaves.
pub put-within :
    (out : List ℕ) (at : ℕ) (text : List ℕ) {at₁ : ℕ} {out₁ : List ℕ} → at ≤ length out → Put out at text at₁ out₁ → at₁ ≤ length out₁
put-within out at text h p = omega (arith, p.0, ap length p.1, count-within out at text h, length-appended out at text)
