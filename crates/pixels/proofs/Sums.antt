-- How many pixels went which way: the outcomes added up, and what the three totals come to.
use Prim.Native.Nat.{ℕ, suc, ◌+◌, ◌-◌, ◌≤◌}
use mathlib.Core.Path.{◌≡◌, refl, ap, sym, ◌∙◌}
use mathlib.Core.Bool.{Bool, true, false, cond, true≢false}
use mathlib.Core.List.{List, [], ◌∷◌, ◌++◌, foldl-append}
use native.Mathlib.Nat.{add-zero, add_assoc}
use native.Mathlib.Omega.{arith}
use lib.ListN.{length, length-append}
use Rattle.geometry.specs.Place.{is_inverted, outcome}
use Rattle.geometry.specs.declared.Pointer.{Pointer}
use Rattle.geometry.specs.declared.Site.{Site}
use Rattle.geometry.specs.declared.Outcome.{Outcome}
use Rattle.geometry.specs.declared.Outcome.TheVariants.{Stored, Inverted, Unmapped}
use Rattle.geometry.proofs.Bounds.{is_dropped, dropped-inverted}
use Rattle.marks.specs.declared.Marks.{Marks}
use Rattle.pixels.specs.declared.Totals.{Totals}
use Rattle.pixels.specs.declared.Walk.{Walk}
use Rattle.pixels.specs.declared.Walked.{Walked}
use Rattle.formats.specs.Bytes.{pixels_of, carry_after}
use Rattle.pixels.specs.Run.{onward, counted, pointer_after, store_of, stores_of, stores, walk_after, pixels_counted, adds, added, no_totals, together, totals_of, totals, walked_on, unwalked}
use Rattle.formats.proofs.Cuts.{pixels-cut, pixels-few}
use Rattle.pixels.proofs.Laws.{walk-cut, stores-cut}

pub totals-equal :
    {a a' b b' c c' : ℕ} → a ≡ a' → b ≡ b' → c ≡ c' →
    ◌≡◌ {A = Totals} (record { stored = a; inverted = b; unmapped = c }) (record { stored = a'; inverted = b'; unmapped = c' })
totals-equal e f g = cc

-- Of no pixels all three are 0.
pub totals-none : (site : Site) (p : Pointer) → totals_of site p [] ≡ no_totals
unfolding totals_of
totals-none site p = go (is_inverted site.window)
  where
    go : (b : Bool) → ◌≡◌ {A = Totals} (record { stored = 0; inverted = cond b 0 0; unmapped = cond b 0 0 - 0 }) no_totals
    go true = refl
    go false = refl

-- A pixel stores once at most, and in an inverted window it doesn't.
stored-few : (site : Site) (p : Pointer) (vs : List ℕ) → length (stores_of site p vs) ≤ counted site.window (length vs)
stored-few site p [] = omega arith
stored-few site p (v ∷ vs) =
    rw length-append (go (outcome site p) (is_inverted site.window) (dropped-inverted site p) (stored-few site (onward site.window p) vs))
  where
    l : ℕ
    l = length (stores_of site (onward site.window p) vs)

    go : (o : Outcome) (b : Bool) → is_dropped o ≡ b → l ≤ cond b 0 (length vs) → length (store_of o v) + l ≤ cond b 0 (suc (length vs))
    go (Stored index) true e few = absurd (true≢false (sym e))
    go (Stored index) false e few = omega arith
    go Inverted true e few = omega arith
    go Inverted false e few = omega arith
    go Unmapped true e few = omega arith
    go Unmapped false e few = omega arith

pub stored-most : (site : Site) (p : Pointer) (vs : List ℕ) → length (stores_of site p vs) ≤ length vs
stored-most site p vs = go (is_inverted site.window) (stored-few site p vs)
  where
    go : (b : Bool) → length (stores_of site p vs) ≤ cond b 0 (length vs) → length (stores_of site p vs) ≤ length vs
    go true few = omega arith
    go false few = few

-- "Each pixel's outcome .., the run shall add them up": the totals are the outcomes' sum.
module _ (site : Site) (p : Pointer) (v : ℕ) (vs : List ℕ) where
  pub totals-sum : totals_of site p (v ∷ vs) ≡ added (adds (outcome site p)) (totals_of site (onward site.window p) vs)
  unfolding totals_of
  totals-sum = rw length-append (go (outcome site p) (is_inverted site.window) (dropped-inverted site p) (stored-few site (onward site.window p) vs))
    where
      l : ℕ
      l = length (stores_of site (onward site.window p) vs)

      go :
          (o : Outcome) (b : Bool) → is_dropped o ≡ b → l ≤ cond b 0 (length vs) →
          ◌≡◌ {A = Totals}
          (record {
            stored = length (store_of o v) + l;
            inverted = cond b (suc (length vs)) 0;
            unmapped = cond b 0 (suc (length vs)) - (length (store_of o v) + l);
          })
          (added (adds o) (record { stored = l; inverted = cond b (length vs) 0; unmapped = cond b 0 (length vs) - l }))
      go (Stored index) true e few = cc
      go (Stored index) false e few = totals-equal (omega arith) (omega arith) (omega arith)
      go Inverted true e few = totals-equal (omega arith) (omega arith) (omega arith)
      go Inverted false e few = cc
      go Unmapped true e few = cc
      go Unmapped false e few = totals-equal (omega arith) (omega arith) (omega arith)

-- A cut adds up.
totals-of-cut :
    (site : Site) (u v : List ℕ) (p : Pointer) →
    totals_of site p (u ++ v) ≡ added (totals_of site p u) (totals_of site (pointer_after site.window p (length u)) v)
totals-of-cut site [] v p = rw (totals-none site p) (totals-equal (omega arith) (omega arith) (omega arith))
totals-of-cut site (x ∷ u) v p =
    rw (totals-sum site p x (u ++ v), totals-of-cut site u v (onward site.window p), totals-sum site p x u)
    (totals-equal (omega arith) (omega arith) (omega arith))

pub totals-cut :
    (site : Site) (a b : List ℕ) (k : Walk) → totals site k (a ++ b) ≡ added (totals site k a) (totals site (walk_after site k a) b)
unfolding walk_after
totals-cut site a b k =
    ap (totals_of site k.pointer) (pixels-cut site.format a b k.carry) ∙
    totals-of-cut site (pixels_of site.format k.carry a) (pixels_of site.format (carry_after site.format k.carry a) b) k.pointer

module _ (site : Site) (k : Walk) (bytes : List ℕ) where
  -- Stored and unmapped together are what is counted.
  pub totals-counted : (totals site k bytes).stored + (totals site k bytes).unmapped ≡ pixels_counted site k bytes
  unfolding totals_of pixels_counted
  totals-counted = omega (arith, stored-few site k.pointer (pixels_of site.format k.carry bytes))

  -- The three together are the complete pixels.
  pub totals-complete : together (totals site k bytes) ≡ length (pixels_of site.format k.carry bytes)
  unfolding totals_of
  totals-complete = go (is_inverted site.window) (stored-few site k.pointer (pixels_of site.format k.carry bytes))
    where
      n : ℕ
      n = length (pixels_of site.format k.carry bytes)

      l : ℕ
      l = length (stores_of site k.pointer (pixels_of site.format k.carry bytes))

      go : (b : Bool) → l ≤ cond b 0 n → l + cond b n 0 + (cond b 0 n - l) ≡ n
      go true few = omega arith
      go false few = omega arith

  -- So a segment has no more of them than bytes.
  pub totals-few : together (totals site k bytes) ≤ length bytes
  totals-few = omega (arith, totals-complete, pixels-few site.format k.carry bytes)

-- A segment on top of what went before, and a segment by itself.
pub unwalked-totals : (site : Site) (k : Walk) (d : Marks) (bytes : List ℕ) → (walked_on site (unwalked k d) bytes).totals ≡ totals site k bytes
unwalked-totals site k d bytes = totals-equal (omega arith) (omega arith) (omega arith)

pub walked_none : (site : Site) (r : Walked) → walked_on site r [] ≡ r
unfolding stores walk_after
walked_none site r = simp (totals-none site r.walk.pointer, add-zero)

pub walked-cut : (site : Site) (a b : List ℕ) (r : Walked) → walked_on site r (a ++ b) ≡ walked_on site (walked_on site r a) b
walked-cut site a b r = rw (walk-cut site a b r.walk, totals-cut site a b r.walk, stores-cut site a b r.walk, foldl-append, add_assoc, add_assoc, add_assoc)
