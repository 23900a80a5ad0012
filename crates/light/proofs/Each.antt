-- What the loop over a part makes of its entries: an entry more, and the end; and two ways that make the same.
use Prim.Native.Nat.{ℕ, ◌+◌, ◌≤◌, ◌<◌}
use mathlib.Core.Path.{◌≡◌, refl, sym, ◌∙◌}
use mathlib.Core.List.{List, [], ◌∷◌, map}
use native.Mathlib.Omega.{arith}
use borrow.Author.Count.{below_more}
use lib.ListN.{length, get_or, set, length-set, length-map}
use lib.Seq.{get_or-set_same, get_or-set_other, ext_get_or}
use Rattle.lists.proofs.Mapping.{Mapped, at-index}

-- One entry more.
entry_next :
    (g : ℕ → ℕ) (l : List ℕ) (i v : ℕ) → i < length l → ((k : ℕ) → k < i → get_or l k 0 ≡ g k) → v ≡ g i → (k : ℕ) → k < i + 1 → get_or (set l i v) k 0 ≡ g k
entry_next g l i v h each e =
    below_more (λ k. get_or (set l i v) k 0 ≡ g k) i (λ k b. get_or-set_other l i k v 0 (other k b) ∙ each k b) (get_or-set_same l i v 0 h ∙ e)
  where
    other : (k : ℕ) → k < i → k ≡ i → ⊥
    other k b q = omega arith

module _ {f : ℕ → ℕ} {from : List ℕ} where
  pub mapped_next : {to : List ℕ} {i v : ℕ} → Mapped f from to i → i < length from → v ≡ f (get_or from i 0) → Mapped f from (set to i v) (i + 1)
  mapped_next {to} {i} {v} u h e =
      record {
        within = omega arith;
        long = length-set to i v ∙ u.long;
        each = entry_next (λ k. f (get_or from k 0)) to i v (omega (arith, u.long)) u.each e;
      }

  pub mapped-last : {to : List ℕ} {i : ℕ} → Mapped f from to i → length from ≤ i → to ≡ map f from
  mapped-last {to} {i} u h =
      ext_get_or 0 to (map f from) (u.long ∙ sym (length-map from f))
      (λ k l. u.each k (omega (arith, u.long)) ∙ sym (at-index f from k (omega (arith, u.long))))

-- Two ways to make the entries that agree make the same list.
pub map_same : (f g : ℕ → ℕ) → ((v : ℕ) → f v ≡ g v) → (l : List ℕ) → map f l ≡ map g l
map_same f g e [] = refl
map_same f g e (v ∷ l) = rw (e v, map_same f g e l)
