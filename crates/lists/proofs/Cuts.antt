-- Filling a parameter list in two parts: it is filled as by the whole, as much is dropped, and what is in a used place stays there.
use Prim.Native.Nat.{ℕ, ◌+◌, ◌-◌, ◌<◌, min}
use mathlib.Core.Path.{◌≡◌, refl, sym, ap, ap₂, ◌∙◌}
use mathlib.Core.Bool.{Bool, true, false, cond}
use mathlib.Core.List.{List, [], ◌∷◌, ◌++◌, foldl-append}
use native.Mathlib.Omega.{arith}
use lib.Dec.{ltb}
use lib.ListN.{length, get_or, set, length-append}
use lib.Seq.{get_or-set_other}
use Rattle.lists.specs.Fixed.{Fixed, push, push_all}
use Rattle.lists.specs.Params.{fixed, unfixed, filled, excess}
use Rattle.lists.specs.declared.Params.{Params}
use Rattle.lists.proofs.Filling.{filled-all, count-filled, excess-past}

pub filled-cut : (p : Params) (a b : List ℕ) → filled p (a ++ b) ≡ filled (filled p a) b
filled-cut p a b =
    let all : filled p a ≡ unfixed (push_all 14 (fixed p) a) = filled-all p a in
    filled-all p (a ++ b)
    ∙ ap unfixed (foldl-append (push 14) (fixed p) a b)
    ∙ sym (ap (λ q. filled q b) all ∙ filled-all (unfixed (push_all 14 (fixed p) a)) b)

pub excess-cut : (p : Params) (a b : List ℕ) → excess p (length (a ++ b)) ≡ excess p (length a) + excess (filled p a) (length b)
excess-cut p a b =
    let cut : length (a ++ b) - (14 - p.count) ≡ length a - (14 - p.count) + (length b - (14 - (filled p a).count)) =
    rw (length-append, count-filled p a) (sums (length a) (length b) p.count)
    in
    excess-past p (length (a ++ b)) ∙ cut ∙ sym (ap₂ ◌+◌ (excess-past p (length a)) (excess-past (filled p a) (length b)))
  where
    sums : (m n k : ℕ) → m + n - (14 - k) ≡ m - (14 - k) + (n - (14 - (k + min m (14 - k))))
    sums m n k = omega arith

module _ {A : Type 0} (most : ℕ) (d : A) where
  push-keeps : (f : Fixed A) (x : A) (i : ℕ) → i < f.count → (get_or (push most f x).places i d ≡ get_or f.places i d) × (i < (push most f x).count)
  push-keeps f x i h = go (ltb f.count most)
    where
      pushed_by : Bool → Fixed A
      pushed_by b = cond b (record { count = f.count + 1; places = set f.places f.count x }) f

      go : (b : Bool) → (get_or (pushed_by b).places i d ≡ get_or f.places i d) × (i < (pushed_by b).count)
      go true = (get_or-set_other f.places f.count i x d (λ e. omega arith), omega arith)
      go false = (refl, h)

  all_keep : (f : Fixed A) (xs : List A) (i : ℕ) → i < f.count → get_or (push_all most f xs).places i d ≡ get_or f.places i d
  all_keep f [] i h = refl
  all_keep f (x ∷ xs) i h = let k = push-keeps f x i h in all_keep (push most f x) xs i k.1 ∙ k.0

pub filled_keeps : (p : Params) (bytes : List ℕ) (i : ℕ) → i < p.count → get_or (filled p bytes).bytes i 0 ≡ get_or p.bytes i 0
filled_keeps p bytes i h = ap (λ q. get_or q.bytes i 0) (filled-all p bytes) ∙ all_keep 14 0 (fixed p) bytes i h
