-- A stretch of memory in the frame: what stands where, and that rows first to last are one.
use Prim.Native.Nat.{ℕ, ◌+◌, ◌-◌, ◌*◌, ◌≤◌, ◌<◌}
use mathlib.Core.Path.{◌≡◌, sym, ap, ◌∙◌}
use mathlib.Core.List.{List, ◌++◌, append_assoc}
use native.Mathlib.Omega.{arith}
use lib.ListN.{length, get_or, take, drop, length-append, length-take, length-drop}
use borrow.Rule.Slice.PartMut.{put_mid}
use lib.Seq.{length-take-le, take_at, drop_at, drop-drop, get_or-take, get_or-drop}
use Rattle.lists.specs.Copying.{overwritten}
use Rattle.lists.proofs.Mapping.{over-alike}
use Rattle.publishing.specs.Publish.{copied}

-- The n numbers at a are memory's, the others the frame's own.
abbrev pub stretch : ℕ → ℕ → List ℕ → List ℕ → List ℕ
stretch a n memory frame = take a frame ++ (take n (drop a memory) ++ drop (a + n) frame)

module _ (a n : ℕ) (memory frame : List ℕ) (m : length memory ≡ 76800) (f : length frame ≡ 76800) (room : a + n ≤ 76800) where
  head-length : length (take a frame ++ take n (drop a memory)) ≡ a + n
  head-length = simp (length-append, length-take, length-drop) (omega arith)

  regrouped : stretch a n memory frame ≡ (take a frame ++ take n (drop a memory)) ++ drop (a + n) frame
  regrouped = sym (append_assoc (take a frame) (take n (drop a memory)) (drop (a + n) frame))

  front : take (a + n) (stretch a n memory frame) ≡ take a frame ++ take n (drop a memory)
  front = ap (take (a + n)) regrouped ∙ take_at (take a frame ++ take n (drop a memory)) (drop (a + n) frame) (a + n) head-length

  behind : drop (a + n) (stretch a n memory frame) ≡ drop (a + n) frame
  behind = ap (drop (a + n)) regrouped ∙ drop_at (take a frame ++ take n (drop a memory)) (drop (a + n) frame) (a + n) head-length

  -- what stands where afterwards
  pub before : (i : ℕ) → i < a → get_or (stretch a n memory frame) i 0 ≡ get_or frame i 0
  before i h =
      sym (get_or-take a (stretch a n memory frame) i 0 h)
      ∙ ap (λ l. get_or l i 0) (take_at (take a frame) (take n (drop a memory) ++ drop (a + n) frame) a (length-take-le a frame (omega arith)))
      ∙ get_or-take a frame i 0 h

  pub between : (i : ℕ) → a ≤ i → i < a + n → get_or (stretch a n memory frame) i 0 ≡ get_or memory i 0
  between i h k =
      let e : a + (i - a) ≡ i = omega arith in
      sym (get_or-take (a + n) (stretch a n memory frame) i 0 k)
      ∙ ap (λ l. get_or l i 0) front
      ∙ sym (ap (λ j. get_or (take a frame ++ take n (drop a memory)) j 0) e)
      ∙ sym (get_or-drop a (take a frame ++ take n (drop a memory)) (i - a) 0)
      ∙ ap (λ l. get_or l (i - a) 0) (drop_at (take a frame) (take n (drop a memory)) a (length-take-le a frame (omega arith)))
      ∙ get_or-take n (drop a memory) (i - a) 0 (omega arith)
      ∙ get_or-drop a memory (i - a) 0
      ∙ ap (λ j. get_or memory j 0) e

  pub after : (i : ℕ) → a + n ≤ i → get_or (stretch a n memory frame) i 0 ≡ get_or frame i 0
  after i h =
      let e : a + n + (i - (a + n)) ≡ i = omega arith in
      sym (ap (λ j. get_or (stretch a n memory frame) j 0) e)
      ∙ sym (get_or-drop (a + n) (stretch a n memory frame) (i - (a + n)) 0)
      ∙ ap (λ l. get_or l (i - (a + n)) 0) behind
      ∙ get_or-drop (a + n) frame (i - (a + n)) 0
      ∙ ap (λ j. get_or frame j 0) e

module _ (first last : ℕ) (memory frame : List ℕ) (up : first ≤ last) where
  -- Rows first to last are a stretch.
  pub copied-stretch : copied first last memory frame ≡ stretch (first * 240) ((last + 1 - first) * 240) memory frame
  copied-stretch =
      let e : (last + 1) * 240 ≡ first * 240 + (last + 1 - first) * 240 = omega arith in
      ap (λ k. take (first * 240) frame ++ (take ((last + 1 - first) * 240) (drop (first * 240) memory) ++ drop k frame)) e

  -- The part of the frame that is lent, when it is back with memory's numbers.
  pub rows_back :
      {part : List ℕ} → last < 320 → length memory ≡ 76800 → length frame ≡ 76800 →
      part ≡
      overwritten (take (last * 240 + 240 - first * 240) (drop (first * 240) memory)) (take (last * 240 + 240 - first * 240) (drop (first * 240) frame)) →
      put_mid (first * 240) (last * 240 + 240 - first * 240) frame part ≡ copied first last memory frame
  rows_back {part} inside m f e =
      let n : last * 240 + 240 - first * 240 ≡ (last + 1 - first) * 240 = omega arith in
      let from = take (last * 240 + 240 - first * 240) (drop (first * 240) memory) in
      let to = take (last * 240 + 240 - first * 240) (drop (first * 240) frame) in
      let alike : length to ≡ length from = simp (length-take, length-drop) (omega arith) in
      ap (put_mid (first * 240) (last * 240 + 240 - first * 240) frame) (e ∙ over-alike from to alike)
      ∙ ap (λ k. put_mid (first * 240) k frame (take k (drop (first * 240) memory))) n
      ∙ ap (λ l. take (first * 240) frame ++ (take ((last + 1 - first) * 240) (drop (first * 240) memory) ++ l))
      (drop-drop ((last + 1 - first) * 240) (first * 240) frame)
      ∙ sym copied-stretch
