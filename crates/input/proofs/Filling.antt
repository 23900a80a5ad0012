-- A buffer that is filled from some place on: its front is what it was, and then what came.
use Rattle.std.proofs.Common.{◌≡◌, ℕ, ◌+◌, ◌≤◌, List, ◌++◌, length, take, ap, sym, ◌∙◌}
use Rattle.std.proofs.lemmas.List.{take-append-le, length-take-le}
use Rattle.std.proofs.Math.Seq.{take-append-add}
use borrow.Rule.Slice.PartMut.{put_mid, post_of}

pub front-filled :
    (at room n : ℕ) (old came : List ℕ) → at ≤ length old → n ≤ length came →
    take (at + n) (put_mid at room old came) ≡ take at old ++ take n came
front-filled at room n old came within enough =
    let front = take at old in
    let after = came ++ post_of at room old in
    ap (λ k. take (k + n) (front ++ after)) (sym (length-take-le at old within))
    ∙ take-append-add front after n
    ∙ ap (λ l. front ++ l) (take-append-le n came (post_of at room old) enough)
