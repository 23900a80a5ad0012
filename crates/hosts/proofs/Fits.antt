-- In a row that is not marked the frame is memory: stores that mark their rows keep that.
use Prim.Native.Nat.{ℕ, ◌+◌, ◌*◌, ◌/◌, ◌≤◌, ◌<◌}
use mathlib.Core.Path.{◌≡◌, refl, sym, ◌∙◌}
use mathlib.Core.Bool.{Bool, true, false}
use mathlib.Core.List.{List, [], ◌∷◌, ◌++◌, map, append-nil, Memᴰ}
use native.Mathlib.Omega.{arith}
use lib.ListN.{length, get_or, set, length-set, get_or-eq_default}
use lib.Seq.{get_or-set_other, append_snoc}
use Rattle.marks.specs.Rows.{all_rows, mark, is_marked}
use Rattle.marks.specs.declared.Marks.{Marks}
use Rattle.marks.proofs.Laws.{out-mark, past_all}
use Rattle.pixels.specs.Run.{Store, written, row_of, marked}
use Rattle.hosts.specs.Hosts.{Since, Marked}
use Rattle.hosts.proofs.Spans.{marked-mark, all-marked}

-- What holds at every moment of the two and the marks, with what was noted since the last publish.
pub record Fits (memory frame : List ℕ) (d : Marks) (s : Since) : Type 0 where
  pub memory-long : length memory ≡ 76800
  pub frame-long : length frame ≡ 76800
  pub alike : (r column : ℕ) → column < 240 → is_marked d r ≡ false → get_or frame (r * 240 + column) 0 ≡ get_or memory (r * 240 + column) 0
  pub marks : Marked d s

stored-fits :
    (x : Store) (memory frame : List ℕ) (d : Marks) (all : Bool) (rows : List ℕ) → x.index < 76800 →
    Fits memory frame d (record { all = all; rows = rows }) →
    Fits (set memory x.index x.value) frame (mark d (row_of x)) (record { all = all; rows = rows ++ (row_of x ∷ []) })
stored-fits x memory frame d all rows b v =
    record {
      memory-long = length-set memory x.index x.value ∙ v.memory-long;
      frame-long = v.frame-long;
      alike = λ r column h e.
          let o = out-mark d (row_of x) r e in
          v.alike r column h o.0
          ∙ sym (get_or-set_other memory x.index (r * 240 + column) x.value 0 (λ i. o.1 (in-row r column x.index h i)));
      marks = marked-mark (row_of x) d all rows (omega arith) v.marks;
    }
  where
    in-row : (r column i : ℕ) → column < 240 → r * 240 + column ≡ i → r ≡ i / 240
    in-row r column i h e = omega arith

pub stores-fit :
    (xs : List Store) (memory frame : List ℕ) (d : Marks) (all : Bool) (rows : List ℕ) →
    ((x : Store) → Memᴰ x xs → x.index < 76800) →
    Fits memory frame d (record { all = all; rows = rows }) →
    Fits (written memory xs) frame (marked d xs) (record { all = all; rows = rows ++ map row_of xs })
stores-fit [] memory frame d all rows b v = rw append-nil v
stores-fit (x ∷ xs) memory frame d all rows b v =
    rw (← append_snoc rows (row_of x) (map row_of xs))
    (stores-fit xs (set memory x.index x.value) frame (mark d (row_of x)) all (rows ++ (row_of x ∷ [])) (λ y m. b y (Memᴰ.tail m))
    (stored-fits x memory frame d all rows (b x (Memᴰ.head refl)) v))

-- With all rows marked nothing of the panel is outside.
pub all_fit : (memory frame : List ℕ) (rows : List ℕ) → length memory ≡ 76800 → length frame ≡ 76800 → Fits memory frame all_rows (record { all = true; rows = rows })
all_fit memory frame rows m f =
    record {
      memory-long = m;
      frame-long = f;
      alike = λ r column h e.
          let past = past_all r e in
          let far : 76800 ≤ r * 240 + column = omega arith in
          get_or-eq_default frame 0 (rw f far) ∙ sym (get_or-eq_default memory 0 (rw m far));
      marks = all-marked rows;
    }
