-- Under the plain profile a command, a segment and a transfer are as they were before there was another.
use Prim.Native.Nat.{ℕ}
use mathlib.Core.Path.{◌≡◌, refl, ap, ◌∙◌}
use mathlib.Core.Bool.{Bool, true, false, cond}
use mathlib.Core.List.{List, [], ◌∷◌, ◌++◌, map, foldl, append-nil}
use lib.ListN.{length}
use Rattle.codes.specs.Codes.{kind_of}
use Rattle.lists.specs.Fixed.{places, push_all}
use Rattle.timing.specs.Lint.{breaks1, breaks2, breaks3, breaks4, broken_by, only, rules_of}
use Rattle.status.specs.Numbers.{unless_refused}
use Rattle.st7789.specs.Parts.{warnings_of, with_warnings}
use Rattle.st7789.specs.Command.{warning, broken_with, after_lint, begun, begun_all, released}
use Rattle.st7789.specs.Entries.{moved, transferred, bare_transferred, refusal_with, transferred_with}
use Rattle.st7789.specs.declared.PanelMemory.{PanelMemory}
use Rattle.st7789.specs.declared.PanelMemory.TheVariants.{Lent, Without}
use Rattle.st7789.specs.declared.Controller.{Controller}
use Rattle.st7789.specs.declared.St7789p3.{St7789p3}
use Rattle.laws.specs.Profiles.{three_rules, begun_before, moved_before, transferred_before}

-- A command breaks 01's rules and no other.
pub plain-rules : (c t : ℕ) (k : Controller) → k.cfg.strict ≡ false → rules_of (broken_with c t k) ≡ three_rules c t k
unfolding broken_by
plain-rules c t k e =
    let one = only (breaks1 k.chip.times (kind_of c) t) 1 in
    let two = only (breaks2 k.chip.times (kind_of c) t) 2 in
    let three = only (breaks3 k.cfg.formats k.chip.registers.colmod (kind_of c)) 3 in
    ap (λ strict. one ++ (two ++ (three ++ only (breaks4 strict k.chip.times t) 4))) e ∙ ap (λ l. one ++ (two ++ l)) (append-nil three)

begun-before : (c t : ℕ) (s : St7789p3) → s.controller.cfg.strict ≡ false → begun c t s ≡ begun_before c t s
unfolding begun
begun-before c t s e =
    ap (λ rules. after_lint c t (with_warnings (push_all places (warnings_of s) (map (warning c t) rules)) s)) (plain-rules c t s.controller e)

all-before :
    (t : ℕ) (bytes : List ℕ) (s : St7789p3) → s.controller.cfg.strict ≡ false → begun_all t bytes s ≡ foldl (λ s c. begun_before c t s) s bytes
unfolding begun
all-before t [] s e = refl
all-before t (c ∷ bytes) s e =
    all-before t bytes (begun c t s) e ∙ ap (λ r. foldl (λ s c. begun_before c t s) r bytes) (begun-before c t s e)

moved_before_lem :
    (t : ℕ) (dc : Bool) (bytes : List ℕ) (cs : Bool) (s : St7789p3) → s.controller.cfg.strict ≡ false → moved t dc bytes cs s ≡ moved_before t dc bytes cs s
unfolding moved
moved_before_lem t true bytes cs s e = refl
moved_before_lem t false bytes cs s e = ap (λ (r : St7789p3). cond cs (released r) r) (all-before t bytes s e)

pub transferred-before :
    (memory : PanelMemory) (t : ℕ) (dc : Bool) (bytes : List ℕ) (cs : Bool) (cells : ℕ) (s : St7789p3) → s.controller.cfg.strict ≡ false →
    transferred_with memory t dc bytes cs cells s ≡ transferred_before memory t dc bytes cs cells s
unfolding transferred bare_transferred
transferred-before Lent t dc bytes cs cells s e = ap (λ r. unless_refused (refusal_with Lent s cells (length bytes)) r s) (moved_before_lem t dc bytes cs s e)
transferred-before Without t dc bytes cs cells s e = ap (λ r. unless_refused (refusal_with Without s cells (length bytes)) r s) (moved_before_lem t dc bytes cs s e)
