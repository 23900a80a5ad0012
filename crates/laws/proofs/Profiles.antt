-- Two panels, one of them under plain, given the same: everything but the warnings and the profile stays equal, and so do the warnings of
-- rules 1 to 3 while the other's list is not full.
use Rattle.std.specs.Prelude.{Option, Some, None}
use Prim.Native.Nat.{ℕ, ◌+◌, ◌-◌, ◌≤◌, ◌<◌, min}
use mathlib.Core.Path.{◌≡◌, refl, sym, ap, ap₂, ◌∙◌}
use mathlib.Core.Bool.{Bool, true, false, cond}
use mathlib.Core.List.{List, [], ◌∷◌, ◌++◌, map, map-append, append-nil}
use native.Mathlib.Omega.{arith}
use borrow.Author.Tests.{ltb-false}
use lib.Dec.{eqb, ltb}
use lib.ListN.{length, take, length-take, length-append}
use lib.Seq.{take_all}
use Rattle.codes.specs.Codes.{kind_of}
use Rattle.lists.specs.Fixed.{places, used}
use Rattle.lists.specs.declared.Warning.{Warning}
use Rattle.lists.proofs.Fixed.{count-all}
use Rattle.timing.specs.Lint.{breaks1, breaks2, breaks3, breaks4, broken_by, only}
use Rattle.board.specs.Board.{strict_set}
use Rattle.board.specs.declared.PanelConfig.{PanelConfig}
use Rattle.pixels.specs.Run.{written, no_totals}
use Rattle.status.specs.Numbers.{unless_refused}
use Rattle.status.specs.Tests.{first, transfer_row}
use Rattle.status.proofs.Unless.{unless-either}
use Rattle.st7789.specs.Parts.{warnings_of, whole}
use Rattle.st7789.specs.Command.{warning, warnings_for, linted, logs_begun, controller_begun, begun, begun_all, controller_released, released}
use Rattle.st7789.specs.Data.{ran, taken, data_in, stores_in, totals_in}
use Rattle.st7789.specs.Refusals.{bad_state, counts_of, transfer_refusal, bare_refusal}
use Rattle.st7789.specs.Entries.{moved, transferred, bare_transferred, transfer_totals, bare_totals, transfer_memory, refusal_with, transferred_with, totals_with, memory_with}
use Rattle.st7789.specs.declared.PanelMemory.{PanelMemory}
use Rattle.st7789.specs.declared.PanelMemory.TheVariants.{Lent, Without}
use Rattle.st7789.specs.declared.Logs.{Logs}
use Rattle.st7789.specs.declared.Controller.{Controller}
use Rattle.st7789.specs.declared.St7789p3.{St7789p3}
use Rattle.st7789.proofs.Tests.{clause}
use Rattle.st7789.proofs.Accepted.{bare}
use Rattle.laws.specs.Valid.{Good}
use Rattle.laws.specs.Profiles.{three_rules, chosen, unwarned, of_three, ProfilesAgree}
use Rattle.laws.proofs.DataKinds.{data_by, by_kind}
use Rattle.laws.proofs.Meaning.{warnings-mean}
use Rattle.laws.proofs.Plain.{plain-rules}
use Rattle.laws.proofs.Reach.{unseen-good}
use Rattle.laws.proofs.Stays.{warned-by, begun-good, moved-good}

-- Neither warnings nor profile is read by what goes on after the lint.
logs-alike :
    (traced : ℕ) (current : Option ℕ) (n m : ℕ) →
    ◌≡◌ {A = Logs}
    (record {
      traced = (logs_begun (record { traced = traced; warned = n; current = current })).traced;
      warned = 0;
      current = (logs_begun (record { traced = traced; warned = n; current = current })).current;
    })
    (record {
      traced = (logs_begun (record { traced = traced; warned = m; current = current })).traced;
      warned = 0;
      current = (logs_begun (record { traced = traced; warned = m; current = current })).current;
    })
logs-alike traced current n m = go (ltb traced places)
  where
    by : ℕ → Bool → Logs
    by w b = cond b (record { traced = traced + 1; warned = w; current = Some traced }) (record { traced = traced; warned = w; current = None })

    go :
        (b : Bool) →
        ◌≡◌ {A = Logs} (record { traced = (by n b).traced; warned = 0; current = (by n b).current })
        (record { traced = (by m b).traced; warned = 0; current = (by m b).current })
    go true = refl
    go false = refl

begun-unwarned : (c t : ℕ) (s : St7789p3) → unwarned (begun c t s) ≡ unwarned (begun c t (unwarned s))
unfolding begun
begun-unwarned c t s =
    let k = controller_begun c t s.controller in
    ap
    (λ l. record {
      controller = whole (strict_set false k.cfg) k.power k.chip k.counts k.marks l;
      stored = s.stored;
      records = (begun c t s).records;
      warnings = [];
    })
    (logs-alike s.controller.logs.traced s.controller.logs.current (linted c t s).count (linted c t (unwarned s)).count)

all-unwarned : (t : ℕ) (bytes : List ℕ) (s : St7789p3) → unwarned (begun_all t bytes s) ≡ unwarned (begun_all t bytes (unwarned s))
all-unwarned t [] s = refl
all-unwarned t (c ∷ bytes) s =
    all-unwarned t bytes (begun c t s)
    ∙ ap (λ r. unwarned (begun_all t bytes r)) (begun-unwarned c t s)
    ∙ sym (all-unwarned t bytes (begun c t (unwarned s)))

data-unwarned : (bytes : List ℕ) (s : St7789p3) → unwarned (data_in bytes s) ≡ unwarned (data_in bytes (unwarned s))
unfolding data_in ran taken
data-unwarned bytes s = go s.controller.chip.decoder.in_pixels s.controller.chip.decoder.cmd
  where
    go : (run : Bool) (f : Option ℕ) → unwarned (data_by run f bytes s) ≡ unwarned (data_by run f bytes (unwarned s))
    go true f = refl
    go false None = refl
    go false (Some c) = refl

release-unwarned : (cs : Bool) (s r : St7789p3) → unwarned s ≡ unwarned r → unwarned (cond cs (released s) s) ≡ unwarned (cond cs (released r) r)
unfolding controller_released
release-unwarned true s r e = ap released e
release-unwarned false s r e = e

pub moved-unwarned :
    (t : ℕ) (dc : Bool) (bytes : List ℕ) (cs : Bool) (s : St7789p3) → unwarned (moved t dc bytes cs s) ≡ unwarned (moved t dc bytes cs (unwarned s))
unfolding moved
moved-unwarned t true bytes cs s = release-unwarned cs (data_in bytes s) (data_in bytes (unwarned s)) (data-unwarned bytes s)
moved-unwarned t false bytes cs s = release-unwarned cs (begun_all t bytes s) (begun_all t bytes (unwarned s)) (all-unwarned t bytes s)

-- A good panel is refused what it is refused without them.
pub bad-unwarned : (s : St7789p3) → Good s → bad_state s ≡ bad_state (unwarned s)
unfolding bad_state
bad-unwarned s g =
    g.fine
    ∙ sym (unseen-good (strict_set false s.controller.cfg) s.controller.power s.controller.counts _ 0 s.warnings s g refl g.sized.warnings (clause s g.fine 7) refl).fine

pub refusal-unwarned : (s : St7789p3) → Good s → (cells n : ℕ) → transfer_refusal s cells n ≡ transfer_refusal (unwarned s) cells n
unfolding transfer_refusal
refusal-unwarned s g cells n = ap (λ b. first (transfer_row b cells n (counts_of s))) (bad-unwarned s g)

-- The warnings of rules 1 to 3 among others.
three-append : (us ws : List Warning) → of_three (us ++ ws) ≡ of_three us ++ of_three ws
three-append [] ws = refl
three-append (u ∷ us) ws = go (three-append us ws) (ltb u.rule 4)
  where
    go :
        of_three (us ++ ws) ≡ of_three us ++ of_three ws → (b : Bool) →
        cond b (u ∷ of_three (us ++ ws)) (of_three (us ++ ws)) ≡ cond b (u ∷ of_three us) (of_three us) ++ of_three ws
    go e true = ap (λ l. u ∷ l) e
    go e false = e

three-few : (ws : List Warning) → length (of_three ws) ≤ length ws
three-few [] = omega arith
three-few (w ∷ ws) = go (three-few ws) (ltb w.rule 4)
  where
    go : length (of_three ws) ≤ length ws → (b : Bool) → length (cond b (w ∷ of_three ws) (of_three ws)) ≤ length (w ∷ ws)
    go h true = omega (arith, h)
    go h false = omega (arith, h)

-- Of a command's warnings they are those that it has under plain.
module _ (c t : ℕ) where
  three-only :
      (b : Bool) (rule : ℕ) (l : List ℕ) → ltb rule 4 ≡ true →
      of_three (map (warning c t) (only b rule ++ l)) ≡ map (warning c t) (only b rule) ++ of_three (map (warning c t) l)
  three-only true rule l e = ap (λ x. cond x (warning c t rule ∷ of_three (map (warning c t) l)) (of_three (map (warning c t) l))) e
  three-only false rule l e = refl

  four-none : (b : Bool) → of_three (map (warning c t) (only b 4)) ≡ []
  four-none true = refl
  four-none false = refl

  three-mapped : (one two three : Bool) (four : Bool) →
      of_three (map (warning c t) (only one 1 ++ (only two 2 ++ (only three 3 ++ only four 4))))
      ≡ map (warning c t) (only one 1 ++ (only two 2 ++ only three 3))
  three-mapped one two three four =
      rw (
        three-only one 1 (only two 2 ++ (only three 3 ++ only four 4)) refl,
        three-only two 2 (only three 3 ++ only four 4) refl,
        three-only three 3 (only four 4) refl,
        four-none four,
        append-nil (map (warning c t) (only three 3)),
        map-append (warning c t) (only one 1) (only two 2 ++ only three 3),
        map-append (warning c t) (only two 2) (only three 3),
      )

  warnings-three : (k : Controller) → of_three (warnings_for c t k) ≡ map (warning c t) (three_rules c t k)
  unfolding broken_by
  warnings-three k =
      three-mapped (breaks1 k.chip.times (kind_of c) t) (breaks2 k.chip.times (kind_of c) t)
      (breaks3 k.cfg.formats k.chip.registers.colmod (kind_of c)) (breaks4 k.cfg.strict k.chip.times t)

-- The two panels, and what the laws need to know of them.
pub record Beside (p s : St7789p3) : Type 0 where
  pub agree : ProfilesAgree p s
  pub plain : p.controller.cfg.strict ≡ false
  pub good-p : Good p
  pub good-s : Good s

module _ (p s : St7789p3) (w : Beside p s) (c t : ℕ) where
  abbrev P : List Warning
  P = used (warnings_of p)

  abbrev S : List Warning
  S = used (warnings_of s)

  few-warned : (r : St7789p3) → Good r → r.controller.logs.warned ≤ places
  few-warned r g = ltb-false places r.controller.logs.warned (clause r g.fine 6)

  plain-warnings : of_three (warnings_for c t s.controller) ≡ warnings_for c t p.controller
  plain-warnings =
      warnings-three c t s.controller
      ∙ ap (λ (r : St7789p3). map (warning c t) (three_rules c t r.controller)) (sym w.agree.rest)
      ∙ ap (map (warning c t)) (sym (plain-rules c t p.controller w.plain))

  begun-three : (begun c t s).controller.logs.warned < places → of_three (used (warnings_of (begun c t s))) ≡ used (warnings_of (begun c t p))
  unfolding begun
  begun-three h =
      let xs = warnings_for c t s.controller in
      let few = few-warned s w.good-s in
      let count : (begun c t s).controller.logs.warned ≡ s.controller.logs.warned + min (length xs) (places - s.controller.logs.warned) =
      warned-by c t s (ltb s.controller.logs.traced places) ∙ count-all places (warnings_of s) xs in
      let long : length S ≡ s.controller.logs.warned = length-take s.controller.logs.warned s.warnings ∙ omega (arith, few, w.good-s.sized.warnings) in
      let fits : length (S ++ xs) ≤ places = rw (length-append S xs, long) (omega (arith, count, h, few)) in
      let whole : of_three (S ++ xs) ≡ P ++ warnings_for c t p.controller =
      three-append S xs ∙ ap₂ (λ a b. a ++ b) (w.agree.three (omega (arith, count, h))) plain-warnings in
      ap of_three (warnings-mean s c t few w.good-s.sized.warnings ∙ take_all places (S ++ xs) fits)
      ∙ whole
      ∙ sym (take_all places (P ++ warnings_for c t p.controller) (omega (arith, three-few (S ++ xs), fits, ap length whole)))
      ∙ sym (warnings-mean p c t (few-warned p w.good-p) w.good-p.sized.warnings)

  begun-beside : Beside (begun c t p) (begun c t s)
  unfolding begun
  begun-beside =
      record {
        agree =
            record {
              rest = begun-unwarned c t p ∙ ap (λ r. unwarned (begun c t r)) w.agree.rest ∙ sym (begun-unwarned c t s);
              three = begun-three;
            };
        plain = w.plain;
        good-p = begun-good c t p w.good-p;
        good-s = begun-good c t s w.good-s;
      }

-- What leaves the warnings alone, and what was chosen when the panel was made.
pub record Leaves (s r : St7789p3) : Type 0 where
  pub warned : r.controller.logs.warned ≡ s.controller.logs.warned
  pub warnings : r.warnings ≡ s.warnings
  pub kept : chosen r ≡ chosen s

pub left-beside :
    {p s p' s' : St7789p3} → Beside p s → Leaves p p' → Leaves s s' → unwarned p' ≡ unwarned s' → Good p' → Good s' → Beside p' s'
left-beside {p} {s} {p'} {s'} w u v e g h =
    record {
      agree =
          record {
            rest = e;
            three = λ few.
                ap₂ (λ n l. of_three (take n l)) v.warned v.warnings
                ∙ w.agree.three (omega (arith, few, v.warned))
                ∙ sym (ap₂ take u.warned u.warnings);
          };
      plain = ap (λ (c : PanelConfig). c.strict) u.kept ∙ w.plain;
      good-p = g;
      good-s = h;
    }

all-beside : (t : ℕ) (bytes : List ℕ) (p s : St7789p3) → Beside p s → Beside (begun_all t bytes p) (begun_all t bytes s)
all-beside t [] p s w = w
all-beside t (c ∷ bytes) p s w = all-beside t bytes (begun c t p) (begun c t s) (begun-beside p s w c t)

data-leaves : (bytes : List ℕ) (s : St7789p3) → Leaves s (data_in bytes s)
unfolding ran taken
data-leaves bytes s =
    by_kind bytes s (λ run r. Leaves s r) (λ f. record { warned = refl; warnings = refl; kept = refl })
    (record { warned = refl; warnings = refl; kept = refl }) (λ c. record { warned = refl; warnings = refl; kept = refl })

release-leaves : (cs : Bool) (s : St7789p3) → Leaves s (cond cs (released s) s)
unfolding controller_released
release-leaves true s = record { warned = refl; warnings = refl; kept = refl }
release-leaves false s = record { warned = refl; warnings = refl; kept = refl }

leaves-then : {s r q : St7789p3} → Leaves s r → Leaves r q → Leaves s q
leaves-then u v =
    record { warned = v.warned ∙ u.warned; warnings = v.warnings ∙ u.warnings; kept = v.kept ∙ u.kept }

-- A segment, and a transfer, refused or not.
data-left : (t : ℕ) (bytes : List ℕ) (cs : Bool) (s : St7789p3) → Leaves s (moved t true bytes cs s)
unfolding moved
data-left t bytes cs s = leaves-then (data-leaves bytes s) (release-leaves cs (data_in bytes s))

commands-left : (t : ℕ) (bytes : List ℕ) (cs : Bool) (s : St7789p3) → Leaves (begun_all t bytes s) (moved t false bytes cs s)
unfolding moved
commands-left t bytes cs s = release-leaves cs (begun_all t bytes s)

moved-beside :
    (t : ℕ) (dc : Bool) (bytes : List ℕ) (cs : Bool) (p s : St7789p3) → Beside p s → Beside (moved t dc bytes cs p) (moved t dc bytes cs s)
moved-beside t dc bytes cs p s w = go dc
  where
    put : {p' s' : St7789p3} (dc : Bool) → Beside p' s' → Leaves p' (moved t dc bytes cs p) → Leaves s' (moved t dc bytes cs s) → Beside (moved t dc bytes cs p) (moved t dc bytes cs s)
    put dc w' u v =
        left-beside w' u v
        (moved-unwarned t dc bytes cs p ∙ ap (λ r. unwarned (moved t dc bytes cs r)) w.agree.rest ∙ sym (moved-unwarned t dc bytes cs s))
        (moved-good t dc bytes cs p w.good-p) (moved-good t dc bytes cs s w.good-s)

    go : (dc : Bool) → Beside (moved t dc bytes cs p) (moved t dc bytes cs s)
    go true = put true w (data-left t bytes cs p) (data-left t bytes cs s)
    go false = put false (all-beside t bytes p s w) (commands-left t bytes cs p) (commands-left t bytes cs s)

lent-refusal : (p s : St7789p3) → Beside p s → (cells n : ℕ) → transfer_refusal p cells n ≡ transfer_refusal s cells n
lent-refusal p s w cells n =
    refusal-unwarned p w.good-p cells n ∙ ap (λ r. transfer_refusal r cells n) w.agree.rest ∙ sym (refusal-unwarned s w.good-s cells n)

pub refusal-beside :
    (p s : St7789p3) → Beside p s → (memory : PanelMemory) (cells n : ℕ) → refusal_with memory p cells n ≡ refusal_with memory s cells n
refusal-beside p s w Lent cells n = lent-refusal p s w cells n
refusal-beside p s w Without cells n = sym (bare p n) ∙ lent-refusal p s w 76800 n ∙ bare s n

-- A transfer, of whichever refusal.
unless-beside :
    (n m : ℕ) (t : ℕ) (dc : Bool) (bytes : List ℕ) (cs : Bool) (p s : St7789p3) → Beside p s → n ≡ m →
    Beside (unless_refused n (moved t dc bytes cs p) p) (unless_refused m (moved t dc bytes cs s) s)
unless-beside n m t dc bytes cs p s w e = rw e (go (eqb m 0))
  where
    go : (b : Bool) → Beside (cond b (moved t dc bytes cs p) p) (cond b (moved t dc bytes cs s) s)
    go true = moved-beside t dc bytes cs p s w
    go false = w

pub transferred-beside :
    (memory : PanelMemory) (t : ℕ) (dc : Bool) (bytes : List ℕ) (cs : Bool) (cells : ℕ) (p s : St7789p3) → Beside p s →
    Beside (transferred_with memory t dc bytes cs cells p) (transferred_with memory t dc bytes cs cells s)
unfolding transferred bare_transferred
transferred-beside Lent t dc bytes cs cells p s w = unless-beside _ _ t dc bytes cs p s w (refusal-beside p s w Lent cells (length bytes))
transferred-beside Without t dc bytes cs cells p s w = unless-beside _ _ t dc bytes cs p s w (refusal-beside p s w Without cells (length bytes))

pub lent-beside :
    (p s : St7789p3) → Beside p s → (memory : PanelMemory) (dc : Bool) (bytes lent : List ℕ) → memory_with memory dc bytes lent p ≡ memory_with memory dc bytes lent s
unfolding transfer_memory
lent-beside p s w Lent dc bytes lent =
    ap₂ (λ n (r : St7789p3). unless_refused n (written lent (stores_in dc bytes r.controller)) lent)
    (refusal-beside p s w Lent (length lent) (length bytes)) w.agree.rest
lent-beside p s w Without dc bytes lent = refl

pub totals-beside :
    (p s : St7789p3) → Beside p s → (memory : PanelMemory) (dc : Bool) (bytes : List ℕ) (cells : ℕ) →
    totals_with memory dc bytes cells p ≡ totals_with memory dc bytes cells s
unfolding transfer_totals bare_totals
totals-beside p s w Lent dc bytes cells =
    ap₂ (λ n (r : St7789p3). unless_refused n (totals_in dc bytes r.controller) no_totals) (refusal-beside p s w Lent cells (length bytes)) w.agree.rest
totals-beside p s w Without dc bytes cells =
    ap₂ (λ n (r : St7789p3). unless_refused n (totals_in dc bytes r.controller) no_totals) (refusal-beside p s w Without cells (length bytes)) w.agree.rest

-- What was chosen stays.
commands-chosen : (t : ℕ) (bytes : List ℕ) (s : St7789p3) → chosen (begun_all t bytes s) ≡ chosen s
unfolding begun
commands-chosen t [] s = refl
commands-chosen t (c ∷ bytes) s = commands-chosen t bytes (begun c t s)

moved-chosen : (t : ℕ) (dc : Bool) (bytes : List ℕ) (cs : Bool) (s : St7789p3) → chosen (moved t dc bytes cs s) ≡ chosen s
moved-chosen t true bytes cs s = (data-left t bytes cs s).kept
moved-chosen t false bytes cs s = (commands-left t bytes cs s).kept ∙ commands-chosen t bytes s

pub transferred-chosen :
    (memory : PanelMemory) (t : ℕ) (dc : Bool) (bytes : List ℕ) (cs : Bool) (cells : ℕ) (s : St7789p3) →
    chosen (transferred_with memory t dc bytes cs cells s) ≡ chosen s
unfolding transferred bare_transferred
transferred-chosen Lent t dc bytes cs cells s =
    unless-either (transfer_refusal s cells (length bytes)) (moved t dc bytes cs s) s (λ r. chosen r ≡ chosen s)
    (moved-chosen t dc bytes cs s) refl
transferred-chosen Without t dc bytes cs cells s =
    unless-either (bare_refusal s (length bytes)) (moved t dc bytes cs s) s (λ r. chosen r ≡ chosen s)
    (moved-chosen t dc bytes cs s) refl
