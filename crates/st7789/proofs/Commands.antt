-- A command's begin: the loop over the rules that it breaks, and the loop over a segment of commands.
use Rattle.std.specs.Prelude.{Some, None}
use Prim.Native.Nat.{ℕ, ◌+◌, ◌-◌, ◌^◌, ◌≤◌, ◌<◌, min}
use mathlib.Core.Path.{◌≡◌, refl, sym, ap, ◌∙◌}
use mathlib.Core.Bool.{Bool, true, false, cond}
use mathlib.Core.List.{List, [], ◌∷◌, map, foldl}
use native.Mathlib.Numerals.{add-one}
use native.Mathlib.Omega.{arith}
use borrow.Author.Tests.{ltb-false}
use lib.Dec.{ltb}
use lib.ListN.{length, set, get_or, take, drop, length-take, length-drop, drop_of_length-le}
use lib.Seq.{drop-cons, take_all}
use Rattle.codes.specs.Codes.{kind_of, is}
use Rattle.codes.specs.declared.Kind.TheVariants.{Ramwr}
use Rattle.lists.specs.Fixed.{Fixed, places, push, push_all}
use Rattle.lists.specs.declared.Stored.{Stored}
use Rattle.lists.specs.declared.TraceRecord.{TraceRecord}
use Rattle.lists.specs.declared.Warning.{Warning}
use Rattle.std.proofs.lemmas.Bool.{or_parts}
use Rattle.lists.proofs.Fixed.{full}
use Rattle.lists.proofs.Putting.{put-free, put-none}
use Rattle.timing.specs.Lint.{rules_of}
use Rattle.timing.specs.declared.Broken.{Broken}
use Rattle.st7789.specs.Parts.{trace_of, warnings_of, with_controller, with_warnings}
use Rattle.st7789.specs.Command.{warning, broken_with, warnings_for, linted, counts_begun, begun_record, controller_begun, after_lint, begun, begun_all}
use Rattle.st7789.specs.Places.{any_free, waits, alone, controller_begun_all}
use Rattle.st7789.specs.declared.Controller.{Controller}
use Rattle.st7789.specs.declared.Counts.{Counts}
use Rattle.st7789.specs.declared.Logs.{Logs}
use Rattle.st7789.specs.declared.St7789p3.{St7789p3}

-- Equal parts make equal panels.
pub same-panel :
    {k k' : Controller} {st st' : List Stored} {rs rs' : List TraceRecord} {ws ws' : List Warning} → k ≡ k' → st ≡ st' → rs ≡ rs' → ws ≡ ws' →
    ◌≡◌ {A = St7789p3} (record { controller = k; stored = st; records = rs; warnings = ws })
    (record { controller = k'; stored = st'; records = rs'; warnings = ws' })
same-panel e1 e2 e3 e4 = cc

-- The trace with a record more, or as it is where no place is free.
module _ (s : St7789p3) {at : ℕ} (e : at ≡ min s.controller.logs.traced places) where
  abbrev records_with : TraceRecord → List TraceRecord
  records_with r = (push places (trace_of s) r).places

  pub record-put : {x y : TraceRecord} → at < places → x ≡ y → set s.records at x ≡ records_with y
  record-put {x} {y} h ex =
      ap (set s.records at) ex
      ∙ ap (λ (f : Fixed TraceRecord). f.places) (put-free places s.controller.logs.traced e s.records y h)

  pub record-full : (y : TraceRecord) → places ≤ at → s.records ≡ records_with y
  record-full y h = ap (λ (f : Fixed TraceRecord). f.places) (put-none places s.controller.logs.traced e s.records y h)

-- The loop over the broken rules: s is what s₀ became by the first k of them. Nothing but the warnings is another.
pub record Kept (w : ℕ → Warning) (rules : List ℕ) (s₀ s : St7789p3) (k : ℕ) : Type 0 where
  pub left : push_all places (warnings_of s) (map w (drop k rules)) ≡ push_all places (warnings_of s₀) (map w rules)
  pub rest : (f : Fixed Warning) → with_warnings f s ≡ with_warnings f s₀

module _ {w : ℕ → Warning} {rules : List ℕ} {s₀ : St7789p3} where
  pub kept-first : Kept w rules s₀ s₀ 0
  kept-first = record { left = refl; rest = λ f. refl }

  pub kept_next :
      {s s' : St7789p3} {k rule : ℕ} → Kept w rules s₀ s k → k < length rules → rule ≡ get_or rules k 0 →
      warnings_of s' ≡ push places (warnings_of s) (w rule) → ((f : Fixed Warning) → with_warnings f s' ≡ with_warnings f s) →
      Kept w rules s₀ s' (k + 1)
  kept_next {s} {s'} {k} {rule} u h ex e same =
      record {
        left =
            ap (λ f. push_all places f (map w (drop (k + 1) rules))) (e ∙ ap (λ r. push places (warnings_of s) (w r)) ex)
            ∙ rw (add-one k) (rw (drop-cons rules k 0 h) at u.left);
        rest = λ f. same f ∙ u.rest f;
      }

  -- It ends with the rules.
  pub kept-last :
      {s : St7789p3} {k : ℕ} → Kept w rules s₀ s k → length rules ≤ k → s ≡ with_warnings (push_all places (warnings_of s₀) (map w rules)) s₀
  kept-last {s} u past = ap (λ f. with_warnings f s) (rw (drop_of_length-le rules past) at u.left) ∙ u.rest _

module _ (c t : ℕ) where
  -- A command begun, put together from the rules that it broke, the controller and the records.
  pub begun-put :
      {b : Broken} (s₀ : St7789p3) {s : St7789p3} {k : Controller} {rs : List TraceRecord} →
      b ≡ broken_with c t s₀.controller →
      s ≡ with_warnings (push_all places (warnings_of s₀) (map (warning c t) (rules_of b))) s₀ → k ≡ controller_begun c t s.controller →
      rs ≡ (push places (trace_of s) (begun_record c t)).places →
      ◌≡◌ {A = St7789p3} (record { controller = k; stored = s.stored; records = rs; warnings = s.warnings }) (begun c t s₀)
  unfolding begun
  begun-put s₀ eb es ek er =
      same-panel ek refl er refl
      ∙ ap (after_lint c t) (es ∙ ap (λ b. with_warnings (push_all places (warnings_of s₀) (map (warning c t) (rules_of b))) s₀) eb)

  -- Where no place is free it is the controller that changes.
  begun-quiet :
      (s : St7789p3) → any_free s.controller.logs ≡ false → begun c t s ≡ with_controller (controller_begun c t s.controller) s
  unfolding begun
  begun-quiet s e =
      let n = or_parts (ltb s.controller.logs.traced places) (ltb s.controller.logs.warned places) e in
      let kept : linted c t s ≡ warnings_of s = full places (warnings_of s) (warnings_for c t s.controller) (ltb-false s.controller.logs.warned places n.1) in
      ap (λ f. after_lint c t (with_warnings f s)) kept ∙ same-panel refl refl (rw n.0) refl

  pub still-quiet : (k : Controller) → any_free k.logs ≡ false → any_free (controller_begun c t k).logs ≡ false
  still-quiet k e =
      let n = or_parts (ltb k.logs.traced places) (ltb k.logs.warned places) e in
      ap
      (λ b. any_free
      (cond {A = Logs} b (record { traced = k.logs.traced + 1; warned = k.logs.warned; current = Some k.logs.traced })
      (record { traced = k.logs.traced; warned = k.logs.warned; current = None })))
      n.0
      ∙ e

pub begun-all-quiet :
    (t : ℕ) (bytes : List ℕ) (s : St7789p3) → any_free s.controller.logs ≡ false →
    begun_all t bytes s ≡ with_controller (controller_begun_all t bytes s.controller) s
begun-all-quiet t [] s e = refl
begun-all-quiet t (c ∷ bytes) s e =
    ap (begun_all t bytes) (begun-quiet c t s e)
    ∙ begun-all-quiet t bytes (with_controller (controller_begun c t s.controller) s) (still-quiet c t s.controller e)

-- A loop over a segment, by any step that counts a command: s is what s₀ became by the first i of them.
pub record Turn {S : Type 0} (step : S → ℕ → S) (counts : S → Counts) (bytes : List ℕ) (s₀ s : S) (i : ℕ) : Type 0 where
  pub within : i ≤ length bytes
  pub few : length bytes < 2 ^ 64
  pub commands : (counts s).commands + (length bytes - i) < 2 ^ 64
  pub ramwrs : (counts s).ramwr_count + (length bytes - i) < 2 ^ 64
  pub left : foldl step s (drop i bytes) ≡ foldl step s₀ bytes

pub one_more : (b : Bool) (n : ℕ) → cond b (n + 1) n ≤ n + 1
one_more true n = omega arith
one_more false n = omega arith

module _ {S : Type 0} {step : S → ℕ → S} {counts : S → Counts} {bytes : List ℕ} {s₀ : S} where
  pub turn-first :
      (counts s₀).commands + length bytes < 2 ^ 64 → (counts s₀).ramwr_count + length bytes < 2 ^ 64 → Turn step counts bytes s₀ s₀ 0
  turn-first hc hr = record { within = omega arith; few = omega arith; commands = omega arith; ramwrs = omega arith; left = refl }

  pub turn-next :
      {s s' : S} {i : ℕ} → Turn step counts bytes s₀ s i → i < length bytes → s' ≡ step s (get_or bytes i 0) →
      counts s' ≡ counts_begun (kind_of (get_or bytes i 0)) (counts s) → Turn step counts bytes s₀ s' (i + 1)
  turn-next {s} {s'} {i} u h e ec =
      record {
        within = omega arith;
        few = u.few;
        commands = rw ec (omega (arith, u.commands));
        ramwrs = rw ec (omega (arith, u.ramwrs, one_more (is (kind_of (get_or bytes i 0)) Ramwr) (counts s).ramwr_count));
        left = ap (λ x. foldl step x (drop (i + 1) bytes)) e ∙ rw (add-one i) (rw (drop-cons bytes i 0 h) at u.left);
      }

  pub turn_last : {s : S} {i : ℕ} → Turn step counts bytes s₀ s i → length bytes ≤ i → s ≡ foldl step s₀ bytes
  turn_last u h = rw (drop_of_length-le bytes h) at u.left

-- The loop over a segment, of a panel.
abbrev pub PanelTurn : ℕ → List ℕ → St7789p3 → St7789p3 → ℕ → Type 0
PanelTurn t bytes s₀ s i = Turn (λ s c. begun c t s) (λ s. s.controller.counts) bytes s₀ s i

pub panel-next :
    (t : ℕ) {bytes : List ℕ} {s₀ s s' : St7789p3} {i : ℕ} → PanelTurn t bytes s₀ s i → i < length bytes → s' ≡ begun (get_or bytes i 0) t s →
    PanelTurn t bytes s₀ s' (i + 1)
unfolding begun
panel-next t u h e = turn-next u h e (ap (λ (s : St7789p3). s.controller.counts) e)

-- The commands from i on that go together, as the part of the segment that is lent.
abbrev part_of : List ℕ → ℕ → ℕ → List ℕ
part_of bytes i end = take (end - i) (drop i bytes)

part-one : (bytes : List ℕ) (i end : ℕ) → i < length bytes → end ≡ i + 1 → part_of bytes i end ≡ get_or bytes i 0 ∷ []
part-one bytes i end h e =
    let one : end - i ≡ 1 = omega arith in
    ap (λ n. take n (drop i bytes)) one ∙ ap (take 1) (drop-cons bytes i 0 h)

part-all : (bytes : List ℕ) (i end : ℕ) → end ≡ length bytes → part_of bytes i end ≡ drop i bytes
part-all bytes i end e = take_all (end - i) (drop i bytes) (rw length-drop (omega arith))

pub part_room :
    (t : ℕ) {bytes : List ℕ} {s₀ s : St7789p3} {i end : ℕ} {n : Counts} → PanelTurn t bytes s₀ s i → end ≤ length bytes →
    n ≡ s.controller.counts →
    (n.commands + length (part_of bytes i end) < 2 ^ 64) × (n.ramwr_count + length (part_of bytes i end) < 2 ^ 64)
part_room t {bytes} {s₀} {s} {i} {end} {n} u h e =
    let l : length (part_of bytes i end) ≡ min (end - i) (length bytes - i) = length-take (end - i) (drop i bytes) ∙ ap (min (end - i)) (length-drop i bytes) in (
      omega (arith, l, u.commands, ap (λ (n : Counts). n.commands) e),
      omega (arith, l, u.ramwrs, ap (λ (n : Counts). n.ramwr_count) e),
    )

-- Each command is counted.
module _ (t : ℕ) where
  all-commands : (bytes : List ℕ) (k : Controller) → (controller_begun_all t bytes k).counts.commands ≡ k.counts.commands + length bytes
  all-commands [] k = omega arith
  all-commands (c ∷ bytes) k = all-commands bytes (controller_begun c t k) ∙ omega arith

  all-ramwrs : (bytes : List ℕ) (k : Controller) → (controller_begun_all t bytes k).counts.ramwr_count ≤ k.counts.ramwr_count + length bytes
  all-ramwrs [] k = omega arith
  all-ramwrs (c ∷ bytes) k =
      omega (arith, all-ramwrs bytes (controller_begun c t k), one_more (is (kind_of c) Ramwr) k.counts.ramwr_count)

none-past : (bytes : List ℕ) → drop (length bytes) bytes ≡ []
none-past bytes = let e : length bytes ≤ length bytes = omega arith in drop_of_length-le bytes e

-- Where commands go together no place is free, and so none leaves a warning.
module _ (s : St7789p3) (quiet : alone s.controller ≡ false) where
  none_free : any_free s.controller.logs ≡ false
  none_free = (or_parts (any_free s.controller.logs) (waits s.controller.chip.walk.carry) quiet).0

  none-warned : (ws : List Warning) → with_warnings (push_all places (warnings_of s) ws) s ≡ s
  none-warned ws =
      let n = or_parts (ltb s.controller.logs.traced places) (ltb s.controller.logs.warned places) none_free in
      ap (λ w. with_warnings w s) (full places (warnings_of s) ws (ltb-false s.controller.logs.warned places n.1))

-- What one turn leaves: a command, or all that are left where they go together.
module _ (t : ℕ) {bytes : List ℕ} {s₀ s : St7789p3} {i : ℕ} (u : PanelTurn t bytes s₀ s i) (h : i < length bytes) where
  abbrev after_part : St7789p3 → Controller → List TraceRecord → St7789p3
  after_part s k rs = record { controller = k; stored = s.stored; records = rs; warnings = s.warnings }

  -- Where the part is more than one command, they go together after the lint too.
  pub part-quiet :
      {end : ℕ} {b : Broken} {s' : St7789p3} → end ≡ cond (alone s.controller) (i + 1) (length bytes) →
      b ≡ broken_with (get_or bytes i 0) t s.controller →
      s' ≡ with_warnings (push_all places (warnings_of s) (map (warning (get_or bytes i 0) t) (rules_of b))) s →
      1 < length (part_of bytes i end) → alone s'.controller ≡ false
  part-quiet {end} {b} {s'} ee eb es several = by-test (alone s.controller) refl ee
    where
      by-test : (x : Bool) → alone s.controller ≡ x → end ≡ cond x (i + 1) (length bytes) → alone s'.controller ≡ false
      by-test true f e =
          let one : length (part_of bytes i end) ≡ 1 = ap length (part-one bytes i end h e) in
          absurd (omega (arith, one, several))
      by-test false f e = ap (λ (s : St7789p3). alone s.controller) (es ∙ none-warned s f (map (warning (get_or bytes i 0) t) (rules_of b))) ∙ f

  pub panel-part :
      {end : ℕ} {b : Broken} {s' : St7789p3} {k : Controller} {rs : List TraceRecord} →
      end ≡ cond (alone s.controller) (i + 1) (length bytes) →
      b ≡ broken_with (get_or bytes i 0) t s.controller →
      s' ≡ with_warnings (push_all places (warnings_of s) (map (warning (get_or bytes i 0) t) (rules_of b))) s →
      k ≡ controller_begun_all t (part_of bytes i end) s'.controller →
      rs ≡ (push places (trace_of s') (begun_record (get_or bytes i 0) t)).places → PanelTurn t bytes s₀ (after_part s' k rs) end
  panel-part {end} {b} {s'} {k} {rs} ee eb es ek er = by-test (alone s.controller) refl ee
    where
      by-test : (x : Bool) → alone s.controller ≡ x → end ≡ cond x (i + 1) (length bytes) → PanelTurn t bytes s₀ (after_part s' k rs) end
      by-test true f e =
          rw e
          (panel-next t u h
          (begun-put (get_or bytes i 0) t s eb es (ek ∙ ap (λ l. controller_begun_all t l s'.controller) (part-one bytes i end h e)) er))
      by-test false f e =
          let n = or_parts (ltb s.controller.logs.traced places) (ltb s.controller.logs.warned places) (none_free s f) in
          let same : s' ≡ s = es ∙ none-warned s f (map (warning (get_or bytes i 0) t) (rules_of b)) in
          let full-trace : (push places (trace_of s) (begun_record (get_or bytes i 0) t)).places ≡ s.records = rw n.0 in
          let quiet : after_part s' k rs ≡ with_controller (controller_begun_all t (drop i bytes) s.controller) s =
          ap (λ q. after_part s' k q) er
          ∙ ap (λ q. after_part s' q (push places (trace_of s') (begun_record (get_or bytes i 0) t)).places) (ek ∙ ap (λ l. controller_begun_all t l s'.controller) (part-all bytes i end e))
          ∙ ap (λ q. after_part q (controller_begun_all t (drop i bytes) q.controller) (push places (trace_of q) (begun_record (get_or bytes i 0) t)).places) same
          ∙ ap (λ q. after_part s (controller_begun_all t (drop i bytes) s.controller) q) full-trace
          in
          rw (quiet, e)
          (record {
            within = omega arith;
            few = u.few;
            commands = omega (arith, all-commands t (drop i bytes) s.controller, length-drop i bytes, u.commands);
            ramwrs = omega (arith, all-ramwrs t (drop i bytes) s.controller, length-drop i bytes, u.ramwrs);
            left =
                ap (foldl (λ s c. begun c t s) (with_controller (controller_begun_all t (drop i bytes) s.controller) s)) (none-past bytes)
                ∙ sym (begun-all-quiet t (drop i bytes) s (none_free s f))
                ∙ u.left;
          })
