-- Data for a command in two parts leaves the chip that the whole leaves: a command that is due applies the same when more bytes have come.
use Prim.Native.Nat.{ℕ, ◌+◌, ◌*◌, ◌≤◌, ◌<◌, min}
use mathlib.Core.Path.{◌≡◌, refl, sym, ap, ap₂, ◌∙◌}
use mathlib.Core.Bool.{Bool, true, false, not, cond, ◌&&◌, ◌||◌}
use mathlib.Core.List.{List, ◌++◌}
use native.Mathlib.Omega.{arith}
use borrow.Author.Tests.{leb-true, le-leb, eqb-true}
use lib.Dec.{ltb, leb}
use Rattle.geometry.specs.Place.{largest_column, largest_row}
use Rattle.geometry.specs.declared.Window.{Window}
use Rattle.codes.specs.Codes.{kind_of, need_of, command_of, kind_number, is}
use Rattle.codes.specs.declared.Kind.{Kind}
use Rattle.codes.specs.declared.Kind.TheVariants.{Caset, Raset, Madctl, Colmod, Ramctrl}
use Rattle.codes.specs.declared.Command.{Command}
use Rattle.codes.proofs.Bytes.{need_for, need-for}
use Rattle.lists.specs.Params.{filled}
use Rattle.lists.specs.declared.Params.{Params}
use Rattle.std.proofs.lemmas.Bool.{and_parts}
use Rattle.lists.proofs.Filling.{count-filled}
use Rattle.lists.proofs.Cuts.{filled-cut, filled_keeps}
use Rattle.chip.specs.Apply.{due, byte_at, number_at, window_applied, registers_applied, chip_filled, chip_applied, applied_if_due, chip_taken}
use Rattle.chip.specs.declared.Registers.{Registers}
use Rattle.chip.specs.declared.Decoder.{Decoder}
use Rattle.chip.specs.declared.Chip.{Chip}

abbrev window_by : Bool → Bool → ℕ → ℕ → ℕ → Window → Window
window_by q r first second madctl w =
    cond q (record { xs = min first (largest_column madctl); xe = min second (largest_column madctl); ys = w.ys; ye = w.ye })
    (cond r (record { xs = w.xs; xe = w.xe; ys = min first (largest_row madctl); ye = min second (largest_row madctl) }) w)

abbrev registers_by : Bool → Bool → Bool → ℕ → ℕ → Registers → Registers
registers_by q r y first second g =
    record {
      sleeping = g.sleeping;
      display_on = g.display_on;
      inverted = g.inverted;
      madctl = cond q first g.madctl;
      colmod = cond r first g.colmod;
      ramctrl0 = cond y first g.ramctrl0;
      ramctrl1 = cond y second g.ramctrl1;
    }

-- What a command applies is told by its first bytes: lists that agree in those of p, which are enough, apply the same.
module _ (k : Kind) (p p' : Params) (agree : (i : ℕ) → i < p.count → byte_at p' i ≡ byte_at p i) (enough : need_for k ≤ p.count) where
  number-agrees : (i : ℕ) → i + 1 < p.count → number_at p' i ≡ number_at p i
  number-agrees i h = ap₂ (λ m n. m * 256 + n) (agree i (omega arith)) (agree (i + 1) h)

  pub window-agrees : (madctl : ℕ) (w : Window) → window_applied k p' madctl w ≡ window_applied k p madctl w
  window-agrees madctl w = go (is k Caset) (is k Raset) (is k Madctl || is k Colmod) (is k Ramctrl) enough
    where
      four :
          (q r : Bool) → 4 ≤ p.count →
          window_by q r (number_at p' 0) (number_at p' 2) madctl w ≡ window_by q r (number_at p 0) (number_at p 2) madctl w
      four q r h = ap₂ (λ m n. window_by q r m n madctl w) (number-agrees 0 (omega arith)) (number-agrees 2 (omega arith))

      go :
          (q r x y : Bool) → cond (q || r) 4 (cond x 1 (cond y 2 0)) ≤ p.count →
          window_by q r (number_at p' 0) (number_at p' 2) madctl w ≡ window_by q r (number_at p 0) (number_at p 2) madctl w
      go true r x y h = four true r h
      go false true x y h = four false true h
      go false false x y h = refl

  pub registers-agree : (g : Registers) → registers_applied k p' g ≡ registers_applied k p g
  registers-agree g = go (is k Caset || is k Raset) (is k Madctl) (is k Colmod) (is k Ramctrl) refl refl refl enough
    where
      Agree : Bool → Bool → Bool → Type 0
      Agree q r y =
          registers_by q r y (byte_at p' 0) (byte_at p' 1) g ≡ registers_by q r y (byte_at p 0) (byte_at p 1) g

      two : (q r y : Bool) → 2 ≤ p.count → Agree q r y
      two q r y h = ap₂ (λ m n. registers_by q r y m n g) (agree 0 (omega arith)) (agree 1 (omega arith))

      one : (q r : Bool) → 1 ≤ p.count → Agree q r false
      one q r h = ap (λ m. registers_by q r false m (byte_at p 1) g) (agree 0 (omega arith))

      never : (j : Kind) → kind_number j < kind_number Ramctrl → is k j ≡ true → is k Ramctrl ≡ true → ⊥
      never j h e f =
          let a = eqb-true (kind_number k) (kind_number j) e in
          let b = eqb-true (kind_number k) (kind_number Ramctrl) f in
          omega arith

      go :
          (x q r y : Bool) → is k Madctl ≡ q → is k Colmod ≡ r → is k Ramctrl ≡ y → cond x 4 (cond (q || r) 1 (cond y 2 0)) ≤ p.count →
          Agree q r y
      go true q r y e f i h = two q r y (omega arith)
      go false true r true e f i h = absurd (never Madctl (omega arith) e i)
      go false true r false e f i h = one true r h
      go false false true true e f i h = absurd (never Colmod (omega arith) f i)
      go false false true false e f i h = one false true h
      go false false false true e f i h = two false false true h
      go false false false false e f i h = refl

-- A command that is due has enough.
due-both : (n : ℕ) (d : Decoder) → due n d ≡ true → (not d.applied ≡ true) × ((ltb 0 n ≡ true) × (n ≤ d.params.count))
due-both n d e =
    let t = and_parts (not d.applied) (ltb 0 n && leb n d.params.count) e in
    let k = and_parts (ltb 0 n) (leb n d.params.count) t.1 in
    (t.0, (k.0, leb-true n d.params.count k.1))

pub due-enough : (c : ℕ) (d : Decoder) → due (need_of c) d ≡ true → need_for (kind_of c) ≤ d.params.count
due-enough c d e = rw (← need-for c) (due-both (need_of c) d e).1.1

apply-late :
    (c : ℕ) (b : List ℕ) (s : Chip) →
    applied_if_due (command_of c) (chip_filled b (applied_if_due (command_of c) s)) ≡ applied_if_due (command_of c) (chip_filled b s)
unfolding applied_if_due
apply-late c b s = go (due (need_of c) s.decoder) refl
  where
    grown : need_of c ≤ s.decoder.params.count → leb (need_of c) (filled s.decoder.params b).count ≡ true
    grown h = le-leb (need_of c) (filled s.decoder.params b).count (rw (count-filled s.decoder.params b) (omega arith))

    go :
        (t : Bool) → due (need_of c) s.decoder ≡ t →
        applied_if_due (command_of c) (chip_filled b (cond t (chip_applied (kind_of c) s) s)) ≡ applied_if_due (command_of c) (chip_filled b s)
    go false e = refl
    go true e =
        let p = s.decoder.params in
        let d = due-both (need_of c) s.decoder e in
        let h : need_for (kind_of c) ≤ p.count = due-enough c s.decoder e in
        let i : due (need_of c) (chip_filled b s).decoder ≡ true = ap₂ (λ x y. x && y) d.0 (ap₂ (λ x y. x && y) d.1.0 (grown d.1.1)) in
        rw (i, window-agrees (kind_of c) p (filled p b) (filled_keeps p b) h s.registers.madctl s.window, registers-agree (kind_of c) p (filled p b) (filled_keeps p b) h s.registers)

pub chip-cut : (c : ℕ) (a b : List ℕ) (s : Chip) → chip_taken (command_of c) (a ++ b) s ≡ chip_taken (command_of c) b (chip_taken (command_of c) a s)
unfolding chip_taken
chip-cut c a b s =
    ap (λ p. applied_if_due (command_of c) (with_params p)) (filled-cut s.decoder.params a b) ∙ sym (apply-late c b (chip_filled a s))
  where
    with_params : Params → Chip
    with_params p =
        record {
          registers = s.registers;
          window = s.window;
          walk = s.walk;
          decoder = record { cmd = s.decoder.cmd; params = p; applied = s.decoder.applied; in_pixels = s.decoder.in_pixels };
          times = s.times;
        }

-- Data for a command changes of the decoder only its parameters, and that it is applied.
taken-decoder :
    (m : Command) (bytes : List ℕ) (s : Chip) →
    ((chip_taken m bytes s).decoder.params ≡ filled s.decoder.params bytes) × ((chip_taken m bytes s).decoder.cmd ≡ s.decoder.cmd)
    × ((chip_taken m bytes s).decoder.in_pixels ≡ s.decoder.in_pixels)
unfolding chip_taken applied_if_due
taken-decoder m bytes s = go (due m.need (chip_filled bytes s).decoder)
  where
    then : Bool → Chip
    then t = cond t (chip_applied m.kind (chip_filled bytes s)) (chip_filled bytes s)

    go :
        (t : Bool) →
        ((then t).decoder.params ≡ filled s.decoder.params bytes) × ((then t).decoder.cmd ≡ s.decoder.cmd)
        × ((then t).decoder.in_pixels ≡ s.decoder.in_pixels)
    go true = (refl, refl, refl)
    go false = (refl, refl, refl)

pub taken-params : (m : Command) (bytes : List ℕ) (s : Chip) → (chip_taken m bytes s).decoder.params ≡ filled s.decoder.params bytes
taken-params m bytes s = (taken-decoder m bytes s).0

pub taken-cmd : (m : Command) (bytes : List ℕ) (s : Chip) → (chip_taken m bytes s).decoder.cmd ≡ s.decoder.cmd
taken-cmd m bytes s = (taken-decoder m bytes s).1

pub taken-run : (m : Command) (bytes : List ℕ) (s : Chip) → (chip_taken m bytes s).decoder.in_pixels ≡ s.decoder.in_pixels
taken-run m bytes s = (taken-decoder m bytes s).2
