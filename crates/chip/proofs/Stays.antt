-- What a begun command leaves as it is: the registers where it has no effect, the walk's parts, what waits, and what comes to the whole chip;
-- and what data for a command leaves.
use Prim.Native.Nat.{ℕ}
use mathlib.Core.Path.{◌≡◌, refl, sym, ap, ap₂, ◌∙◌}
use mathlib.Core.Bool.{Bool, true, false, cond}
use mathlib.Core.List.{List}
use Rattle.formats.specs.Formats.{carry_bad}
use Rattle.formats.specs.declared.Format.{Format}
use Rattle.formats.specs.declared.Carry.TheVariants.{Empty}
use Rattle.geometry.specs.declared.Window.{Window}
use Rattle.pixels.specs.declared.Walk.{Walk}
use Rattle.codes.specs.Codes.{is, has_effect}
use Rattle.codes.specs.declared.Kind.{Kind}
use Rattle.codes.specs.declared.Kind.TheVariants.{Swreset, Slpin, Slpout, Invoff, Invon, Dispoff, Dispon, Ramwr, Ramwrc}
use Rattle.codes.proofs.Numbering.{idle}
use Rattle.codes.specs.declared.Command.{Command}
use Rattle.timing.specs.Lint.{times_after}
use Rattle.timing.specs.declared.Times.{Times}
use Rattle.std.proofs.lemmas.Bool.{or_parts}
use Rattle.chip.specs.Begin.{full_window, origin, decoder_begun, in_force, effects, registers_begun, walk_begun, walk_reset, chip_begun}
use Rattle.chip.specs.Apply.{due, chip_filled, chip_applied, applied_if_due, chip_taken}
use Rattle.chip.specs.declared.Registers.{Registers}
use Rattle.chip.specs.declared.Decoder.{Decoder}
use Rattle.chip.specs.declared.Chip.{Chip}

pub registers-stay : (k : Kind) (g : Registers) → has_effect k ≡ false → g ≡ registers_begun k g
registers-stay k g e =
    rw (
      idle k Swreset e refl,
      idle k Slpin e refl,
      idle k Slpout e refl,
      idle k Invoff e refl,
      idle k Invon e refl,
      idle k Dispoff e refl,
      idle k Dispon e refl,
    )

module _ (k : Kind) (w : Window) (v : Walk) where
  abbrev walk_by : Bool → Bool → Bool → Walk
  walk_by reset start on =
      cond {A = Walk} reset (record { pointer = origin; carry = Empty })
      (cond start (record { pointer = record { x = w.xs; y = w.ys }; carry = Empty }) (cond on v (record { pointer = v.pointer; carry = Empty })))

  pub carry-dropped : is k Ramwrc ≡ false → Empty ≡ (walk_reset k (walk_begun k w v)).carry
  carry-dropped e = go (is k Swreset) (is k Ramwr) ∙ ap (λ b. (walk_by (is k Swreset) (is k Ramwr) b).carry) (sym e)
    where
      go : (reset start : Bool) → Empty ≡ (walk_by reset start false).carry
      go true start = refl
      go false true = refl
      go false false = refl

  pub pointer-kept : is k Swreset ≡ false → is k Ramwr ≡ false → v.pointer ≡ (walk_reset k (walk_begun k w v)).pointer
  pointer-kept e f = go (is k Ramwrc) ∙ ap₂ (λ a b. (walk_by a b (is k Ramwrc)).pointer) (sym e) (sym f)
    where
      go : (on : Bool) → v.pointer ≡ (walk_by false false on).pointer
      go true = refl
      go false = refl

  pub carry-empty : v.carry ≡ Empty → (walk_reset k (walk_begun k w v)).carry ≡ Empty
  carry-empty e = go (is k Swreset) (is k Ramwr) (is k Ramwrc)
    where
      go : (reset start on : Bool) → (walk_by reset start on).carry ≡ Empty
      go true start on = refl
      go false true on = refl
      go false false true = e
      go false false false = refl

  -- A carry that is not bad in a format is not afterwards.
  carry-stays : (f : Format) → carry_bad f v.carry ≡ false → carry_bad f (walk_reset k (walk_begun k w v)).carry ≡ false
  carry-stays f e = go (is k Swreset) (is k Ramwr) (is k Ramwrc)
    where
      go : (reset start on : Bool) → carry_bad f (walk_by reset start on).carry ≡ false
      go true start on = refl
      go false true on = refl
      go false false true = e
      go false false false = refl

  walk_kept : is k Swreset ≡ false → is k Ramwr ≡ false → v.carry ≡ Empty → walk_reset k (walk_begun k w v) ≡ v
  walk_kept e f h = ap₂ (λ p c. record { pointer = p; carry = c }) (sym (pointer-kept e f)) (carry-empty h ∙ sym h)

times-stay : (k : Kind) (times : Times) (t : ℕ) → has_effect k ≡ false → times_after times k t ≡ times
unfolding times_after
times-stay k times t e = rw (idle k Slpout e refl, idle k Slpin e refl, idle k Swreset e refl) refl

same-chip :
    {d : Decoder} {g g' : Registers} {w w' : Window} {v v' : Walk} {n n' : Times} → g ≡ g' → w ≡ w' → v ≡ v' → n ≡ n' →
    ◌≡◌ {A = Chip} (record { registers = g; window = w; walk = v; decoder = d; times = n })
    (record { registers = g'; window = w'; walk = v'; decoder = d; times = n' })
same-chip e1 e2 e3 e4 = cc

-- A command without an effect that is no 2C comes in force and does no more, where no byte waits.
pub in-force-alone :
    (m : Command) (t : ℕ) (s : Chip) → has_effect m.kind ≡ false → is m.kind Ramwr ≡ false → s.walk.carry ≡ Empty →
    effects m.kind t (in_force m s)
    ≡ record { registers = s.registers; window = s.window; walk = s.walk; decoder = decoder_begun m; times = s.times }
in-force-alone m t s e f h =
    let reset = idle m.kind Swreset e refl in
    same-chip (sym (registers-stay m.kind s.registers e))
    (ap (λ b. cond b (full_window s.registers.madctl) s.window) reset)
    (walk_kept m.kind s.window s.walk reset f h)
    (times-stay m.kind s.times t e)

-- What waits after a begin: no more than before in any format, and nothing without a run.
module _ (m : Command) (t : ℕ) (s : Chip) where
  pub begun-waits : (f : Format) → carry_bad f s.walk.carry ≡ false → carry_bad f (chip_begun m t s).walk.carry ≡ false
  unfolding chip_begun
  begun-waits f e = carry-stays m.kind s.window s.walk f e

  pub begun-idle : (chip_begun m t s).decoder.in_pixels ≡ false → (chip_begun m t s).walk.carry ≡ Empty
  unfolding chip_begun
  begun-idle e = sym (carry-dropped m.kind s.window s.walk (or_parts (is m.kind Ramwr) (is m.kind Ramwrc) e).1)

-- Data for a command leaves the walk and the run alone.
module _ (m : Command) (bytes : List ℕ) (s : Chip) where
  pub taken-walk : (chip_taken m bytes s).walk ≡ s.walk
  unfolding chip_taken applied_if_due
  taken-walk = go (due m.need (chip_filled bytes s).decoder)
    where
      go : (b : Bool) → (cond b (chip_applied m.kind (chip_filled bytes s)) (chip_filled bytes s)).walk ≡ s.walk
      go true = refl
      go false = refl

  pub taken-run : (chip_taken m bytes s).decoder.in_pixels ≡ s.decoder.in_pixels
  unfolding chip_taken applied_if_due
  taken-run = go (due m.need (chip_filled bytes s).decoder)
    where
      go : (b : Bool) → (cond b (chip_applied m.kind (chip_filled bytes s)) (chip_filled bytes s)).decoder.in_pixels ≡ s.decoder.in_pixels
      go true = refl
      go false = refl
