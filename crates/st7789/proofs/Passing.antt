-- Commands that go together: where nothing can be left in a list and no byte waits, a command that is not busy leaves its number alone
-- behind once the next one has begun.
use Rattle.std.specs.Prelude.{Some}
use Prim.Native.Nat.{ℕ, zero, suc, ◌+◌, ◌-◌, ◌≤◌, ◌<◌}
use mathlib.Core.Path.{◌≡◌, refl, sym, ap, ap₂, ◌∙◌}
use mathlib.Core.Bool.{Bool, true, false, cond, ◌||◌, true≢false}
use mathlib.Core.List.{List}
use native.Mathlib.Numerals.{add-one}
use native.Mathlib.Omega.{arith}
use borrow.Author.Tests.{ltb-true, ltb-false}
use lib.Dec.{ltb}
use lib.ListN.{length, get_or, drop}
use lib.Seq.{drop-cons}
use Rattle.codes.specs.Codes.{kind_of, command_of, is, has_effect}
use Rattle.codes.specs.declared.Kind.TheVariants.{Ramwr}
use Rattle.codes.specs.declared.Command.{Command}
use Rattle.formats.specs.declared.Carry.{Carry}
use Rattle.formats.specs.declared.Carry.TheVariants.{Empty, One, Two}
use Rattle.lists.specs.Fixed.{places}
use Rattle.std.proofs.lemmas.Bool.{or_parts}
use Rattle.chip.specs.Begin.{decoder_begun}
use Rattle.chip.specs.declared.Chip.{Chip}
use Rattle.chip.proofs.Stays.{carry-empty, in-force-alone}
use Rattle.board.specs.declared.PanelConfig.{PanelConfig}
use Rattle.board.specs.declared.Power.{Power}
use Rattle.marks.specs.declared.Marks.{Marks}
use Rattle.st7789.specs.Parts.{whole, with_chip, with_counts, with_logs}
use Rattle.st7789.specs.Command.{counts_begun, logs_released, controller_begun}
use Rattle.st7789.specs.Places.{any_free, waits, alone, busy, Passing, controller_begun_all}
use Rattle.st7789.specs.declared.Controller.{Controller}
use Rattle.st7789.specs.declared.Counts.{Counts}
use Rattle.st7789.specs.declared.Logs.{Logs}
use Rattle.st7789.proofs.Commands.{still-quiet, Turn, one_more}

-- From a command to itself there is none.
pub passing-none : (bytes : List ℕ) (i : ℕ) → Passing bytes i i
passing-none bytes i j h g = absurd (omega arith)

pub passing-more :
    (bytes : List ℕ) (i at : ℕ) → Passing bytes i at → busy (kind_of (get_or bytes at 0)) ≡ false → Passing bytes i (at + 1)
passing-more bytes i at p e j h g = by-test (ltb j at) refl
  where
    by-test : (b : Bool) → ltb j at ≡ b → busy (kind_of (get_or bytes j 0)) ≡ false
    by-test true t = p j h (ltb-true j at t)
    by-test false t =
        let last : j ≡ at = omega (arith, ltb-false j at t) in
        ap (λ n. busy (kind_of (get_or bytes n 0))) last ∙ e

abbrev with_commands : ℕ → Controller → Controller
with_commands n k =
    let counts : Counts =
    record {
      commands = n;
      ramwr_count = k.counts.ramwr_count;
      pixels_written = k.counts.pixels_written;
      dropped_params = k.counts.dropped_params;
      inverted = k.counts.inverted;
      unmapped = k.counts.unmapped;
    }
    in
    with_counts counts k

-- So many commands more are counted.
abbrev counted : ℕ → Controller → Controller
counted n k = with_commands (k.counts.commands + n) k

-- What a command leaves that is not busy.
abbrev passed : Command → Controller → Controller
passed m k =
    let chip : Chip =
    record {
      registers = k.chip.registers;
      window = k.chip.window;
      walk = k.chip.walk;
      decoder = decoder_begun m;
      times = k.chip.times;
    }
    in
    with_logs (logs_released k.logs) (with_chip chip (counted 1 k))

none-waits : (c : Carry) → waits c ≡ false → c ≡ Empty
none-waits Empty e = refl
none-waits (One a) e = absurd (true≢false e)
none-waits (Two a b) e = absurd (true≢false e)

-- Equal parts make equal controllers.
same_parts :
    {cfg : PanelConfig} {power : Power} {marks : Marks} {c p q v u : ℕ} {s s' : Chip} {n n' : ℕ} {l l' : Logs} → s ≡ s' → n ≡ n' → l ≡ l' →
    whole cfg power s (record { commands = c; ramwr_count = n; pixels_written = p; dropped_params = q; inverted = v; unmapped = u }) marks l
    ≡ whole cfg power s' (record { commands = c; ramwr_count = n'; pixels_written = p; dropped_params = q; inverted = v; unmapped = u }) marks l'
same_parts e1 e2 e3 = cc

module _ (k : Controller) (quiet : alone k ≡ false) where
  unused : (any_free k.logs ≡ false) × (waits k.chip.walk.carry ≡ false)
  unused = or_parts (any_free k.logs) (waits k.chip.walk.carry) quiet

  full-trace : ltb k.logs.traced places ≡ false
  full-trace = (or_parts (ltb k.logs.traced places) (ltb k.logs.warned places) unused.0).0

  no-carry : k.chip.walk.carry ≡ Empty
  no-carry = none-waits k.chip.walk.carry unused.1

  idle-begun : (c t : ℕ) → busy (kind_of c) ≡ false → controller_begun c t k ≡ passed (command_of c) k
  idle-begun c t e =
      let n = or_parts (has_effect (kind_of c)) (is (kind_of c) Ramwr) e in
      same_parts (in-force-alone (command_of c) t k.chip n.0 n.1 no-carry)
      (ap (λ b. cond b (k.counts.ramwr_count + 1) k.counts.ramwr_count) n.1)
      (ap (λ b. cond {A = Logs} b (record { traced = k.logs.traced + 1; warned = k.logs.warned; current = Some k.logs.traced }) (logs_released k.logs)) full-trace)

  -- It stays so with every command.
  still-together : (d t : ℕ) → alone (controller_begun d t k) ≡ false
  still-together d t =
      ap₂ ◌||◌ (still-quiet d t k unused.0) (ap waits (carry-empty (kind_of d) k.chip.window k.chip.walk no-carry))

  -- Before a command one that is not busy comes to one more that is counted.
  pass-one :
      (c d t n : ℕ) → busy (kind_of c) ≡ false → controller_begun d t (counted n (controller_begun c t k)) ≡ controller_begun d t (counted (n + 1) k)
  pass-one c d t n e =
      let more : k.counts.commands + 1 + n ≡ k.counts.commands + (n + 1) = omega arith in
      ap (λ j. controller_begun d t (counted n j)) (idle-begun c t e) ∙ ap (λ x. controller_begun d t (with_commands x k)) more

-- And so do all of them, up to the busy one or the last.
pass_all :
    (t : ℕ) (bytes : List ℕ) (n i r : ℕ) (k : Controller) → r ≡ i + n → r < length bytes → Passing bytes i r →
    (1 < length bytes → alone k ≡ false) →
    controller_begun_all t (drop i bytes) k
    ≡ controller_begun_all t (drop (r + 1) bytes) (controller_begun (get_or bytes r 0) t (counted n k))
pass_all t bytes zero i r k e h p quiet =
    let here : r ≡ i = omega (arith, e) in
    let none : k.counts.commands ≡ k.counts.commands + 0 = omega arith in
    rw here
    (ap (λ l. controller_begun_all t l k) (drop-cons bytes i 0 (omega (arith, e, h)))
    ∙ ap (λ l. controller_begun_all t l (controller_begun (get_or bytes i 0) t k)) (ap (λ j. drop j bytes) (sym (add-one i)))
    ∙ ap (λ x. controller_begun_all t (drop (i + 1) bytes) (controller_begun (get_or bytes i 0) t (with_commands x k))) none)
pass_all t bytes (suc n) i r k e h p quiet =
    let q = quiet (omega (arith, e, h)) in
    let c = get_or bytes i 0 in
    ap (λ l. controller_begun_all t l k) (drop-cons bytes i 0 (omega (arith, e, h)))
    ∙ ap (λ j. controller_begun_all t (drop j bytes) (controller_begun c t k)) (sym (add-one i))
    ∙ pass_all t bytes n (i + 1) r (controller_begun c t k) (omega (arith, e)) h (λ j a b. p j (omega (arith, a)) b) (λ _. still-together k q c t)
    ∙ ap (controller_begun_all t (drop (r + 1) bytes)) (pass-one k q c (get_or bytes r 0) t n (p i (omega arith) (omega (arith, e))))
    ∙ ap (λ m. controller_begun_all t (drop (r + 1) bytes) (controller_begun (get_or bytes r 0) t (counted m k))) (add-one n)

-- The loop over commands that go together.
abbrev pub Together : ℕ → List ℕ → Controller → Controller → ℕ → Type 0
Together t bytes k₀ k i =
    Turn (λ k c. controller_begun c t k) (λ (k : Controller). k.counts) bytes k₀ k i × (1 < length bytes → alone k ≡ false)

pub together-next :
    (t : ℕ) {bytes : List ℕ} {k₀ k k' : Controller} {i r : ℕ} → Together t bytes k₀ k i → i ≤ r → r < length bytes → Passing bytes i r →
    k' ≡ controller_begun (get_or bytes r 0) t (counted (r - i) k) → Together t bytes k₀ k' (r + 1)
together-next t {bytes} {k₀} {k} {k'} {i} {r} (u, quiet) h g p e =
    let d = get_or bytes r 0 in
    let counts : k'.counts ≡ counts_begun (kind_of d) (counted (r - i) k).counts = ap (λ (k : Controller). k.counts) e in (
      record {
        within = omega arith;
        few = u.few;
        commands = rw counts (omega (arith, u.commands));
        ramwrs = rw counts (omega (arith, u.ramwrs, one_more (is (kind_of d) Ramwr) k.counts.ramwr_count));
        left =
            ap (controller_begun_all t (drop (r + 1) bytes)) e
            ∙ sym (pass_all t bytes (r - i) i r k (omega arith) g p quiet)
            ∙ u.left;
      },
      λ several. ap alone e ∙ still-together (counted (r - i) k) (quiet several) d t,
    )
