-- Whatever operations are made on a fresh panel, each of its counts is the one that they and what they send come to.
use Rattle.std.specs.Prelude.{Option, Some, None}
use Prim.Native.Nat.{ℕ, ◌+◌, ◌<◌}
use mathlib.Core.Path.{◌≡◌, refl, sym, ap, ◌∙◌}
use mathlib.Core.Bool.{Bool, true, false, cond}
use mathlib.Core.List.{List, [], ◌∷◌, ◌++◌, map, map-append, foldl}
use native.Mathlib.Omega.{arith}
use borrow.Author.Tests.{ltb-false}
use lib.Dec.{ltb, eqb}
use lib.ListN.{length, take, set, get_or, replicate, get_or-map}
use lib.Seq.{take-set-lt, get_or-take, map-set_same}
use Rattle.status.specs.Numbers.{unless_refused}
use Rattle.status.specs.Tests.{memory_refusal}
use Rattle.codes.proofs.Bytes.{is-ramwr}
use Rattle.lists.specs.Fixed.{Fixed, places, used, push, push_all}
use Rattle.lists.specs.declared.Params.{Params}
use Rattle.lists.specs.declared.TraceRecord.{TraceRecord}
use Rattle.lists.proofs.Fixed.{used_all}
use Rattle.std.proofs.lemmas.List.{map-set}
use Rattle.lists.proofs.Maps.{map-take}
use Rattle.board.specs.Board.{is_board_rail}
use Rattle.board.specs.declared.PanelConfig.{PanelConfig}
use Rattle.st7789.specs.Parts.{trace_of, with_controller}
use Rattle.st7789.specs.Command.{begun_record, begun, begun_all, controller_released, released}
use Rattle.st7789.specs.Data.{no_record, on_current, more_pixels, more_params, ran, taken, data_in}
use Rattle.st7789.specs.Refusals.{transfer_refusal, bare_refusal}
use Rattle.st7789.specs.Entries.{fresh_controller, empty_lists, fresh_panel, rail_reset, moved, transferred, bare_transferred, reset_state}
use Rattle.st7789.specs.declared.PanelMemory.TheVariants.{Lent, Without}
use Rattle.st7789.specs.declared.Controller.{Controller}
use Rattle.st7789.specs.declared.St7789p3.{St7789p3}
use Rattle.st7789.proofs.Tests.{clause}
use Rattle.laws.specs.Valid.{Good}
use Rattle.laws.proofs.Answers.{begun-others}
use Rattle.laws.proofs.DataKinds.{data_by}
use Rattle.laws.proofs.Marks.{unmarked}
use Rattle.laws.proofs.Reach.{fresh-good}
use Rattle.laws.proofs.Stays.{fine_of, logs_by, trace_by, lined}
use Rattle.laws.proofs.Traces.{Lined, lasting}
use Rattle.publishing.specs.Publish.{publish_refusal, published}
use Rattle.hosts.specs.Calls.{Call, fresh_host, defined, run}
use Rattle.hosts.specs.Operations.{Operation, transferring, publishing, resetting, setting, marking, taking, operated, after, operations_from}
use Rattle.hosts.specs.Tallies.{Tally, nothing_sent, times_sent, commands_sent, grown_at, pixels_sent, rest_of, params_sent, segment_sent, tallied, tally_from, tally, counts_in}
use Rattle.hosts.proofs.Settings.{settles}
use Rattle.hosts.proofs.Operations.{operated-good, run-operates}

-- A tally by its parts.
tally-same :
    {a b c d e f a' b' c' d' e' f' : ℕ} {l l' : List ℕ} → a ≡ a' → b ≡ b' → c ≡ c' → d ≡ d' → e ≡ e' → f ≡ f' → l ≡ l' →
    ◌≡◌ {A = Tally}
    (record { commands = a; ramwrs = b; pixels = c; dropped = d; inverted = e; unmapped = f; held = l })
    (record { commands = a'; ramwrs = b'; pixels = c'; dropped = d'; inverted = e'; unmapped = f'; held = l' })
tally-same p q r s t u v i = record { commands = p i; ramwrs = q i; pixels = r i; dropped = s i; inverted = t i; unmapped = u i; held = v i }

abbrev bytes_of : TraceRecord → ℕ
bytes_of r = r.pixel_bytes

-- Commands: each is counted, and pushes its record.
begun-trace : (c t : ℕ) (s : St7789p3) → trace_of (begun c t s) ≡ push places (trace_of s) (begun_record c t)
unfolding begun
begun-trace c t s = go (ltb s.controller.logs.traced places)
  where
    go : (b : Bool) → ◌≡◌ {A = Fixed TraceRecord} (record { count = (logs_by c t s b).traced; places = (trace_by c t s b).places }) (trace_by c t s b)
    go true = refl
    go false = refl

all-trace : (t : ℕ) (bytes : List ℕ) (s : St7789p3) → trace_of (begun_all t bytes s) ≡ push_all places (trace_of s) (map (λ c. begun_record c t) bytes)
all-trace t [] s = refl
all-trace t (c ∷ bytes) s = all-trace t bytes (begun c t s) ∙ ap (λ f. push_all places f (map (λ c. begun_record c t) bytes)) (begun-trace c t s)

none-held : (t : ℕ) (bytes : List ℕ) → map bytes_of (map (λ c. begun_record c t) bytes) ≡ replicate (length bytes) 0
none-held t [] = refl
none-held t (c ∷ bytes) = ap (λ (l : List ℕ). 0 ∷ l) (none-held t bytes)

all_held :
    (t : ℕ) (bytes : List ℕ) (s : St7789p3) → Good s →
    map bytes_of (used (trace_of (begun_all t bytes s))) ≡ take places (map bytes_of (used (trace_of s)) ++ replicate (length bytes) 0)
all_held t bytes s g =
    let new = map (λ c. begun_record c t) bytes in
    let few = ltb-false places s.controller.logs.traced (clause s g.fine 5) in
    ap (λ f. map bytes_of (used f)) (all-trace t bytes s)
    ∙ ap (map bytes_of) (used_all places (trace_of s) new few (omega (arith, g.sized.records)))
    ∙ map-take bytes_of places (used (trace_of s) ++ new)
    ∙ ap (take places) (map-append bytes_of (used (trace_of s)) new)
    ∙ ap (λ l. take places (map bytes_of (used (trace_of s)) ++ l)) (none-held t bytes)

all-commands : (t : ℕ) (bytes : List ℕ) (s : St7789p3) → (begun_all t bytes s).controller.counts.commands ≡ s.controller.counts.commands + length bytes
unfolding begun
all-commands t [] s = omega arith
all-commands t (c ∷ bytes) s = let rest = all-commands t bytes (begun c t s) in omega (arith, rest)

all-ramwrs : (t : ℕ) (bytes : List ℕ) (s : St7789p3) → (begun_all t bytes s).controller.counts.ramwr_count ≡ s.controller.counts.ramwr_count + times_sent 0x2C bytes
unfolding begun
all-ramwrs t [] s = omega arith
all-ramwrs t (c ∷ bytes) s =
    all-ramwrs t bytes (begun c t s)
    ∙ ap (λ b. cond b (s.controller.counts.ramwr_count + 1) s.controller.counts.ramwr_count + times_sent 0x2C bytes) (is-ramwr c)
    ∙ go (eqb c 0x2C) s.controller.counts.ramwr_count (times_sent 0x2C bytes)
  where
    go : (b : Bool) (n k : ℕ) → cond b (n + 1) n + k ≡ n + cond b (k + 1) k
    go true n k = omega arith
    go false n k = omega arith

all-tallied : (t : ℕ) (bytes : List ℕ) (s : St7789p3) → Good s → counts_in (begun_all t bytes s) ≡ commands_sent bytes (counts_in s)
all-tallied t bytes s g =
    let o = begun-others t bytes s in
    tally-same (all-commands t bytes s) (all-ramwrs t bytes s) o.0 o.1.0 o.1.1.0 o.1.1.1 (all_held t bytes s g)

-- Data: the current record's pixel bytes grow, or it keeps them.
held_grown :
    (f : TraceRecord → TraceRecord) (n : ℕ) → ((r : TraceRecord) → bytes_of (f r) ≡ bytes_of r + n) →
    (k : Option ℕ) (t : Fixed TraceRecord) (p : Params) → Lined k t p →
    map bytes_of (take t.count (on_current f k t.places)) ≡ grown_at k n (map bytes_of (used t))
held_grown f n grows None t p v = refl
held_grown f n grows (Some i) t p v =
    let m : ℕ = t.count in
    let l : List TraceRecord = t.places in
    let h : i < m = omega (arith, (lasting v).last) in
    ap (map bytes_of) (take-set-lt m l i (f (get_or l i no_record)) h)
    ∙ map-set bytes_of (take m l) i (f (get_or l i no_record))
    ∙ ap (set (map bytes_of (take m l)) i)
    (grows (get_or l i no_record) ∙ ap (λ r. bytes_of r + n) (sym (get_or-take m l i no_record h)) ∙ ap (λ b. b + n) (sym (get_or-map bytes_of (take m l) i no_record)))

held_kept :
    (f : TraceRecord → TraceRecord) → ((r : TraceRecord) → bytes_of (f r) ≡ bytes_of r) → (k : Option ℕ) (m : ℕ) (l : List TraceRecord) →
    map bytes_of (take m (on_current f k l)) ≡ map bytes_of (take m l)
held_kept f keeps None m l = refl
held_kept f keeps (Some i) m l =
    map-take bytes_of m (set l i (f (get_or l i no_record)))
    ∙ ap (take m) (map-set_same bytes_of l i (f (get_or l i no_record)) no_record (keeps (get_or l i no_record)))
    ∙ sym (map-take bytes_of m l)

data-tallied :
    (bytes : List ℕ) (s : St7789p3) → Good s →
    counts_in (data_in bytes s) ≡
    cond s.controller.chip.decoder.in_pixels (pixels_sent bytes s.controller (counts_in s)) (params_sent bytes s.controller (counts_in s))
unfolding data_in ran taken
data-tallied bytes s g = go s.controller.chip.decoder.in_pixels s.controller.chip.decoder.cmd
  where
    k : Controller
    k = s.controller

    -- What is left of a segment without a run, by the command in force.
    listed : Option ℕ → Tally
    listed f =
        record {
          commands = k.counts.commands;
          ramwrs = k.counts.ramwr_count;
          pixels = k.counts.pixels_written;
          dropped = k.counts.dropped_params + rest_of f k.chip.decoder.params bytes;
          inverted = k.counts.inverted;
          unmapped = k.counts.unmapped;
          held = (counts_in s).held;
        }

    go : (run : Bool) (f : Option ℕ) → counts_in (data_by run f bytes s) ≡ cond run (pixels_sent bytes k (counts_in s)) (listed f)
    go true f =
        tally-same refl refl refl refl refl refl
        (held_grown (more_pixels (length bytes)) (length bytes) (λ r. refl) k.logs.current (trace_of s) k.chip.decoder.params (lined s (fine_of s g)))
    go false None = tally-same refl refl refl (omega arith) refl refl (held_kept (λ r. r) (λ r. refl) k.logs.current k.logs.traced s.records)
    go false (Some c) = tally-same refl refl refl refl refl refl (held_kept (more_params bytes) (λ r. refl) k.logs.current k.logs.traced s.records)

-- A whole segment; the CS release counts nothing.
moved-tallied :
    (t : ℕ) (dc : Bool) (bytes : List ℕ) (cs : Bool) (s : St7789p3) → Good s →
    counts_in (moved t dc bytes cs s) ≡ segment_sent dc bytes s.controller (counts_in s)
unfolding moved controller_released
moved-tallied t dc bytes cs s g = last cs (cond dc (data_in bytes s) (begun_all t bytes s)) ∙ go dc
  where
    last : (cs : Bool) (r : St7789p3) → counts_in (cond cs (released r) r) ≡ counts_in r
    last true r = refl
    last false r = refl

    go : (dc : Bool) → counts_in (cond dc (data_in bytes s) (begun_all t bytes s)) ≡ segment_sent dc bytes s.controller (counts_in s)
    go true = data-tallied bytes s g
    go false = all-tallied t bytes s g

-- Each operation, refused or not.
unless-tallied : (n : ℕ) (new old : St7789p3) (y : Tally) → counts_in new ≡ y → counts_in (unless_refused n new old) ≡ unless_refused n y (counts_in old)
unless-tallied n new old y e = go (eqb n 0)
  where
    go : (b : Bool) → counts_in (cond b new old) ≡ cond b y (counts_in old)
    go true = e
    go false = refl

fresh-tallied : (cfg : PanelConfig) → counts_in (fresh_panel cfg) ≡ nothing_sent
unfolding fresh_controller empty_lists
fresh-tallied cfg = refl

operated-tallied : (s : St7789p3) (o : Operation) → Good s → counts_in (operated s o) ≡ tallied s (counts_in s) o
unfolding operated tallied transferred bare_transferred published reset_state empty_lists fresh_controller
operated-tallied s (transferring Lent cells t dc bytes cs) g =
    unless-tallied (transfer_refusal s cells (length bytes)) (moved t dc bytes cs s) s _ (moved-tallied t dc bytes cs s g)
operated-tallied s (transferring Without cells t dc bytes cs) g =
    unless-tallied (bare_refusal s (length bytes)) (moved t dc bytes cs s) s _ (moved-tallied t dc bytes cs s g)
operated-tallied s (publishing cells room) g = go (eqb (publish_refusal s cells room) 0)
  where
    go : (b : Bool) → counts_in (cond b (unmarked s) s) ≡ counts_in s
    go true = refl
    go false = refl
operated-tallied s (resetting domain cells) g = unless-tallied (memory_refusal cells) (rail_reset (is_board_rail domain) s) s _ (rail (is_board_rail domain))
  where
    rail : (b : Bool) → counts_in (rail_reset b s) ≡ cond b nothing_sent (counts_in s)
    rail true = refl
    rail false = refl
operated-tallied s (setting x) g = ap (λ k. counts_in (with_controller k s)) ((settles x).only s.controller)
operated-tallied s marking g = refl
operated-tallied s taking g = refl

from-good : (s : St7789p3) (operations : List Operation) → Good s → counts_in (foldl operated s operations) ≡ tally_from s (counts_in s) operations
from-good s [] g = refl
from-good s (o ∷ operations) g =
    from-good (operated s o) operations (operated-good s o g) ∙ ap (λ y. tally_from (operated s o) y operations) (operated-tallied s o g)

pub always-tallied : (cfg : PanelConfig) (operations : List Operation) → counts_in (after cfg operations) ≡ tally cfg operations
always-tallied cfg operations =
    from-good (fresh_panel cfg) operations (fresh-good cfg) ∙ ap (λ y. tally_from (fresh_panel cfg) y operations) (fresh-tallied cfg)

-- And so of a host's calls, refused ones too.
pub calls-tallied :
    (cfg : PanelConfig) (calls : List Call) → counts_in (run defined (fresh_host cfg) calls).panel ≡ tally cfg (operations_from defined (fresh_host cfg) calls)
calls-tallied cfg calls = ap counts_in (run-operates (fresh_host cfg) calls) ∙ always-tallied cfg (operations_from defined (fresh_host cfg) calls)
