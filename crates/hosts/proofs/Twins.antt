-- What publishes, looks, cuts and data times don't touch: the panel but for its span, and the memory.
use Prim.Native.Nat.{ℕ}
use mathlib.Core.Path.{◌≡◌, refl, sym, ap, ap₂, ◌∙◌}
use mathlib.Core.Bool.{Bool, true, false, cond}
use mathlib.Core.List.{List, [], ◌∷◌, ◌++◌, foldl, foldl-append}
use lib.Dec.{eqb}
use lib.ListN.{length, set}
use Rattle.status.specs.Tests.{memory_refusal}
use Rattle.status.proofs.Unless.{unless-none}
use Rattle.pixels.specs.Run.{written, zeroed}
use Rattle.board.specs.Board.{is_board_rail}
use Rattle.board.specs.declared.BoardDomain.{BoardDomain}
use Rattle.st7789.specs.Data.{controller_data, data_in, stores_in}
use Rattle.st7789.specs.Refusals.{transfer_refusal}
use Rattle.st7789.specs.Entries.{rail_reset, moved, transferred, transfer_memory, reset_state, reset_memory}
use Rattle.st7789.specs.declared.St7789p3.{St7789p3}
use Rattle.laws.proofs.Cuts.{data-cut}
use Rattle.laws.proofs.Stores.{stores_both}
use Rattle.laws.proofs.Marks.{unmarked, data-unmarked, release-unmarked, moved-unmarked, rail-unmarked}
use Rattle.publishing.specs.Publish.{published}
use Rattle.hosts.specs.Calls.{Host, Call, commands, segment, publish, reset, mark_all, sets, looks, refusal, step, defined, run, Accepted}
use Rattle.hosts.specs.Hosts.{role, free, InParts, rest, part, between, Makes, done, besides, same, sends}
use Rattle.hosts.proofs.Settings.{panel_settled, settled-unmarked}

-- What of a host is the same at both: the panel without its span, and the memory. No publish touches it.
pub record Core : Type 0 where
  pub panel : St7789p3
  pub memory : List ℕ

abbrev pub core : Host → Core
core h = record { panel = unmarked h.panel; memory = h.memory }

-- What an accepted call does to it.
unfoldable pub does : Core → Call → Core
does b (commands t bytes cs) = record { panel = unmarked (moved t false bytes cs b.panel); memory = b.memory }
does b (segment t bytes cs) =
    record { panel = unmarked (moved t true bytes cs b.panel); memory = written b.memory (stores_in true bytes b.panel.controller) }
does b publish = b
does b (reset domain) =
    record {
      panel = unmarked (rail_reset (is_board_rail domain) b.panel);
      memory = cond (is_board_rail domain) (zeroed b.memory) b.memory;
    }
does b mark_all = b
does b (sets x) = record { panel = unmarked (panel_settled x b.panel); memory = b.memory }
does b (looks x) = b

core-same : {s r : St7789p3} {m n : List ℕ} → s ≡ r → m ≡ n → ◌≡◌ {A = Core} (record { panel = s; memory = m }) (record { panel = r; memory = n })
core-same e f = ap₂ (λ s m. record { panel = s; memory = m }) e f

transfer-does :
    (t : ℕ) (dc : Bool) (bytes : List ℕ) (cs : Bool) (s : St7789p3) (m : List ℕ) → transfer_refusal s (length m) (length bytes) ≡ 0 →
    ◌≡◌ {A = Core}
    (record { panel = unmarked (transferred t dc bytes cs (length m) s); memory = transfer_memory dc bytes m s })
    (record { panel = unmarked (moved t dc bytes cs (unmarked s)); memory = written m (stores_in dc bytes s.controller) })
unfolding transferred transfer_memory
transfer-does t dc bytes cs s m e =
    core-same
    (ap unmarked (unless-none (transfer_refusal s (length m) (length bytes)) (moved t dc bytes cs s) s e) ∙ moved-unmarked t dc bytes cs s)
    (unless-none (transfer_refusal s (length m) (length bytes)) (written m (stores_in dc bytes s.controller)) m e)

reset-does :
    (domain : BoardDomain) (s : St7789p3) (m : List ℕ) → memory_refusal (length m) ≡ 0 →
    ◌≡◌ {A = Core}
    (record { panel = unmarked (reset_state domain (length m) s); memory = reset_memory domain m })
    (record { panel = unmarked (rail_reset (is_board_rail domain) (unmarked s)); memory = cond (is_board_rail domain) (zeroed m) m })
unfolding reset_state reset_memory
reset-does domain s m e =
    core-same
    (ap unmarked (unless-none (memory_refusal (length m)) (rail_reset (is_board_rail domain) s) s e) ∙ rail-unmarked (is_board_rail domain) s)
    (unless-none (memory_refusal (length m)) (cond (is_board_rail domain) (zeroed m) m) m e)

step-does : (h : Host) (c : Call) → refusal h c ≡ 0 → core (step h c) ≡ does (core h) c
unfolding refusal step does published
step-does h (commands t bytes cs) e = transfer-does t false bytes cs h.panel h.memory e
step-does h (segment t bytes cs) e = transfer-does t true bytes cs h.panel h.memory e
step-does h publish e = core-same (go (eqb (refusal h publish) 0)) refl
  where
    go : (b : Bool) → unmarked (cond b (unmarked h.panel) h.panel) ≡ unmarked h.panel
    go true = refl
    go false = refl
step-does h (reset domain) e = reset-does domain h.panel h.memory e
step-does h mark_all e = refl
step-does h (sets x) e = core-same (settled-unmarked x h.panel) refl
step-does h (looks x) e = refl

pub run-does : (h : Host) (calls : List Call) → Accepted defined h calls → core (run defined h calls) ≡ foldl does (core h) calls
run-does h [] a = refl
run-does h (c ∷ calls) a = run-does (step h c) calls a.1 ∙ ap (λ b. foldl does b calls) (step-does h c a.0)

-- What a host may do where it likes does nothing here.
free-idle : (c : Call) → role c ≡ free → (b : Core) → does b c ≡ b
unfolding does
free-idle (commands t bytes cs) e b = cc
free-idle (segment t bytes cs) e b = cc
free-idle publish e b = refl
free-idle (reset domain) e b = cc
free-idle mark_all e b = cc
free-idle (sets x) e b = cc
free-idle (looks x) e b = refl

-- A part without a CS release, and then the rest.
part-does :
    (t t' : ℕ) (a b : List ℕ) (cs : Bool) (h : Core) →
    does (does h (segment t' a false)) (segment t b cs) ≡ does h (segment t (a ++ b) cs)
unfolding does moved data_in
part-does t t' a b cs h =
    core-same
    (release-unmarked cs (data_in b (unmarked (data_in a h.panel))) (data_in (a ++ b) h.panel)
    (sym (data-unmarked b (data_in a h.panel)) ∙ ap unmarked (sym (data-cut a b h.panel))))
    (sym
    (ap (written h.memory) (stores_both a b h.panel.controller)
    ∙ foldl-append (λ m s. set m s.index s.value) h.memory (stores_in true a h.panel.controller)
    (stores_in true b (controller_data a h.panel.controller))))

parts-do : {cs : Bool} {bytes : List ℕ} {calls : List Call} → InParts cs bytes calls → (t : ℕ) (b : Core) → foldl does b calls ≡ does b (segment t bytes cs)
unfolding does moved
parts-do rest t b = refl
parts-do {cs} (part {t = t'} {bytes = bytes} {more = more} p) t b = parts-do p t (does b (segment t' bytes false)) ∙ part-does t t' bytes more cs b
parts-do (between {c = c} {calls = calls} e p) t b = ap (λ x. foldl does x calls) (free-idle c e b) ∙ parts-do p t b

-- A host that makes the agreed calls in its own way ends where they end.
pub makes-does : {agreed calls : List Call} → Makes agreed calls → (b : Core) → foldl does b calls ≡ foldl does b agreed
makes-does done b = refl
makes-does (besides {c = c} {calls = calls} e m) b = ap (λ x. foldl does x calls) (free-idle c e b) ∙ makes-does m b
makes-does (same {c = c} e m) b = makes-does m (does b c)
makes-does (sends {t = t} {bytes = bytes} {cs = cs} {parts = parts} {calls = calls} p m) b =
    foldl-append does b parts calls ∙ ap (λ x. foldl does x calls) (parts-do p t b) ∙ makes-does m (does b (segment t bytes cs))
