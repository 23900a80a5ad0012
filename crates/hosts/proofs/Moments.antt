-- At every moment the state is good, the rows that differ lie in the span, and the span is the one that the calls ask for.
use Prim.Native.Nat.{ℕ, ◌+◌, ◌*◌, ◌<◌}
use mathlib.Core.Path.{◌≡◌, refl, sym, ap, ◌∙◌}
use mathlib.Core.Bool.{Bool, true, false, cond, ◌||◌}
use mathlib.Core.List.{List, [], ◌∷◌, ◌++◌, map, append-nil}
use native.Mathlib.Omega.{arith}
use lib.ListN.{length, get_or, drop, replicate, length-replicate, length-take, length-drop}
use lib.Seq.{ext_get_or, get_or-take, get_or-drop}
use Rattle.status.specs.Tests.{memory_refusal}
use Rattle.status.proofs.Unless.{unless-none}
use Rattle.marks.specs.Rows.{is_marked, span_of}
use Rattle.marks.specs.declared.Marks.{Marks}
use Rattle.pixels.specs.Run.{written, row_of, zeroed}
use Rattle.board.specs.Board.{is_board_rail}
use Rattle.board.specs.declared.PanelConfig.{PanelConfig}
use Rattle.st7789.specs.Data.{stores_in}
use Rattle.st7789.specs.Refusals.{transfer_refusal}
use Rattle.st7789.specs.Entries.{fresh_controller, empty_lists, rail_reset, moved, transferred, transfer_memory, reset_state, reset_memory}
use Rattle.st7789.proofs.Tests.{clause}
use Rattle.laws.specs.Valid.{Good}
use Rattle.laws.proofs.Marks.{unmarked, moved_marks}
use Rattle.laws.proofs.Stores.{in-panel}
use Rattle.laws.proofs.Reach.{fresh-good}
use Rattle.publishing.specs.Publish.{span_copied, published, published_frame}
use Rattle.publishing.proofs.Refusing.{none-bad}
use Rattle.publishing.proofs.Rows.{all-copied}
use Rattle.hosts.specs.Calls.{Host, Call, commands, segment, publish, reset, mark_all, sets, looks, fresh_host, refusal, step, defined, run, Accepted}
use Rattle.hosts.specs.Hosts.{Since, nothing_since, noted, since_from, since, marks_of, row_in, EveryMoment}
use Rattle.hosts.proofs.Settings.{settled-marks}
use Rattle.hosts.proofs.Operations.{step-good}
use Rattle.hosts.proofs.Spans.{none-marked}
use Rattle.hosts.proofs.Fits.{Fits, stores-fit, all_fit}

-- Calls keep a state good.
pub run-good : (h : Host) (calls : List Call) → Good h.panel → Good (run defined h calls).panel
run-good h [] g = g
run-good h (c ∷ calls) g = run-good (step h c) calls (step-good h c g)

-- Every accepted call keeps frame, memory and marks fitting.
abbrev pub HostFits : Host → Since → Type 0
HostFits h s = Fits h.memory h.frame (marks_of h) s

fits-as : {memory memory' frame : List ℕ} {d d' : Marks} {s : Since} → memory ≡ memory' → d ≡ d' → Fits memory' frame d' s → Fits memory frame d s
fits-as e f v = rw (e, f) v

pub copied-whole : (h : Host) (s : Since) → Good h.panel → HostFits h s → span_copied (span_of (marks_of h)) h.memory h.frame ≡ h.memory
copied-whole h s g v = all-copied h.memory h.frame v.memory-long v.frame-long (marks_of h) (clause h.panel g.fine 7) v.alike

transfer-fits :
    (t : ℕ) (dc : Bool) (bytes : List ℕ) (cs : Bool) (h : Host) (s : Since) → transfer_refusal h.panel (length h.memory) (length bytes) ≡ 0 →
    HostFits h s →
    Fits (transfer_memory dc bytes h.memory h.panel) h.frame (transferred t dc bytes cs (length h.memory) h.panel).controller.marks
    (record { all = s.all; rows = s.rows ++ map row_of (stores_in dc bytes h.panel.controller) })
unfolding transferred transfer_memory
transfer-fits t dc bytes cs h s e v =
    let n = transfer_refusal h.panel (length h.memory) (length bytes) in
    let xs = stores_in dc bytes h.panel.controller in
    fits-as
    (unless-none n (written h.memory xs) h.memory e)
    (ap (λ s. s.controller.marks) (unless-none n (moved t dc bytes cs h.panel) h.panel e) ∙ moved_marks t dc bytes cs h.panel)
    (stores-fit xs h.memory h.frame (marks_of h) s.all s.rows (in-panel dc bytes h.panel.controller) v)

step_fits : (h : Host) (s : Since) (c : Call) → refusal h c ≡ 0 → Good h.panel → HostFits h s → HostFits (step h c) (noted h s c)
unfolding refusal step noted published published_frame reset_state reset_memory empty_lists
step_fits h s (commands t bytes cs) e g v = rw append-nil at (transfer-fits t false bytes cs h s e v)
step_fits h s (segment t bytes cs) e g v = transfer-fits t true bytes cs h s e v
step_fits h s publish e g v =
    let n = refusal h publish in
    let f : published_frame n h.panel h.memory h.frame ≡ h.memory =
    unless-none n (span_copied (span_of (marks_of h)) h.memory h.frame) h.frame e ∙ copied-whole h s g v in
    fits-as refl (ap (λ s. s.controller.marks) (unless-none n (unmarked h.panel) h.panel e))
    (record {
      memory-long = v.memory-long;
      frame-long = ap length f ∙ v.memory-long;
      alike = λ r column _ _. ap (λ l. get_or l (r * 240 + column) 0) f;
      marks = none-marked;
    })
step_fits h s (reset domain) e g v =
    fits-as
    (unless-none n (cond (is_board_rail domain) (zeroed h.memory) h.memory) h.memory e)
    (ap (λ s. s.controller.marks) (unless-none n (rail_reset (is_board_rail domain) h.panel) h.panel e))
    (go (is_board_rail domain))
  where
    n : ℕ
    n = memory_refusal (length h.memory)

    go :
        (b : Bool) →
        Fits (cond b (zeroed h.memory) h.memory) h.frame (rail_reset b h.panel).controller.marks
        (record { all = b || s.all; rows = s.rows })
    go true = all_fit (zeroed h.memory) h.frame s.rows (length-replicate (length h.memory) 0 ∙ v.memory-long) v.frame-long
    go false = v
step_fits h s mark_all e g v = all_fit h.memory h.frame s.rows v.memory-long v.frame-long
step_fits h s (sets x) e g v = fits-as refl (settled-marks x h.panel) v
step_fits h s (looks x) e g v = v

run_fits : (h : Host) (s : Since) (calls : List Call) → Accepted defined h calls → Good h.panel → HostFits h s → HostFits (run defined h calls) (since_from defined h s calls)
run_fits h s [] a g v = v
run_fits h s (c ∷ calls) a g v = run_fits (step h c) (noted h s c) calls a.1 (step-good h c g) (step_fits h s c a.0 g v)

zeros-long : length (replicate {A = ℕ} 76800 0) ≡ 76800
zeros-long = length-replicate {A = ℕ} 76800 0

fresh-fits : (cfg : PanelConfig) → HostFits (fresh_host cfg) nothing_since
unfolding fresh_controller empty_lists
fresh-fits cfg = record { memory-long = zeros-long; frame-long = zeros-long; alike = λ r column _ _. refl; marks = none-marked }

-- From a fresh panel.
module _ (cfg : PanelConfig) (calls : List Call) (a : Accepted defined (fresh_host cfg) calls) where
  pub end-good : Good (run defined (fresh_host cfg) calls).panel
  end-good = run-good (fresh_host cfg) calls (fresh-good cfg)

  pub end_fits : HostFits (run defined (fresh_host cfg) calls) (since defined cfg calls)
  end_fits = run_fits (fresh_host cfg) nothing_since calls a (fresh-good cfg) (fresh-fits cfg)

-- Rows that are not marked are the same.
row_same : (r : ℕ) (h : Host) (s : Since) → HostFits h s → is_marked (marks_of h) r ≡ false → row_in r h.frame ≡ row_in r h.memory
row_same r h s v out =
    ext_get_or 0 (row_in r h.frame) (row_in r h.memory) (simp (length-take, length-drop, v.frame-long, v.memory-long)) (λ i k.
    let j : i < 240 = omega (arith, length-take 240 (drop (r * 240) h.frame)) in
    at h.frame i j ∙ v.alike r i j out ∙ sym (at h.memory i j))
  where
    at : (l : List ℕ) (i : ℕ) → i < 240 → get_or (row_in r l) i 0 ≡ get_or l (r * 240 + i) 0
    at l i j = get_or-take 240 (drop (r * 240) l) i 0 j ∙ get_or-drop (r * 240) l i 0

accepted-front : (h : Host) (made left : List Call) → Accepted defined h (made ++ left) → Accepted defined h made
accepted-front h [] left a = tt
accepted-front h (c ∷ made) left a = (a.0, accepted-front (step h c) made left a.1)

pub every-moment : (cfg : PanelConfig) (calls : List Call) → Accepted defined (fresh_host cfg) calls → EveryMoment defined cfg calls
every-moment cfg calls a made left e =
    record { differing = λ r n. go r n (is_marked (marks_of h) r) refl; span = v.marks }
  where
    h : Host
    h = run defined (fresh_host cfg) made

    v : HostFits h (since defined cfg made)
    v = end_fits cfg made (accepted-front (fresh_host cfg) made left (rw e at a))

    go :
        (r : ℕ) → (row_in r h.frame ≡ row_in r h.memory → ⊥) → (b : Bool) → is_marked (marks_of h) r ≡ b →
        is_marked (marks_of h) r ≡ true
    go r n true e = e
    go r n false e = absurd (n (row_same r h (since defined cfg made) v e))

-- A publish is not refused.
pub last-publish : (cfg : PanelConfig) (calls : List Call) → Accepted defined (fresh_host cfg) calls → refusal (run defined (fresh_host cfg) calls) publish ≡ 0
unfolding refusal
last-publish cfg calls a =
    let v = end_fits cfg calls a in
    let h = run defined (fresh_host cfg) calls in
    none-bad h.panel (length h.memory) (length h.frame) (end-good cfg calls a).fine v.memory-long v.frame-long
