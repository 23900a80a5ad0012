-- Demand 3 of functions: whatever keeps the promises is, for a host, the machine of the definitions, so what is proved of that one holds
-- of it. The functions of this repository keep them: that is what is proved of each.
use Prim.Native.Nat.{ℕ}
use mathlib.Core.Path.{◌≡◌, refl, sym, ap, subst, ◌∙◌}
use mathlib.Core.Bool.{true, false}
use mathlib.Core.List.{List}
use lib.ListN.{length, replicate, length-replicate}
use Rattle.board.specs.declared.PanelConfig.{PanelConfig}
use Rattle.st7789.specs.Parts.{with_controller}
use Rattle.st7789.specs.declared.Controller.{Controller}
use Rattle.st7789.specs.declared.St7789p3.{St7789p3}
use Rattle.views.specs.Views.{frame_refusal}
use Rattle.hosts.specs.Calls as calls
use Rattle.hosts.specs.Calls.{Host, Machine, defined, step, refusal, run, look_refusal, settled}
use Rattle.hosts.specs.Hosts.{TwoHosts, OneCuts}
use Rattle.hosts.specs.Operations.{operations_from}
use Rattle.hosts.specs.Tallies.{tally, counts_in}
use Rattle.hosts.proofs.Tallies.{calls-tallied}
use Rattle.hosts.proofs.Hosts.{two-hosts, one-cuts, made-fresh}
use Rattle.no_room.specs.Functions.{Functions, KeepAll, panel_of, sending, settled_by, step_by, look_by, refusal_by, machine_of}

-- A host by its parts.
host-same :
    {s r : St7789p3} {m n frame other : List ℕ} → s ≡ r → m ≡ n → frame ≡ other →
    ◌≡◌ {A = Host} (record { panel = s; memory = m; frame = frame }) (record { panel = r; memory = n; frame = other })
host-same p q r i = record { panel = p i; memory = q i; frame = r i }

module _ (f : Functions) (keep : KeepAll f) where
  settled-kept : (x : calls.Setting) (k : Controller) → settled_by f x k ≡ settled x k
  settled-kept (calls.power on) k = keep.set_powered k on
  settled-kept (calls.shows on) k = keep.set_invon_shows_ram k on
  settled-kept (calls.brightness level scale duty) k = keep.set_brightness k level scale duty

  step_kept : (h : Host) (c : calls.Call) → step_by f h c ≡ step h c
  unfolding step refusal
  step_kept h (calls.commands t bytes cs) =
      let k = keep.transfer (panel_of h) (sending t false bytes cs) in host-same k.1.0 k.1.1.1 refl
  step_kept h (calls.segment t bytes cs) =
      let k = keep.transfer (panel_of h) (sending t true bytes cs) in host-same k.1.0 k.1.1.1 refl
  step_kept h calls.publish = let k = keep.publish (panel_of h) h.frame in host-same k.1.0 refl k.1.1.1.1
  step_kept h (calls.reset domain) = let k = keep.reset (panel_of h) domain in host-same k.1.0 k.1.1 refl
  step_kept h calls.mark_all = host-same (ap (λ k. with_controller k h.panel) (keep.mark_all_dirty h.panel.controller)) refl refl
  step_kept h (calls.sets x) = host-same (ap (λ k. with_controller k h.panel) (settled-kept x h.panel.controller)) refl refl
  step_kept h (calls.looks x) = refl

  look-kept : (h : Host) (x : calls.Look) → look_by f h x ≡ look_refusal (length h.memory) x
  look-kept h (calls.pixel v x y) = (keep.pixel h.panel.controller v x y h.memory).0
  look-kept h (calls.view v room) =
      (keep.frame h.panel.controller v h.memory (replicate room 0)).0
      ∙ ap (frame_refusal (length h.memory)) (length-replicate room 0)
  look-kept h (calls.row m r) = refl
  look-kept h calls.compare = refl

  refusal-kept : (h : Host) (c : calls.Call) → refusal_by f h c ≡ refusal h c
  unfolding refusal
  refusal-kept h (calls.commands t bytes cs) = (keep.transfer (panel_of h) (sending t false bytes cs)).0
  refusal-kept h (calls.segment t bytes cs) = (keep.transfer (panel_of h) (sending t true bytes cs)).0
  refusal-kept h calls.publish = (keep.publish (panel_of h) h.frame).0
  refusal-kept h (calls.reset domain) = (keep.reset (panel_of h) domain).0
  refusal-kept h calls.mark_all = refl
  refusal-kept h (calls.sets x) = refl
  refusal-kept h (calls.looks x) = look-kept h x

  pub machine-kept : (memory : List ℕ) → length memory ≡ 76800 → machine_of f memory ≡ defined
  machine-kept memory long i =
      record {
        fresh = λ cfg.
            record {
              panel = (keep.new cfg memory).1.0 i;
              memory = ((keep.new cfg memory).1.1 ∙ made-fresh cfg memory long) i;
              frame = replicate 76800 0;
            };
        step = λ h c. step_kept h c i;
        refusal = λ h c. refusal-kept h c i;
      }

-- Two hosts, each with functions and memory of its own.
module _
    (f g : Functions) (keep-f : KeepAll f) (keep-g : KeepAll g) (memory other : List ℕ) (long : length memory ≡ 76800)
    (other-long : length other ≡ 76800)
  where
    as-defined : (P : Machine → Machine → Type 0) → P defined defined → P (machine_of f memory) (machine_of g other)
    as-defined P h =
        subst (λ m. P m (machine_of g other)) (sym (machine-kept f keep-f memory long)) (subst (P defined) (sym (machine-kept g keep-g other other-long)) h)

    pub two-hosts-kept : TwoHosts (machine_of f memory) (machine_of g other)
    two-hosts-kept = as-defined TwoHosts two-hosts

    pub one-cuts-kept : OneCuts (machine_of f memory) (machine_of g other)
    one-cuts-kept = as-defined OneCuts one-cuts

-- "Invented counts break demand 2, where each count is defined over the calls made.": whatever keeps the promises counts what the calls
-- send, refused ones among them.
module _ (f : Functions) (keep : KeepAll f) (memory : List ℕ) (long : length memory ≡ 76800) where
  abbrev own : Machine
  own = machine_of f memory

  pub counts-kept : (cfg : PanelConfig) (calls : List calls.Call) → counts_in (run own (own.fresh cfg) calls).panel ≡ tally cfg (operations_from own (own.fresh cfg) calls)
  counts-kept cfg calls =
      subst (λ m. counts_in (run m (m.fresh cfg) calls).panel ≡ tally cfg (operations_from m (m.fresh cfg) calls))
      (sym (machine-kept f keep memory long)) (calls-tallied cfg calls)
