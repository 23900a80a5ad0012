-- Two hosts that make the same calls in their own ways agree after a last publish at each.
use Prim.Native.Nat.{ℕ}
use mathlib.Core.Path.{◌≡◌, refl, sym, ap, ◌∙◌}
use mathlib.Core.List.{List, [], ◌∷◌}
use lib.ListN.{length}
use Rattle.status.proofs.Unless.{unless-none}
use Rattle.marks.specs.Rows.{no_rows, span_of}
use Rattle.board.specs.declared.PanelConfig.{PanelConfig}
use Rattle.st7789.specs.Entries.{new_memory}
use Rattle.st7789.specs.declared.St7789p3.{St7789p3}
use Rattle.publishing.specs.Publish.{span_copied, published, published_frame}
use Rattle.hosts.specs.Calls.{Host, Call, commands, segment, publish, reset, mark_all, sets, looks, fresh_host, refusal, step, defined, run, Accepted}
use Rattle.hosts.specs.Hosts.{rest, Makes, done, besides, same, sends, owed, since, marks_of, TwoHosts, OneCuts}
use Rattle.laws.proofs.Marks.{unmarked}
use Rattle.hosts.proofs.Twins.{core, run-does, makes-does}
use Rattle.hosts.proofs.Moments.{copied-whole, end-good, end_fits, every-moment, last-publish}

-- What the last publish leaves: no row marked, and the memory as frame.
module _ (cfg : PanelConfig) (calls : List Call) (a : Accepted defined (fresh_host cfg) calls) where
  published-state : (step (run defined (fresh_host cfg) calls) publish).panel ≡ unmarked (run defined (fresh_host cfg) calls).panel
  unfolding step published
  published-state =
      let h : Host = run defined (fresh_host cfg) calls in
      unless-none (refusal h publish) (unmarked h.panel) h.panel (last-publish cfg calls a)

  published-empty : marks_of (step (run defined (fresh_host cfg) calls) publish) ≡ no_rows
  published-empty = ap (λ (s : St7789p3). s.controller.marks) published-state

  published-frame : (step (run defined (fresh_host cfg) calls) publish).frame ≡ (run defined (fresh_host cfg) calls).memory
  unfolding step published_frame
  published-frame =
      let h : Host = run defined (fresh_host cfg) calls in
      unless-none (refusal h publish) (span_copied (span_of (marks_of h)) h.memory h.frame) h.frame (last-publish cfg calls a)
      ∙ copied-whole h (since defined cfg calls) (end-good cfg calls a) (end_fits cfg calls a)

pub two-hosts : TwoHosts defined defined
unfolding step
two-hosts cfg agreed us vs mu mv au av =
    let e : core (run defined (fresh_host cfg) us) ≡ core (run defined (fresh_host cfg) vs) =
    run-does (fresh_host cfg) us au ∙ makes-does mu (core (fresh_host cfg)) ∙ sym (makes-does mv (core (fresh_host cfg))) ∙ sym (run-does (fresh_host cfg) vs av) in
    record {
      last-a = last-publish cfg us au;
      last-b = last-publish cfg vs av;
      empty-a = published-empty cfg us au;
      empty-b = published-empty cfg vs av;
      agree =
          record {
            frame-a = published-frame cfg us au;
            frame-b = published-frame cfg vs av;
            memory = ap (λ b. b.memory) e;
            panel = published-state cfg us au ∙ ap (λ b. b.panel) e ∙ sym (published-state cfg vs av);
          };
      moments-a = every-moment cfg us au;
      moments-b = every-moment cfg vs av;
    }

-- A host makes its own calls.
itself : (calls : List Call) → Makes (owed calls) calls
itself [] = done
itself (commands t bytes cs ∷ calls) = same refl (itself calls)
itself (segment t bytes cs ∷ calls) = sends rest (itself calls)
itself (publish ∷ calls) = besides refl (itself calls)
itself (reset domain ∷ calls) = same refl (itself calls)
itself (mark_all ∷ calls) = same refl (itself calls)
itself (sets x ∷ calls) = same refl (itself calls)
itself (looks x ∷ calls) = besides refl (itself calls)

pub one-cuts : OneCuts defined defined
one-cuts cfg us vs m au av = two-hosts cfg (owed us) us vs (itself us) m au av

-- Memory of the right length that a panel is made over is a fresh host's.
pub made-fresh : (cfg : PanelConfig) (lent : List ℕ) → length lent ≡ 76800 → new_memory lent ≡ (fresh_host cfg).memory
unfolding new_memory
made-fresh cfg lent e = rw e
