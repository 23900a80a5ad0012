-- Rules: demand 3, the calls of two hosts, the rows stored to since a publish, and what holds of the two.
use Rattle.std.specs.Prelude.{ℕ, ◌*◌, ◌≤◌, ◌≡◌, Bool, true, false, cond, ◌||◌, take, drop, Option, Some, None}
use mathlib.Core.List.{List, [], ◌∷◌, ◌++◌, map, Memᴰ}
use Rattle.pixels.specs.Run.{row_of}
use Rattle.marks.specs.Rows.{no_rows, all_rows, is_marked, span_of}
use Rattle.marks.specs.declared.Marks.{Marks}
use Rattle.board.specs.Board.{is_board_rail}
use Rattle.board.specs.declared.PanelConfig.{PanelConfig}
use Rattle.st7789.specs.Data.{stores_in}
use Rattle.hosts.specs.Calls.{Host, Call, commands, segment, publish, reset, mark_all, sets, looks, Machine, run, Accepted}

-- How the calls of two hosts go together: made by both alike, or sent by each in parts of its own, or made by either where it likes.
-- "data times and the moments and number of publishes may also differ"; and so may those of the calls that only look.
pub data Role : Type 0 where
  shared cut free : Role

-- The role of each call.
abbrev pub role : Call → Role
role (commands t bytes cs) = shared
role (segment t bytes cs) = cut
role publish = free
role (reset domain) = shared
role mark_all = shared
role (sets x) = shared
role (looks x) = free

-- "cuts data segments into other parts, at least one each, any CS release on the last": the calls that send `bytes` so, each part at a
-- time of its own and perhaps empty, with publishes and looks between.
pub data InParts (cs : Bool) : List ℕ → List Call → Type 0 where
  rest : {t : ℕ} {bytes : List ℕ} → InParts cs bytes (segment t bytes cs ∷ [])
  part : {t : ℕ} {bytes more : List ℕ} {calls : List Call} → InParts cs more calls → InParts cs (bytes ++ more) (segment t bytes false ∷ calls)
  between : {c : Call} {bytes : List ℕ} {calls : List Call} → role c ≡ free → InParts cs bytes calls → InParts cs bytes (c ∷ calls)

-- "They make the same calls in the same order, .. command segments at the same times": a host that makes `calls` does what `agreed` says,
-- with its own cuts, data times, publishes and looks.
pub data Makes : List Call → List Call → Type 0 where
  done : Makes [] []
  besides : {c : Call} {agreed calls : List Call} → role c ≡ free → Makes agreed calls → Makes agreed (c ∷ calls)
  same : {c : Call} {agreed calls : List Call} → role c ≡ shared → Makes agreed calls → Makes (c ∷ agreed) (c ∷ calls)
  sends :
      {t : ℕ} {bytes : List ℕ} {cs : Bool} {agreed parts calls : List Call} → InParts cs bytes parts → Makes agreed calls →
      Makes (segment t bytes cs ∷ agreed) (parts ++ calls)

-- A call before others, left out where it is free.
abbrev pub unless_free : Role → Call → List Call → List Call
unless_free shared c calls = c ∷ calls
unless_free cut c calls = c ∷ calls
unless_free free c calls = calls

-- The calls of a host without those that are free.
abbrev pub owed : List Call → List Call
owed [] = []
owed (c ∷ calls) = unless_free (role c) c (owed calls)

-- "every row stored to since the last publish", and whether "a board-rail reset or a mark-all" came "since then": from the calls, and
-- from what each data segment stores in the state that it meets.
pub record Since : Type 0 where
  pub all : Bool
  pub rows : List ℕ

-- Nothing stored and nothing marked.
abbrev pub nothing_since : Since
nothing_since = record { all = false; rows = [] }

-- What is noted after one call more.
unfoldable pub noted : Host → Since → Call → Since
noted h s (commands t bytes cs) = s
noted h s (segment t bytes cs) = record { all = s.all; rows = s.rows ++ map row_of (stores_in true bytes h.panel.controller) }
noted h s publish = nothing_since
noted h s (reset domain) = record { all = is_board_rail domain || s.all; rows = s.rows }
noted h s mark_all = record { all = true; rows = s.rows }
noted h s (sets x) = s
noted h s (looks x) = s

-- And after calls in turn.
abbrev pub since_from : Machine → Host → Since → List Call → Since
since_from m h s [] = s
since_from m h s (c ∷ calls) = since_from m (m.step h c) (noted h s c) calls

-- A fresh panel and an all-zero frame: nothing was stored, and nothing is to be copied.
abbrev pub since : Machine → PanelConfig → List Call → Since
since m cfg calls = since_from m (m.fresh cfg) nothing_since calls

-- "the smallest holding every row": it holds each of them, and its first and its last are among them.
pub record Smallest (first last : ℕ) (rows : List ℕ) : Type 0 where
  pub holds : (r : ℕ) → Memᴰ r rows → (first ≤ r) × (r ≤ last)
  pub first-among : Memᴰ first rows
  pub last-among : Memᴰ last rows

-- The same of a span: the empty one holds no row.
abbrev pub Hull : Option (ℕ × ℕ) → List ℕ → Type 0
Hull None rows = rows ≡ []
Hull (Some (first, last)) rows = Smallest first last rows

-- "the span marked for copying: the smallest holding every row stored to since the last publish, or all 320 rows after a board-rail
-- reset or a mark-all since then"
abbrev pub Marked : Marks → Since → Type 0
Marked m s = cond s.all (m ≡ all_rows) (Hull (span_of m) s.rows)

-- What is "marked for copying" at a host.
abbrev pub marks_of : Host → Marks
marks_of h = h.panel.controller.marks

-- A row of a memory or a frame.
abbrev pub row_in : ℕ → List ℕ → List ℕ
row_in r memory = take 240 (drop (r * 240) memory)

-- "the rows where frame and panel differ lie in the span marked for copying"
pub record Moment (h : Host) (s : Since) : Type 0 where
  pub differing : (r : ℕ) → (row_in r h.frame ≡ row_in r h.memory → ⊥) → is_marked (marks_of h) r ≡ true
  pub span : Marked (marks_of h) s

-- "both frames equal both panel memories, and registers, trace, warnings and counts agree": the panels are equal whole.
pub record Agree (a b : Host) : Type 0 where
  pub frame-a : a.frame ≡ a.memory
  pub frame-b : b.frame ≡ b.memory
  pub memory : a.memory ≡ b.memory
  pub panel : a.panel ≡ b.panel

-- "At every moment": after the calls `made`, whichever are left.
abbrev pub EveryMoment : Machine → PanelConfig → List Call → Type 0
EveryMoment m cfg calls = (made left : List Call) → calls ≡ made ++ left → Moment (run m (m.fresh cfg) made) (since m cfg made)

-- A host at its end, and then with "a last publish".
abbrev pub ended : Machine → PanelConfig → List Call → Host
ended m cfg calls = run m (m.fresh cfg) calls

abbrev pub last_published : Machine → PanelConfig → List Call → Host
last_published m cfg calls = m.step (ended m cfg calls) publish

-- What demand 3 promises of two hosts, each run by a machine of its own, "and then a last publish at each". That publish is no call of
-- theirs: that it is not refused is promised too, and that it leaves nothing marked.
pub record Demand3 (a b : Machine) (cfg : PanelConfig) (us vs : List Call) : Type 0 where
  pub last-a : a.refusal (ended a cfg us) publish ≡ 0
  pub last-b : b.refusal (ended b cfg vs) publish ≡ 0
  pub empty-a : marks_of (last_published a cfg us) ≡ no_rows
  pub empty-b : marks_of (last_published b cfg vs) ≡ no_rows
  pub agree : Agree (last_published a cfg us) (last_published b cfg vs)
  pub moments-a : EveryMoment a cfg us
  pub moments-b : EveryMoment b cfg vs

-- "Two hosts each have a fresh panel, equally set": either may cut.
abbrev pub TwoHosts : Machine → Machine → Type 0
TwoHosts a b =
    (cfg : PanelConfig) (agreed us vs : List Call) → Makes agreed us → Makes agreed vs → Accepted a (a.fresh cfg) us → Accepted b (b.fresh cfg) vs →
    Demand3 a b cfg us vs

-- "One cuts": the agreed calls are those of the first host, without what is free.
abbrev pub OneCuts : Machine → Machine → Type 0
OneCuts a b =
    (cfg : PanelConfig) (us vs : List Call) → Makes (owed us) vs → Accepted a (a.fresh cfg) us → Accepted b (b.fresh cfg) vs → Demand3 a b cfg us vs
