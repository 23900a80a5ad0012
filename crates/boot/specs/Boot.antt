-- Rules: 01, "Boot comparison".
use Rattle.std.specs.Prelude.{ℕ, ◌+◌, ◌-◌, ◌<◌, max, ◌≡◌, Bool, true, cond, not, ◌&&◌, List, [], ◌∷◌, length, get_or, drop, eqb}
use Rattle.lists.specs.Params.{differ}
use Rattle.lists.specs.Entries.{empty_record}
use Rattle.lists.specs.declared.TraceRecord.{TraceRecord}
use Rattle.sequence.specs.declared.BootStep.{BootStep}
use Rattle.sequence.specs.Sequence.{boot_sequence, past_step}
use Rattle.boot.specs.declared.BootCheck.{BootCheck}
use Rattle.boot.specs.declared.BootCheck.TheVariants.{Match, Differs, Missing}
use Rattle.boot.specs.declared.Compared.{Compared}

-- A step is none "whose command or parameters differ". Two lists of parameters differ if their counts do, and every row counts at most
-- 14: so "A record counting over 14 parameters differs from every step."
unfoldable pub fits : BootStep → TraceRecord → Bool
fits s r = eqb s.cmd r.cmd && not (differ s.params r.params)

-- An answer of its two parts.
abbrev pub answered : BootCheck → TraceRecord → Compared
answered check found = record { check = check; found = found }

-- "the first step whose command or parameters differ or that is missing, with the record found, or a match", of the steps from number k on.
unfoldable pub compared_from : ℕ → List BootStep → List TraceRecord → Compared
compared_from k [] records = answered Match empty_record
compared_from k (s ∷ steps) [] = answered (Missing k) empty_record
compared_from k (s ∷ steps) (r ∷ records) = cond (fits s r) (compared_from (k + 1) steps records) (answered (Differs k) r)

-- "The comparison reads a lent list of trace records of any length", from the first step on.
abbrev pub compared : List TraceRecord → Compared
compared records = compared_from 1 boot_sequence records

-- One record more: what was decided stays, and where a step is missing the record is compared with the steps from there on.
abbrev pub judged_by : BootCheck → Compared → TraceRecord → Compared
judged_by Match c r = c
judged_by (Differs k) c r = c
judged_by (Missing k) c r = compared_from k (drop (k - 1) boot_sequence) (r ∷ [])

-- "judges one record taken by value"
abbrev pub judged : Compared → TraceRecord → Compared
judged c r = judged_by c.check c r

-- "boot: step, or `ok`": the step's number, and 0 for a match alone. Steps are numbered from 1: a 0 stands for the first, with which
-- `judged` compares there.
abbrev pub step_of : BootCheck → ℕ
step_of Match = 0
step_of (Differs k) = max k 1
step_of (Missing k) = max k 1

-- What `match-fits` and `fits-match` say of each step: record i is there and fits step i, counted from 0.
abbrev pub FitsAt : List BootStep → List TraceRecord → ℕ → Type 0
FitsAt steps records i = (i < length records) × (fits (get_or steps i past_step) (get_or records i empty_record) ≡ true)
