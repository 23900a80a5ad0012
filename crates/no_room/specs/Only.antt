-- Rules: 01, "Promises that leave no room": what it is for a promise to leave none.
use Rattle.std.specs.Prelude.{◌≡◌}
use contract.Lifetimes.{Lfts}
use denote.Triple.Entry.{Args, Res}
use denote.Triple.Clauses.{Ended, AtExit, Lasts, at_exit}
use Rattle.boot.specs.Boot.{compared}
use Rattle.boot.specs.contracts.boot_mismatch as boot-mismatch

-- A promise as the contract of a function makes it: of the arguments, the result, and the arguments as they are at exit.
abbrev pub Promise : Ended → Type 1
Promise T = (κs : Lfts T.signature.lifetimes) → Args T.signature κs → Res T.signature κs → AtExit T κs → Type 0

-- "Each public operation's promise determines its answer and every lent number afterwards, for all arguments, refused ones too": two
-- results and two fillings of what is lent, both as promised for the same arguments, are the same. `seen` is what is compared of a result.
abbrev pub OnlyAs :
    (T : Ended) (Seen : Lfts T.signature.lifetimes → Type 0) → ((κs : Lfts T.signature.lifetimes) → Res T.signature κs → Seen κs) →
    Promise T → Type 0
OnlyAs T Seen seen promise =
    (κs : Lfts T.signature.lifetimes) (args : Args T.signature κs) (x y : Res T.signature κs) (u v : Lasts T κs args) →
    promise κs args x (at_exit T κs args u) → promise κs args y (at_exit T κs args v) → (seen κs x ≡ seen κs y) × (u ≡ v)

-- The same, comparing the whole result.
abbrev pub Only : (T : Ended) → Promise T → Type 0
Only T = OnlyAs T (λ κs. Res T.signature κs) (λ κs x. x)

-- The promise of the comparison over a slice of records, which is proved by hand and so has no reading: written out.
abbrev pub compares : Promise boot-mismatch.ended
compares κs args x e = x ≡ compared args.0.now
