-- Rules: docs/SCRIPTS.md, the words of a script: "words part at spaces; empty lines and what follows a `#` are skipped"
use Rattle.std.specs.Prelude.{ℕ, zero, suc, Bool, cond, not, List, [], ◌∷◌, take, drop, ◌==◌, nat_eq}

-- How many bytes stand before the first that passes the test.
abbrev pub up_to : (ℕ → Bool) → List ℕ → ℕ
up_to test [] = 0
up_to test (x ∷ text) = cond (test x) 0 (suc (up_to test text))

-- How many bytes stand before the first b.
abbrev pub until : ℕ → List ℕ → ℕ
until b text = up_to (λ x. nat_eq x b) text

-- How many bytes at the start are b.
abbrev pub run : ℕ → List ℕ → ℕ
run b text = up_to (λ x. not (x == b)) text

-- What stands before the first b; all of it where there is none.
abbrev pub before_first : ℕ → List ℕ → List ℕ
before_first b text = take (until b text) text

-- The text without its first spaces.
abbrev pub unspaced : List ℕ → List ℕ
unspaced text = drop (run 32 text) text

-- Word k, counted from 0: what stands before a space, past the spaces and k words more.
abbrev pub word_at : ℕ → List ℕ → List ℕ
word_at zero text = before_first 32 (unspaced text)
word_at (suc k) text = word_at k (drop (until 32 (unspaced text)) (unspaced text))
