-- Examples: 01's table of refusals, case by case, for publishing and a whole view; the states are those of laws.
use Rattle.std.specs.Prelude.{ℕ, List, [], ◌∷◌, ◌++◌, map}
use Rattle.st7789.specs.declared.St7789p3.{St7789p3}
use Rattle.laws.specs.Cases.{Case, plain, warned, state_limits, count_limits}
use Rattle.views.specs.Views.{frame_refusal}
use Rattle.publishing.specs.Publish.{publish_refusal}

-- Publishing, and a whole view.
abbrev pub publish_case : ℕ → St7789p3 → ℕ → ℕ → Case
publish_case n s cells room = record { refusal = publish_refusal s cells room; number = n }

abbrev pub view_case : ℕ → ℕ → ℕ → Case
view_case n cells room = record { refusal = frame_refusal cells room; number = n }

-- The table.
unfoldable pub cases : List Case
cases =
    -- "BAD_STATE is tested by transfer and publish only"
    map (λ l. publish_case l.number l.state 76800 76800) state_limits
    -- COUNT_HIGH: "before a transfer", so not here
    ++ (map (λ l. publish_case 0 l.state 76800 76800) count_limits
    -- BAD_MEMORY and BAD_FRAME
    ++ (publish_case 2 plain 76799 76800
    ∷ publish_case 2 plain 76801 76800
    ∷ publish_case 3 plain 76800 76799
    ∷ publish_case 3 plain 76800 76801
    ∷ view_case 0 76800 76800
    ∷ view_case 2 76799 76800
    ∷ view_case 2 76801 76800
    ∷ view_case 3 76800 76799
    ∷ view_case 3 76800 76801
    -- "Tests run in number order"
    ∷ publish_case 1 (warned 129) 0 76800
    ∷ publish_case 1 (warned 129) 76800 0
    ∷ publish_case 2 plain 0 0
    ∷ view_case 2 0 0
    ∷ []))
