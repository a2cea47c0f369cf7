-- The four kinds of step on a board, each on one word, and how what a token knows is handed on.
-- This project's own.
use Rattle.std.specs.Prelude.{◌≡◌, ℕ, ◌+◌, ◌≤◌, ◌==◌, Bool, true, false, if◌then◌else◌, List, [], ◌∷◌, ◌++◌, map, drop, take}
use Rattle.atomic_table.specs.Table.{Step, Me}
use Rattle.board.specs.declared.known.SeatKnowledge.{SeatKnowledge}
use Rattle.board.specs.Rule.{known, nothing}

-- the number that was found last for a hart, 0 where none was
abbrev pub last_found : List (ℕ × ℕ) → ℕ → ℕ
last_found [] hart = 0
last_found (one ∷ others) hart = if one.0 == hart then one.1 else last_found others hart

-- a stop was asked or found
abbrev pub knows_stop : SeatKnowledge → Bool
knows_stop token = if token.asked then true else token.heard

-- ---- the four kinds of step: what the token knows after it

-- add to a seat's word
abbrev pub added : ℕ → SeatKnowledge → SeatKnowledge
added k token = known (map (λ one. (one.0, one.1 + k)) token.counts) token.sights token.asked token.heard

-- look at a seat's word
abbrev pub looked : ℕ → ℕ → SeatKnowledge → SeatKnowledge
looked hart found token = known token.counts ((hart, found) ∷ token.sights) token.asked token.heard

-- ask for a stop
abbrev pub asked : SeatKnowledge → SeatKnowledge
asked token = known token.counts token.sights true token.heard

-- look at the stop word
abbrev pub heard : ℕ → SeatKnowledge → SeatKnowledge
heard found token = known token.counts token.sights token.asked (if found == 0 then token.heard else true)

abbrev pub Adds : {S : Type 0} → Step S → Me S SeatKnowledge → ℕ → Me S SeatKnowledge → Type 0
Adds step old found new = new ≡ (added step.first old.0, old.1)

abbrev pub Looks : {S : Type 0} → Step S → Me S SeatKnowledge → ℕ → Me S SeatKnowledge → Type 0
Looks step old found new = (new ≡ (looked step.word found old.0, old.1)) × (last_found old.0.sights step.word ≤ found)

abbrev pub Asks : {S : Type 0} → Step S → Me S SeatKnowledge → ℕ → Me S SeatKnowledge → Type 0
Asks step old found new = new ≡ (asked old.0, old.1)

abbrev pub Hears : {S : Type 0} → Step S → Me S SeatKnowledge → ℕ → Me S SeatKnowledge → Type 0
Hears step old found new = (new ≡ (heard found old.0, old.1)) × (found ≤ 1) × (knows_stop old.0 ≡ true → found ≡ 1)

-- a token comes that knows nothing
abbrev pub Enters : {S : Type 0} → Step S → Me S SeatKnowledge → ℕ → Me S SeatKnowledge → Type 0
Enters step old found new = new ≡ (nothing, [])

-- ---- handing on

-- the first hart that is counted goes to a seat
abbrev pub without_first : SeatKnowledge → SeatKnowledge
without_first token = known (drop 1 token.counts) token.sights token.asked token.heard

abbrev pub first_alone : SeatKnowledge → SeatKnowledge
first_alone token = known (take 1 token.counts) [] false false

-- what two tokens know, in one
abbrev pub both : SeatKnowledge → SeatKnowledge → SeatKnowledge
both one other = known (other.counts ++ one.counts) (other.sights ++ one.sights) one.asked one.heard
