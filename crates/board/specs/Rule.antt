-- The rule of a board: a word for each hart, and a last one that says whether a stop was asked. A token knows the words
-- of the harts that it alone counts, and what its looks found, and a word is never less than what a look found.
-- This project's own.
use Rattle.std.specs.Prelude.{◌≡◌, ℕ, zero, suc, ◌+◌, ◌<◌, ◌≤◌, ◌^◌, ◌==◌, Bool, true, false, if◌then◌else◌, List, [], ◌∷◌, length, slice_index}
use mathlib.Core.Option.{some}
use lib.ListN.{get_elem?}
use Rattle.board.specs.declared.known.SeatKnowledge.{SeatKnowledge}

-- as many words as there can be harts, and one after them for the stop
abbrev pub most_harts : ℕ
most_harts = 8

abbrev pub stop_word : ℕ
stop_word = 8

abbrev pub words_of_board : ℕ
words_of_board = 9

-- no number on a board is above this
abbrev pub most_number : ℕ
most_number = 2 ^ 40

abbrev pub known : List (ℕ × ℕ) → List (ℕ × ℕ) → Bool → Bool → SeatKnowledge
known counts sights asked heard = record { counts = counts; sights = sights; asked = asked; heard = heard }

-- what a new glance knows
abbrev pub nothing : SeatKnowledge
nothing = known [] [] false false

-- how often a list of pairs has the hart
abbrev pub times : ℕ → List (ℕ × ℕ) → ℕ
times hart [] = 0
times hart (one ∷ others) = (if one.0 == hart then 1 else 0) + times hart others

-- a number of each thing, added up
abbrev pub total : {A : Type 0} → (A → ℕ) → List A → ℕ
total f [] = 0
total f (x ∷ xs) = f x + total f xs

-- each number is the word of its hart
abbrev pub AreWords : List ℕ → List (ℕ × ℕ) → Type 0
AreWords words [] = Unit {0}
AreWords words (one ∷ others) = (slice_index words one.0 ≡ one.1) × AreWords words others

-- no number is above the word of its hart
abbrev pub AreSeen : List ℕ → List (ℕ × ℕ) → Type 0
AreSeen words [] = Unit {0}
AreSeen words (one ∷ others) = (one.1 ≤ slice_index words one.0) × AreSeen words others

-- what a token knows is so
pub record Fits (words : List ℕ) (token : SeatKnowledge) : Type 0 where
  pub counts : AreWords words token.counts
  pub sights : AreSeen words token.sights
  pub asked : token.asked ≡ true → slice_index words stop_word ≡ 1
  pub heard : token.heard ≡ true → slice_index words stop_word ≡ 1

-- the rule of the board of this many harts, over its words and what each of its tokens knows
pub record Stands (harts : ℕ) (words : List ℕ) (tokens : List SeatKnowledge) : Type 0 where
  pub places : length words ≡ words_of_board
  pub few : harts ≤ most_harts
  pub fits : (id : ℕ) (token : SeatKnowledge) → get_elem? tokens id ≡ some token → Fits words token
  -- one token at most counts a hart
  pub once : (hart : ℕ) → total (λ token. times hart token.counts) tokens ≤ 1
  -- none counts a number that is no hart's, and its word stays 0
  pub none : (hart : ℕ) → harts ≤ hart → total (λ token. times hart token.counts) tokens ≡ 0
  pub rest : (hart : ℕ) → harts ≤ hart → hart < most_harts → slice_index words hart ≡ 0
  pub stop : slice_index words stop_word ≤ 1

-- this many harts from one on, each with a word of 0
abbrev pub at_start : ℕ → ℕ → List (ℕ × ℕ)
at_start hart zero = []
at_start hart (suc count) = (hart, 0) ∷ at_start (suc hart) count
