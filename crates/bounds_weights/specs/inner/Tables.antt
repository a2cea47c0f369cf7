-- What is known of a table, and what is counted by it.
-- This project's own.
use Rattle.std.specs.Prelude.{◌≡◌, ℕ, Bool, min, List, length, Option}
use Rattle.halide_pipeline.specs.declared.definitions.Func.{Func}
use Rattle.bounds_inlining.specs.declared.counts.CountCall.{CountCall}
use Rattle.bounds_inlining.specs.declared.needs.Need.{Need}
use Rattle.bounds_inlining.specs.inner.Summing.{most, Counts, Needs}
use Rattle.bounds_weights.specs.declared.stage_needs.StageNeeds.{StageNeeds}

-- at most the greatest that 32 bits hold
abbrev pub capped : ℕ → ℕ
capped n = min n most

-- the table of all Funcs
unfoldable pub AllCounts : List Bool → List Func → List (Option CountCall) → Type 0
AllCounts flags funcs table = Counts flags funcs table × (length table ≡ length funcs)

unfoldable pub AllNeeds : List Bool → List Func → List (Option Need) → Type 0
AllNeeds flags funcs table = Needs flags funcs table × (length table ≡ length funcs)

-- The result is this number of all Funcs whose table it is.
abbrev pub CountsAs : List (Option CountCall) → ℕ → (List Bool → List Func → ℕ) → Type 0
CountsAs table result number = (flags : List Bool) (funcs : List Func) → AllCounts flags funcs table → result ≡ capped (number flags funcs)

abbrev pub NeedsAs : List (Option Need) → ℕ → (List Bool → List Func → ℕ) → Type 0
NeedsAs table result number = (flags : List Bool) (funcs : List Func) → AllNeeds flags funcs table → result ≡ capped (number flags funcs)

abbrev pub capped_needs : StageNeeds → StageNeeds
capped_needs own_stage_needs = record {
  greatest = capped own_stage_needs.greatest;
  greatest_by_16 = capped
      own_stage_needs.greatest_by_16;
}

abbrev pub AllNeedsAs : List (Option Need) → StageNeeds → (List Bool → List Func → StageNeeds) → Type 0
AllNeedsAs table result number = (flags : List Bool) (funcs : List Func) → AllNeeds flags funcs table → result ≡ capped_needs (number flags funcs)
