-- What each byte of a compiled image's data is part of, by its address.
-- This project's own.
use Rattle.std.specs.Prelude.{ℕ, suc, ◌-◌, ◌*◌, ◌/◌, nat_lt, if◌then◌else◌, List, [], ◌∷◌, map, Option, Some, None}
use Rattle.halide_pipeline.specs.Pipelines.{Pipeline}
use Rattle.schedule.specs.declared.schedules.Schedule.{Schedule}
use Rattle.bounds.specs.declared.boxes.SourceBox.{SourceBox}
use Rattle.bounds.specs.Layout.{data_start, input_bytes, root_sizes, private_sizes, phases, total}

-- how many phases there are, and how many bytes each part has: the inputs, the boxes of Funcs computed at root, and all copies of
-- those of Funcs computed at a loop
pub record Sizes : Type 0 where
  pub phases : ℕ
  pub inputs : List ℕ
  pub roots : List ℕ
  pub privates : List ℕ

abbrev pub sizes_of : Pipeline → Schedule → List (Option SourceBox) → Sizes
sizes_of pipeline schedule boxes = record {
  phases = phases schedule.standings pipeline.funcs boxes;
  inputs = map input_bytes pipeline.inputs;
  roots = root_sizes schedule.standings boxes;
  privates = private_sizes schedule.standings boxes;
}

-- what a byte is part of, and where it is there
pub data Part : Type 0 where
  -- the ticket word and the gate word of a phase
  Control : (phase : ℕ) → Part
  Input : (func_index offset : ℕ) → Part
  Root : (func_index offset : ℕ) → Part
  Copies : (func_index offset : ℕ) → Part
  Frame : (hart : ℕ) → Part
  Outside : Part

-- the part of a list that a byte lies in
pub record Found : Type 0 where
  pub place : ℕ
  pub offset : ℕ

abbrev pub further : Option Found → Option Found
further None = None
further (Some found) = Some (record { place = suc found.place; offset = found.offset })

-- among parts of these sizes, one after the other
abbrev pub find : List ℕ → ℕ → Option Found
find [] n = None
find (size ∷ sizes) n = if nat_lt n size then Some (record { place = 0; offset = n }) else further (find sizes (n - size))

abbrev pub found_or : (ℕ → ℕ → Part) → Option Found → Part → Part
found_or part None other = other
found_or part (Some found) other = part found.place found.offset

abbrev pub in_privates : Sizes → ℕ → Part
in_privates sizes n = found_or Copies (find sizes.privates n) (Frame ((n - total sizes.privates) / 4096))

abbrev pub in_roots : Sizes → ℕ → Part
in_roots sizes n = found_or Root (find sizes.roots n) (in_privates sizes (n - total sizes.roots))

abbrev pub in_inputs : Sizes → ℕ → Part
in_inputs sizes n = found_or Input (find sizes.inputs n) (in_roots sizes (n - total sizes.inputs))

abbrev pub in_data : Sizes → ℕ → Part
in_data sizes n = if nat_lt n (8 * sizes.phases) then Control (n / 8) else in_inputs sizes (n - 8 * sizes.phases)

abbrev pub part_at : Sizes → ℕ → Part
part_at sizes address = if nat_lt address data_start then Outside else in_data sizes (address - data_start)
