-- Which Funcs are computed at the loops of a consumer.
-- This project's own.
use Rattle.std.specs.Prelude.{ℕ, suc, ◌==◌, ◌&&◌, Bool, false, if◌then◌else◌, List, [], ◌∷◌}
use Rattle.schedule_lines.specs.Directives.{same_id}
use Rattle.schedule.specs.declared.placements.LoopPosition.{LoopPosition}
use Rattle.schedule.specs.declared.placements.ComputeLevel.{ComputeLevel}
use Rattle.schedule.specs.declared.placements.ComputeLevel.TheVariants as places
use Rattle.schedule.specs.declared.placements.FuncPlacement.{FuncPlacement}

abbrev pub is_at_loop_of : ℕ → ComputeLevel → Bool
is_at_loop_of consumer (places.At at) = at.func == consumer
is_at_loop_of consumer places.Root = false
is_at_loop_of consumer places.Inlined = false
is_at_loop_of consumer places.Nowhere = false

abbrev pub is_produced : ℕ → FuncPlacement → Bool
is_produced consumer placement = placement.is_reached && is_at_loop_of consumer placement.place

-- It is computed at this loop.
abbrev pub is_at_loop : LoopPosition → ComputeLevel → Bool
is_at_loop at (places.At other) = other.func == at.func && same_id other.inside at.inside
is_at_loop at places.Root = false
is_at_loop at places.Inlined = false
is_at_loop at places.Nowhere = false

abbrev pub is_computed_at : LoopPosition → FuncPlacement → Bool
is_computed_at at placement = placement.is_reached && is_at_loop at placement.place

-- their places, in order, of the Funcs from a place on
abbrev pub produced_from : ℕ → ℕ → List FuncPlacement → List ℕ
produced_from consumer at [] = []
produced_from consumer at (first ∷ others) =
    if is_produced consumer first then at ∷ produced_from consumer (suc at) others else produced_from consumer (suc at) others
