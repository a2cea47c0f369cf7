-- Inputs have few pixels.
use Rattle.std.proofs.Common.{◌*◌, ◌^◌, ◌≤◌}
use Rattle.std.specs.Prelude.{◌&&◌, nat_le}
use Rattle.std.proofs.lemmas.Bool.{and_parts, leb-true}
use Rattle.halide_pipeline.specs.declared.definitions.Input.{Input}
use Rattle.halide_pipeline.specs.WellFormed.{is_width, is_height, are_dimensions, most_extent, most_points}
use Rattle.bounds.specs.Layout.{IsInput}

pub few_pixels : (input : Input) → IsInput input → input.width * input.height ≤ 2 ^ 20
few_pixels input is =
    let sized = (and_parts (is_width input.width && is_height input.width input.height) (are_dimensions input.dimensions input.height) is).0 in
    let high = (and_parts (is_width input.width) (is_height input.width input.height) sized).1 in
    leb-true (input.width * input.height) most_points (and_parts (nat_le 1 input.height && nat_le input.height most_extent) (nat_le (input.width * input.height)
    most_points) high).1
