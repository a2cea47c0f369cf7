-- What buffers hold.
-- This project's own.
use Rattle.std.specs.Prelude.{◌≡◌, ℕ, ◌+◌, ◌*◌, ◌^◌, ◌<◌, ◌==◌, ◌&&◌, Bool, false, nat_lt, if◌then◌else◌, List, length, slice_index, slice_get, Option, Some}
use Rattle.std.specs.Prelude.{None}
use Rattle.std.specs.List.{All}
use Rattle.halide_pipeline.specs.Pixel.{Plane, Planes}

-- pixels by rows, each row from the left
pub record BufferContents : Type 0 where
  pub width : ℕ
  pub height : ℕ
  pub pixels : List ℕ

-- what every buffer keeps
pub record IsBuffer (buffer_contents : BufferContents) : Type 0 where
  -- a pixel for each point
  pub full : length buffer_contents.pixels ≡ buffer_contents.width * buffer_contents.height
  pub words : All (λ pixel. pixel < 2 ^ 32) buffer_contents.pixels

abbrev pub has_point : BufferContents → ℕ → ℕ → Bool
has_point buffer_contents x y = nat_lt x buffer_contents.width && nat_lt y buffer_contents.height

-- 0 outside
abbrev pub plane_of : BufferContents → Plane
plane_of buffer_contents x y = if has_point buffer_contents x y then slice_index buffer_contents.pixels
    (y * buffer_contents.width + x) else 0

abbrev pub plane_of_any : Option BufferContents → Plane
plane_of_any None x y = 0
plane_of_any (Some own) x y = plane_of own x y

abbrev pub has_point_of_any : Option BufferContents → ℕ → ℕ → Bool
has_point_of_any None x y = false
has_point_of_any (Some own) x y = has_point own x y

-- what the buffer at each place of a list holds; 0 where there is none
abbrev pub planes : List BufferContents → Planes
planes all place = plane_of_any (slice_get all place)

-- which points the buffers have
abbrev pub Points : Type 0
Points = ℕ → ℕ → ℕ → Bool

abbrev pub points_of : List BufferContents → Points
points_of all place = has_point_of_any (slice_get all place)

-- one point with another number, where there is that point
abbrev pub put : Points → ℕ → ℕ → ℕ → ℕ → Planes → Planes
put points buffer_index x y value all place i j = if points buffer_index x y && (place == buffer_index && (i == x && j == y)) then value else all place i j
