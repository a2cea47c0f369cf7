-- Where points of Funcs lie in the buffers of their boxes, and which points each task of a stage owns.
--
-- The buffer of a Func has the points of the Func's box, counted from the box's corner: the corner itself is 0, 0.
-- This project's own.
use Rattle.std.specs.Prelude.{ℕ, ◌&&◌, Bool, false, nat_lt, List, Option, Some, None, slice_get}
use Rattle.halide_pipeline.specs.declared.definitions.Func.{Func}
use Rattle.halide_pipeline.specs.Words as word
use Rattle.halide_pipeline.specs.Pixel.{Plane, Planes, with_plane, pure_plane, pixels}
use Rattle.loop_ir.specs.Buffers.{Points}
use Rattle.bounds.specs.declared.boxes.SourceBox.{SourceBox}
use Rattle.bounds.specs.Extents.{box_in, extent, BoxCorner, corner_of}

-- ---- what buffers hold

abbrev pub from_corner : BoxCorner → Plane → Plane
from_corner corner plane x y = plane (word.add corner.x x) (word.add corner.y y)

-- These pixels, each Func's counted from the corner of its box. Of a Func at a loop, whose box begins elsewhere in each iteration, this means
-- nothing: its buffers are private.
abbrev pub held : List (Option SourceBox) → Planes → Planes
held boxes pixels place = from_corner (corner_of (box_in (slice_get boxes place))) (pixels place)

abbrev pub has_point : Option SourceBox → ℕ → ℕ → Bool
has_point None x y = false
has_point (Some own) x y = nat_lt x (extent own.x) && nat_lt y (extent own.y)

-- the points of the buffers, each of which has those of its Func's box
abbrev pub box_points : List (Option SourceBox) → Points
box_points boxes place = has_point (box_in (slice_get boxes place))

-- the pixels of the Funcs before this one, with those of its own pure definition
abbrev pub with_pure : List Func → Planes → ℕ → Func → Planes
with_pure funcs inputs func_index func = with_plane func_index (pure_plane func.pure inputs (pixels funcs inputs func_index)) (pixels funcs inputs func_index)
