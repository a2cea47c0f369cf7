-- What an expression's value is, and what it reads, with its inlined Funcs put in place.
-- This project's own.
use Rattle.std.specs.Prelude.{ℕ, List, [], ◌++◌, Option, Some, None}
use Rattle.halide_pipeline.specs.Pixel.{Reads, value_at, at_point}
use Rattle.halide_pipeline.specs.Points.{Point, Seen, seen_at}
use Rattle.bounds_inlining.specs.Inlining.{Algebra}

-- values, where inputs and computed Funcs answer so
unfoldable pub values : Reads → Algebra ℕ
values reads = record { level = value_at reads (at_point 0 0); argument = λ x. x; call = λ func v x y. v }

-- the value alone
abbrev pub unread : Seen → Seen
unread x = record { value = x.value; points = [] }

abbrev pub second_points : Option Seen → List Point
second_points None = []
second_points (Some y) = y.points

-- Values, and the points of inputs and computed Funcs that are read. What an argument reads is read once, whether or
-- not the inlined Func uses it.
unfoldable pub seeing : Reads → Algebra Seen
seeing reads = record {
  level = seen_at reads (at_point 0 0);
  argument = unread;
  call = λ func v x y. record { value = v.value; points = x.points ++ (second_points y ++ v.points) };
}
