-- Clamped words by their parts. Nothing here is to be believed: no contract that others see speaks of it.
-- This project's own.
use Rattle.std.specs.Prelude.{◌≡◌, ◌<◌, ◌≤◌, ℕ}
use Rattle.halide_pipeline.specs.Words as word
use Rattle.picture_rows.specs.Rows.{clamped}
use Rattle.picture_rows.specs.declared.clamps.Clamp.{Clamp}

-- the places from this one to that have words between the bounds
pub record IsInside (clamp : Clamp) (width : ℕ) (part : ℕ × ℕ) : Type 0 where
  pub order : part.0 ≤ part.1
  pub within : part.1 ≤ width
  pub before : (at : ℕ) → at < part.0 → clamped clamp at ≡ clamp.low
  pub inside : (at : ℕ) → part.0 ≤ at → at < part.1 → clamped clamp at ≡ word.add clamp.first at
  pub behind : (at : ℕ) → part.1 ≤ at → at < width → clamped clamp at ≡ clamp.high
