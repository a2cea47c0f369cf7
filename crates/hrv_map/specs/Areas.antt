-- Where the pixels of a source lie, and the words that say so. This project's own.
use Rattle.std.specs.Prelude.{ℕ, ◌-◌, ◌*◌, nat_le, if◌then◌else◌, List, ◌++◌, codes}
use Rattle.std.specs.Fmt.{decimal}
use Rattle.disassembler.specs.Listing.{hexadecimal_text}
use Rattle.halide_pipeline.specs.declared.definitions.Input.{Input}
use Rattle.bounds_ranges.specs.Numbers.{origin}
use Rattle.bounds.specs.declared.boxes.SourceBox.{SourceBox}
use Rattle.bounds.specs.Extents.{extent}
use Rattle.hrv_map.specs.declared.areas.PixelArea.{PixelArea}

-- an input begins at point 0, 0
abbrev pub input_area : ℕ → Input → PixelArea
input_area at input = record {
  left = origin;
  top = origin;
  width = input.width;
  height = input.height;
  address = at;
  pixel = if input.is_bytes then 1 else 4;
}

-- A Func's box begins at the lowest end of each of its ranges. Where a range has a base, that is so while all loops of the base have the value 0;
-- elsewhere it begins so much further as the base then is.
abbrev pub func_area : ℕ → SourceBox → PixelArea
func_area at source_box = record { left = source_box.x.low; top = source_box.y.low; width = extent source_box.x; height = extent source_box.y; address = at; pixel = 4 }

-- an end of a range, signed
abbrev pub end_text : ℕ → List ℕ
end_text end = if nat_le origin end then decimal (end - origin) else codes "-" ++ decimal (origin - end)

-- ` corner X Y extents W H address A row BYTES pixel BYTES`
unfoldable pub area_text : PixelArea → List ℕ
area_text area =
    codes " corner " ++ end_text area.left ++ codes " " ++ end_text area.top
    ++ codes " extents " ++ decimal area.width ++ codes " " ++ decimal area.height
    ++ codes " address " ++ hexadecimal_text 8 area.address
    ++ codes " row " ++ decimal (area.pixel * area.width) ++ codes " pixel " ++ decimal area.pixel
