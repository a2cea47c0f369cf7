-- Words for code that makes what lines give: products are what was judged, with words for instructions.
-- This project's own.
use Rattle.std.specs.Prelude.{◌≡◌, ℕ, List, [], ◌∷◌, replicate, Some, Result, Ok, Err}
use Rattle.std.specs.Int.{w32, to_le_bytes}
use Rattle.assembler.specs.Judging.{Given, Item, nothing, these_items, these_bytes}
use Rattle.assembler.specs.Object.{AreItems}
use Rattle.assembler.specs.declared.faults.AsmFault.{AsmFault}
use Rattle.assembler.specs.declared.products.LineProduct.{LineProduct}
use Rattle.assembler.specs.declared.products.LineProduct.TheVariants as p

-- these words are what a line gives
abbrev pub GivesWords : List ℕ → Given → Type 0
GivesWords words given = (items : List Item) × (given ≡ these_items items) × AreItems words items

-- The product is what the line gives.
abbrev pub Makes : LineProduct → Given → Type 0
Makes p.Nothing given = given ≡ nothing
Makes (p.Word word) given = GivesWords (word ∷ []) given
Makes (p.Words first second) given = GivesWords (first ∷ second ∷ []) given
Makes (p.Number n) given = given ≡ these_bytes (to_le_bytes w32 n)
Makes (p.Zeros count) given = given ≡ these_bytes (replicate count 0)
Makes (p.Entry at) given = given ≡ record nothing { entry = Some at }
Makes (p.Output picture) given = given ≡ record nothing { output = Some picture }

-- The product is what was judged, or the fault is the same.
abbrev pub Performs : Result Given AsmFault → Result LineProduct AsmFault → Type 0
Performs (Ok given) (Ok product) = Makes product given
Performs (Ok given) (Err fault) = ⊥
Performs (Err wanted) (Ok product) = ⊥
Performs (Err wanted) (Err fault) = fault ≡ wanted
