-- Fields filled by one operand and then by the others.
use Rattle.std.proofs.Common.{◌≡◌, ℕ, ℤ, List, [], ◌∷◌, ◌++◌, None, Result, Ok, Err, refl, sym, ap, ◌∙◌, slice_set}
use Rattle.assembler_mnemonics.specs.Placing.{placed}
use Rattle.assembler.specs.Faults.{both}
use Rattle.assembler_mnemonics.specs.declared.slots.Slot.{Slot}
use Rattle.assembler_syntax.specs.declared.statements.Operand.{Operand}
use Rattle.assembler.specs.Judging.{Context, appended, given, given_all, left_out, named_at}
use Rattle.assembler.specs.Filling.{Fills, together}
use Rattle.assembler.specs.declared.faults.AsmFault.{AsmFault}

pub placed_append : (fields : List ℤ) (first others : List (ℕ × ℤ)) → placed fields (first ++ others) ≡ placed (placed fields first) others
placed_append fields [] others = refl
placed_append fields (pair ∷ first) others = placed_append (slice_set fields pair.0 pair.1) first others

pub joins : (first others : Result (List (ℕ × ℤ)) AsmFault) (r s : Result (Unit {0}) AsmFault) (old mid new : List ℤ)
    → Fills first r old mid → Fills others s mid new → Fills (appended (both first others)) (together r s) old new
joins (Ok ps) (Ok qs) (Ok done) (Ok last) old mid new f g = g ∙ ap (λ fields. placed fields qs) f ∙ sym (placed_append old ps qs)
joins (Ok ps) (Ok qs) (Ok done) (Err e) old mid new f g = elim g [ ]
joins (Ok ps) (Ok qs) (Err e) s old mid new f g = elim f [ ]
joins (Ok ps) (Err x) (Ok done) (Ok last) old mid new f g = elim g [ ]
joins (Ok ps) (Err x) (Ok done) (Err e) old mid new f g = g
joins (Ok ps) (Err x) (Err e) s old mid new f g = elim f [ ]
joins (Err y) others (Ok done) s old mid new f g = elim f [ ]
joins (Err y) (Ok qs) (Err e) (Ok last) old mid new f g = f
joins (Err y) (Ok qs) (Err e) (Err d) old mid new f g = elim g [ ]
joins (Err y) (Err x) (Err e) (Ok last) old mid new f g = elim g [ ]
joins (Err y) (Err x) (Err e) (Err d) old mid new f g = rw (f, g) refl

-- ---- the three ways of a form's slots

-- no operand is left
pub nothing_left : (c : Context) (slot : Slot) (slots : List Slot) (all : List Slot) (operands : List Operand) (r : Result (Unit {0}) AsmFault)
    (fields : List ℤ)
    → all ≡ slot ∷ slots → operands ≡ [] → Fills (left_out slot slots) r fields fields → Fills (given_all c all operands) r fields fields
unfolding given_all
nothing_left c slot slots all operands r fields all_is none fills = rw (all_is, none) fills

-- one more operand
pub one_more : (c : Context) (slot : Slot) (slots all : List Slot) (operand : Operand) (operands every : List Operand) (r s : Result (Unit {0}) AsmFault)
    (old mid new : List ℤ)
    → all ≡ slot ∷ slots → every ≡ operand ∷ operands → named_at all every ≡ None
    → Fills (given c slot operand) r old mid → Fills (given_all c slots operands) s mid new → Fills (given_all c all every) (together r s) old new
unfolding given_all
one_more c slot slots all operand operands every r s old mid new all_is every_is unnamed f g =
    let plain : named_at (slot ∷ slots) (operand ∷ operands) ≡ None = rw (all_is, every_is) at unnamed in
    rw (all_is, every_is, plain) (joins (given c slot operand) (given_all c slots operands) r s old mid new f g)
